-- What two journals say of their first k steps, where these steps are the same in both: the same. Assumes nothing.
use mathlib.Core.Path.{◌≡◌, refl, ap, fun_ext, ◌∙◌}
use Prim.Native.Nat.{ℕ, zero, suc, ◌≤◌}
use mathlib.Core.Bool.{Bool, not, ◌&&◌}
use mathlib.Core.List.{◌++◌}
use native.Mathlib.Omega.{arith}
use Rattle.basics.specs.Choice.{pick, same}
use Rattle.job.specs.declared.Kind.{Kind}
use Rattle.machine.specs.Multiplicity.Line.{put, takes, empty}
use Rattle.machine.specs.Notes.{Note, is_answer}
use Rattle.machine.specs.Journal.{earliest, latest, is_round, is_linked, item_of, moved_to, made, begins_round, links, joins, ends, first, last, answer, start, link, join, taken}
use Rattle.machine.specs.Effects.{Rule, numbers, sift, largest, takers, first_move, latest_start, rule, stands_by, takes_at, is_empty, effect}
use Rattle.machine.specs.Effects.Rule.{by_move, by_round}
use Rattle.machine.specs.Effects.Effect.{none, stands}
use Rattle.machine.specs.Record.{if_at, line_at, lines_to}
use Rattle.machine.proofs.Stamps.{join_le, last_le}

-- a search looks at these steps alone
earliest_alike : (f g : ℕ → Bool) (k : ℕ) → ((s : ℕ) → s ≤ k → f s ≡ g s) → earliest f k ≡ earliest g k
unfolding earliest
earliest_alike f g zero h = refl
earliest_alike f g (suc k) h = λ i. next (earliest_alike f g k (λ s b. h s (omega arith)) i) (h (suc k) (omega arith) i)
  where
    next : ℕ → Bool → ℕ
    next e b = pick (same e 0) (pick b (suc k) 0) e

latest_alike : (f g : ℕ → Bool) (k : ℕ) → ((s : ℕ) → s ≤ k → f s ≡ g s) → latest f k ≡ latest g k
unfolding latest
latest_alike f g zero h = refl
latest_alike f g (suc k) h = λ i. pick (h (suc k) (omega arith) i) (suc k) (latest_alike f g k (λ s b. h s (omega arith)) i)

module _ (log other : ℕ → Note) (k : ℕ) (alike : (s : ℕ) → s ≤ k → log s ≡ other s) where
  -- the first and the last step that meets a test
  first_of : (test : Note → Bool) → earliest (λ s. test (log s)) k ≡ earliest (λ s. test (other s)) k
  first_of test = earliest_alike (λ s. test (log s)) (λ s. test (other s)) k (λ s b. ap test (alike s b))

  last_of : (test : Note → Bool) → latest (λ s. test (log s)) k ≡ latest (λ s. test (other s)) k
  last_of test = latest_alike (λ s. test (log s)) (λ s. test (other s)) k (λ s b. ap test (alike s b))

  -- what an operation did
  pub first_alike : (o : ℕ) → first log k o ≡ first other k o
  unfolding first made
  first_alike o = first_of (λ x. same x.by o)

  pub last_alike : (o : ℕ) → last log k o ≡ last other k o
  unfolding last ends made
  last_alike o = first_of (λ x. same x.by o && is_answer x.answer)

  pub answer_alike : (o : ℕ) → answer log k o ≡ answer other k o
  unfolding answer
  answer_alike o = ap (λ (x : Note). x.answer) (alike (last log k o) (last_le log k o)) ∙ ap (λ (s : ℕ). (other s).answer) (last_alike o)

  start_alike : (o : ℕ) → start log k o ≡ start other k o
  unfolding start begins_round made
  start_alike o = last_of (λ x. same x.by o && is_round x.event)

  link_alike : (o : ℕ) → link log k o ≡ link other k o
  unfolding link links made
  link_alike o = first_of (λ x. same x.by o && is_linked x.event)

  join_alike : (o : ℕ) → join log k o ≡ join other k o
  unfolding join joins made
  join_alike o = first_of (λ x. same x.by o && not (same (item_of x.event) 0))

  taken_alike : (o : ℕ) → taken log k o ≡ taken other k o
  unfolding taken
  taken_alike o = ap (λ (x : Note). item_of x.event) (alike (join log k o) (join_le log k o)) ∙ ap (λ (s : ℕ). item_of (other s).event) (join_alike o)

  -- the takers of an item, and where their line stands
  takers_alike : (count item : ℕ) → takers log count k item ≡ takers other count k item
  unfolding takers
  takers_alike count item = ap (λ (t : ℕ → ℕ). sift (λ o. same (t o) item) (numbers count)) (fun_ext taken_alike)

  stands_alike : (r : Rule) (count item : ℕ) → stands_by r log count k item ≡ stands_by r other count k item
  unfolding first_move latest_start
  stands_alike by_move count item = first_of (λ x. same (moved_to x.event) item)
  stands_alike by_round count item = λ i. largest (λ o. start_alike o i) (takers_alike count item i)

  takes_at_alike : (kind : Kind) (count item : ℕ) → takes_at kind log count k item ≡ takes_at kind other count k item
  unfolding takes_at
  takes_at_alike kind count item = stands_alike (rule kind) count item

  -- the lines
  effect_alike : (kind : Kind) (count o : ℕ) → effect kind log count k o ≡ effect kind other count k o
  unfolding effect
  effect_alike kind count o = λ i.
      pick (not (same (link_alike o i) 0)) (stands (link_alike o i) (put o))
      (pick (not (same (taken_alike o i) 0)) (stands (takes_at_alike kind count (taken_alike o i) i) (takes (taken_alike o i) (takers_alike count (taken_alike o i) i)))
      (pick (is_empty (answer_alike o i)) (stands (start_alike o i) (empty o)) none))

  line_alike : (kind : Kind) (count s : ℕ) → s ≤ k → line_at kind log count k s ≡ line_at kind other count k s
  unfolding line_at
  line_alike kind count s b = λ i. if_at s (effect_alike kind count (alike s b i).by i)

  pub lines_alike : (kind : Kind) (count s : ℕ) → s ≤ k → lines_to kind log count k s ≡ lines_to kind other count k s
  unfolding lines_to
  lines_alike kind count zero b = refl
  lines_alike kind count (suc s) b = λ i. lines_alike kind count s (omega arith) i ++ line_alike kind count (suc s) b i
