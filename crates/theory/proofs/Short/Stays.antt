-- What a journal keeps as more steps are made: an end with its answer, a last round, an item's takers, and where their line stands. Assumes nothing.
use mathlib.Core.Path.{◌≡◌, sym, ap, ◌∙◌}
use mathlib.Core.Logic.{◌≢◌, ◌⊎◌, inl, inr}
use Prim.Native.Nat.{ℕ, ◌≤◌}
use mathlib.Core.Bool.{Bool, and-eq-true_iff}
use mathlib.Core.List.{Memᴰ}
use native.Mathlib.Omega.{arith}
use Rattle.basics.proofs.Choice.{split}
use Rattle.machine.specs.Notes.{Note, idle, is_answer}
use Rattle.machine.specs.Journal.{latest, item_of, made, begins_round, joins, ends, first, last, answer, start, join, taken}
use Rattle.machine.specs.Effects.{Rule, takers, latest_start, stands_by}
use Rattle.machine.specs.Effects.Rule.{by_move, by_round}
use Rattle.machine.specs.Explained.{IsOperation}
use Rattle.machine.proofs.Searches.{earliest_meets, earliest_least, earliest_stays, latest_meets, latest_greatest, latest_le, largest_bounds, largest_attained}
use Rattle.machine.proofs.Stamps.{last_le, first_move_stays, taken_none}
use Rattle.machine.proofs.Effected.{taker_in, taker_out}

-- the latest step that meets a test comes no earlier, and is the same where it is among the steps there were
latest_up : (f : ℕ → Bool) (k l : ℕ) → k ≤ l → latest f k ≤ latest f l
latest_up f k l later = go (split (latest f k) 0)
  where
    go : (latest f k ≡ 0) ⊎ (latest f k ≢ 0) → latest f k ≤ latest f l
    go (inl z) = omega arith
    go (inr n) = latest_greatest f l (latest f k) (latest_meets f k n) (omega (arith, latest_le f k))

latest_settled : (f : ℕ → Bool) (k l : ℕ) → k ≤ l → latest f l ≤ k → latest f l ≡ latest f k
latest_settled f k l later early = go (split (latest f l) 0)
  where
    up : latest f k ≤ latest f l
    up = latest_up f k l later

    go : (latest f l ≡ 0) ⊎ (latest f l ≢ 0) → latest f l ≡ latest f k
    go (inl z) = omega (arith, up)
    go (inr n) = omega (arith, up, latest_greatest f k (latest f l) (latest_meets f l n) early)

-- whoever has ended has begun
pub ended_begun : (log : ℕ → Note) (k o : ℕ) → last log k o ≢ 0 → first log k o ≢ 0
unfolding first last ends
ended_begun log k o ended =
    let s : ℕ = last log k o in
    let own_end = (and-eq-true_iff (made log o s) (is_answer (log s).answer)).0 (earliest_meets (ends log o) k ended) in
    (earliest_least (made log o) k s own_end.0 (omega arith) (last_le log k o)).0

module _ (log : ℕ → Note) (k l : ℕ) (later : k ≤ l) where
  -- an end stays, with its answer
  pub last_stays : (o : ℕ) → last log k o ≢ 0 → last log l o ≡ last log k o
  unfolding last
  last_stays o ended = earliest_stays (ends log o) k l later ended

  pub answer_stays : (o : ℕ) → last log k o ≢ 0 → answer log l o ≡ answer log k o
  unfolding answer
  answer_stays o ended = ap (λ (s : ℕ). (log s).answer) (last_stays o ended)

  -- a last round comes no earlier, and is the same where it is among the steps there were
  start_up : (o : ℕ) → start log k o ≤ start log l o
  unfolding start
  start_up o = latest_up (begins_round log o) k l later

  pub start_settled : (o : ℕ) → start log l o ≤ k → start log l o ≡ start log k o
  unfolding start
  start_settled o early = latest_settled (begins_round log o) k l later early

  -- a taker stays one
  pub taken_stays : log 0 ≡ idle → (o : ℕ) → taken log k o ≢ 0 → taken log l o ≡ taken log k o
  unfolding taken join
  taken_stays nothing o took = ap (λ (s : ℕ). item_of (log s).event) (earliest_stays (joins log o) k l later (λ z. took (taken_none log o nothing k z)))

  pub takers_stay : log 0 ≡ idle → (count item : ℕ) → item ≢ 0 → (o : ℕ) → Memᴰ o (takers log count k item) → Memᴰ o (takers log count l item)
  takers_stay nothing count item some o m =
      let taker : IsOperation count o × (taken log k o ≡ item) = taker_out log count k o item m in
      taker_in log count l o item taker.0 (taken_stays nothing o (λ z. some (sym taker.1 ∙ z)) ∙ taker.1)

  -- the line of an item's takers stands no earlier, and at the same step where it stands at a move
  latest_start_up : log 0 ≡ idle → (count item : ℕ) → item ≢ 0 → latest_start log count k item ≤ latest_start log count l item
  unfolding latest_start
  latest_start_up nothing count item some = go (split (latest_start log count k item) 0)
    where
      go : (latest_start log count k item ≡ 0) ⊎ (latest_start log count k item ≢ 0) → latest_start log count k item ≤ latest_start log count l item
      go (inl z) = omega arith
      go (inr n) =
          let (o, m, at) = largest_attained (start log k) (takers log count k item) n in
          omega (arith, at, start_up o, largest_bounds (start log l) (takers log count l item) o (takers_stay nothing count item some o m))

  pub moves_stand : (count item : ℕ) → stands_by by_move log count k item ≢ 0 → stands_by by_move log count l item ≡ stands_by by_move log count k item
  moves_stand count item found = first_move_stays log item k l later found

  pub stands_up : log 0 ≡ idle → (r : Rule) (count item : ℕ) → item ≢ 0 → stands_by r log count k item ≢ 0 → stands_by r log count k item ≤ stands_by r log count l item
  stands_up nothing by_move count item some found = omega (arith, moves_stand count item found)
  stands_up nothing by_round count item some found = latest_start_up nothing count item some
