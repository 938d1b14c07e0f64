-- The line at a step of a course, by the step's event: what it is where a put links, where the takers' line stands and where a take that finds nothing
-- begins its last round, and that it is nothing elsewhere. Assumes nothing.
use mathlib.Core.Path.{◌≡◌, refl, sym, ap, subst, ◌∙◌}
use mathlib.Core.Logic.{◌≢◌, ◌⊎◌, inl, inr}
use Prim.Native.Nat.{ℕ, zero, suc, ◌≤◌}
use mathlib.Core.Bool.{true, and-eq-true_iff}
use mathlib.Core.List.{[], ◌∷◌}
use native.Mathlib.Omega.{arith}
use Rattle.basics.specs.Choice.{same}
use Rattle.basics.proofs.Choice.{equal_same, unequal_same}
use Rattle.job.specs.declared.Kind.{Kind}
use Rattle.machine.specs.declared.Event.TheVariants.{Round, Linked, Moved}
use Rattle.machine.specs.Multiplicity.Line.{put, takes, empty}
use Rattle.machine.specs.Notes.{Answer}
use Rattle.machine.specs.Journal.{is_linked, item_of, moved_to, made, links, joins, answer, start, link, join, taken}
use Rattle.machine.specs.Effects.{takers, first_move, latest_start, takes_at, effect, rule}
use Rattle.machine.specs.Effects.Effect.{stands}
use Rattle.machine.specs.Record.{line_at}
use Rattle.machine.specs.Explained.{IsOperation}
use Rattle.machine.proofs.Effected.{Effected, effected, effect_of_put, RoundLine, lined, lined_round, line_of_effect, line_without_effect, first_move_event}
use Rattle.machine.proofs.Effected.Effected.{by_put, by_take, by_empty, by_none}
use Rattle.machine.specs.Effects.Rule.{by_round}
use Rattle.machine.proofs.Stamps.{first_move_le}
use Rattle.theory.proofs.Course.{Course, PassesIn, ActsIn, passes_event, listing}
use Rattle.theory.proofs.Deeds.{deeds, FoundEmpty, Did, taken_not_linked, empty_phase}
use Rattle.theory.proofs.Life.{life, links_once, joins_once}

module _ {kind : Kind} (c : Course kind) (k o : ℕ) (op : IsOperation c.count o) where
  pub found_nothing : answer c.log k o ≡ Answer.empty → FoundEmpty (deeds c.log k o)
  unfolding deeds
  found_nothing a =
      let lives = life c k o op in
      (subst (λ p. Did kind p (deeds c.log k o)) (empty_phase kind (deeds c.log k o) ((listing kind).phase lives.on) lives.did a) lives.did).0

  pub effect_of_taker : taken c.log k o ≢ 0 → effect kind c.log c.count k o ≡ stands (takes_at kind c.log c.count k (taken c.log k o)) (takes (taken c.log k o) (takers c.log c.count k (taken c.log k o)))
  unfolding deeds
  effect_of_taker t = go (effected kind c.log c.count k o)
    where
      go : Effected kind c.log c.count k o → effect kind c.log c.count k o ≡ stands (takes_at kind c.log c.count k (taken c.log k o)) (takes (taken c.log k o) (takers c.log c.count k (taken c.log k o)))
      go (by_put l h) = absurd (l (taken_not_linked kind (deeds c.log k o) ((listing kind).phase (life c k o op).on) (life c k o op).did t))
      go (by_take l s h) = h
      go (by_empty l z a h) = absurd (t z)
      go (by_none l z a h) = absurd (t z)

  pub effect_of_empty : answer c.log k o ≡ Answer.empty → effect kind c.log c.count k o ≡ stands (start c.log k o) (empty o)
  unfolding deeds
  effect_of_empty a = go (effected kind c.log c.count k o)
    where
      go : Effected kind c.log c.count k o → effect kind c.log c.count k o ≡ stands (start c.log k o) (empty o)
      go (by_put l h) = absurd (l (found_nothing a).no_link)
      go (by_take l t h) = absurd (t (found_nothing a).not_taken)
      go (by_empty l z b h) = h
      go (by_none l z b h) = absurd (b a)

module _ {kind : Kind} (c : Course kind) (k s : ℕ) (from_one : 1 ≤ s) (to_k : s ≤ k) (o : ℕ) (op : IsOperation c.count o) (by : (c.log s).by ≡ o) where
  pub line_of_link : (c.log s).event ≡ Linked → line_at kind c.log c.count k s ≡ record { step = s; line = put o } ∷ []
  unfolding links made is_linked
  line_of_link e =
      let l : links c.log o s ≡ true = (and-eq-true_iff (same (c.log s).by o) (is_linked (c.log s).event)).1 (equal_same by, ap is_linked e) in
      let at : link c.log k o ≡ s = links_once c k o s op l from_one to_k in
      line_of_effect kind c.log c.count k s (put o) (ap (effect kind c.log c.count k) by ∙ effect_of_put kind c.log c.count k o (λ z. omega arith) ∙ ap (λ a. stands a (put o)) at)

  -- the line of an item's takers, at a step of one of them where it stands
  pub line_of_takers : (n : ℕ) → taken c.log k o ≡ n → n ≢ 0 → takes_at kind c.log c.count k n ≡ s → line_at kind c.log c.count k s ≡ record { step = s; line = takes n (takers c.log c.count k n) } ∷ []
  line_of_takers n t some h =
      line_of_effect kind c.log c.count k s (takes n (takers c.log c.count k n))
      (ap (effect kind c.log c.count k) by
      ∙ effect_of_taker c k o op (λ z. some (sym t ∙ z))
      ∙ ap (λ m. stands (takes_at kind c.log c.count k m) (takes m (takers c.log c.count k m))) t
      ∙ ap (λ a. stands a (takes n (takers c.log c.count k n))) h)

  -- no line, at a step of one of them, where their line stands elsewhere
  pub line_of_taker_elsewhere : (n : ℕ) → taken c.log k o ≡ n → n ≢ 0 → takes_at kind c.log c.count k n ≢ s → line_at kind c.log c.count k s ≡ []
  line_of_taker_elsewhere n t some other =
      line_without_effect kind c.log c.count k s
      (λ line h.
      let at_own : stands (takes_at kind c.log c.count k (taken c.log k o)) (takes (taken c.log k o) (takers c.log c.count k (taken c.log k o))) ≡ stands s line = sym (effect_of_taker c k o op (λ z. some (sym t ∙ z))) ∙ ap (effect kind c.log c.count k) (sym by) ∙ h in
      let at : takes_at kind c.log c.count k (taken c.log k o) ≡ s = cc in
      other (ap (takes_at kind c.log c.count k) (sym t) ∙ at))

  -- a round of an operation that answers empty, if it is its last
  pub line_of_empty : answer c.log k o ≡ Answer.empty → start c.log k o ≡ s → line_at kind c.log c.count k s ≡ record { step = s; line = empty o } ∷ []
  line_of_empty a f = line_of_effect kind c.log c.count k s (empty o) (ap (effect kind c.log c.count k) by ∙ effect_of_empty c k o op a ∙ ap (λ a. stands a (empty o)) f)

  -- a round of an operation that has no empty answer or a later round, and at which its item's line does not stand
  pub line_of_round : (c.log s).event ≡ Round → (answer c.log k o ≢ Answer.empty) ⊎ (start c.log k o ≢ s) → (rule kind ≡ by_round → taken c.log k o ≢ 0 → latest_start c.log c.count k (taken c.log k o) ≢ s) → line_at kind c.log c.count k s ≡ []
  line_of_round e no_empty no_top =
      line_without_effect kind c.log c.count k s
      (λ line h. neither no_empty (lined_round kind c.log c.count k s o e (lined kind c.log c.count k s o line from_one (ap (effect kind c.log c.count k) (sym by) ∙ h))))
    where
      neither : (answer c.log k o ≢ Answer.empty) ⊎ (start c.log k o ≢ s) → RoundLine kind c.log c.count k s o → ⊥
      neither n (RoundLine.top p t h) = no_top p t h
      neither (inl n) (RoundLine.bare a h) = n a
      neither (inr n) (RoundLine.bare a h) = n h

-- the operation whose step joined the takers of an item took it
pub joiner_took : {kind : Kind} (c : Course kind) (k s : ℕ) {o n : ℕ} → IsOperation c.count o → (c.log s).by ≡ o → item_of (c.log s).event ≡ n → n ≢ 0 → 1 ≤ s → s ≤ k → (join c.log k o ≡ s) × (taken c.log k o ≡ n)
unfolding taken joins made
joiner_took c k s {o} {n} op by item some low high =
    let joined : joins c.log o s ≡ true = rw (equal_same by, unequal_same {m = item_of (c.log s).event} {n = 0} (λ z. some (sym item ∙ z))) refl in
    let at : join c.log k o ≡ s = joins_once c k o s op joined low high in
    (at, ap (λ x. item_of (c.log x).event) at ∙ item)

-- the operation whose step moved to n took n
pub mover_took : {kind : Kind} (c : Course kind) (k s : ℕ) {o n : ℕ} → ActsIn c s o → (c.log (suc s)).event ≡ Moved n → n ≢ 0 → suc s ≤ k → taken c.log k o ≡ n
unfolding item_of
mover_took c k s a e some early = (joiner_took c k (suc s) a.operation a.by (ap item_of e) some (omega arith) early).1

-- so the first step that moved to n was made by a taker of n
pub moved_by_taker : {kind : Kind} (c : Course kind) (k n : ℕ) → n ≢ 0 → first_move c.log k n ≢ 0 → taken c.log k (c.log (first_move c.log k n)).by ≡ n
unfolding moved_to
moved_by_taker c k n some found = at_step (first_move c.log k n) found (first_move_le c.log n k) (first_move_event c.log k n some found)
  where
    by_maker : (s : ℕ) → suc s ≤ k → (c.log (suc s)).event ≡ Moved n → PassesIn c s ⊎ ((o : ℕ) × ActsIn c s o) → taken c.log k (c.log (suc s)).by ≡ n
    by_maker s early e (inl a) = absurd (some (sym (ap moved_to e) ∙ ap moved_to (passes_event a)))
    by_maker s early e (inr a) = ap (taken c.log k) a.1.by ∙ mover_took c k s a.1 e some early

    at_step : (s : ℕ) → s ≢ 0 → s ≤ k → (c.log s).event ≡ Moved n → taken c.log k (c.log s).by ≡ n
    at_step zero f early e = absurd (f refl)
    at_step (suc s) f early e = by_maker s early e (c.step s)
