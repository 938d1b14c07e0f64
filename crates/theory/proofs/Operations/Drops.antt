-- Drops: the number of the operation in a process's hand only grows, and is past an operation that ended or was dropped. So an operation is
-- dropped at most once, behind its first step; it makes no step behind that, and has no last. Assumes nothing.
use mathlib.Core.Path.{◌≡◌, refl, sym, ap, subst, ◌∙◌}
use mathlib.Core.Logic.{◌≢◌, ◌⊎◌, inl, inr}
use Prim.Native.Nat.{ℕ, zero, suc, ◌≤◌, ◌<◌}
use mathlib.Core.Bool.{true, not, true≢false, and-eq-true_iff}
use native.Mathlib.Omega.{arith}
use Rattle.basics.specs.Choice.{same}
use Rattle.basics.specs.Maps.{upd}
use Rattle.basics.proofs.Choice.{split, compare, pick_elim, same_equal, equal_same, unequal_same}
use Rattle.basics.proofs.Maps.{upd_here, upd_there}
use Rattle.job.specs.Job.{Job}
use Rattle.machine.specs.declared.Place.{Place}
use Rattle.machine.specs.Table.{ended}
use Rattle.machine.specs.Run.{before, operation_after, row_after, fresh_state, state_after}
use Rattle.machine.specs.Notes.{is_answer, idle, acted, note}
use Rattle.machine.specs.Journal.{made, ends, first, last}
use Rattle.machine.specs.Drops.{dropped, drop}
use Rattle.machine.proofs.Searches.{earliest_meets}
use Rattle.machine.proofs.Stamps.{first_zero, first_other, first_new, first_stays, first_le, drop_le, drop_drops}
use Rattle.machine.proofs.Slots.{answers_at_end}
use Rattle.machine.proofs.Turns.Locals.{reaches, local_after}
use Rattle.theory.proofs.Operations.Locals.{memory, local}
use Rattle.theory.proofs.Operations.Hands.{place_of, InHand, next_place, next_after, Acting, Dropping, OneStep, one_step, by_own, by_nobody, place_moved, place_ended, place_dropped}
use Rattle.theory.proofs.Operations.Hands.OneStep.{idles, drops, acts}

-- the number of the operation in a process's hand
unfoldable hand : Job → ℕ → ℕ → ℕ
hand j k p = ((state_after j k).places p).operation.0

module _ (j : Job) where
  hand_of : {k p o : ℕ} → InHand j k p o → hand j k p ≡ o
  unfolding hand place_of
  hand_of h = ap (λ x. x.operation.0) h.place_is

  -- behind an operation that gave way
  hand_after : (k p : ℕ) {o : ℕ} → o ≤ j.count → (state_after j (suc k)).places p ≡ before j (operation_after j p o) → o < hand j (suc k) p
  unfolding hand before
  hand_after k p {o} to_count e = subst (λ (x : Place). o < x.operation.0) (sym e) (next_after j p o to_count)

  hand_kept : (k p : ℕ) → (state_after j (suc k)).places p ≡ (state_after j k).places p → hand j k p ≤ hand j (suc k) p
  unfolding hand
  hand_kept k p e = let same_one : hand j (suc k) p ≡ hand j k p = ap (λ (x : Place). x.operation.0) e in omega arith

  hand_moved : {k p o : ℕ} → Acting j k p o → hand j k p ≤ hand j (suc k) p
  unfolding hand next_place place_of before
  hand_moved {k} {p} {o} a =
      let now : hand j k p ≡ o = hand_of a.hand in
      let l = local_after o (memory j k) (local j k o) in
      let onward : o ≤ (next_place j p o l).operation.0 =
      pick_elim (λ (x : Place). o ≤ x.operation.0) (ended l.row) (before j (operation_after j p o)) (place_of o l)
      (λ e. omega (arith, next_after j p o a.to_count))
      (λ e. omega arith)
      in
      let then : hand j (suc k) p ≡ (next_place j p o l).operation.0 = ap (λ (x : Place). x.operation.0) (place_moved a) in
      omega arith

  hand_grows_by : (k p : ℕ) → hand j k p ≤ hand j (suc k) p
  hand_grows_by k p = by_step (one_step j k)
    where
      by_step : OneStep j k → hand j k p ≤ hand j (suc k) p
      by_step (idles i) = hand_kept k p (ap (λ s. s.places p) i.state)
      by_step (drops {p = r} {o = o} d) = go (split p r)
        where
          go : (p ≡ r) ⊎ (p ≢ r) → hand j k p ≤ hand j (suc k) p
          go (inl e) = subst (λ x. hand j k x ≤ hand j (suc k) x) (sym e) (let now : hand j k r ≡ o = hand_of d.hand in omega (arith, hand_after k r d.to_count (place_dropped d)))
          go (inr n) = hand_kept k p (ap (λ s. s.places p) d.state ∙ upd_there _ _ _ n)
      by_step (acts {p = r} {o = o} a) = go (split p r)
        where
          go : (p ≡ r) ⊎ (p ≢ r) → hand j k p ≤ hand j (suc k) p
          go (inl e) = subst (λ x. hand j k x ≤ hand j (suc k) x) (sym e) (hand_moved a)
          go (inr n) = hand_kept k p (ap (λ s. s.places p) a.state ∙ upd_there _ _ _ n)

  hand_grows : (p k l : ℕ) → k ≤ l → hand j k p ≤ hand j l p
  hand_grows p k zero h = let z : k ≡ 0 = omega arith in subst (λ x. hand j x p ≤ hand j 0 p) (sym z) (omega arith)
  hand_grows p k (suc l) h = go (split k (suc l)) (λ b. hand_grows p k l b)
    where
      go : (k ≡ suc l) ⊎ (k ≢ suc l) → (k ≤ l → hand j k p ≤ hand j l p) → hand j k p ≤ hand j (suc l) p
      go (inl e) below = subst (λ x. hand j x p ≤ hand j (suc l) p) (sym e) (omega arith)
      go (inr n) below = omega (arith, below (omega arith), hand_grows_by l p)

  -- a step that answers ends its operation
  answered_ends : {k p o : ℕ} → Acting j k p o → is_answer (note j (suc k)).answer ≡ true → ended (local_after o (memory j k) (local j k o)).row ≡ true
  unfolding acted place_of row_after local_after reaches
  answered_ends a t = sym (answers_at_end _ _) ∙ ap (λ x. is_answer x.answer) (sym a.said) ∙ t

  -- who makes a step is in its owner's hand before it, and the owner's hand is past it if it ended
  record Makes (k o : ℕ) : Type 0 where
    in_hand : hand j k (j.owner o) ≡ o
    past_end : is_answer (note j (suc k)).answer ≡ true → o < hand j (suc k) (j.owner o)
    drops_none : dropped j (suc k) ≡ 0

  makes : (k o : ℕ) → o ≢ 0 → (note j (suc k)).by ≡ o → Makes k o
  unfolding idle
  makes k o some by = by_step (one_step j k)
    where
      by_actor : {p q : ℕ} → Acting j k p q → q ≡ o → Makes k o
      by_actor {p} {q} a e =
          let own : j.owner o ≡ p = ap j.owner (sym e) ∙ a.hand.owned a.to_count in
          record {
            in_hand = ap (hand j k) own ∙ hand_of a.hand ∙ e;
            past_end = λ t. subst (λ x. o < hand j (suc k) x) (sym own) (subst (λ x. x < hand j (suc k) p) e (hand_after k p a.to_count (place_ended a (answered_ends a t))));
            drops_none = a.drops_none;
          }

      by_step : OneStep j k → Makes k o
      by_step (idles i) = absurd (some (sym by ∙ ap (λ x. x.by) i.said))
      by_step (drops d) = absurd (some (sym by ∙ by_nobody d))
      by_step (acts a) = by_actor a (sym (by_own a) ∙ by)

  -- who is dropped was in its owner's hand, which is past it
  record IsDropped (k o : ℕ) : Type 0 where
    in_hand : hand j k (j.owner o) ≡ o
    past : o < hand j (suc k) (j.owner o)
    begun : (state_after j k).begun o ≡ true
    nobody : (note j (suc k)).by ≡ 0

  is_dropped : (k o : ℕ) → o ≢ 0 → dropped j (suc k) ≡ o → IsDropped k o
  is_dropped k o some e = by_step (one_step j k)
    where
      by_one : {p q : ℕ} → Dropping j k p q → q ≡ o → IsDropped k o
      by_one {p} {q} d is =
          let own : j.owner o ≡ p = ap j.owner (sym is) ∙ d.hand.owned d.to_count in
          record {
            in_hand = ap (hand j k) own ∙ hand_of d.hand ∙ is;
            past = subst (λ x. o < hand j (suc k) x) (sym own) (subst (λ x. x < hand j (suc k) p) is (hand_after k p d.to_count (place_dropped d)));
            begun = ap (state_after j k).begun (sym is) ∙ d.begun;
            nobody = by_nobody d;
          }

      by_step : OneStep j k → IsDropped k o
      by_step (idles i) = absurd (some (sym e ∙ i.drops_none))
      by_step (drops d) = by_one d (sym d.drops ∙ e)
      by_step (acts a) = absurd (some (sym e ∙ a.drops_none))

  -- nobody makes the step that drops an operation
  pub by_nobody_at : (k o : ℕ) → o ≢ 0 → drop j k o ≢ 0 → (note j (drop j k o)).by ≡ 0
  by_nobody_at k o some found = go (drop j k o) found (drop_drops j o k found)
    where
      go : (d : ℕ) → d ≢ 0 → dropped j d ≡ o → (note j d).by ≡ 0
      go zero n is = absurd (n refl)
      go (suc d) n is = (is_dropped d o some is).nobody

  -- an operation is dropped once
  pub dropped_once : (k o : ℕ) → o ≢ 0 → dropped j (suc k) ≡ o → drop j k o ≡ 0
  dropped_once k o some e = go (drop j k o) (drop_le j o k) (drop_drops j o k)
    where
      go : (d : ℕ) → d ≤ k → (d ≢ 0 → dropped j d ≡ o) → d ≡ 0
      go zero low is = refl
      go (suc d) low is =
          let then : IsDropped d o = is_dropped d o some (is (λ z. omega arith)) in
          let now : IsDropped k o = is_dropped k o some e in
          absurd (let x : ⊥ = omega (arith, then.past, now.in_hand, hand_grows (j.owner o) (suc d) k low) in x)

  -- and makes no step behind its drop
  pub no_step_behind : (k o s : ℕ) → o ≢ 0 → drop j k o ≢ 0 → (note j s).by ≡ o → s < drop j k o
  unfolding note idle
  no_step_behind k o zero some found by = absurd (some (sym by))
  no_step_behind k o (suc s) some found by = go (drop j k o) found (drop_drops j o k found) (compare (drop j k o) (suc s))
    where
      made_it : Makes s o
      made_it = makes s o some by

      go : (d : ℕ) → d ≢ 0 → dropped j d ≡ o → (d ≤ suc s) ⊎ (suc s < d) → suc s < d
      go d n is (inr h) = h
      go zero n is (inl h) = absurd (n refl)
      go (suc d) n is (inl h) = at_or_before (split d s)
        where
          at_or_before : (d ≡ s) ⊎ (d ≢ s) → suc s < suc d
          at_or_before (inl e) = absurd (some (sym is ∙ ap (λ x. dropped j (suc x)) e ∙ made_it.drops_none))
          at_or_before (inr e) = absurd (let x : ⊥ = omega (arith, (is_dropped d o some is).past, made_it.in_hand, hand_grows (j.owner o) (suc d) s (omega arith)) in x)

  -- who makes a step is not dropped before it, nor at it
  pub actor_drops_none : (k o : ℕ) → o ≢ 0 → (note j (suc k)).by ≡ o → dropped j (suc k) ≡ 0
  actor_drops_none k o some by = (makes k o some by).drops_none

  pub actor_undropped : (k o : ℕ) → o ≢ 0 → (note j (suc k)).by ≡ o → drop j k o ≡ 0
  actor_undropped k o some by = go (split (drop j k o) 0)
    where
      go : (drop j k o ≡ 0) ⊎ (drop j k o ≢ 0) → drop j k o ≡ 0
      go (inl z) = z
      go (inr n) = absurd (let x : ⊥ = omega (arith, no_step_behind k o (suc k) some n by, drop_le j o k) in x)

  -- it has no last step: the hand of its owner would be past it before the drop
  pub no_last : (k o : ℕ) → o ≢ 0 → drop j k o ≢ 0 → last (note j) k o ≡ 0
  unfolding last ends made
  no_last k o some found = go (last (note j) k o) (earliest_meets (ends (note j) o) k)
    where
      at_drop : (l d : ℕ) → suc l < d → dropped j d ≡ o → o < hand j (suc l) (j.owner o) → ⊥
      at_drop l zero h is past = omega arith
      at_drop l (suc d) h is past = omega (arith, (is_dropped d o some is).in_hand, hand_grows (j.owner o) (suc l) d (omega arith))

      go : (l : ℕ) → (l ≢ 0 → ends (note j) o l ≡ true) → l ≡ 0
      go zero is = refl
      go (suc l) is =
          let parts : (same (note j (suc l)).by o ≡ true) × (is_answer (note j (suc l)).answer ≡ true) = (and-eq-true_iff (same (note j (suc l)).by o) (is_answer (note j (suc l)).answer)).0 (is (λ z. omega arith)) in
          let by : (note j (suc l)).by ≡ o = same_equal parts.0 in
          absurd (at_drop l (drop j k o) (no_step_behind k o (suc l) some found by) (drop_drops j o k found) ((makes l o some by).past_end parts.1))

  -- an operation has begun exactly if it has a first step
  pub begun_first : (k o : ℕ) → o ≢ 0 → (state_after j k).begun o ≡ not (same (first (note j) k o) 0)
  unfolding state_after fresh_state idle
  begun_first zero o some = sym (ap not (equal_same (first_zero (note j) o)))
  begun_first (suc k) o some = by_step (one_step j k) (begun_first k o some)
    where
      unbegun : (state_after j (suc k)).begun o ≡ (state_after j k).begun o → (note j (suc k)).by ≢ o → (state_after j k).begun o ≡ not (same (first (note j) k o) 0) → (state_after j (suc k)).begun o ≡ not (same (first (note j) (suc k) o) 0)
      unbegun kept other before = kept ∙ before ∙ ap (λ x. not (same x 0)) (sym (first_other (note j) k o other))

      by_actor : {p q : ℕ} → Acting j k p q → (o ≡ q) ⊎ (o ≢ q) → (state_after j k).begun o ≡ not (same (first (note j) k o) 0) → (state_after j (suc k)).begun o ≡ not (same (first (note j) (suc k) o) 0)
      by_actor {q = q} a (inl e) before =
          ap (λ s. s.begun o) a.state
          ∙ ap (upd (state_after j k).begun q true) e
          ∙ upd_here _ _ _
          ∙ sym (ap not (unequal_same (has_first (split (first (note j) k o) 0))))
        where
          has_first : (first (note j) k o ≡ 0) ⊎ (first (note j) k o ≢ 0) → first (note j) (suc k) o ≢ 0
          has_first (inl z) f = let x : suc k ≡ 0 = sym (first_new (note j) k o (by_own a ∙ sym e) z) ∙ f in omega arith
          has_first (inr n) f = n (sym (first_stays (note j) k o (suc k) (omega arith) n) ∙ f)
      by_actor a (inr n) before = unbegun (ap (λ s. s.begun o) a.state ∙ upd_there _ _ _ n) (λ e. n (sym e ∙ by_own a)) before

      by_step : OneStep j k → (state_after j k).begun o ≡ not (same (first (note j) k o) 0) → (state_after j (suc k)).begun o ≡ not (same (first (note j) (suc k) o) 0)
      by_step (idles i) before = unbegun (ap (λ s. s.begun o) i.state) (λ e. some (sym e ∙ ap (λ x. x.by) i.said)) before
      by_step (drops d) before = unbegun (ap (λ s. s.begun o) d.state) (λ e. some (sym e ∙ by_nobody d)) before
      by_step (acts {o = q} a) before = by_actor a (split o q) before

  -- so a dropped one has a first step, before its drop
  pub dropped_begun : (k o : ℕ) → o ≢ 0 → drop j k o ≢ 0 → (first (note j) k o ≢ 0) × (first (note j) k o < drop j k o)
  dropped_begun k o some found = at_drop (drop j k o) found (drop_le j o k) (drop_drops j o k found)
    where
      at_drop : (d : ℕ) → d ≢ 0 → d ≤ k → dropped j d ≡ o → (first (note j) k o ≢ 0) × (first (note j) k o < d)
      at_drop zero n h is = absurd (n refl)
      at_drop (suc d) n h is =
          let begun : not (same (first (note j) d o) 0) ≡ true = sym (begun_first d o some) ∙ (is_dropped d o some is).begun in
          let first_then : first (note j) d o ≢ 0 = λ z. true≢false (sym begun ∙ ap not (equal_same z)) in
          let kept : first (note j) k o ≡ first (note j) d o = first_stays (note j) d o k (omega arith) first_then in
          ((λ z. first_then (sym kept ∙ z)), omega (arith, first_le (note j) d o))
