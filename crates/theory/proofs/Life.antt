-- What holds of an operation in any course, on any object: in which phase it is and what it has done so far; so it makes all its steps from its first to
-- its last, links at most once and joins at most once. Assumes nothing.
use mathlib.Core.Path.{◌≡◌, refl, sym, ap, subst, subst₂, ◌∙◌}
use mathlib.Core.Logic.{◌≢◌, ◌⊎◌, inl, inr}
use Prim.Native.Nat.{ℕ, zero, suc, ◌≤◌, ◌<◌}
use mathlib.Core.Bool.{Bool, true, false, not, true≢false, and-eq-true_iff}
use native.Mathlib.Omega.{arith}
use Rattle.basics.specs.Choice.{same}
use Rattle.basics.proofs.Choice.{same_equal, equal_same, split, compare}
use Rattle.job.specs.declared.Kind.{Kind}
use Rattle.machine.specs.declared.Event.TheVariants.{Round}
use Rattle.machine.specs.Notes.{is_answer}
use Rattle.machine.specs.Journal.{is_round, is_linked, item_of, made, begins_round, links, joins, ends, first, last, start, link, join}
use Rattle.machine.specs.Explained.{IsOperation}
use Rattle.machine.proofs.Searches.{earliest_meets, earliest_least, earliest_found_by, earliest_once, latest_greatest}
use Rattle.machine.proofs.Stamps.{start_le}
use Rattle.machine.proofs.Effected.{MadeStep, start_step}
use Rattle.machine.proofs.Turns.Locals.{Local}
use Rattle.theory.proofs.Phases.{Phase, puts, Move, move_puts, link_puts, join_takes}
use Rattle.theory.proofs.Listing.{initial}
use Rattle.theory.proofs.Course.{listing, Course, PassesIn, ActsIn, passes_by}
use Rattle.theory.proofs.Deeds.{Deeds, deeds, deeds_zero, deeds_after, deeds_other, Did, move_does, Fresh, New, move_fresh, fresh_new}

-- an operation's number is not that of nobody
pub operation_some : {count o : ℕ} → IsOperation count o → o ≢ 0
operation_some op z = let h : 1 ≤ _ = op.from_one in omega arith

-- where an operation is, that it has done what the phase says, and that the phase is one of a put or of a take as the operation is
pub record Lives (kind : Kind) (put : Bool) (l : Local) (d : Deeds) : Type 0 where
  pub on : (listing kind).On l
  pub did : Did kind ((listing kind).phase on) d
  pub action : puts ((listing kind).phase on) ≡ put

-- the step of an operation as a move
pub record Moves {kind : Kind} (c : Course kind) (k o : ℕ) : Type 0 where
  pub before : Phase
  pub after : Phase
  pub move : Move kind before (c.log (suc k)).event (c.log (suc k)).answer after
  pub did : Did kind before (deeds c.log k o)
  pub action : puts before ≡ c.is_put o

module _ {kind : Kind} (c : Course kind) where
  -- a step is an operation's own, or leaves it where it is
  pub own_or_other : (k o : ℕ) → o ≢ 0 → {P : Type 0} → ((c.log (suc k)).by ≢ o → c.local (suc k) o ≡ c.local k o → P) → (ActsIn c k o → P) → P
  own_or_other k o some {P} other own = by_step (c.step k)
    where
      by_actor : (q : ℕ) → ActsIn c k q → (q ≡ o) ⊎ (q ≢ o) → P
      by_actor q a (inl e) = own (subst (ActsIn c k) e a)
      by_actor q a (inr n) = other (λ e. n (sym a.by ∙ e)) (a.others_kept o (λ e. n (sym e)))

      by_step : PassesIn c k ⊎ ((q : ℕ) × ActsIn c k q) → P
      by_step (inl i) = other (λ e. some (sym e ∙ passes_by i)) (i.locals_kept o some)
      by_step (inr a) = by_actor a.0 a.1 (split a.0 o)

  -- what holds of an operation at first, and is kept by the steps of others and by its own, holds after any number of steps
  each_step : (o : ℕ) → o ≢ 0 → (P : ℕ → Type 0) → P 0 → ((k : ℕ) → (c.log (suc k)).by ≢ o → c.local (suc k) o ≡ c.local k o → P k → P (suc k)) → ((k : ℕ) → ActsIn c k o → P k → P (suc k)) → (k : ℕ) → P k
  each_step o some P at_first others own zero = at_first
  each_step o some P at_first others own (suc k) =
      let before : P k = each_step o some P at_first others own k in
      own_or_other k o some (λ n l. others k n l before) (λ a. own k a before)

  pub life : (k o : ℕ) → IsOperation c.count o → Lives kind (c.is_put o) (c.local k o) (deeds c.log k o)
  life k o op =
      each_step o (operation_some op) (λ k. Lives kind (c.is_put o) (c.local k o) (deeds c.log k o))
      (subst (λ l. Lives kind (c.is_put o) l (deeds c.log 0 o)) (sym (c.local_first o)) at_first)
      (λ k other same x. subst₂ (Lives kind (c.is_put o)) (sym same) (sym (deeds_other c.log k o other)) x)
      (λ k acts x.
      let next = (listing kind).moves acts.turned x.on in
      record { on = next.0; did = move_does (deeds_after c.log k o acts.by) next.1 x.did; action = move_puts next.1 ∙ x.action })
      k
    where
      at_first : Lives kind (c.is_put o) (initial kind (c.is_put o)) (deeds c.log 0 o)
      at_first =
          let first = (listing kind).starts (c.is_put o) in
          record {
            on = first.0;
            did = subst (λ p. Did kind p (deeds c.log 0 o)) (sym first.1) (deeds_zero c.log c.log_first o);
            action = ap puts first.1;
          }

  pub acts_move : (k o : ℕ) → ActsIn c k o → Moves c k o
  acts_move k o acts =
      let x : Lives kind (c.is_put o) (c.local k o) (deeds c.log k o) = life k o acts.operation in
      let next = (listing kind).moves acts.turned x.on in
      record {
        before = (listing kind).phase x.on;
        after = (listing kind).phase next.0;
        move = next.1;
        did = x.did;
        action = x.action;
      }

  -- the step of an operation is the first that links or joins, and not after its end
  pub acts_fresh : (k o : ℕ) → ActsIn c k o → Fresh (deeds c.log k o) (c.log (suc k)).event
  acts_fresh k o acts = let moved : Moves c k o = acts_move k o acts in move_fresh moved.move moved.did

  pub acts_new : (k o : ℕ) → ActsIn c k o → New (c.log (suc k)).event (deeds c.log k o)
  acts_new k o acts = fresh_new (acts_fresh k o acts)

  -- an operation that made a step acted in it
  made_acts : (k o : ℕ) → o ≢ 0 → made c.log o (suc k) ≡ true → ActsIn c k o
  unfolding made
  made_acts k o some m = by_step (c.step k)
    where
      by_step : PassesIn c k ⊎ ((q : ℕ) × ActsIn c k q) → ActsIn c k o
      by_step (inl i) = absurd (some (sym (same_equal m) ∙ passes_by i))
      by_step (inr a) = subst (ActsIn c k) (sym a.1.by ∙ same_equal m) a.1

  -- who links is a put, and who joins is a take
  linker_puts : (s o : ℕ) → IsOperation c.count o → links c.log o s ≡ true → s ≢ 0 → c.is_put o ≡ true
  unfolding links
  linker_puts zero o op l some = absurd (some refl)
  linker_puts (suc s) o op l some =
      let parts : (made c.log o (suc s) ≡ true) × (is_linked (c.log (suc s)).event ≡ true) = (and-eq-true_iff (made c.log o (suc s)) (is_linked (c.log (suc s)).event)).0 l in
      let moved : Moves c s o = acts_move s o (made_acts s o (operation_some op) parts.0) in
      sym moved.action ∙ link_puts moved.move parts.1

  joiner_takes : (s o : ℕ) → IsOperation c.count o → joins c.log o s ≡ true → s ≢ 0 → c.is_put o ≡ false
  unfolding joins
  joiner_takes zero o op l some = absurd (some refl)
  joiner_takes (suc s) o op l some =
      let parts : (made c.log o (suc s) ≡ true) × (not (same (item_of (c.log (suc s)).event) 0) ≡ true) = (and-eq-true_iff (made c.log o (suc s)) (not (same (item_of (c.log (suc s)).event) 0))).0 l in
      let moved : Moves c s o = acts_move s o (made_acts s o (operation_some op) parts.0) in
      sym moved.action ∙ join_takes moved.move (λ z. true≢false (sym parts.1 ∙ ap not (equal_same z)))

  pub linked_is_put : (k o : ℕ) → IsOperation c.count o → link c.log k o ≢ 0 → c.is_put o ≡ true
  unfolding link
  linked_is_put k o op some = linker_puts (link c.log k o) o op (earliest_meets (links c.log o) k some) some

  pub joined_is_take : (k o : ℕ) → IsOperation c.count o → join c.log k o ≢ 0 → c.is_put o ≡ false
  unfolding join
  joined_is_take k o op some = joiner_takes (join c.log k o) o op (earliest_meets (joins c.log o) k some) some

  acts_not_over : (k o : ℕ) → ActsIn c k o → last c.log k o ≡ 0
  unfolding deeds
  acts_not_over k o acts = (acts_new k o acts).not_over

  last_found_by : (k o l : ℕ) → last c.log k o ≢ 0 → last c.log k o ≤ l → last c.log l o ≢ 0
  unfolding last
  last_found_by k o l n h = earliest_found_by (ends c.log o) k l n h

  -- a step that an operation made is not before its first, and not after its last
  pub made_from_first : (k o s : ℕ) → made c.log o s ≡ true → 1 ≤ s → s ≤ k → (first c.log k o ≢ 0) × (first c.log k o ≤ s)
  unfolding first
  made_from_first k o s m low high = earliest_least (made c.log o) k s m low high

  pub made_to_last : (k o s : ℕ) → IsOperation c.count o → made c.log o s ≡ true → s ≤ k → last c.log k o ≢ 0 → s ≤ last c.log k o
  made_to_last k o zero op m high e = omega arith
  made_to_last k o (suc s) op m high e = by_order (compare (suc s) (last c.log k o))
    where
      by_order : (suc s ≤ last c.log k o) ⊎ (last c.log k o < suc s) → suc s ≤ last c.log k o
      by_order (inl h) = h
      by_order (inr h) = absurd (last_found_by k o s e (omega arith) (acts_not_over s o (made_acts s o (operation_some op) m)))

  -- an operation links once, and joins once
  pub links_once : (k o s : ℕ) → IsOperation c.count o → links c.log o s ≡ true → 1 ≤ s → s ≤ k → link c.log k o ≡ s
  unfolding link links deeds
  links_once k o zero op l low high = absurd (omega arith)
  links_once k o (suc s) op l low high =
      let parts : (made c.log o (suc s) ≡ true) × (is_linked (c.log (suc s)).event ≡ true) = (and-eq-true_iff (made c.log o (suc s)) (is_linked (c.log (suc s)).event)).0 l in
      let new : New (c.log (suc s)).event (deeds c.log s o) = acts_new s o (made_acts s o (operation_some op) parts.0) in
      earliest_once (links c.log o) k s l (new.link_first parts.1) high

  pub joins_once : (k o s : ℕ) → IsOperation c.count o → joins c.log o s ≡ true → 1 ≤ s → s ≤ k → join c.log k o ≡ s
  unfolding join joins deeds
  joins_once k o zero op l low high = absurd (omega arith)
  joins_once k o (suc s) op l low high =
      let parts : (made c.log o (suc s) ≡ true) × (not (same (item_of (c.log (suc s)).event) 0) ≡ true) = (and-eq-true_iff (made c.log o (suc s)) (not (same (item_of (c.log (suc s)).event) 0))).0 l in
      let new : New (c.log (suc s)).event (deeds c.log s o) = acts_new s o (made_acts s o (operation_some op) parts.0) in
      earliest_once (joins c.log o) k s l (new.join_first (λ z. true≢false (sym parts.1 ∙ ap not (equal_same z)))) high

  -- a round of an operation is not before its first step
  pub start_from_first : (k o : ℕ) → start c.log k o ≢ 0 → first c.log k o ≤ start c.log k o
  unfolding made
  start_from_first k o n = (made_from_first k o (start c.log k o) (equal_same (start_step c.log k o n).by) (omega arith) (start_le c.log k o)).1

  -- a step that ends its operation is its last, and a round that does so is its last round
  module _ (k s : ℕ) (below : s < k) (o : ℕ) (op : IsOperation c.count o) (by : (c.log (suc s)).by ≡ o) where
    pub ends_last : is_answer (c.log (suc s)).answer ≡ true → last c.log k o ≡ suc s
    unfolding last ends made
    ends_last a =
        let found : (last c.log k o ≢ 0) × (last c.log k o ≤ suc s) = earliest_least (ends c.log o) k (suc s) (rw (equal_same by, a)) (omega arith) (omega arith) in
        omega (arith, found.1, made_to_last k o (suc s) op (equal_same by) (omega arith) found.0)

    pub starts_last : (c.log (suc s)).event ≡ Round → last c.log k o ≡ suc s → start c.log k o ≡ suc s
    unfolding start begins_round made is_round
    starts_last event end =
        let from : suc s ≤ start c.log k o = latest_greatest (begins_round c.log o) k (suc s) (rw (equal_same by, event)) (omega arith) in
        let round : MadeStep c.log (start c.log k o) o Round = start_step c.log k o (λ z. omega arith) in
        let to : start c.log k o ≤ last c.log k o = made_to_last k o (start c.log k o) op (equal_same round.by) (start_le c.log k o) (λ z. omega arith) in
        omega arith
