-- One turn of the run's loop: what the code holds after k steps, with the step that it makes, is what it holds after k + 1. Assumes nothing.
use mathlib.Core.Path.{◌≡◌, refl, sym, ap, subst, ◌∙◌}
use mathlib.Core.Logic.{◌≢◌, ◌⊎◌, inl, inr}
use Prim.Native.Nat.{ℕ, suc, ◌≤◌, ◌<◌}
use native.Mathlib.Omega.{arith}
use mathlib.Core.Bool.{true, false}
use mathlib.Core.List.{List}
use lib.ListN.{get_or, set, length-set}
use lib.Seq.{get_or-set_same, get_or-set_other}
use Rattle.basics.specs.Choice.{pick}
use Rattle.basics.specs.Maps.{upd}
use Rattle.basics.proofs.Choice.{both, split, less_lt, pick_then, pick_else}
use Rattle.basics.proofs.Maps.{upd_here, upd_there, upd_id}
use Rattle.job.specs.declared.Operation as Machine
use Rattle.job.specs.declared.Process.{Process}
use Rattle.job.specs.declared.Slot.{Slot}
use Rattle.job.specs.declared.Slot.TheVariants.{Acts, Drops}
use Rattle.job.specs.Slot.{process_of}
use Rattle.job.specs.Job.{Job}
use Rattle.machine.specs.declared.Object.{Object}
use Rattle.machine.specs.declared.Place.{Place}
use Rattle.machine.specs.Memory.{Memory}
use Rattle.machine.specs.Access.{Reached}
use Rattle.machine.specs.Table.{ended, is_return}
use Rattle.machine.specs.Run.{State, before, operation_after, reached, row_after, place_after, resting, state_after}
use Rattle.machine.specs.Notes.{Note, acted, note, is_answer}
use Rattle.machine.proofs.Bounds.{within}
use Rattle.machine.proofs.Slots.{answers_at_end, its_place, its_reach, acts_drops_none, state_rests, note_rests, state_acts, note_acts, note_drops, state_stays, drops_none}
use Rattle.theory.proofs.Course.{PassesIn, ActsIn, passes_by}
use Rattle.theory.proofs.Operations.{course, passes}
use Rattle.theory.proofs.Operations.Locals.{memory}
use Rattle.theory.proofs.Operations.Hands.{Idling}
use Rattle.access.specs.Nodes.{object_memory}
use Rattle.step.specs.declared.Stepped.{Stepped}
use Rattle.step.specs.Promise.{IsStep, event_at}
use Rattle.journal.specs.Stored.{Stored}
use Rattle.journal.proofs.Whole.{holds_idle, holds_acts}
use Rattle.run.specs.Promise.{nowhere, run_places, InPlace, Ran}

-- the step of a place, from memory and with the answer of the code, as the definition has it
pub record Made (place : Place) (m m' : Memory) (s : Stepped) : Type 0 where
  pub memory : m' ≡ (reached m place).memory
  pub registers : record { h = s.left.h; t = s.left.t; n = s.left.n } ≡ (reached m place).registers
  pub row : s.row ≡ row_after place (reached m place)

pub made_from : {place : Place} {object : Object} {nodes nodes' : List ℕ} {s : Stepped} {m : Memory} → object_memory object nodes ≡ m → IsStep place object nodes s nodes' → Made place m (object_memory s.left.object nodes') s
made_from {place} {nodes' = nodes'} {s = s} e is =
    subst (λ x. Made place x (object_memory s.left.object nodes') s) e
    (record { memory = is.memory; registers = is.registers; row = is.row })

-- the place after the step of an operation: before the process's next one if it ended, and else further on
unfoldable pub followed : Job → ℕ → Machine.Operation → Stepped → Place
followed j p o s =
    pick (ended s.row) (before j (operation_after j p o.0)) (record { operation = o; row = s.row; h = s.left.h; t = s.left.t; n = s.left.n })

module _ (j : Job) (p : ℕ) (o : Machine.Operation) (s : Stepped) {after : Place} where
  pub followed_ended : ended s.row ≡ true → after ≡ before j (operation_after j p o.0) → after ≡ followed j p o s
  unfolding followed
  followed_ended e f = f ∙ sym (pick_then _ _ e)

  pub followed_going : ended s.row ≡ false → after ≡ record { operation = o; row = s.row; h = s.left.h; t = s.left.t; n = s.left.n } → after ≡ followed j p o s
  unfolding followed
  followed_going e f = f ∙ sym (pick_else _ _ e)

-- who rests has no operation in hand
rested_past : (j : Job) (place : Place) → resting j place ≡ true → place.operation.0 ≤ j.count → ⊥
unfolding resting
rested_past j place e h = omega (arith, less_lt e)

module _ (j : Job) (k : ℕ) where
  -- a step at which nothing happens leaves everything
  pub ran_idles : {object : Object} {nodes ops by : List ℕ} → Idling j k → Ran j k object nodes ops by → Ran j (suc k) object nodes ops by
  unfolding memory
  ran_idles i r =
      record {
        memory = r.memory ∙ ap (λ (s : State). s.memory) (sym i.state);
        journal = holds_idle j k (passes j k (ap (λ (s : State). s.memory) i.state) i.said) i.drops_none r.journal;
      }

  pub places_idle : {places : List Place} → Idling j k → InPlace j k places → InPlace j (suc k) places
  places_idle i l = record { whole = l.whole; each = λ p h. l.each p h ∙ ap (λ (s : State). s.places p) (sym i.state) }

  -- nothing happens where the process that is named has no operation remaining, whether it is to step or to drop
  pub rest_idles : resting j ((state_after j k).places (process_of (j.slot (suc k)))) ≡ true → Idling j k
  unfolding process_of
  rest_idles = by_slot (j.slot (suc k)) refl
    where
      -- what has begun is an operation
      none_begun : (p : Process) → resting j (its_place j k p) ≡ true → (state_after j k).begun (its_place j k p).operation.0 ≡ false
      none_begun p e = go (both ((state_after j k).begun (its_place j k p).operation.0))
        where
          go : ((state_after j k).begun (its_place j k p).operation.0 ≡ true) ⊎ ((state_after j k).begun (its_place j k p).operation.0 ≡ false) → (state_after j k).begun (its_place j k p).operation.0 ≡ false
          go (inl b) = absurd (rested_past j (its_place j k p) e ((within j k).begun _ b))
          go (inr n) = n

      by_slot : (s : Slot) → j.slot (suc k) ≡ s → resting j ((state_after j k).places (process_of s)) ≡ true → Idling j k
      by_slot (Acts p) named e = record { state = state_rests j k p named e; said = note_rests j k p named e; drops_none = acts_drops_none j k p named }
      by_slot (Drops p) named e =
          record { state = state_stays j k p named (none_begun p e); said = note_drops j k p named; drops_none = drops_none j k p named (none_begun p e) }

-- a place that is stored where the definition has it
pub places_set : (j : Job) (k : ℕ) (places : List Place) (p : ℕ) (q : Place) → p < run_places → InPlace j k places → (state_after j (suc k)).places ≡ upd (state_after j k).places p q → InPlace j (suc k) (set places p q)
places_set j k places p q in_range l e =
    record { whole = length-set places p q ∙ l.whole; each = λ r h. go r h (split r p) }
  where
    now : (r : ℕ) → (state_after j (suc k)).places r ≡ upd (state_after j k).places p q r
    now r = ap (λ (f : ℕ → Place). f r) e

    go : (r : ℕ) → r < run_places → (r ≡ p) ⊎ (r ≢ p) → get_or (set places p q) r nowhere ≡ (state_after j (suc k)).places r
    go r h (inl here) =
        subst (λ x. get_or (set places p q) x nowhere ≡ (state_after j (suc k)).places x) (sym here)
        (get_or-set_same places p q nowhere (subst (λ n. p < n) (sym l.whole) in_range)
        ∙ sym (now p ∙ upd_here _ p _))
    go r h (inr there) =
        get_or-set_other places p r q nowhere there ∙ l.each r h ∙ sym (now r ∙ upd_there _ p _ there)

-- the same place, where nothing happens
pub places_stay : (j : Job) (k : ℕ) → Idling j k → (places : List Place) (p : ℕ) (q : Place) → p < run_places → InPlace j k places → q ≡ (state_after j k).places p → InPlace j (suc k) (set places p q)
places_stay j k i places p q in_range l e =
    places_set j k places p q in_range l
    (ap (λ (s : State). s.places) i.state ∙ sym (upd_id (state_after j k).places p) ∙ ap (upd (state_after j k).places p) (sym e))

-- process p steps
module _ (j : Job) (k : ℕ) (p : Process) (named : j.slot (suc k) ≡ Acts p) where
  abbrev place : Place
  place = its_place j k p

  abbrev a : Reached
  a = its_reach j k p

  acts_of : resting j place ≡ false → ActsIn (course j) k place.operation.0
  unfolding acted
  acts_of e = go ((course j).step k)
    where
      own : (note j (suc k)).by ≡ place.operation.0
      own = ap (λ (n : Note). n.by) (note_acts j k p named e)

      go : PassesIn (course j) k ⊎ ((o : ℕ) × ActsIn (course j) k o) → ActsIn (course j) k place.operation.0
      go (inl i) =
          let z : place.operation.0 ≡ 0 = sym own ∙ passes_by i in
          let h : 1 ≤ place.operation.0 = ((within j k).place p.0).from_one in
          absurd (let b : ⊥ = omega arith in b)
      go (inr (o, acts)) = subst (ActsIn (course j) k) (sym acts.by ∙ own) acts

  -- the place that follows is the definition's
  pub followed_place : {m' : Memory} {s : Stepped} (q : Place) → Made place (state_after j k).memory m' s → q ≡ followed j p.0 place.operation s → q ≡ place_after j p.0 place a
  unfolding place_after followed
  followed_place q made f =
      f
      ∙ (λ i.
      pick (ended (made.row i)) (before j (operation_after j p.0 place.operation.0))
      (record {
        operation = place.operation;
        row = made.row i;
        h = (made.registers i).h;
        t = (made.registers i).t;
        n = (made.registers i).n;
      }))

  pub places_act : (places : List Place) (q : Place) → resting j place ≡ false → p.0 < run_places → InPlace j k places → q ≡ place_after j p.0 place a → InPlace j (suc k) (set places p.0 q)
  places_act places q e in_range l f =
      places_set j k places p.0 q in_range l (ap (λ (s : State). s.places) (state_acts j k p named e) ∙ ap (upd (state_after j k).places p.0) (sym f))

  -- an acting process: memory and journal of one more step
  pub ran_acts : {object : Object} {nodes ops by nodes' ops' by' : List ℕ} {s : Stepped} → resting j place ≡ false → Ran j k object nodes ops by → IsStep place object nodes s nodes' → Stored (event_at place object nodes) (ended s.row) (is_return s.row) place.operation.0 (suc k) ops by ops' by' → Ran j (suc k) s.left.object nodes' ops' by'
  unfolding acted event_at
  ran_acts {object} {nodes} {ops} {by} {ops' = ops'} {by' = by'} {s = s} e r is stored =
      let made = made_from r.memory is in
      let event : event_at place object nodes ≡ (note j (suc k)).event =
      ap (λ (m : Memory). (acted place (reached m place)).event) r.memory ∙ ap (λ (n : Note). n.event) (sym (note_acts j k p named e))
      in
      let answered : is_answer (note j (suc k)).answer ≡ ended s.row =
      ap (λ (n : Note). is_answer n.answer) (note_acts j k p named e)
      ∙ answers_at_end (row_after place a) a.registers
      ∙ ap ended (sym made.row)
      in
      let back : (note j (suc k)).back ≡ is_return s.row = ap (λ (n : Note). n.back) (note_acts j k p named e) ∙ ap is_return (sym made.row) in
      record {
        memory = made.memory ∙ ap (λ (x : State). x.memory) (sym (state_acts j k p named e));
        journal =
            holds_acts j k place.operation.0 (acts_of e) answered back r.journal
            (subst (λ v. Stored v (ended s.row) (is_return s.row) place.operation.0 (suc k) ops by ops' by') event stored);
      }
