-- A step of the run by what the schedule names for it: the state after it, what it was, and what it dropped; and that an operation
-- is answered where its row is an end. Assumes nothing.
use mathlib.Core.Path.{◌≡◌, refl, ap, ◌∙◌}
use Prim.Native.Nat.{ℕ, suc}
use mathlib.Core.Bool.{true, false}
use Rattle.basics.specs.Maps.{upd}
use Rattle.basics.proofs.Choice.{pick_then, pick_else}
use Rattle.job.specs.declared.Process.{Process}
use Rattle.job.specs.declared.Slot.TheVariants.{Acts, Drops}
use Rattle.job.specs.Job.{Job}
use Rattle.machine.specs.declared.Place.{Place}
use Rattle.machine.specs.declared.Row.{Row}
use Rattle.machine.specs.Access.{Registers, Reached}
use Rattle.machine.specs.Table.{End, end_of, is_end, ended}
use Rattle.machine.specs.Table.End.{no_end, with_done, with_n, with_t, with_empty}
use Rattle.machine.specs.Run.{State, operation_after, before, reached, place_after, resting, acting, dropping, step, state_after}
use Rattle.machine.specs.Notes.{answer_at, answer_of, is_answer, idle, acted, note_next, note}
use Rattle.machine.specs.Drops.{dropped_next, dropped}

-- an operation is answered where its row is an end
answers_with : (e : End) (g : Registers) → is_answer (answer_at e g) ≡ is_end e
unfolding is_answer answer_at is_end
answers_with no_end g = refl
answers_with with_done g = refl
answers_with with_n g = refl
answers_with with_t g = refl
answers_with with_empty g = refl

pub answers_at_end : (r : Row) (g : Registers) → is_answer (answer_of r g) ≡ ended r
unfolding answer_of ended
answers_at_end r g = answers_with (end_of r) g

-- what a drop leaves of a state. "with none begun it is idle"
pub dropping_stays : (j : Job) (process : ℕ) (s : State) → s.begun (s.places process).operation.0 ≡ false → dropping j process s ≡ s
unfolding dropping
dropping_stays j process s e = pick_else _ _ e

-- "drops its begun operation, then stands before its next"
pub dropping_drops : (j : Job) (process : ℕ) (s : State) → s.begun (s.places process).operation.0 ≡ true → dropping j process s ≡ record { memory = s.memory; places = upd s.places process (before j (operation_after j process (s.places process).operation.0)); begun = s.begun }
unfolding dropping
dropping_drops j process s e = pick_then _ _ e

module _ (j : Job) (k : ℕ) (p : Process) where
  -- the place of the process that is named, and what its step reaches
  abbrev pub its_place : Place
  its_place = (state_after j k).places p.0

  abbrev pub its_reach : Reached
  its_reach = reached (state_after j k).memory its_place

  -- the process steps
  module _ (named : j.slot (suc k) ≡ Acts p) where
    acts_state : state_after j (suc k) ≡ acting j p.0 (state_after j k)
    unfolding state_after step
    acts_state = ap (λ s. step j s (state_after j k)) named

    acts_note : note j (suc k) ≡ note_next j (state_after j k) (Acts p)
    unfolding note
    acts_note = ap (note_next j (state_after j k)) named

    pub acts_drops_none : dropped j (suc k) ≡ 0
    unfolding dropped dropped_next
    acts_drops_none = ap (dropped_next (state_after j k)) named

    -- it rests: the state stays, and the step is idle
    pub state_rests : resting j its_place ≡ true → state_after j (suc k) ≡ state_after j k
    unfolding acting
    state_rests e = acts_state ∙ pick_then _ _ e

    pub note_rests : resting j its_place ≡ true → note j (suc k) ≡ idle
    unfolding note_next
    note_rests e = acts_note ∙ pick_then _ _ e

    -- it makes a step of its operation
    pub state_acts : resting j its_place ≡ false → state_after j (suc k) ≡ record { memory = its_reach.memory; places = upd (state_after j k).places p.0 (place_after j p.0 its_place its_reach); begun = upd (state_after j k).begun its_place.operation.0 true }
    unfolding acting
    state_acts e = acts_state ∙ pick_else _ _ e

    pub note_acts : resting j its_place ≡ false → note j (suc k) ≡ acted its_place its_reach
    unfolding note_next
    note_acts e = acts_note ∙ pick_else _ _ e

  -- the process drops
  module _ (named : j.slot (suc k) ≡ Drops p) where
    drops_state : state_after j (suc k) ≡ dropping j p.0 (state_after j k)
    unfolding state_after step
    drops_state = ap (λ s. step j s (state_after j k)) named

    drops_next : dropped j (suc k) ≡ dropped_next (state_after j k) (Drops p)
    unfolding dropped
    drops_next = ap (dropped_next (state_after j k)) named

    -- nobody makes the step
    pub note_drops : note j (suc k) ≡ idle
    unfolding note note_next
    note_drops = ap (note_next j (state_after j k)) named

    -- it has none begun: the state stays
    pub state_stays : (state_after j k).begun its_place.operation.0 ≡ false → state_after j (suc k) ≡ state_after j k
    state_stays e = drops_state ∙ dropping_stays j p.0 (state_after j k) e

    pub drops_none : (state_after j k).begun its_place.operation.0 ≡ false → dropped j (suc k) ≡ 0
    unfolding dropped_next
    drops_none e = drops_next ∙ pick_else _ _ e

    -- it has: the process stands before its next
    pub state_drops : (state_after j k).begun its_place.operation.0 ≡ true → state_after j (suc k) ≡ record { memory = (state_after j k).memory; places = upd (state_after j k).places p.0 (before j (operation_after j p.0 its_place.operation.0)); begun = (state_after j k).begun }
    state_drops e = drops_state ∙ dropping_drops j p.0 (state_after j k) e

    pub drops_one : (state_after j k).begun its_place.operation.0 ≡ true → dropped j (suc k) ≡ its_place.operation.0
    unfolding dropped_next
    drops_one e = drops_next ∙ pick_then _ _ e
