-- A drop in the run's loop: what the code holds after k steps, with the drop, is what it holds after k + 1. Assumes nothing.
use mathlib.Core.Path.{◌≡◌, sym, ap, subst, ◌∙◌}
use Prim.Native.Nat.{ℕ, suc, ◌≤◌, ◌<◌}
use native.Mathlib.Omega.{arith}
use mathlib.Core.Bool.{Bool, true, false, not}
use mathlib.Core.List.{List}
use lib.ListN.{set}
use Rattle.basics.specs.Choice.{same}
use Rattle.basics.specs.Maps.{upd}
use Rattle.rows.specs.Operations.{Cells, cells, stored, dropped_mark}
use Rattle.rows.specs.declared.OpColumn.TheVariants.{First, Last}
use Rattle.job.specs.declared.Process.{Process}
use Rattle.job.specs.declared.Slot.TheVariants.{Drops}
use Rattle.job.specs.Job.{Job}
use Rattle.machine.specs.declared.Object.{Object}
use Rattle.machine.specs.declared.Place.{Place}
use Rattle.machine.specs.Run.{State, before, operation_after, state_after}
use Rattle.machine.proofs.Bounds.{within}
use Rattle.machine.proofs.Slots.{its_place, note_drops, state_stays, drops_none, state_drops, drops_one}
use Rattle.theory.proofs.Operations.{passes}
use Rattle.theory.proofs.Operations.Locals.{memory}
use Rattle.theory.proofs.Operations.Hands.{Idling}
use Rattle.theory.proofs.Operations.Drops.{begun_first}
use Rattle.journal.specs.Journal.{Agrees, Holds}
use Rattle.journal.proofs.Whole.{holds_drops}
use Rattle.run.specs.Promise.{run_places, InPlace, Ran}
use Rattle.run.proofs.Turned.{places_set}

-- rows that say the same hold the same journal
pub holds_same : {j : Job} {k : ℕ} {ops ops' by : List ℕ} → cells ops' ≡ cells ops → Holds j k ops by → Holds j k ops' by
holds_same {j} {k} e h = record { agrees = subst (Agrees j k) (sym e) h.agrees; by_at = h.by_at; by_later = h.by_later; rounds = ap (λ (c : Cells). c First 0) e ∙ h.rounds }

-- process p is to drop
module _ (j : Job) (k : ℕ) (p : Process) (named : j.slot (suc k) ≡ Drops p) where
  abbrev held : ℕ
  held = (its_place j k p).operation.0

  module _ {object : Object} {nodes ops by : List ℕ} (to_count : held ≤ j.count) (r : Ran j k object nodes ops by) where
    -- an operation has begun exactly if its row has a first step
    begun_is : {waits : Bool} → same (cells ops First held) 0 ≡ waits → (state_after j k).begun held ≡ not waits
    begun_is e =
        let from_one : 1 ≤ held = ((within j k).place p.0).from_one in
        begun_first j k held (λ z. omega arith)
        ∙ ap (λ x. not (same x 0)) (sym (r.journal.agrees First held (record { from_one = from_one; to_count = to_count })))
        ∙ ap not e

    -- with none begun nothing happens
    pub waits_idle : same (cells ops First held) 0 ≡ true → Idling j k
    waits_idle e = record { state = state_stays j k p named (begun_is e); said = note_drops j k p named; drops_none = drops_none j k p named (begun_is e) }

    -- one that has begun is dropped
    module _ (begun : same (cells ops First held) 0 ≡ false) where
      pub ran_drops : {ops' : List ℕ} → cells ops' ≡ stored Last held dropped_mark (cells ops) → Ran j (suc k) object nodes ops' by
      unfolding memory
      ran_drops e =
          let state_is = state_drops j k p named (begun_is begun) in
          record {
            memory = r.memory ∙ ap (λ (s : State). s.memory) (sym state_is);
            journal =
                holds_drops j k held (passes j k (ap (λ (s : State). s.memory) state_is) (note_drops j k p named))
                (drops_one j k p named (begun_is begun)) r.journal e;
          }

      pub places_drop : (places : List Place) (after : Place) → p.0 < run_places → InPlace j k places → after ≡ before j (operation_after j p.0 held) → InPlace j (suc k) (set places p.0 after)
      places_drop places after in_range l e =
          places_set j k places p.0 after in_range l
          (ap (λ (s : State). s.places) (state_drops j k p named (begun_is begun)) ∙ ap (upd (state_after j k).places p.0) (sym e))
