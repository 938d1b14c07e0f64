-- "An empty second input means no block, and nothing is shut": such a job is the job itself. Assumes nothing.
use mathlib.Core.Path.{◌≡◌, refl, ap, fun_ext}
use Prim.Native.Nat.{ℕ}
use mathlib.Core.Bool.{Bool, true, false, not, ◌&&◌}
use mathlib.Core.List.{List, []}
use Rattle.basics.specs.Choice.{same}
use Rattle.basics.proofs.Choice.{pick_else}
use Rattle.job.specs.Job.{Job}
use Rattle.job.specs.Slot.{process_of}
use Rattle.job.specs.Refusals.{outside}
use Rattle.job.specs.Idle.{idle_at, idle_slot}
use Rattle.windows.specs.Refused.{no_block}
use Rattle.hours.specs.Open.{is_open}
use Rattle.hours.specs.Windowed.{is_shut, windowed}

-- a job in which no step is idle
idle_nowhere : (idle : ℕ → Bool) (j : Job) → ((k : ℕ) → idle k ≡ false) → idle_at idle j ≡ j
unfolding idle_at
idle_nowhere idle j none =
    let slots : (λ (k : ℕ). (idle_at idle j).slot k) ≡ j.slot = fun_ext (λ k. pick_else idle_slot (j.slot k) (none k)) in
    λ i.
    record {
      object = j.object;
      count = j.count;
      owner = j.owner;
      is_put = j.is_put;
      field = j.field;
      steps = j.steps;
      slot = slots i;
    }

-- without a block no step is shut
never_shut : (b : List ℕ) (j : Job) → no_block b ≡ true → (k : ℕ) → is_shut b j k ≡ false
unfolding is_shut
never_shut b j none k =
    ap (λ (empty : Bool). not empty && not (outside 1 j.steps k) && not (is_open b (process_of (j.slot k)) k)) none

pub without_block : (b : List ℕ) (j : Job) → no_block b ≡ true → windowed b j ≡ j
unfolding windowed
without_block b j none = idle_nowhere (is_shut b j) j (never_shut b j none)

pub nothing_shut : (j : Job) → windowed [] j ≡ j
unfolding no_block same
nothing_shut j = without_block [] j refl
