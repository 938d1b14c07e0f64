-- `idling::shut_steps` meets its contract: the loop's invariant is `Turning`; the measure is how many steps are left. Assumes nothing.
use mathlib.Core.Path.{refl, ap, ◌∙◌}
use native.Mathlib.Omega.{arith}
use Prim.Native.Nat.{ℕ, ◌<◌}
use mathlib.Core.Bool.{false}
use lib.ListN.{get_or}
use Rattle.job.specs.Limits.{field}
use Rattle.job.specs.Stream.{operations, schedule_length}
use Rattle.job.specs.Slot.{slot_of, process_of}
use Rattle.idling.specs.Entries.{entry_kept}
use Rattle.job.proofs.Ready.{header_there}
use Rattle.idling.proofs.Part.{part_each, rewritten_part}
use Rattle.idling.proofs.Turns.{turning_start, turning_fits, turning_on, turning_named, turning_next}
use Rattle.idling.proofs.shut_steps.Goals as goal

pub overflow_add-first : goal.overflow_add-first
overflow_add-first c = omega (arith, c.schedule_at-first.ensures, c.operations.ensures, ap operations c.over-stream.ensures, c.requires.2.rows)

pub loop-done-init : goal.loop-done-init
loop-done-init c = turning_start _ _ _ c.schedule_at-first.ensures
    (c.operations.ensures ∙ ap operations c.over-stream.ensures) refl
    (c.from-steps.ensures ∙ c.schedule_length.ensures ∙ ap schedule_length c.over-stream.ensures)

pub slice_bounds-shut_stretch-end : goal.slice_bounds-shut_stretch-end
slice_bounds-shut_stretch-end c = omega (arith, turning_fits _ _ _ c.loop-done.invariant c.requires.2, c.min-last.ensures)

pub shut_stretch-requires : goal.shut_stretch-requires
shut_stretch-requires c =
    let inv = c.loop-done.invariant in
    let pre = c.requires in
    let more = c.loop-done-test.true in
    let min = c.min-last.ensures in
    part_each (λ (n : ℕ). process_of (slot_of n) < field.processes) c.loop-done.s (omega (arith, turning_on _ _ _ inv more {last = c.min-last.result} (λ h. omega (arith, min)))) (omega (arith, turning_fits _ _ _ inv pre.2, min)) (turning_named _ _ _ inv more pre.3 (omega (arith, min)))

pub loop-done-preserved : goal.loop-done-preserved
loop-done-preserved c =
    let inv = c.loop-done.invariant in
    let pre = c.requires in
    let more = c.loop-done-test.true in
    let min = c.min-last.ensures in
    turning_next _ _ _ inv more pre.3 (omega (arith, min)) c.allowed_at-allowed.ensures (omega (arith, min)) (λ h. omega (arith, min))
    (rewritten_part (entry_kept (λ (p : ℕ). get_or c.allowed_at-allowed.result p false)) c.loop-done.s (omega (arith, turning_on _ _ _ inv more {last = c.min-last.result} (λ h. omega (arith, min)))) (omega (arith, turning_fits _ _ _ inv pre.2, min)) c.shut_stretch.ensures)

pub over-stream-requires : goal.over-stream-requires
over-stream-requires c = header_there c.requires.2
