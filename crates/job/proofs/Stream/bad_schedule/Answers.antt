-- `job::Stream::bad_schedule` meets its contract: what was found so far and the entries that are left decide. Assumes nothing.
use Rattle.std.proofs.Common.{◌+◌, ◌-◌, length, get_or, take, drop, not, ◌||◌, ap, ◌∙◌, arith, length-take-le, length-drop}
use Rattle.basics.specs.Choice.{less}
use Rattle.job.specs.Stream.{schedule_length, stream_length}
use Rattle.job.specs.Slot.{slot_of, process_of}
use Rattle.job.specs.Refusals.{bad_entry, bad_schedule}
use Rattle.job.proofs.Conditions.{any_joins, any_joined}
use Rattle.job.proofs.Tests.{any_from_one, entry_byte}
use Rattle.job.proofs.Stream.bad_schedule.Goals as goal

pub loop-entry-init : goal.loop-entry-init
unfolding bad_schedule
loop-entry-init c = any_from_one (bad_entry _) (schedule_length c.args.self.now)

pub loop-entry-preserved : goal.loop-entry-preserved
unfolding bad_entry stream_length
loop-entry-preserved c = let s = c.args.self.now in
    let bytes = c.self.inside.bytes.now in
    let start = c.schedule_at-start.result + 1 in
    let stop = start + c.from.result - start in
    let size = length-take-le stop (drop start bytes) (omega (arith, length-drop start bytes, ap length c.self.view_is, c.requires, c.schedule_at-start.ensures, c.operations.ensures, c.schedule_length.ensures, c.from.ensures)) in
    let own = ap (λ l. get_or (take stop (drop start l)) c.loop-entry.entry-index 0) c.self.view_is ∙ entry_byte s c.loop-entry.entry-index {start = start} {n = c.operations.result} {m = stop} (omega arith) (omega (arith, c.schedule_at-start.ensures)) c.operations.ensures in
    any_joins (bad_entry s) c.loop-entry.bad _ (omega (arith, c.schedule_length.ensures, c.from.ensures))
    (ap (λ b. c.loop-entry.bad || b) (c.bad_entry-bad.ensures ∙ (λ i. not (less (process_of (slot_of (own i))) (c.processes-processes.ensures i)))))
    ∙ c.loop-entry.invariant

pub returns : goal.returns
unfolding stream_length
returns c = let bytes = c.self.inside.bytes.now in
    let start = c.schedule_at-start.result + 1 in
    let size = length-take-le (start + c.from.result - start) (drop start bytes) (omega (arith, length-drop start bytes, ap length c.self.view_is, c.requires, c.schedule_at-start.ensures, c.operations.ensures, c.schedule_length.ensures, c.from.ensures)) in
    any_joined (bad_entry c.args.self.now) c.loop-entry.bad (omega (arith, c.schedule_length.ensures, c.from.ensures)) ∙ c.loop-entry.invariant
