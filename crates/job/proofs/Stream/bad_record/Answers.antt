-- `job::Stream::bad_record` meets its contract where the record is of a put. Assumes nothing.
use Rattle.std.proofs.Common.{Some, sym, ap, ◌∙◌}
use Rattle.job.proofs.Recorded.{owner_said}
use Rattle.job.proofs.Tests.{put_passes}
use Rattle.job.proofs.Stream.bad_record.Goals as goal

pub returns-in-Some-Put : goal.returns-in-Some-Put
returns-in-Some-Put c =
    put_passes _ _ (c.owner.ensures ∙ owner_said _ c.requires.1.one) c.processes.ensures c.if-owner-processes.false
    (ap Some (sym c.in-Some-Put.field-0-is) ∙ c.in-Some-Put.ensures)
