-- `lines::Row::put_progress` meets its contract. Assumes nothing.
use Rattle.basics.specs.Text.{text}
use Rattle.job.specs.Job.{job_of}
use Rattle.text.proofs.Pages.{room_of, room_front, room_rest, wrote_as, wrote_both}
use Rattle.lines.proofs.Pieces.{not_begun, begun}
use Rattle.std.proofs.Common.{rules}
use native.Mathlib.Omega.{arith}
use Rattle.lines.proofs.Row.put_progress.Goals as goal

pub put_bytes-requires : goal.put_bytes-requires
unfolding text
put_bytes-requires c = room_of (not_begun (job_of c.args.self.now.stream.now) c.args.self.now.ops.now c.args.self.now.o.0 (omega arith)) c.requires

pub put_labelled-requires : goal.put_labelled-requires
unfolding text
put_labelled-requires c = room_front _ (begun (job_of c.args.self.now.stream.now) c.args.self.now.ops.now c.args.self.now.o.0 c.cell.ensures (search rules)) c.requires

pub put_end-requires : goal.put_end-requires
unfolding text
put_end-requires c = room_rest (begun (job_of c.args.self.now.stream.now) c.args.self.now.ops.now c.args.self.now.o.0 c.cell.ensures (search rules)) c.requires c.put_labelled.ensures

pub returns-in-0 : goal.returns-in-0
unfolding text
returns-in-0 c = wrote_as (not_begun (job_of c.args.self.now.stream.now) c.args.self.now.ops.now c.args.self.now.o.0 (omega arith)) c.put_bytes.ensures

pub returns-in_default : goal.returns-in_default
unfolding text
returns-in_default c = wrote_both (begun (job_of c.args.self.now.stream.now) c.args.self.now.ops.now c.args.self.now.o.0 c.cell.ensures (search rules)) c.put_labelled.ensures c.put_end.ensures
