-- `lines::Row::put_end` meets its contract. Assumes nothing.
use Rattle.basics.specs.Text.{text}
use Rattle.job.specs.Job.{job_of}
use Rattle.rows.specs.Operations.{cells}
use Rattle.text.proofs.Pages.{room_of, room_front, room_rest, wrote_as, wrote_both}
use Rattle.lines.proofs.Pieces.{end_of_open, end_of_dropped, end_of_ended}
use Rattle.std.proofs.Common.{rules}
use native.Mathlib.Omega.{arith}
use Rattle.lines.proofs.Row.put_end.Goals as goal

pub put_bytes-requires : goal.put_bytes-requires
unfolding text
put_bytes-requires c = room_of (end_of_open (job_of c.args.self.now.stream.now) (cells c.args.self.now.ops.now) c.args.self.now.o.0 (omega arith)) c.requires

pub put_bytes-requires-in-65535 : goal.put_bytes-requires-in-65535
unfolding text
put_bytes-requires-in-65535 c = room_of (end_of_dropped (job_of c.args.self.now.stream.now) (cells c.args.self.now.ops.now) c.args.self.now.o.0 (omega arith)) c.requires

pub put_labelled-requires : goal.put_labelled-requires
unfolding text
put_labelled-requires c = room_front _ (end_of_ended (job_of c.args.self.now.stream.now) (cells c.args.self.now.ops.now) c.args.self.now.o.0 c.cell.ensures (search rules) (search rules)) c.requires

pub put_answer-requires : goal.put_answer-requires
unfolding text
put_answer-requires c = room_rest (end_of_ended (job_of c.args.self.now.stream.now) (cells c.args.self.now.ops.now) c.args.self.now.o.0 c.cell.ensures (search rules) (search rules)) c.requires c.put_labelled.ensures

pub returns-in-0 : goal.returns-in-0
unfolding text
returns-in-0 c = wrote_as (end_of_open (job_of c.args.self.now.stream.now) (cells c.args.self.now.ops.now) c.args.self.now.o.0 (omega arith)) c.put_bytes.ensures

pub returns-in-65535 : goal.returns-in-65535
unfolding text
returns-in-65535 c = wrote_as (end_of_dropped (job_of c.args.self.now.stream.now) (cells c.args.self.now.ops.now) c.args.self.now.o.0 (omega arith)) c.put_bytes-in-65535.ensures

pub returns-in_default : goal.returns-in_default
unfolding text
returns-in_default c = wrote_both (end_of_ended (job_of c.args.self.now.stream.now) (cells c.args.self.now.ops.now) c.args.self.now.o.0 c.cell.ensures (search rules) (search rules)) c.put_labelled.ensures c.put_answer.ensures
