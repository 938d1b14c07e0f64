-- `lines::Row::put_answer` meets its contract. Assumes nothing.
use mathlib.Core.Path.{sym, subst}
use Rattle.basics.specs.Text.{text}
use Rattle.job.specs.Job.{job_of}
use Rattle.job.specs.Stream.{HasRecord}
use Rattle.text.proofs.Pages.{room_of, wrote_as}
use Rattle.lines.proofs.Pieces.{answer_of_link, answer_of_empty, answer_of_item}
use Rattle.std.proofs.Common.{rules}
use native.Mathlib.Omega.{arith}
use Rattle.lines.proofs.Row.put_answer.Goals as goal

pub put_bytes-requires : goal.put_bytes-requires
unfolding text
put_bytes-requires c = room_of (answer_of_link (job_of c.args.self.now.stream.now) c.args.self.now.ops.now c.args.self.now.o.0 c.cell.ensures (search rules)) c.requires

pub returns-then-cell-ne0 : goal.returns-then-cell-ne0
unfolding text
returns-then-cell-ne0 c = wrote_as (answer_of_link (job_of c.args.self.now.stream.now) c.args.self.now.ops.now c.args.self.now.o.0 c.cell.ensures (search rules)) c.put_bytes.ensures

pub put_bytes-requires-in-0 : goal.put_bytes-requires-in-0
unfolding text
put_bytes-requires-in-0 c = room_of (answer_of_empty (job_of c.args.self.now.stream.now) c.args.self.now.ops.now c.args.self.now.o.0 (omega arith) (omega arith)) c.requires

pub put_item-requires : goal.put_item-requires
unfolding text
put_item-requires c = (subst (HasRecord _) (sym c.cell-2.ensures) c.args.self.now.in_stream.item_record, room_of (answer_of_item (job_of c.args.self.now.stream.now) c.args.self.now.ops.now c.args.self.now.o.0 (omega arith) c.cell-2.ensures (search rules)) c.requires)

pub returns-in-0 : goal.returns-in-0
unfolding text
returns-in-0 c = wrote_as (answer_of_empty (job_of c.args.self.now.stream.now) c.args.self.now.ops.now c.args.self.now.o.0 (omega arith) (omega arith)) c.put_bytes-in-0.ensures

pub returns-in_default : goal.returns-in_default
unfolding text
returns-in_default c = wrote_as (answer_of_item (job_of c.args.self.now.stream.now) c.args.self.now.ops.now c.args.self.now.o.0 (omega arith) c.cell-2.ensures (search rules)) c.put_item.ensures
