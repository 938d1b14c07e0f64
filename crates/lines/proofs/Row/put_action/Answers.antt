-- `lines::Row::put_action` meets its contract. Assumes nothing.
use Rattle.basics.specs.Text.{text}
use Rattle.job.specs.Job.{job_of}
use Rattle.text.proofs.Pages.{room_of, wrote_as}
use Rattle.lines.proofs.Pieces.{action_of_put, action_of_take}
use Rattle.lines.proofs.Row.put_action.Goals as goal

pub put_stage-requires : goal.put_stage-requires
unfolding text
put_stage-requires c = room_of (action_of_put (job_of c.args.self.now.stream.now) c.args.self.now.o.0 c.is_put.ensures c.if-is_put.true c.value.ensures) c.requires

pub put_bytes-requires : goal.put_bytes-requires
unfolding text
put_bytes-requires c = room_of (action_of_take (job_of c.args.self.now.stream.now) c.args.self.now.o.0 c.is_put.ensures c.if-is_put.false) c.requires

pub returns-then-is_put : goal.returns-then-is_put
unfolding text
returns-then-is_put c = wrote_as (action_of_put (job_of c.args.self.now.stream.now) c.args.self.now.o.0 c.is_put.ensures c.if-is_put.true c.value.ensures) c.put_stage.ensures

pub returns-else-is_put : goal.returns-else-is_put
unfolding text
returns-else-is_put c = wrote_as (action_of_take (job_of c.args.self.now.stream.now) c.args.self.now.o.0 c.is_put.ensures c.if-is_put.false) c.put_bytes.ensures
