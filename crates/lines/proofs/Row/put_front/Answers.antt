-- `lines::Row::put_front` meets its contract. Assumes nothing.
use mathlib.Core.Path.{refl}
use Rattle.basics.specs.Text.{text}
use Rattle.job.specs.Job.{job_of}
use Rattle.text.proofs.Pages.{room_first, room_front, room_then, room_rest, wrote_both, wrote_then}
use Rattle.lines.proofs.Pieces.{front_pieces}
use Rattle.lines.proofs.Row.put_front.Goals as goal

pub put_labelled-requires : goal.put_labelled-requires
unfolding text
put_labelled-requires c = room_first _ (room_front _ (front_pieces (job_of c.args.self.now.stream.now) c.args.self.now.o.0 refl) c.requires)

pub put_labelled-requires-2 : goal.put_labelled-requires-2
unfolding text
put_labelled-requires-2 c = room_then (room_front _ (front_pieces (job_of c.args.self.now.stream.now) c.args.self.now.o.0 c.owner-p.ensures) c.requires) c.put_labelled.ensures

pub put_action-requires : goal.put_action-requires
unfolding text
put_action-requires c = room_rest (front_pieces (job_of c.args.self.now.stream.now) c.args.self.now.o.0 c.owner-p.ensures) c.requires (wrote_then c.put_labelled.ensures c.put_labelled-2.ensures)

pub returns : goal.returns
unfolding text
returns c = wrote_both (front_pieces (job_of c.args.self.now.stream.now) c.args.self.now.o.0 c.owner-p.ensures) (wrote_then c.put_labelled.ensures c.put_labelled-2.ensures) c.put_action.ensures
