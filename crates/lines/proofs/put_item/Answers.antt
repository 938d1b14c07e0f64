-- `lines::put_item` meets its contract. Assumes nothing.
use mathlib.Core.Path.{refl}
use Rattle.basics.specs.Text.{text}
use Rattle.job.specs.Job.{job_of}
use Rattle.text.proofs.Pages.{room_front, room_rest, wrote_both}
use Rattle.lines.proofs.Pieces.{item_and_value}
use Rattle.lines.proofs.put_item.Goals as goal

pub put_labelled-requires : goal.put_labelled-requires
unfolding text
put_labelled-requires c = room_front _ (item_and_value (job_of c.args.stream.now) c.args.item.0 refl) c.requires.1

pub put_stage-requires : goal.put_stage-requires
unfolding text
put_stage-requires c = room_rest (item_and_value (job_of c.args.stream.now) c.args.item.0 c.value.ensures) c.requires.1 c.put_labelled.ensures

pub returns : goal.returns
unfolding text
returns c = wrote_both (item_and_value (job_of c.args.stream.now) c.args.item.0 c.value.ensures) c.put_labelled.ensures c.put_stage.ensures
