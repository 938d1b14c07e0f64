-- `lines::put_at` meets its contract. Assumes nothing.
use Rattle.basics.specs.Text.{text}
use Rattle.basics.specs.Text.{decimal}
use mathlib.Core.List.{◌++◌}
use Rattle.text.proofs.Pages.{room_first, room_then, wrote_then}
use Rattle.lines.specs.Lines.{at_text}
use Rattle.lines.proofs.put_at.Goals as goal

pub put_labelled-requires : goal.put_labelled-requires
unfolding text at_text
put_labelled-requires c = room_first (c.args.label.now ++ decimal c.args.o.0) c.requires

pub put_labelled-requires-2 : goal.put_labelled-requires-2
unfolding text at_text
put_labelled-requires-2 c = room_then c.requires c.put_labelled.ensures

pub returns : goal.returns
unfolding text at_text
returns c = wrote_then c.put_labelled.ensures c.put_labelled-2.ensures
