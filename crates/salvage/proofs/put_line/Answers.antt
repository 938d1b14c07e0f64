-- `salvage::put_line` meets its contract. Assumes nothing.
use Rattle.basics.specs.Text.{text, decimal}
use Rattle.std.proofs.Common.{◌++◌}
use Rattle.text.proofs.Pages.{room_first, room_then, wrote_then}
use Rattle.remains.specs.Line.{kept_line}
use Rattle.salvage.proofs.put_line.Goals as goal

pub put_labelled-requires : goal.put_labelled-requires
unfolding text kept_line
put_labelled-requires c = room_first (text " of " ++ decimal c.args.named) (room_first (text " entries\n") c.requires)

pub put_labelled-requires-2 : goal.put_labelled-requires-2
unfolding text kept_line
put_labelled-requires-2 c = room_then (room_first (text " entries\n") c.requires) c.put_labelled.ensures

pub put_bytes-requires : goal.put_bytes-requires
unfolding text kept_line
put_bytes-requires c = room_then c.requires (wrote_then c.put_labelled.ensures c.put_labelled-2.ensures)

pub returns : goal.returns
unfolding text kept_line
returns c = wrote_then (wrote_then c.put_labelled.ensures c.put_labelled-2.ensures) c.put_bytes.ensures
