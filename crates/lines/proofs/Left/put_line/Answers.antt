-- `lines::Left::put_line` meets its contract. Assumes nothing.
use Rattle.basics.specs.Text.{text}
use Rattle.text.proofs.Pages.{room_first, room_then, room_of, room_rest, wrote_then, wrote_both}
use Rattle.lines.proofs.Pieces.{left_pieces}
use Rattle.lines.proofs.Left.put_line.Goals as goal

pub put_labelled-requires : goal.put_labelled-requires
unfolding text
put_labelled-requires c = room_first _ (room_first _ (room_of (left_pieces _ c.len.ensures) c.requires))

pub put_items-requires : goal.put_items-requires
unfolding text
put_items-requires c = room_then (room_first _ (room_of (left_pieces _ c.len.ensures) c.requires)) c.put_labelled.ensures

pub end_line-requires : goal.end_line-requires
unfolding text
end_line-requires c = room_rest (left_pieces _ c.len.ensures) c.requires (wrote_then c.put_labelled.ensures c.put_items.ensures)

pub returns : goal.returns
unfolding text
returns c = wrote_both (left_pieces _ c.len.ensures) (wrote_then c.put_labelled.ensures c.put_items.ensures) c.end_line.ensures
