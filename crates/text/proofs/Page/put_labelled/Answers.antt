-- `text::Page::put_labelled` meets its contract. Assumes nothing.
use Rattle.text.proofs.Pages.{room_then, wrote_then}
use Rattle.text.proofs.Page.put_labelled.Goals as goal

pub put_decimal-requires : goal.put_decimal-requires
put_decimal-requires c = search room_then

pub returns : goal.returns
returns c = search wrote_then
