-- `lines::single_line` meets its contract. Assumes nothing.
use Rattle.text.proofs.Pages.{room_then, wrote_then}
use Rattle.lines.proofs.single_line.Goals as goal

pub end_line-requires : goal.end_line-requires
end_line-requires c = search room_then

pub returns : goal.returns
returns c = search wrote_then
