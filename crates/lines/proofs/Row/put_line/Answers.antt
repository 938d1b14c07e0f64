-- `lines::Row::put_line` meets its contract. Assumes nothing.
use Rattle.text.proofs.Pages.{room_first, room_then, wrote_then}
use Rattle.basics.specs.Text.{text}
use Rattle.lines.specs.Rows.{progress_of}
use Rattle.lines.specs.Told.{line_told}
use Rattle.lines.proofs.Row.put_line.Goals as goal

pub put_front-requires : goal.put_front-requires
unfolding line_told
put_front-requires c = room_first (progress_of c.args.self.now) (room_first (text "\n") c.requires)

pub put_progress-requires : goal.put_progress-requires
unfolding line_told
put_progress-requires c = room_then (room_first (text "\n") c.requires) c.put_front.ensures

pub end_line-requires : goal.end_line-requires
unfolding line_told
end_line-requires c = room_then c.requires (wrote_then c.put_front.ensures c.put_progress.ensures)

pub returns : goal.returns
unfolding line_told
returns c = wrote_then (wrote_then c.put_front.ensures c.put_progress.ensures) c.end_line.ensures
