-- `lines::Takers::take_line` meets its contract. Assumes nothing.
use Rattle.basics.specs.Text.{text}
use Rattle.text.proofs.Pages.{room_first, room_then, wrote_then}
use Rattle.wording.specs.Report.{spaced}
use Rattle.lines.specs.Walks.{takers_in}
use Rattle.lines.specs.Lines.{take_text}
use Rattle.lines.proofs.Takers.take_line.Goals as goal

pub put_at-requires : goal.put_at-requires
unfolding text take_text
put_at-requires c = room_first (text " by") (room_first (spaced (takers_in c.args.self.now c.args.item.0)) (room_first (text "\n") c.requires.1))

pub put_bytes-requires : goal.put_bytes-requires
unfolding text take_text
put_bytes-requires c = room_then (room_first (spaced (takers_in c.args.self.now c.args.item.0)) (room_first (text "\n") c.requires.1)) c.put_at.ensures

pub put_takers-requires : goal.put_takers-requires
unfolding text take_text
put_takers-requires c = (c.requires.0, room_then (room_first (text "\n") c.requires.1) (wrote_then c.put_at.ensures c.put_bytes.ensures))

pub end_line-requires : goal.end_line-requires
unfolding text take_text
end_line-requires c = room_then c.requires.1 (wrote_then (wrote_then c.put_at.ensures c.put_bytes.ensures) c.put_takers.ensures)

pub returns : goal.returns
unfolding text take_text
returns c = wrote_then (wrote_then (wrote_then c.put_at.ensures c.put_bytes.ensures) c.put_takers.ensures) c.end_line.ensures
