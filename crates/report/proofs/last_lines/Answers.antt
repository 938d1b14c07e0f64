-- `report::last_lines` meets its contract. Assumes nothing.
use Rattle.text.specs.Pages.{Wrote}
use Rattle.wording.specs.Report.{lost_line}
use Rattle.text.proofs.Pages.{room_then, wrote_then}
use Rattle.report.proofs.last_lines.Goals as goal

pub put_line-requires : goal.put_line-requires
put_line-requires c =
    let wrote : Wrote c.args.page.now c.lost_line.new.page (lost_line c.args.object c.args.lost) = c.lost_line.ensures in
    room_then c.requires wrote

pub returns : goal.returns
returns c = wrote_then c.lost_line.ensures c.put_line.ensures
