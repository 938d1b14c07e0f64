-- `salvage::tell` meets its contract: the line has room, and what is shown of the page is the line. Assumes nothing.
use Rattle.std.proofs.Common.{arith, length, ap, ◌∙◌}
use Rattle.text.proofs.Pages.{within}
use Rattle.salvage.proofs.Line.{line_length, written_front, told}
use Rattle.salvage.proofs.tell.Goals as goal

pub put_line-requires : goal.put_line-requires
put_line-requires g c =
    record { room = omega (arith, c.new-page.ensures.start, ap length c.new-page.ensures.blank, line_length c.args.kept c.args.named (omega arith) (omega arith)) }

pub written-said-requires : goal.written-said-requires
written-said-requires g c = within c.put_line.ensures

pub returns : goal.returns
returns g c = told c.show.result _ _ (c.written-said.ensures ∙ written_front c.new-page.ensures c.put_line.ensures) c.show.ensures.whole
