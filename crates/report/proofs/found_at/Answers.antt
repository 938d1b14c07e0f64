-- `report::found_at` meets its contract. Assumes nothing.
use mathlib.Core.Path.{◌∙◌}
use Rattle.rows.specs.Operations.{cells}
use Rattle.report.proofs.Found.{found_idle, found_put, found_takers, found_open, found_dropped, found_empty}
use Rattle.std.proofs.Common.{rules}
use Rattle.report.proofs.found_at.Goals as goal

pub returns-then-o-eq0 : goal.returns-then-o-eq0
returns-then-o-eq0 c = found_idle _ _ _ c.if-o-eq0.true

pub returns-then-link-ne0 : goal.returns-then-link-ne0
returns-then-link-ne0 c = c.here.ensures ∙ found_put _ _ _ c.if-o-eq0.false c.cell-link.ensures c.if-link-ne0.true

pub returns-then-item-ne0 : goal.returns-then-item-ne0
returns-then-item-ne0 c = c.here-then-item-ne0.ensures ∙ found_takers _ _ _ c.if-o-eq0.false c.cell-link.ensures c.if-link-ne0.false c.cell-item.ensures c.if-item-ne0.true c.cell-stands.ensures

pub returns-in-0 : goal.returns-in-0
returns-in-0 c = found_open _ _ _ c.if-o-eq0.false c.cell-link.ensures c.if-link-ne0.false c.cell-item.ensures c.if-item-ne0.false c.cell.ensures c.in-0.is

pub returns-in-65535 : goal.returns-in-65535
returns-in-65535 c = found_dropped _ _ _ c.if-o-eq0.false c.cell-link.ensures c.if-link-ne0.false c.cell-item.ensures c.if-item-ne0.false c.cell.ensures (search rules) c.in-65535.is

pub returns-in_default : goal.returns-in_default
returns-in_default c = c.here-in_default.ensures ∙ found_empty (cells c.args.ops.now) _ _ c.if-o-eq0.false c.cell-link.ensures c.if-link-ne0.false c.cell-item.ensures c.if-item-ne0.false c.cell.ensures (search rules) (search rules) c.cell-in_default.ensures
