-- `report::here` meets its contract. Assumes nothing.
use Rattle.report.proofs.Found.{is_here, not_here}
use Rattle.report.proofs.here.Goals as goal

pub returns-then-own-s : goal.returns-then-own-s
returns-then-own-s c = is_here _ c.if-own-s.true

pub returns-else-own-s : goal.returns-else-own-s
returns-else-own-s c = not_here c.args.found c.if-own-s.false
