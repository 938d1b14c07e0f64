-- `report::uppermost` meets its contract. Assumes nothing.
use Rattle.report.proofs.Climb.{climbing_none, at_top, at_last, climbing_more}
use Rattle.std.proofs.Common.{rules}
use Rattle.report.proofs.uppermost.Goals as goal

pub loop-climbed-init : goal.loop-climbed-init
loop-climbed-init c = climbing_none (search rules)

pub returns-then-upper-eq0 : goal.returns-then-upper-eq0
returns-then-upper-eq0 c = at_top c.loop-climbed.invariant (search rules)

pub loop-climbed-preserved : goal.loop-climbed-preserved
loop-climbed-preserved c = climbing_more c.loop-climbed.invariant (search rules) (search rules) (search rules)

pub returns : goal.returns
returns c = at_last c.loop-climbed.invariant (search rules)
