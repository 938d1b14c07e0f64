-- `report::uppermost` meets its contract. The loop's invariant: from node `i` on the climb ends where the whole one does. Assumes nothing.
use Rattle.report.proofs.Climb.{Climbing}
use Rattle.report.proofs.uppermost.Given as goal

abbrev pub invariant-loop-climbed : goal.invariant-loop-climbed
invariant-loop-climbed l = Climbing l.nodes l.count l.i l._climbed
