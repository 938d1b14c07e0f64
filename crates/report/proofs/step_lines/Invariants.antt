-- `report::step_lines` meets its contract. The loop's invariant: the lines of the steps before the next are written. Assumes nothing.
use Rattle.basics.specs.Maps as Maps
use Rattle.rows.specs.Operations.{cells}
use Rattle.text.proofs.Each.{Written}
use Rattle.report.proofs.Found.{step_text}
use Rattle.report.proofs.step_lines.Given as goal

abbrev pub invariant-loop-before : goal.invariant-loop-before
invariant-loop-before l = Written (step_text (cells l.ops) (Maps.at l.by) l.takers.count) l.before-end l.before l.initial.page l.page
