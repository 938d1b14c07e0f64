-- `journal::is_waiting` meets its contract. Assumes nothing.
use mathlib.Core.Path.{ap}
use Rattle.basics.specs.Choice.{same}
use Rattle.journal.proofs.is_waiting.Goals as goal

pub returns : goal.returns
unfolding same
returns c = ap (λ x. same x 0) c.cell.ensures
