-- `access::yes_if_same` meets its contract: the test chooses as the definition does. Assumes nothing.
use Rattle.basics.specs.Choice.{pick}
use Rattle.basics.proofs.Choice.{equal_same, unequal_same}
use Rattle.machine.specs.Memory.{yes_if}
use Rattle.access.proofs.yes_if_same.Goals as goal

pub returns-then-a-b : goal.returns-then-a-b
unfolding yes_if pick
returns-then-a-b c = rw (equal_same c.if-a-b.true)

pub returns : goal.returns
unfolding yes_if pick
returns c = rw (unequal_same c.if-a-b.false)
