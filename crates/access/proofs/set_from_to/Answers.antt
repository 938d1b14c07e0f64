-- `access::set_from_to` meets its contract: the test chooses as the definition does. Assumes nothing.
use Rattle.basics.specs.Choice.{pick}
use Rattle.basics.proofs.Choice.{equal_same, unequal_same}
use Rattle.machine.specs.Memory.{set_from_to}
use Rattle.access.proofs.set_from_to.Goals as goal
use Rattle.access.proofs.set_from_to.Goals.{then-held-b, else-held-b}

pub returns : goal.returns
unfolding set_from_to pick
returns c = (
  elim c.if-held-b.branch [
    | then-held-b w ↦ rw (w.a-is, equal_same w.if-held-b.true)
    | else-held-b w ↦ rw (w.a-is, unequal_same w.if-held-b.false)
  ],
  c.yes_if_same.ensures,
)
