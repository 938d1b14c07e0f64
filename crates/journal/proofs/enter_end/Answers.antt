-- `journal::enter_end` meets its contract: the cell is stored to exactly if the operation ended. Assumes nothing.
use Rattle.basics.specs.Choice.{pick}
use Rattle.journal.specs.Stored.{closed}
use Rattle.journal.proofs.Stores.{last_kept}
use Rattle.journal.proofs.enter_end.Goals as goal

pub returns-then-ends : goal.returns-then-ends
unfolding closed pick
returns-then-ends c = rw c.if-ends.true c.store.ensures.columns

pub returns-else-ends : goal.returns-else-ends
unfolding closed pick
returns-else-ends c = rw c.if-ends.false (last_kept _ _)
