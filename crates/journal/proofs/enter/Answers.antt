-- `journal::enter` meets its contract. Assumes nothing.
use Rattle.basics.proofs.Maps.{at_set}
use Rattle.std.proofs.Common.{rules}
use Rattle.journal.specs.Stored.{entered}
use Rattle.journal.proofs.enter.Goals as goal

pub returns-clause-ops_after : goal.returns-clause-ops_after
unfolding entered
returns-clause-ops_after c = c.store_first.ensures

pub returns-clause-by_after : goal.returns-clause-by_after
returns-clause-by_after c = at_set _ _ _ (search rules)
