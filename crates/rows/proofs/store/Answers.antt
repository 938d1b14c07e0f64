-- `rows::store` meets its contract: a store is a point update of the list read as a function. Assumes nothing.
use Rattle.basics.proofs.Maps.{at_set}
use Rattle.std.proofs.Common.{rules}
use Rattle.rows.proofs.Rows.{cells_stored}
use Rattle.rows.proofs.store.Goals as goal

pub returns-clause-list : goal.returns-clause-list
returns-clause-list g c = let within = g.met.C.Column.in_row c.args.column in rw (← c.WIDTH.ensures, ← c.index.ensures) (at_set _ _ _ (search rules))

pub returns-clause-columns : goal.returns-clause-columns
returns-clause-columns g c = let within = g.met.C.Column.in_row c.args.column in cells_stored g.met.C.Column.in_row _ _ _ _ _ (rw (← c.WIDTH.ensures, ← c.index.ensures) (at_set _ _ _ (search rules)))
