-- `rows::cell` meets its contract: the list read as a function. Assumes nothing.
use mathlib.Core.Path.{refl}
use Rattle.basics.specs.Maps.{at}
use Rattle.rows.specs.Rows.{column}
use Rattle.rows.proofs.cell.Goals as goal

pub returns : goal.returns
unfolding column at
returns g c = rw (c.WIDTH.ensures, c.index.ensures) refl
