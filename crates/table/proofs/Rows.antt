-- The table's row for a row stands at its position; a row that ended is none of these. Assumes nothing.
use mathlib.Core.Path.{◌≡◌, refl}
use Rattle.machine.specs.declared.Row.{Row}
use Rattle.machine.specs.Table.{position, row_of}
use Rattle.table.specs.Position.{entry_at}

pub at_position : (r : Row) → row_of r ≡ entry_at (position r)
unfolding row_of entry_at
at_position r = refl
