-- The place of one process after a step that does not end its operation.
use Rattle.std.specs.Prelude.{ℕ}
use Rattle.machine.specs.declared.Place.{Place}
use Rattle.machine.specs.declared.Row.{Row}

-- "a step changes the place of one process": the operation in hand stays, and row and registers are new
abbrev pub onward : Place → Row → ℕ → ℕ → ℕ → Place
onward p row h t n = record { operation = p.operation; row = row; h = h; t = t; n = n }
