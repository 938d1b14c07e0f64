-- The entry of a process, as the code reads it at once.
use Rattle.std.specs.Prelude.{ℕ, List}
use Rattle.windows.specs.declared.Entry.{Entry}
use Rattle.windows.specs.Fields.{weekdays, opening, closing}

unfoldable pub entry_of : List ℕ → ℕ → Entry
entry_of b p = record { weekdays = weekdays b p; opening = opening b p; closing = closing b p }
