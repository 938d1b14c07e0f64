-- The line that was found for a step.
use Rattle.std.specs.Prelude.{ℕ, List, ◌++◌}
use Rattle.basics.specs.Text.{text, decimal}
use Rattle.machine.specs.Multiplicity.Line.{put, takes, empty}
use Rattle.machine.specs.Record.{Recorded}
use Rattle.wording.specs.Report.{spaced}
use Rattle.lines.specs.declared.Found.{Found}
use Rattle.lines.specs.declared.Found.TheVariants.{Put, Takers, Empty}
use Rattle.lines.specs.Members.{takers_of}

-- the operation or the item that was found
unfoldable pub member : Found → ℕ
member (Put o) = o.0
member (Takers item) = item.0
member (Empty o) = o.0

-- a step, and an operation or an item behind a label: `at 3 put 1`
unfoldable pub at_text : ℕ → List ℕ → ℕ → List ℕ
at_text s label o = text "at " ++ decimal s ++ (label ++ decimal o)

-- the text of the line of an item's takers: `at 9 take 1 by 2 3`
unfoldable pub take_text : ℕ → ℕ → List ℕ → List ℕ
take_text s item takers = at_text s (text " take ") item ++ text " by" ++ spaced takers ++ text "\n"

-- the line of a step, by what was found, the operations' items and their count
unfoldable pub found_line : (ℕ → ℕ) → ℕ → ℕ → Found → Recorded
found_line taken count s (Put o) = record { step = s; line = put o.0 }
found_line taken count s (Takers item) = record { step = s; line = takes item.0 (takers_of taken count item.0) }
found_line taken count s (Empty o) = record { step = s; line = empty o.0 }
