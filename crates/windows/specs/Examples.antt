-- Window blocks, written out: the tables of blocks turned back, of open and shut steps and of traces are made of them.
use Rattle.std.specs.Prelude.{ℕ, ◌/◌, ◌%◌, List, ◌∷◌, ◌++◌}
use Rattle.basics.specs.Words.{word_bytes}
use Rattle.block.specs.Block.{block}
use Rattle.block.specs.Checked.{filled}
use Rattle.job.specs.Examples.{joined_records}

-- the entry of a process: its weekdays, the minute at which its window opens, and the minute at which it closes
unfoldable pub window : ℕ → ℕ → ℕ → List ℕ
window bits from to = bits ∷ word_bytes from ++ word_bytes to

-- year, month, day and second of the start
unfoldable pub start : ℕ → ℕ → ℕ → ℕ → List ℕ
start year month day second = word_bytes year ++ month ∷ day ∷ word_bytes (second / 65536) ++ word_bytes (second % 65536)

-- the block of a start and the entries of the first processes. Zeros follow, so that each other process has `window 0 0 0`; its sums are right
unfoldable pub windows : ℕ → ℕ → ℕ → ℕ → List (List ℕ) → List ℕ
windows year month day second entries = block 0 (filled (start year month day second ++ joined_records entries))
