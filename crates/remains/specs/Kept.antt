-- What is kept of a spoiled file. Document 02, request 7: "A tool keeps the leading full blocks up to the first that would be refused 3 or 4, and at most the
-- exact count. If they hold the header and all records, it shortens the schedule to the entries kept".
use Rattle.std.specs.Prelude.{ℕ, zero, suc, ◌+◌, ◌-◌, ◌*◌, min, List, ◌++◌, length, take, drop}
use Rattle.basics.specs.Choice.{pick, same}
use Rattle.basics.specs.Words.{word_bytes}
use Rattle.block.specs.Block.{block_refusal}
use Rattle.job.specs.Stream.{operations, schedule_length}
use Rattle.job.specs.Refusals.{exact_count}
use Rattle.job.specs.File.{block_at, block_count, payloads}

-- of the `count` blocks from position `i` up, how many stand before the first that would be refused
unfoldable pub leading : List ℕ → ℕ → ℕ → ℕ
leading file i zero = 0
leading file i (suc count) =
    let later : ℕ = leading file (suc i) count in
    pick (same (block_refusal i (block_at file i)) 0) (suc later) 0

-- "the leading full blocks up to the first that would be refused 3 or 4": how many. A part of a block at the file's end is none
unfoldable pub intact_blocks : List ℕ → ℕ
intact_blocks file = leading file 0 (block_count file)

-- their payloads, one behind the other
unfoldable pub intact : List ℕ → List ℕ
intact file = payloads file 0 (intact_blocks file)

-- "and at most the exact count": the one that the header, in the first of them, asks for
unfoldable pub kept_blocks : List ℕ → ℕ
kept_blocks file = min (intact_blocks file) (exact_count (intact file))

-- the payloads of the blocks that are kept
unfoldable pub kept : List ℕ → List ℕ
kept file = payloads file 0 (kept_blocks file)

-- "the header and all records": so many bytes
unfoldable pub records_end : List ℕ → ℕ
records_end s = 6 + 4 * operations s

-- "the entries kept": those of the schedule that are there
unfoldable pub entries_kept : List ℕ → ℕ
entries_kept s = min (schedule_length s) (length s - records_end s)

-- "it shortens the schedule to the entries kept": their number in bytes 4 to 5, and nothing behind them
unfoldable pub shortened : List ℕ → List ℕ
shortened s = take 4 s ++ (word_bytes (entries_kept s) ++ take (4 * operations s + entries_kept s) (drop 6 s))
