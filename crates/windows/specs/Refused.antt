-- Number 13. Document 02, request 6: "a window block neither empty nor of 512 bytes, or with bad sums, number, ranges or padding, or with no such date".
use Rattle.std.specs.Prelude.{ℕ, ◌-◌, Bool, not, ◌||◌, ◌&&◌, List, length}
use Rattle.basics.specs.Choice.{same, less}
use Rattle.basics.specs.Maps.{at}
use Rattle.block.specs.Block.{block_size, summed_size, block_refusal}
use Rattle.job.specs.Refusals.{any, outside}
use Rattle.calendar.specs.Dates.{is_date}
use Rattle.windows.specs.Fields.{year, month, day, second, entry_at, weekdays, opening, closing, booked_processes, day_minutes, day_seconds}

-- "year (2 bytes, 2000 to 2099)"; "no such date"; "second of the day (4 bytes, 0 to 86,399)"
unfoldable pub bad_start : List ℕ → Bool
bad_start b = outside 2000 2099 (year b) || not (is_date (year b) (month b) (day b)) || not (less (second b) day_seconds)

-- "a weekday byte (bit 0 Monday to bit 6 Sunday, bit 7 zero), opening and closing minute (2 bytes each, 0 to 1,440)"
unfoldable pub bad_window : List ℕ → ℕ → Bool
bad_window b p = not (less (weekdays b p) 128) || less day_minutes (opening b p) || less day_minutes (closing b p)

-- "for each of eight processes", however many the job has
unfoldable pub bad_entries : List ℕ → Bool
bad_entries b = any (bad_window b) 0 booked_processes

-- "zeros follow", up to the sums
unfoldable pub bad_rest : List ℕ → Bool
bad_rest b = any (λ i. not (same (at b i) 0)) (entry_at booked_processes) (summed_size - entry_at booked_processes)

-- what is wrong with a block of 512 bytes: sums and number as any block's, at position 0
unfoldable pub bad_block : List ℕ → Bool
bad_block b = not (same (block_refusal 0 b) 0) || bad_start b || bad_entries b || bad_rest b

-- "An empty second input means no block"
unfoldable pub no_block : List ℕ → Bool
no_block b = same (length b) 0

unfoldable pub bad_windows : List ℕ → Bool
bad_windows b = not (no_block b) && (not (same (length b) block_size) || bad_block b)
