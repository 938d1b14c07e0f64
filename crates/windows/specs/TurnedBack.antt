-- Second inputs turned back and accepted, as one table: each way to meet 13, at the edges of each range. What is turned back is read from document 02 by
-- hand. `turned_back_proved` says that the definitions give it, by computation.
use Rattle.std.specs.Prelude.{◌≡◌, refl, ℕ, ◌+◌, ◌%◌, Bool, true, false, List, [], ◌∷◌, ◌++◌, map, take, set, replicate}
use Rattle.basics.specs.Choice.{pick, same, less}
use Rattle.basics.specs.Maps.{at}
use Rattle.basics.specs.Words.{word, word_bytes}
use Rattle.block.specs.Block.{block_size, payload_size, summed_size, add_byte, add_bytes, sums, block, sum_differs, misplaced, block_refusal}
use Rattle.block.specs.Checked.{filled}
use Rattle.job.specs.Examples.{joined_records}
use Rattle.job.specs.Refusals.{any, outside}
use Rattle.calendar.specs.Years.{is_leap}
use Rattle.calendar.specs.Months.{common_lengths, month_length}
use Rattle.calendar.specs.Dates.{from_to, is_date}
use Rattle.windows.specs.Fields.{year, month, day, second, entry_at, weekdays, opening, closing}
use Rattle.windows.specs.Refused.{bad_start, bad_window, bad_entries, bad_rest, bad_block, no_block, bad_windows}
use Rattle.windows.specs.Examples.{window, start, windows}

-- a byte changed after the sums were made
unfoldable pub changed : ℕ → List ℕ → List ℕ
changed i b = set b i ((at b i + 1) % 256)

-- a block with a number and what its payload begins with, zeros behind; its sums are right
unfoldable pub holding : ℕ → List ℕ → List ℕ
holding number front = block number (filled front)

-- a start and no window
unfoldable pub starting : ℕ → ℕ → ℕ → ℕ → List ℕ
starting year month day second = windows year month day second []

-- one entry, of process 0 and of process 7
unfoldable pub first_entry : List ℕ → List ℕ
first_entry e = windows 2024 2 29 0 (e ∷ [])

unfoldable pub last_entry : List ℕ → List ℕ
last_entry e =
    let shut : List ℕ = window 0 0 0 in
    windows 2024 2 29 0 (shut ∷ shut ∷ shut ∷ shut ∷ shut ∷ shut ∷ shut ∷ e ∷ [])

-- an entry with all that it may have
unfoldable pub full : List ℕ
full = window 127 1440 1440

-- a block that is accepted
unfoldable pub good : List ℕ
good = windows 2024 2 29 86340 (window 127 0 1440 ∷ window 64 300 600 ∷ [])

-- a second input, and whether it is turned back
pub record Row : Type 0 where
  pub input : List ℕ
  pub back : Bool

abbrev pub back : List ℕ → Row
back input = record { input = input; back = true }

abbrev pub taken : List ℕ → Row
taken input = record { input = input; back = false }

unfoldable pub rows : List Row
rows =
    -- "An empty second input means no block"
    taken []
    -- every field at its lower edge; every field at its upper edge; the leap days of 2000 and 2024
    ∷ taken (starting 2000 1 1 0)
    ∷ taken (windows 2099 12 31 86399 (full ∷ full ∷ full ∷ full ∷ full ∷ full ∷ full ∷ full ∷ []))
    ∷ taken (starting 2000 2 29 0)
    ∷ taken good
    -- "neither empty nor of 512 bytes": one byte, one too few, one too many, two blocks
    ∷ back (0 ∷ [])
    ∷ back (take 511 good)
    ∷ back (good ++ 0 ∷ [])
    ∷ back (good ++ good)
    -- "bad sums": a alone, b alone, and both, by another day that there is
    ∷ back (changed 509 good)
    ∷ back (changed 511 good)
    ∷ back (changed 5 (starting 2024 2 28 0))
    -- "numbered 0": another number, in its high byte too
    ∷ back (holding 1 (start 2024 2 29 0))
    ∷ back (holding 256 (start 2024 2 29 0))
    -- "year (2 bytes, 2000 to 2099)"
    ∷ back (starting 1999 12 31 0)
    ∷ back (starting 2100 1 1 0)
    ∷ back (starting 0 1 1 0)
    ∷ back (starting 65535 1 1 0)
    -- "no such date": no such month, no such day, and the leap day
    ∷ back (starting 2024 0 1 0)
    ∷ back (starting 2024 13 1 0)
    ∷ back (starting 2024 1 0 0)
    ∷ back (starting 2024 1 32 0)
    ∷ back (starting 2024 4 31 0)
    ∷ back (starting 2000 2 30 0)
    ∷ back (starting 2001 2 29 0)
    -- "second of the day (4 bytes, 0 to 86,399)"
    ∷ back (starting 2024 2 29 86400)
    ∷ back (starting 2024 2 29 131072)
    ∷ back (starting 2024 2 29 4294967295)
    -- "bit 7 zero"
    ∷ back (first_entry (window 128 0 0))
    ∷ back (first_entry (window 255 0 0))
    -- "opening and closing minute (2 bytes each, 0 to 1,440)"
    ∷ back (first_entry (window 0 1441 0))
    ∷ back (first_entry (window 0 65535 0))
    ∷ back (first_entry (window 0 0 1441))
    ∷ back (first_entry (window 0 0 65535))
    -- "for each of eight processes": the last one
    ∷ back (last_entry (window 128 0 0))
    ∷ back (last_entry (window 0 1441 0))
    ∷ back (last_entry (window 0 0 1441))
    -- "zeros follow": the first byte behind the entries, which is byte 50, and the last before the sums, byte 507
    ∷ back (holding 0 (start 2024 2 29 0 ++ replicate 40 0 ++ 1 ∷ []))
    ∷ back (holding 0 (start 2024 2 29 0 ++ replicate 497 0 ++ 1 ∷ []))
    ∷ []

pub turned_back_proved : map (λ r. bad_windows r.input) rows ≡ map (λ r. r.back) rows
unfolding rows changed holding starting first_entry last_entry full good window start windows joined_records filled pick same less at word word_bytes block_size payload_size summed_size add_byte add_bytes sums block sum_differs misplaced block_refusal any outside is_leap common_lengths month_length from_to is_date year month day second entry_at weekdays opening closing bad_start bad_window bad_entries bad_rest bad_block no_block bad_windows
turned_back_proved = refl
