-- A block that is not turned back, field by field: what the code that reads it may go by.
use Rattle.std.specs.Prelude.{◌≡◌, ℕ, ◌≤◌, ◌<◌, true, List, length}
use Rattle.block.specs.Block.{block_size}
use Rattle.calendar.specs.Dates.{is_date}
use Rattle.windows.specs.Fields.{year, month, day, second, weekdays, opening, closing, booked_processes, day_minutes, day_seconds}

pub record FineBlock (b : List ℕ) : Type 0 where
  pub size : length b ≡ block_size
  -- "year (2 bytes, 2000 to 2099)"
  pub first_year : 2000 ≤ year b
  pub last_year : year b ≤ 2099
  -- no block "with no such date"
  pub date : is_date (year b) (month b) (day b) ≡ true
  -- "second of the day (4 bytes, 0 to 86,399)"
  pub seconds : second b < day_seconds
  -- "bit 7 zero"; "opening and closing minute (2 bytes each, 0 to 1,440)"
  pub bits : (p : ℕ) → p < booked_processes → weekdays b p < 128
  pub opens : (p : ℕ) → p < booked_processes → opening b p ≤ day_minutes
  pub closes : (p : ℕ) → p < booked_processes → closing b p ≤ day_minutes
