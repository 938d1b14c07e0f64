-- The days before each month, by a formula. Document 02, request 8: "Work the starts out by a formula instead, proved for each month of common and leap
-- years to give the days before it, with every replay unchanged."
use Rattle.std.specs.Prelude.{◌≡◌, ℕ, ◌+◌, ◌-◌, ◌*◌, ◌/◌, ◌<◌, Bool, true, false, ◌&&◌, List, [], ◌∷◌}
use Rattle.basics.specs.Choice.{pick, less}
use Rattle.basics.specs.Maps.{at}
use Rattle.calendar.specs.Years.{first_year, is_leap, days_of_years}
use Rattle.calendar.specs.Months.{days_of_months}
use Rattle.calendar.specs.Dates.{from_to, is_date, day_number}

-- the days of a common year before the month that has `n` before it: with 30 days in February twelve months would share 367 days evenly, and from March
-- on the two that it has not are taken off
unfoldable pub common_start : ℕ → ℕ
common_start n = (367 * n + 5) / 12 - 2 * ((n + 10) / 12)

-- the same of a common or a leap year: from March on the leap day is among them
unfoldable pub start_by_rule : Bool → ℕ → ℕ
start_by_rule leap n = common_start n + pick (less n 2) 0 (pick leap 1 0)

-- what a calendar prints for them, January first and behind December the whole year, in common years and in leap years: the formula is held against it, and
-- nothing is worked out from it
unfoldable pub printed : Bool → List ℕ
printed false = 0 ∷ 31 ∷ 59 ∷ 90 ∷ 120 ∷ 151 ∷ 181 ∷ 212 ∷ 243 ∷ 273 ∷ 304 ∷ 334 ∷ 365 ∷ []
printed true = 0 ∷ 31 ∷ 60 ∷ 91 ∷ 121 ∷ 152 ∷ 182 ∷ 213 ∷ 244 ∷ 274 ∷ 305 ∷ 335 ∷ 366 ∷ []

-- the same of a year
abbrev pub printed_start : ℕ → ℕ → ℕ
printed_start year n = at (printed (is_leap year)) n

-- what is claimed of the formula
pub record ByRule : Type 0 where
  -- each of the 24 starts is the calendar's, and so is the end of either year
  pub as_printed : (leap : Bool) (n : ℕ) → n < 13 → start_by_rule leap n ≡ at (printed leap) n
  -- in every year it gives the days of the months before, counted
  pub as_counted : (year n : ℕ) → n < 13 → start_by_rule (is_leap year) n ≡ days_of_months year n
  -- the day number of every date is the one that the calendar's starts give
  pub day_numbers :
      (year month day : ℕ)
      → is_date year month day ≡ true
      → day_number year month day ≡ days_of_years (year - first_year) + printed_start year (month - 1) + (day - 1)
  -- and the dates are those of its months, each from its start to the next one's
  pub dates :
      (year month day : ℕ)
      → is_date year month day ≡ from_to 1 12 month && from_to 1 (printed_start year month - printed_start year (month - 1)) day
