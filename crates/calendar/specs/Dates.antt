-- Dates: which there are, and how many days each is after 1 January 2000. Document 02, request 6: 13 is also a block "with no such date".
use Rattle.std.specs.Prelude.{◌≡◌, ℕ, suc, ◌+◌, ◌-◌, ◌≤◌, Bool, not, ◌&&◌}
use Rattle.basics.specs.Choice.{less}
use Rattle.calendar.specs.Years.{first_year, days_of_years}
use Rattle.calendar.specs.Months.{month_length, days_of_months}

-- is a number one from `low` to `high`?
unfoldable pub from_to : ℕ → ℕ → ℕ → Bool
from_to low high n = not (less n low) && not (less high n)

-- has the year that day of that month?
unfoldable pub is_date : ℕ → ℕ → ℕ → Bool
is_date year month day = from_to 1 12 month && from_to 1 (month_length year month) day

-- the same within the years of a window block: "year (2 bytes, 2000 to 2099)"
unfoldable pub in_century : ℕ → ℕ → ℕ → Bool
in_century year month day = from_to 2000 2099 year && is_date year month day

-- the days from 1 January 2000 to a date: of the years before its year, of the months before its month, and of the days before its day
unfoldable pub day_number : ℕ → ℕ → ℕ → ℕ
day_number year month day = days_of_years (year - first_year) + days_of_months year (month - 1) + (day - 1)

-- what there is to hold it against: the day after the last of a month is the first of the next, the day after the last of a year the first of the next year
pub record Counted : Type 0 where
  pub first_day : day_number 2000 1 1 ≡ 0
  pub next_day : (year month day : ℕ) → 1 ≤ day → day_number year month (suc day) ≡ suc (day_number year month day)
  pub next_month : (year month : ℕ) → 1 ≤ month → 1 ≤ month_length year month → day_number year (suc month) 1 ≡ suc (day_number year month (month_length year month))
  pub next_year : (year : ℕ) → first_year ≤ year → day_number (suc year) 1 1 ≡ suc (day_number year 12 31)
  -- 2000 to 2099 have 36,525 days, 400 years 146,097
  pub century : days_of_years 100 ≡ 36525
  pub four_hundred : days_of_years 400 ≡ 146097
