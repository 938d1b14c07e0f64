-- Years. Document 02, request 6: "Gregorian calendar".
use Rattle.std.specs.Prelude.{ℕ, zero, suc, ◌+◌, ◌%◌, Bool, not, ◌&&◌, ◌||◌}
use Rattle.basics.specs.Choice.{pick, same}

-- every fourth year is a leap year; of the full hundreds every fourth only
unfoldable pub is_leap : ℕ → Bool
is_leap year = same (year % 4) 0 && not (same (year % 100) 0) || same (year % 400) 0

-- the number of its days
unfoldable pub year_length : ℕ → ℕ
year_length year = pick (is_leap year) 366 365

-- the year from which years are counted
abbrev pub first_year : ℕ
first_year = 2000

-- the days of the first `n` years from 2000 on
unfoldable pub days_of_years : ℕ → ℕ
days_of_years zero = 0
days_of_years (suc n) = days_of_years n + year_length (first_year + n)
