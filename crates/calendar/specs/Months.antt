-- Months, 1 January to 12 December.
use Rattle.std.specs.Prelude.{ℕ, zero, suc, ◌+◌, ◌&&◌, List, [], ◌∷◌}
use Rattle.basics.specs.Choice.{pick, same}
use Rattle.basics.specs.Maps.{at}
use Rattle.calendar.specs.Years.{is_leap}

-- the days of each month of a common year; there is no month 0
unfoldable pub common_lengths : List ℕ
common_lengths = 0 ∷ 31 ∷ 28 ∷ 31 ∷ 30 ∷ 31 ∷ 30 ∷ 31 ∷ 31 ∷ 30 ∷ 31 ∷ 30 ∷ 31 ∷ []

-- the days of a month: February of a leap year has 29
unfoldable pub month_length : ℕ → ℕ → ℕ
month_length year month = pick (same month 2 && is_leap year) 29 (at common_lengths month)

-- the days of the first `n` months of a year
unfoldable pub days_of_months : ℕ → ℕ → ℕ
days_of_months year zero = 0
days_of_months year (suc n) = days_of_months year n + month_length year (suc n)
