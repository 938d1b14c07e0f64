-- Dates from a calendar, as two tables: days with their weekdays, and days that there are not. They are written from a calendar and not worked out by
-- these definitions. `rows_proved` and `days_proved` say that the definitions give them, by computation.
use Rattle.std.specs.Prelude.{◌≡◌, refl, ℕ, Bool, true, false, List, [], ◌∷◌, map}
use Rattle.basics.specs.Choice.{pick, same, less}
use Rattle.basics.specs.Maps.{at}
use Rattle.calendar.specs.Years.{is_leap, year_length, days_of_years}
use Rattle.calendar.specs.Months.{common_lengths, month_length, days_of_months}
use Rattle.calendar.specs.Dates.{from_to, is_date, day_number}
use Rattle.calendar.specs.Weekdays.{monday, tuesday, wednesday, thursday, friday, saturday, sunday, weekday, weekday_after}

-- a date, the days from 1 January 2000 to it, and its weekday
pub record Row : Type 0 where
  pub year : ℕ
  pub month : ℕ
  pub day : ℕ
  pub days : ℕ
  pub falls_on : ℕ

abbrev pub on : ℕ → ℕ → ℕ → ℕ → ℕ → Row
on year month day days falls_on = record { year = year; month = month; day = day; days = days; falls_on = falls_on }

unfoldable pub rows : List Row
rows =
    -- the first days, and the leap day of 2000
    on 2000 1 1 0 saturday
    ∷ on 2000 1 2 1 sunday
    ∷ on 2000 1 3 2 monday
    ∷ on 2000 1 31 30 monday
    ∷ on 2000 2 1 31 tuesday
    ∷ on 2000 2 28 58 monday
    ∷ on 2000 2 29 59 tuesday
    ∷ on 2000 3 1 60 wednesday
    ∷ on 2000 12 31 365 sunday
    -- a common year: every month
    ∷ on 2001 1 1 366 monday
    ∷ on 2001 2 28 424 wednesday
    ∷ on 2001 3 1 425 thursday
    ∷ on 2001 4 30 485 monday
    ∷ on 2001 5 1 486 tuesday
    ∷ on 2001 6 15 531 friday
    ∷ on 2001 7 4 550 wednesday
    ∷ on 2001 8 31 608 friday
    ∷ on 2001 9 9 617 sunday
    ∷ on 2001 10 10 648 wednesday
    ∷ on 2001 11 30 699 friday
    ∷ on 2001 12 25 724 tuesday
    -- the leap years 2004 and 2024: before and after the leap day, and every later month
    ∷ on 2004 2 29 1520 sunday
    ∷ on 2004 3 1 1521 monday
    ∷ on 2024 1 31 8796 wednesday
    ∷ on 2024 2 28 8824 wednesday
    ∷ on 2024 2 29 8825 thursday
    ∷ on 2024 3 1 8826 friday
    ∷ on 2024 4 1 8857 monday
    ∷ on 2024 5 31 8917 friday
    ∷ on 2024 6 30 8947 sunday
    ∷ on 2024 7 1 8948 monday
    ∷ on 2024 8 15 8993 thursday
    ∷ on 2024 9 30 9039 monday
    ∷ on 2024 10 31 9070 thursday
    ∷ on 2024 11 11 9081 monday
    ∷ on 2024 12 31 9131 tuesday
    -- years later on, and the last days
    ∷ on 2025 1 1 9132 wednesday
    ∷ on 2026 3 1 9556 sunday
    ∷ on 2038 1 19 13898 tuesday
    ∷ on 2050 6 30 18443 thursday
    ∷ on 2096 2 29 35123 wednesday
    ∷ on 2099 2 28 36218 saturday
    ∷ on 2099 3 1 36219 sunday
    ∷ on 2099 12 31 36524 thursday
    ∷ []

-- a row as the definitions have it
abbrev pub counted_row : Row → Row
counted_row r =
    let days : ℕ = day_number r.year r.month r.day in
    on r.year r.month r.day days (weekday days)

pub rows_proved : map counted_row rows ≡ rows
unfolding rows pick same at is_leap year_length days_of_years common_lengths month_length days_of_months day_number weekday_after weekday
rows_proved = refl

-- a day of a month of a year, and is there such a date?
pub record Day : Type 0 where
  pub year : ℕ
  pub month : ℕ
  pub day : ℕ
  pub there : Bool

abbrev pub yes : ℕ → ℕ → ℕ → Day
yes year month day = record { year = year; month = month; day = day; there = true }

abbrev pub no : ℕ → ℕ → ℕ → Day
no year month day = record { year = year; month = month; day = day; there = false }

unfoldable pub days : List Day
days =
    -- the leap day: in 2000, 2004, 2024, 2096 and 2400, not in 2001, 2099, 2100, 1900
    yes 2000 2 29
    ∷ yes 2004 2 29
    ∷ yes 2024 2 29
    ∷ yes 2096 2 29
    ∷ yes 2400 2 29
    ∷ no 2001 2 29
    ∷ no 2099 2 29
    ∷ no 2100 2 29
    ∷ no 1900 2 29
    ∷ no 2000 2 30
    -- the last day of each month, and one more
    ∷ yes 2001 1 31
    ∷ no 2001 1 32
    ∷ yes 2001 2 28
    ∷ yes 2001 3 31
    ∷ no 2001 3 32
    ∷ yes 2001 4 30
    ∷ no 2001 4 31
    ∷ yes 2001 5 31
    ∷ no 2001 5 32
    ∷ yes 2001 6 30
    ∷ no 2001 6 31
    ∷ yes 2001 7 31
    ∷ no 2001 7 32
    ∷ yes 2001 8 31
    ∷ no 2001 8 32
    ∷ yes 2001 9 30
    ∷ no 2001 9 31
    ∷ yes 2001 10 31
    ∷ no 2001 10 32
    ∷ yes 2001 11 30
    ∷ no 2001 11 31
    ∷ yes 2001 12 31
    ∷ no 2001 12 32
    -- no month 0 or 13, no day 0
    ∷ no 2001 0 1
    ∷ no 2001 13 1
    ∷ no 2001 255 1
    ∷ yes 2001 1 1
    ∷ no 2001 1 0
    ∷ no 2001 12 0
    ∷ no 2001 0 0
    ∷ []

pub days_proved : map (λ r. is_date r.year r.month r.day) days ≡ map (λ r. r.there) days
unfolding days pick same less at is_leap common_lengths month_length from_to is_date
days_proved = refl
