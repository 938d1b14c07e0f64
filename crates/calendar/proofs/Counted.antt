-- The day number of a date counts days: every next day is one more. Assumes nothing.
use mathlib.Core.Path.{◌≡◌, refl, ap, ◌∙◌}
use Prim.Native.Nat.{ℕ, suc, ◌+◌, ◌-◌, ◌≤◌}
use native.Mathlib.Omega.{arith}
use Rattle.basics.specs.Choice.{pick, same}
use Rattle.calendar.specs.Years.{first_year, is_leap, year_length, days_of_years}
use Rattle.calendar.specs.Months.{month_length, days_of_months}
use Rattle.calendar.specs.Dates.{day_number, Counted}
use Rattle.calendar.proofs.Months.{month_between, year_of_months}

next_day : (year month day : ℕ) → 1 ≤ day → day_number year month (suc day) ≡ suc (day_number year month day)
unfolding day_number
next_day year month day h = omega arith

next_month : (year month : ℕ) → 1 ≤ month → 1 ≤ month_length year month → day_number year (suc month) 1 ≡ suc (day_number year month (month_length year month))
unfolding day_number
next_month year month h some =
    let months : days_of_months year (suc month - 1) ≡ days_of_months year (month - 1) + month_length year month =
    ap (days_of_months year) (let e : suc month - 1 ≡ month = omega arith in e) ∙ month_between year month h
    in
    omega arith

next_year : (year : ℕ) → first_year ≤ year → day_number (suc year) 1 1 ≡ suc (day_number year 12 31)
unfolding day_number days_of_years days_of_months
next_year year h =
    let n : ℕ = year - first_year in
    let years : days_of_years (suc year - first_year) ≡ days_of_years n + year_length year =
    ap days_of_years (let e : suc year - first_year ≡ suc n = omega arith in e)
    ∙ ap (λ (y : ℕ). days_of_years n + year_length y) (let e : first_year + n ≡ year = omega arith in e)
    in
    let months : days_of_months year 11 + 31 ≡ year_length year = year_of_months year in
    omega arith

pub counted : Counted
unfolding day_number days_of_years days_of_months year_length is_leap pick same
counted =
    record {
      first_day = refl;
      next_day = next_day;
      next_month = next_month;
      next_year = next_year;
      century = refl;
      four_hundred = refl;
    }
