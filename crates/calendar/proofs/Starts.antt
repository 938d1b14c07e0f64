-- The formula gives what a calendar prints and what the definition counts; so day numbers and dates are those of the printed starts. Assumes nothing.
use mathlib.Core.Path.{◌≡◌, refl, sym, ap, ◌∙◌}
use Prim.Native.Nat.{ℕ, ◌+◌, ◌-◌, ◌≤◌, ◌<◌}
use native.Mathlib.Omega.{arith}
use mathlib.Core.Bool.{Bool, true, false, ◌&&◌}
use Rattle.basics.specs.Choice.{pick, same, less}
use Rattle.basics.specs.Maps.{at}
use Rattle.basics.proofs.Choice.{test_elim}
use Rattle.calendar.specs.Years.{first_year, is_leap, days_of_years}
use Rattle.calendar.specs.Months.{month_length, days_of_months}
use Rattle.calendar.specs.Dates.{from_to, is_date, day_number}
use Rattle.calendar.specs.Starts.{common_start, start_by_rule, printed, printed_start, ByRule}
use Rattle.calendar.proofs.Below.{agree, agree_at}
use Rattle.calendar.proofs.Months.{starts_right, month_between}
use Rattle.calendar.proofs.Dates.{between, date_of}

as_printed : (leap : Bool) (n : ℕ) → n < 13 → start_by_rule leap n ≡ at (printed leap) n
unfolding common_start start_by_rule printed at pick same less agree
as_printed true n h = agree_at (start_by_rule true) (at (printed true)) 13 refl n h
as_printed false n h = agree_at (start_by_rule false) (at (printed false)) 13 refl n h

-- so the definition counts what is printed
module _ (year : ℕ) where
  counts_printed : (n : ℕ) → n < 13 → days_of_months year n ≡ printed_start year n
  counts_printed n h = sym (starts_right year n h) ∙ as_printed (is_leap year) n h

  length_printed : (month : ℕ) → 1 ≤ month → month ≤ 12 → month_length year month ≡ printed_start year month - printed_start year (month - 1)
  length_printed month from to =
      let here : days_of_months year (month - 1) ≡ printed_start year (month - 1) = counts_printed (month - 1) (omega arith) in
      let next : days_of_months year month ≡ printed_start year month = counts_printed month (omega arith) in
      omega (arith, month_between year month from)

  day_numbers : (month day : ℕ) → is_date year month day ≡ true → day_number year month day ≡ days_of_years (year - first_year) + printed_start year (month - 1) + (day - 1)
  unfolding day_number
  day_numbers month day e =
      let date = date_of e in
      ap (λ (d : ℕ). days_of_years (year - first_year) + d + (day - 1)) (counts_printed (month - 1) (omega (arith, date.last_month)))

  dates : (month day : ℕ) → is_date year month day ≡ from_to 1 12 month && from_to 1 (printed_start year month - printed_start year (month - 1)) day
  unfolding is_date
  dates month day =
      test_elim (λ t. t && from_to 1 (month_length year month) day ≡ t && from_to 1 (printed_start year month - printed_start year (month - 1)) day) (from_to 1 12 month)
      (λ e. let m = between 1 12 month e in ap (λ (d : ℕ). from_to 1 d day) (length_printed month m.0 m.1))
      (λ e. refl)

pub by_rule : ByRule
by_rule = record { as_printed = as_printed; as_counted = starts_right; day_numbers = day_numbers; dates = dates }
