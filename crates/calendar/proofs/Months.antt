-- The days before each month, from the formula of a common year and the leap day; the lengths from them. Assumes nothing.
use mathlib.Core.Path.{◌≡◌, refl, sym, ap, ◌∙◌}
use mathlib.Core.Logic.{◌⊎◌, inl, inr}
use Prim.Native.Nat.{ℕ, zero, suc, ◌+◌, ◌-◌, ◌*◌, ◌/◌, ◌≤◌, ◌<◌}
use native.Mathlib.Omega.{arith}
use mathlib.Core.Bool.{Bool, true, false, ◌&&◌}
use Rattle.basics.specs.Choice.{pick, same, less}
use Rattle.basics.specs.Maps.{at}
use Rattle.basics.proofs.Choice.{pick_true, pick_false, pick_then, pick_else, lt_less, le_less, compare}
use Rattle.calendar.specs.Years.{is_leap, year_length}
use Rattle.calendar.specs.Months.{common_lengths, month_length, days_of_months}
use Rattle.calendar.specs.Starts.{common_start, start_by_rule}
use Rattle.calendar.proofs.Below.{agree, agree_at}

-- the days of the first `n` months, by whether the year is a leap year alone
unfoldable by_leap : Bool → ℕ → ℕ
by_leap leap zero = 0
by_leap leap (suc n) = by_leap leap n + pick (same (suc n) 2 && leap) 29 (at common_lengths (suc n))

by_leap_is : (year n : ℕ) → days_of_months year n ≡ by_leap (is_leap year) n
unfolding days_of_months month_length by_leap
by_leap_is year zero = refl
by_leap_is year (suc n) = ap (λ (d : ℕ). d + month_length year (suc n)) (by_leap_is year n)

-- the formula, computed for each month of common and of leap years, and behind December
formula_right : (leap : Bool) (n : ℕ) → n < 13 → start_by_rule leap n ≡ by_leap leap n
unfolding common_start start_by_rule by_leap common_lengths at pick same less agree
formula_right true n h = agree_at (start_by_rule true) (by_leap true) 13 refl n h
formula_right false n h = agree_at (start_by_rule false) (by_leap false) 13 refl n h

pub starts_right : (year n : ℕ) → n < 13 → start_by_rule (is_leap year) n ≡ days_of_months year n
starts_right year n h = formula_right (is_leap year) n h ∙ sym (by_leap_is year n)

-- what is taken off from March on is there, however the quotient is rounded
pub can_take_off : (n more : ℕ) → 2 * ((n + 10) / 12) ≤ (367 * n + more) / 12
can_take_off n more = by_place (compare 2 n)
  where
    by_place : (2 ≤ n) ⊎ (n < 2) → 2 * ((n + 10) / 12) ≤ (367 * n + more) / 12
    by_place (inl march) = omega arith
    by_place (inr early) = let none : (n + 10) / 12 ≤ 0 = omega arith in omega arith

-- the three ways of the code
pub before_march : (year n : ℕ) → n < 2 → common_start n ≡ days_of_months year n
unfolding start_by_rule
before_march year n h =
    let none : ◌≡◌ {A = ℕ} (pick (less n 2) 0 (pick (is_leap year) 1 0)) 0 = pick_then 0 (pick (is_leap year) 1 0) (lt_less h) in
    let all : start_by_rule (is_leap year) n ≡ days_of_months year n = starts_right year n (omega arith) in
    omega arith

from_march : (year n : ℕ) {leap : Bool} → n < 13 → 2 ≤ n → is_leap year ≡ leap → common_start n + pick leap 1 0 ≡ days_of_months year n
unfolding start_by_rule
from_march year n h low e =
    ap (λ (b : Bool). common_start n + pick b 1 0) (sym e)
    ∙ ap (λ (d : ℕ). common_start n + d) (sym (pick_else 0 (pick (is_leap year) 1 0) (le_less low)))
    ∙ starts_right year n h

pub with_leap_day : (year n : ℕ) → n < 13 → 2 ≤ n → is_leap year ≡ true → common_start n + 1 ≡ days_of_months year n
with_leap_day year n h low e = ap (λ (d : ℕ). common_start n + d) (sym (pick_true 1 0)) ∙ from_march year n h low e

pub without_leap_day : (year n : ℕ) → n < 13 → 2 ≤ n → is_leap year ≡ false → common_start n ≡ days_of_months year n
without_leap_day year n h low e =
    (let all : common_start n ≡ common_start n + 0 = omega arith in all)
    ∙ ap (λ (d : ℕ). common_start n + d) (sym (pick_false 1 0))
    ∙ from_march year n h low e

-- a month is as long as its start is before the next one's
pub month_between : (year month : ℕ) → 1 ≤ month → days_of_months year month ≡ days_of_months year (month - 1) + month_length year month
unfolding days_of_months
month_between year zero h = absurd (omega arith)
month_between year (suc n) h =
    ap (λ (k : ℕ). days_of_months year k + month_length year (suc n)) (let e : n ≡ suc n - 1 = omega arith in e)

pub between_starts : (year month : ℕ) {next own : ℕ} → 1 ≤ month → next ≡ days_of_months year (month + 1 - 1) → own ≡ days_of_months year (month - 1) → next ≡ own + month_length year month
between_starts year month h p q =
    p
    ∙ ap (days_of_months year) (let e : month + 1 - 1 ≡ month = omega arith in e)
    ∙ month_between year month h
    ∙ ap (λ (d : ℕ). d + month_length year month) (sym q)

-- all twelve are the year
pub year_of_months : (year : ℕ) → days_of_months year 11 + 31 ≡ year_length year
unfolding year_length by_leap common_lengths at pick same
year_of_months year = ap (λ (d : ℕ). d + 31) (by_leap_is year 11) ∙ go (is_leap year)
  where
    go : (leap : Bool) → by_leap leap 11 + 31 ≡ pick leap 366 365
    go true = refl
    go false = refl
