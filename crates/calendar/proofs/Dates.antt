-- What a date is, test by test. Assumes nothing.
use mathlib.Core.Path.{◌≡◌}
use Prim.Native.Nat.{ℕ, ◌≤◌}
use mathlib.Core.Bool.{true, false, not}
use borrow.Author.Tests.{not-true}
use lib.Dec.{leb}
use Rattle.std.specs.Prelude.{Some}
use native.Mathlib.Omega.{arith}
use Rattle.std.specs.declared.ops.RangeInclusive.{RangeInclusive}
use Rattle.std.specs.Ordering.{nat_cmp, is_le}
use Rattle.std.specs.Range.{range_inclusive_start, range_inclusive_end, range_inclusive_exhausted, range_inclusive_contains}
use Rattle.basics.specs.Choice.{less}
use Rattle.basics.proofs.Choice.{less_le, at_most}
use Rattle.calendar.specs.Months.{month_length}
use Rattle.calendar.specs.Dates.{from_to, is_date}
use Rattle.calendar.proofs.Below.{and_both}

-- a month of the year, and one of its days
pub record Date (year month day : ℕ) : Type 0 where
  pub first_month : 1 ≤ month
  pub last_month : month ≤ 12
  pub first_day : 1 ≤ day
  pub last_day : day ≤ month_length year month

pub between : (low high n : ℕ) → from_to low high n ≡ true → (low ≤ n) × (n ≤ high)
unfolding from_to
between low high n e =
    let tests = and_both (not (less n low)) (not (less high n)) e in
    (less_le (not-true (less n low) tests.0), less_le (not-true (less high n) tests.1))

pub date_of : {year month day : ℕ} → is_date year month day ≡ true → Date year month day
unfolding is_date
date_of {year} {month} {day} e =
    let tests = and_both (from_to 1 12 month) (from_to 1 (month_length year month) day) e in
    let m = between 1 12 month tests.0 in
    let d = between 1 (month_length year month) day tests.1 in
    record { first_month = m.0; last_month = m.1; first_day = d.0; last_day = d.1 }

-- what `contains` answers of a range of numbers
pub orders : (a b : ℕ) → is_le (nat_cmp a b) ≡ leb a b
orders a b = grind arith

pub contained : (r : RangeInclusive ℕ) (n : ℕ) {low high : ℕ} → range_inclusive_start r ≡ low → range_inclusive_end r ≡ high → range_inclusive_exhausted r ≡ false
    → range_inclusive_contains (λ a b. Some (nat_cmp a b)) r n ≡ from_to low high n
unfolding from_to
contained r n {low} {high} starts ends fresh = simp (starts, ends, fresh, orders, at_most low n, at_most n high)
