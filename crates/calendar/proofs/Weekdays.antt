-- Weekdays by division, and back and forth by a day. Assumes nothing.
use mathlib.Core.Path.{◌≡◌, refl, sym, ap, ◌∙◌}
use mathlib.Core.Logic.{◌≢◌}
use Prim.Native.Nat.{ℕ, zero, suc, ◌+◌, ◌-◌, ◌%◌, ◌≤◌}
use native.Mathlib.Omega.{arith}
use Rattle.basics.specs.Choice.{same}
use Rattle.basics.proofs.Choice.{pick_elim, same_equal, same_unequal}
use Rattle.calendar.specs.declared.Weekday.{Weekday}
use Rattle.calendar.specs.declared.Weekday.TheVariants.{Monday, Tuesday, Wednesday, Thursday, Friday, Saturday, Sunday}
use Rattle.calendar.specs.Named.{weekday_number}
use Rattle.calendar.specs.Weekdays.{monday, sunday, weekday, weekday_after, weekday_before, weekday_ago}

-- the numbers go round in sevens
pub after_is : {w n : ℕ} → w ≤ 6 → n ≡ (w + 1) % 7 → n ≡ weekday_after w
unfolding weekday_after
after_is {w} {n} h e =
    pick_elim (λ (x : ℕ). n ≡ x) (same w sunday) 0 (suc w)
    (λ t. let last : w ≡ 6 = same_equal t in omega arith)
    (λ t. let other : w ≢ 6 = same_unequal t in omega arith)

pub before_is : {w n : ℕ} → w ≤ 6 → n ≡ (w + 6) % 7 → n ≡ weekday_before w
unfolding weekday_before
before_is {w} {n} h e =
    pick_elim (λ (x : ℕ). n ≡ x) (same w monday) 6 (w - 1)
    (λ t. let first : w ≡ 0 = same_equal t in omega arith)
    (λ t. let other : w ≢ 0 = same_unequal t in omega arith)

-- 1 January 2000 is day 0 and weekday 5
pub weekday_is : (n : ℕ) → weekday n ≡ (n + 5) % 7
unfolding weekday weekday_after
weekday_is zero = refl
weekday_is (suc n) =
    let w : ℕ = weekday n in
    let before : w ≡ (n + 5) % 7 = weekday_is n in
    sym (after_is (omega arith) (omega arith))

pub weekday_bound : (n : ℕ) → weekday n ≤ 6
weekday_bound n = omega (arith, weekday_is n)

-- the day before the next day is the day
pub before_after : {w : ℕ} → w ≤ 6 → weekday_before (weekday_after w) ≡ w
before_after {w} h = let after : (w + 1) % 7 ≡ weekday_after w = after_is h refl in sym (before_is (omega arith) (omega arith))

pub weekday_yesterday : (n : ℕ) → weekday_before (weekday (suc n)) ≡ weekday n
unfolding weekday
weekday_yesterday n = before_after (weekday_bound n)

-- `n` days before day n + d the weekday is that of day d
pub weekday_days_ago : (n d : ℕ) → weekday_ago n (weekday (n + d)) ≡ weekday d
unfolding weekday_ago
weekday_days_ago zero d = ap weekday (let none : 0 + d ≡ d = omega arith in none)
weekday_days_ago (suc n) d =
    ap (λ (m : ℕ). weekday_before (weekday_ago n (weekday m))) (let one_more : suc n + d ≡ n + suc d = omega arith in one_more)
    ∙ ap weekday_before (weekday_days_ago n (suc d))
    ∙ weekday_yesterday d

-- a named weekday is one of seven
pub number_bound : (day : Weekday) → weekday_number day ≤ 6
number_bound Monday = omega arith
number_bound Tuesday = omega arith
number_bound Wednesday = omega arith
number_bound Thursday = omega arith
number_bound Friday = omega arith
number_bound Saturday = omega arith
number_bound Sunday = omega arith
