-- Leap years by their hundreds, and the days of the years from 2000 to 2099. Assumes nothing.
use mathlib.Core.Path.{◌≡◌, refl, sym, ◌∙◌}
use Prim.Native.Nat.{ℕ, ◌+◌, ◌*◌, ◌/◌, ◌%◌, ◌<◌}
use mathlib.Core.Bool.{Bool, true, false, not, ◌&&◌}
use Rattle.basics.specs.Choice.{pick, same}
use Rattle.calendar.specs.Years.{is_leap, year_length, days_of_years}
use Rattle.calendar.proofs.Below.{agree, agree_at}

-- every fourth year but the full hundreds is one, and any other by its four hundreds
module _ (year : ℕ) {fourth : Bool} (e : fourth ≡ same (year % 4) 0 && not (same (year % 100) 0)) where
  pub leap_fourth : fourth ≡ true → fourth ≡ is_leap year
  unfolding is_leap
  leap_fourth h = h ∙ simp (sym e ∙ h)

  pub leap_hundredth : fourth ≡ false → same (year % 400) 0 ≡ is_leap year
  unfolding is_leap
  leap_hundredth h = simp (sym e ∙ h)

-- in the years from 2000 to 2099 every fourth one has a leap day, 2000 the first
pub days_of_years_is : (n : ℕ) → n < 101 → days_of_years n ≡ 365 * n + (n + 3) / 4
unfolding days_of_years year_length is_leap pick same agree
days_of_years_is n h = agree_at days_of_years (λ k. 365 * k + (k + 3) / 4) 101 refl n h
