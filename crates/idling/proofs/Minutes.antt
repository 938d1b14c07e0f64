-- The three windows of a process decide: at every step of the first two days from the start's midnight on, `is_open` is `open_at` the step's minute.
-- Assumes nothing.
use mathlib.Core.Path.{◌≡◌, refl, sym, ap, ap₂, ◌∙◌}
use mathlib.Core.Logic.{◌⊎◌, inl, inr}
use Prim.Native.Nat.{ℕ, suc, ◌+◌, ◌-◌, ◌*◌, ◌/◌, ◌%◌, ◌≤◌, ◌<◌}
use native.Mathlib.Omega.{arith}
use mathlib.Core.Bool.{Bool, true, false, not, ◌&&◌, ◌||◌, and-false, true≢false}
use mathlib.Core.List.{List}
use Rattle.std.specs.Ordering.{nat_cmp, is_le, is_lt}
use Rattle.calendar.proofs.Dates.{orders}
use Rattle.basics.specs.Choice.{less}
use Rattle.basics.proofs.Choice.{compare, lt_less, le_less, at_most}
use Rattle.calendar.specs.Dates.{day_number}
use Rattle.calendar.specs.Weekdays.{weekday, weekday_before, weekday_after}
use Rattle.calendar.proofs.Weekdays.{weekday_yesterday}
use Rattle.windows.specs.Fields.{year, month, day, weekdays, opening, closing, booked_processes, day_minutes, day_seconds}
use Rattle.windows.specs.Fine.{FineBlock}
use Rattle.hours.specs.Open.{closes, in_window, has_weekday, open_on, since_midnight, day_of, second_of, is_open}
use Rattle.hours.proofs.Claimed.{closes_bound}
use Rattle.idling.specs.Minutes.{start_weekday, window_of, holds, open_at}

-- whole minutes are passed at the same time in seconds and in minutes
less_minutes : (s x : ℕ) → less s (60 * x) ≡ less (s / 60) x
less_minutes s x = go (compare x (s / 60))
  where
    go : (x ≤ s / 60) ⊎ (s / 60 < x) → less s (60 * x) ≡ less (s / 60) x
    go (inl h) = le_less (omega arith) ∙ sym (le_less h)
    go (inr h) = lt_less (omega arith) ∙ sym (lt_less h)

-- and so many minutes later
less_later : (n m x : ℕ) → n ≤ m → less m (x + n) ≡ less (m - n) x
less_later n m x h = go (compare x (m - n))
  where
    go : (x ≤ m - n) ⊎ (m - n < x) → less m (x + n) ≡ less (m - n) x
    go (inl b) = le_less (omega arith) ∙ sym (le_less b)
    go (inr b) = lt_less (omega arith) ∙ sym (lt_less b)

-- a window of some weekday, by the minute
on_minute : (b : List ℕ) (p w s : ℕ) → open_on b p w s ≡ holds (has_weekday (weekdays b p) w) (opening b p) (closes (opening b p) (closing b p)) (s / 60)
unfolding open_on in_window holds
on_minute b p w s =
    ap₂ (λ (early late : Bool). has_weekday (weekdays b p) w && (not early && late)) (less_minutes s (opening b p)) (less_minutes s (closes (opening b p) (closing b p)))

-- a window that is not booked holds nothing; one that is does not hold what is before its opening, or from its closing on
pub unbooked : {booked : Bool} (from to m : ℕ) → booked ≡ false → holds booked from to m ≡ false
unfolding holds
unbooked from to m e = ap (λ (b : Bool). b && (not (less m from) && less m to)) e

-- what `contains` answers of the minutes from an opening up to a closing
before : (a b : ℕ) → is_lt (nat_cmp a b) ≡ less a b
unfolding less
before a b = grind arith

pub by_range : {booked : Bool} (from to m : ℕ) → booked ≡ true → is_le (nat_cmp from m) && is_lt (nat_cmp m to) ≡ holds booked from to m
unfolding holds
by_range from to m e = simp (orders, before, at_most from m, e)

pub not_yet : (booked : Bool) (from to m : ℕ) → m < from → holds booked from to m ≡ false
unfolding holds
not_yet booked from to m h = ap (λ (early : Bool). booked && (not early && less m to)) (lt_less h) ∙ and-false booked

no_more : (booked : Bool) (from to m : ℕ) → to ≤ m → holds booked from to m ≡ false
unfolding holds
no_more booked from to m h =
    ap (λ (late : Bool). booked && (not (less m from) && late)) (le_less h)
    ∙ ap (λ (both : Bool). booked && both) (and-false (not (less m from)))
    ∙ and-false booked

-- a window a day later holds what is a day later
holds_later : (booked : Bool) (from to n m : ℕ) → n ≤ m → holds booked from to (m - n) ≡ holds booked (from + n) (to + n) m
unfolding holds
holds_later booked from to n m h =
    ap₂ (λ (early late : Bool). booked && (not early && late)) (sym (less_later n m from h)) (sym (less_later n m to h))

-- of three windows the last is shut, or the first
without_last : (x y z : Bool) → z ≡ false → y || x ≡ x || y || z
without_last true true z e = refl
without_last true false z e = refl
without_last false true z e = refl
without_last false false z e = sym e

without_first : (x y z : Bool) → x ≡ false → z || y ≡ x || y || z
without_first true y z e = absurd (true≢false e)
without_first false true true e = refl
without_first false true false e = refl
without_first false false true e = refl
without_first false false false e = refl

-- the windows of today and of yesterday, where the day and the second are known
module _ (b : List ℕ) (p k : ℕ) where
  open_by : (n s : ℕ) → day_of b k ≡ n → second_of b k ≡ s → is_open b p k ≡ open_on b p (weekday n) s || open_on b p (weekday_before (weekday n)) (s + day_seconds)
  unfolding is_open
  open_by n s d e = λ i. open_on b p (weekday (d i)) (e i) || open_on b p (weekday_before (weekday (d i))) (e i + day_seconds)

  module _ (fine : FineBlock b) (one : p < booked_processes) where
    closing_in_days : closes (opening b p) (closing b p) ≤ 2 * day_minutes
    closing_in_days = closes_bound (opening b p) (closing b p) (fine.closes p one)

    -- before the first midnight
    open_first : since_midnight b k < day_seconds → is_open b p k ≡ open_at (window_of b p) (since_midnight b k / 60)
    unfolding open_at window_of start_weekday day_of second_of
    open_first h =
        let t : ℕ = since_midnight b k in
        let w : ℕ = weekday (day_number (year b) (month b) (day b)) in
        let from : ℕ = opening b p in
        let to : ℕ = closes (opening b p) (closing b p) in
        let days : day_number (year b) (month b) (day b) + t / day_seconds ≡ day_number (year b) (month b) (day b) = omega arith in
        let rest : t % day_seconds ≡ t = omega arith in
        let back : (t + day_seconds) / 60 ≡ t / 60 + day_minutes = omega arith in
        open_by (day_number (year b) (month b) (day b)) t days rest
        ∙ ap₂ ◌||◌ (on_minute b p w t) (on_minute b p (weekday_before w) (t + day_seconds) ∙ ap (holds (has_weekday (weekdays b p) (weekday_before w)) from to) back)
        ∙ without_last
        (holds (has_weekday (weekdays b p) (weekday_before w)) from to (t / 60 + day_minutes))
        (holds (has_weekday (weekdays b p) w) from to (t / 60))
        (holds (has_weekday (weekdays b p) (weekday_after w)) (from + day_minutes) (to + day_minutes) (t / 60))
        (not_yet (has_weekday (weekdays b p) (weekday_after w)) (from + day_minutes) (to + day_minutes) (t / 60) (omega arith))

    -- from it on
    open_second : day_seconds ≤ since_midnight b k → since_midnight b k < 2 * day_seconds → is_open b p k ≡ open_at (window_of b p) (since_midnight b k / 60)
    unfolding open_at window_of start_weekday day_of second_of weekday
    open_second low high =
        let t : ℕ = since_midnight b k in
        let d : ℕ = day_number (year b) (month b) (day b) in
        let w : ℕ = weekday d in
        let from : ℕ = opening b p in
        let to : ℕ = closes (opening b p) (closing b p) in
        let days : d + t / day_seconds ≡ suc d = omega arith in
        let rest : t % day_seconds ≡ t - day_seconds = omega arith in
        let hence : (t - day_seconds) / 60 ≡ t / 60 - day_minutes = omega arith in
        let back : (t - day_seconds + day_seconds) / 60 ≡ t / 60 = omega arith in
        open_by (suc d) (t - day_seconds) days rest
        ∙ ap₂ ◌||◌
        (on_minute b p (weekday_after w) (t - day_seconds)
        ∙ ap (holds (has_weekday (weekdays b p) (weekday_after w)) from to) hence
        ∙ holds_later (has_weekday (weekdays b p) (weekday_after w)) from to day_minutes (t / 60) (omega arith))
        (ap (λ (x : ℕ). open_on b p x (t - day_seconds + day_seconds)) (weekday_yesterday d)
        ∙ on_minute b p w (t - day_seconds + day_seconds)
        ∙ ap (holds (has_weekday (weekdays b p) w) from to) back)
        ∙ without_first
        (holds (has_weekday (weekdays b p) (weekday_before w)) from to (t / 60 + day_minutes))
        (holds (has_weekday (weekdays b p) w) from to (t / 60))
        (holds (has_weekday (weekdays b p) (weekday_after w)) (from + day_minutes) (to + day_minutes) (t / 60))
        (no_more (has_weekday (weekdays b p) (weekday_before w)) from to (t / 60 + day_minutes) (omega (arith, closing_in_days)))

    pub open_in_minute : since_midnight b k < 2 * day_seconds → is_open b p k ≡ open_at (window_of b p) (since_midnight b k / 60)
    open_in_minute high = go (compare day_seconds (since_midnight b k))
      where
        go : (day_seconds ≤ since_midnight b k) ⊎ (since_midnight b k < day_seconds) → is_open b p k ≡ open_at (window_of b p) (since_midnight b k / 60)
        go (inl late) = open_second late high
        go (inr early) = open_first early
