-- What is claimed of windows holds. Assumes nothing.
use mathlib.Core.Path.{◌≡◌, sym, ap, ap₂, ◌∙◌}
use mathlib.Core.Logic.{◌⊎◌, inl, inr}
use Prim.Native.Nat.{ℕ, zero, suc, ◌+◌, ◌*◌, ◌≤◌, ◌<◌}
use native.Mathlib.Omega.{arith}
use mathlib.Core.Bool.{Bool, true, false, not, ◌&&◌, ◌||◌, and-false, or-true, true≢false}
use mathlib.Core.List.{List}
use Rattle.basics.specs.Choice.{less}
use Rattle.basics.proofs.Choice.{both, compare, pick_then, pick_else, lt_less, le_less}
use Rattle.calendar.specs.Weekdays.{weekday, weekday_before, weekday_ago}
use Rattle.windows.specs.Fields.{weekdays, opening, closing, booked_processes, day_minutes, day_seconds}
use Rattle.windows.specs.Fine.{FineBlock}
use Rattle.hours.specs.Open.{closes, in_window, has_weekday, open_on, day_of, second_of, is_open}
use Rattle.hours.specs.Claims.{WindowClaims, EndsOfDay, OnSomeDay, Belongs}

-- one that closes before it opens closes on the next day, any other on the same
module _ {from to : ℕ} where
  day_later : to < from → closes from to ≡ to + day_minutes
  unfolding closes
  day_later h = pick_then (to + day_minutes) to (lt_less h)

  same_day : from ≤ to → closes from to ≡ to
  unfolding closes
  same_day h = pick_else (to + day_minutes) to (le_less h)

-- so a window closes at the latest at the midnight two days after the one from which its opening counts
pub closes_bound : (from to : ℕ) → to ≤ day_minutes → closes from to ≤ 2 * day_minutes
closes_bound from to h = go (compare from to)
  where
    go : (from ≤ to) ⊎ (to < from) → closes from to ≤ 2 * day_minutes
    go (inl a) = omega (arith, same_day a)
    go (inr a) = omega (arith, day_later a)

-- two tests, of the opening and of the closing
early : {first : Bool} (second : Bool) → first ≡ true → not first && second ≡ false
early second e = ap (λ (x : Bool). not x && second) e

late : (first : Bool) {second : Bool} → second ≡ false → not first && second ≡ false
late first e = ap (λ (x : Bool). not first && x) e ∙ and-false (not first)

amid : {first second : Bool} → first ≡ false → second ≡ true → not first && second ≡ true
amid e f = ap₂ (λ (x y : Bool). not x && y) e f

module _ (from to s : ℕ) where
  not_yet : s < 60 * from → in_window from to s ≡ false
  unfolding in_window
  not_yet h = early _ (lt_less (omega arith))

  within : 60 * from ≤ s → s < 60 * closes from to → in_window from to s ≡ true
  unfolding in_window
  within low high = amid (le_less (omega arith)) (lt_less (omega arith))

  no_more : 60 * closes from to ≤ s → in_window from to s ≡ false
  unfolding in_window
  no_more h = late (less s (60 * from)) (le_less (omega arith))

  equal_minutes : from ≡ to → in_window from to s ≡ false
  equal_minutes e = go (compare (60 * closes from to) s)
    where
      go : (60 * closes from to ≤ s) ⊎ (s < 60 * closes from to) → in_window from to s ≡ false
      go (inl h) = no_more h
      go (inr h) = not_yet (let same : closes from to ≡ to = same_day (omega arith) in omega arith)

pub window_claims : (from to : ℕ) → WindowClaims from to
window_claims from to =
    record {
      day_later = day_later;
      same_day = same_day;
      not_yet = not_yet from to;
      within = within from to;
      no_more = no_more from to;
      equal_minutes = λ e s. equal_minutes from to s e;
    }

-- a window that opens at the next midnight is that of the next day, a day later
next_midnight : (to s : ℕ) → to < day_minutes → in_window day_minutes to (s + day_seconds) ≡ in_window 0 to s
next_midnight to s h = go (compare (60 * to) s)
  where
    later : closes day_minutes to ≡ to + day_minutes
    later = day_later h

    here : closes 0 to ≡ to
    here = same_day (omega arith)

    go : (60 * to ≤ s) ⊎ (s < 60 * to) → in_window day_minutes to (s + day_seconds) ≡ in_window 0 to s
    go (inl a) = no_more day_minutes to (s + day_seconds) (omega (arith, later)) ∙ sym (no_more 0 to s (omega (arith, here)))
    go (inr a) = within day_minutes to (s + day_seconds) (omega arith) (omega (arith, later)) ∙ sym (within 0 to s (omega arith) (omega (arith, here)))

pub ends_of_day : EndsOfDay
ends_of_day =
    record {
      whole_day = λ s h. within 0 day_minutes s (omega arith) (let same : closes 0 day_minutes ≡ day_minutes = same_day (omega arith) in omega arith);
      next_midnight = next_midnight;
    }

-- the window of a process two or more days ago is over, whatever its weekday
module _ (b : List ℕ) (p : ℕ) (last : closing b p ≤ day_minutes) where
  never_earlier : (w s n : ℕ) → 2 ≤ n → open_on b p w (s + n * day_seconds) ≡ false
  unfolding open_on
  never_earlier w s n h =
      ap (λ (x : Bool). has_weekday (weekdays b p) w && x)
      (no_more (opening b p) (closing b p) (s + n * day_seconds) (let most : closes (opening b p) (closing b p) ≤ 2 * day_minutes = closes_bound (opening b p) (closing b p) last in omega arith))
      ∙ and-false (has_weekday (weekdays b p) w)

  module _ (k : ℕ) where
    abbrev today : ℕ
    today = weekday (day_of b k)

    abbrev since : ℕ
    since = second_of b k

    -- today's window counts from today's midnight, yesterday's from one a day further back
    none_ago : open_on b p (weekday_ago 0 today) (since + 0 * day_seconds) ≡ open_on b p today since
    unfolding weekday_ago
    none_ago = ap (open_on b p today) (let none : since + 0 * day_seconds ≡ since = omega arith in none)

    one_ago : open_on b p (weekday_ago 1 today) (since + 1 * day_seconds) ≡ open_on b p (weekday_before today) (since + day_seconds)
    unfolding weekday_ago
    one_ago = ap (open_on b p (weekday_before today)) (let one : since + 1 * day_seconds ≡ since + day_seconds = omega arith in one)

    from_day : (n : ℕ) → open_on b p (weekday_ago n today) (since + n * day_seconds) ≡ true → is_open b p k ≡ true
    unfolding is_open
    from_day zero e = ap (λ (x : Bool). x || open_on b p (weekday_before today) (since + day_seconds)) (sym none_ago ∙ e)
    from_day (suc zero) e = ap (λ (x : Bool). open_on b p today since || x) (sym one_ago ∙ e) ∙ or-true (open_on b p today since)
    from_day (suc (suc n)) e = absurd (true≢false (sym e ∙ never_earlier (weekday_ago (suc (suc n)) today) since (suc (suc n)) (omega arith)))

    has_day : is_open b p k ≡ true → OnSomeDay b p k
    unfolding is_open
    has_day e = go (both (open_on b p today since))
      where
        go : (open_on b p today since ≡ true) ⊎ (open_on b p today since ≡ false) → OnSomeDay b p k
        go (inl t) = record { days_ago = 0; open_from_there = none_ago ∙ t }
        go (inr f) = record { days_ago = 1; open_from_there = one_ago ∙ sym (ap (λ (x : Bool). x || open_on b p (weekday_before today) (since + day_seconds)) f) ∙ e }

pub belongs : (b : List ℕ) → FineBlock b → (p k : ℕ) → p < booked_processes → Belongs b p k
belongs b fine p k one = record { has_day = has_day b p (fine.closes p one) k; any_day = λ d. from_day b p (fine.closes p one) k d.days_ago d.open_from_there }
