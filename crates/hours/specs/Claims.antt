-- What the sentences of document 02, request 6, say of windows, whatever their minutes: claims about `Open.antt`, which `proofs/Claimed.antt` proves.
use Rattle.std.specs.Prelude.{◌≡◌, ℕ, ◌+◌, ◌*◌, ◌≤◌, ◌<◌, true, false, List}
use Rattle.calendar.specs.Weekdays.{weekday, weekday_ago}
use Rattle.windows.specs.Fields.{day_minutes, day_seconds}
use Rattle.hours.specs.Open.{closes, in_window, open_on, day_of, second_of, is_open}

-- a window from one minute to another
pub record WindowClaims (from to : ℕ) : Type 0 where
  -- "A closing before its opening counts a day later", and no other does
  pub day_later : to < from → closes from to ≡ to + day_minutes
  pub same_day : from ≤ to → closes from to ≡ to
  -- "A window includes its opening second and not its closing one": it has the seconds from the one on and before the other, and no second else
  pub not_yet : (s : ℕ) → s < 60 * from → in_window from to s ≡ false
  pub within : (s : ℕ) → 60 * from ≤ s → s < 60 * closes from to → in_window from to s ≡ true
  pub no_more : (s : ℕ) → 60 * closes from to ≤ s → in_window from to s ≡ false
  -- "Equal minutes mean shut."
  pub equal_minutes : from ≡ to → (s : ℕ) → in_window from to s ≡ false

-- the minutes at the ends of a day
pub record EndsOfDay : Type 0 where
  -- 0 to 1,440 is a whole day
  pub whole_day : (s : ℕ) → s < day_seconds → in_window 0 day_minutes s ≡ true
  -- an opening of 1,440 is the next midnight
  pub next_midnight : (to s : ℕ) → to < day_minutes → in_window day_minutes to (s + day_seconds) ≡ in_window 0 to s

-- a day from whose midnight the window of process p is open at step k: the day of the step, or one so many days before
pub record OnSomeDay (b : List ℕ) (p k : ℕ) : Type 0 where
  pub days_ago : ℕ
  pub open_from_there : open_on b p (weekday_ago days_ago (weekday (day_of b k))) (second_of b k + days_ago * day_seconds) ≡ true

-- "a window belongs to the weekday from whose midnight its opening counts": open exactly if on some day, however long ago
pub record Belongs (b : List ℕ) (p k : ℕ) : Type 0 where
  pub has_day : is_open b p k ≡ true → OnSomeDay b p k
  pub any_day : OnSomeDay b p k → is_open b p k ≡ true
