-- Windows by the minute. Minutes are counted from the midnight before the start; a run lasts less than a day, so it meets one midnight at most, and of
-- every process three windows are of interest: those of the day before the start, of its day, and of the day after. `open_in_minute` says that they
-- decide what `is_open` says.
use Rattle.std.specs.Prelude.{ℕ, ◌+◌, ◌≤◌, ◌<◌, ◌≡◌, Bool, false, not, ◌&&◌, ◌||◌, List, length, get_or}
use Rattle.basics.specs.Choice.{less}
use Rattle.job.specs.Limits.{field}
use Rattle.calendar.specs.Dates.{day_number}
use Rattle.calendar.specs.Weekdays.{weekday, weekday_before, weekday_after}
use Rattle.windows.specs.Fields.{year, month, day, weekdays, opening, closing, day_minutes}
use Rattle.hours.specs.Open.{closes, has_weekday}
use Rattle.idling.specs.declared.Window.{Window}

-- the weekday of the start
unfoldable pub start_weekday : List ℕ → ℕ
start_weekday b = weekday (day_number (year b) (month b) (day b))

-- the window of a process, as the day of the start sees it
unfoldable pub window_of : List ℕ → ℕ → Window
window_of b p =
    record {
      yesterday = has_weekday (weekdays b p) (weekday_before (start_weekday b));
      today = has_weekday (weekdays b p) (start_weekday b);
      tomorrow = has_weekday (weekdays b p) (weekday_after (start_weekday b));
      opens = opening b p;
      closes = closes (opening b p) (closing b p);
    }

-- one that is never booked
abbrev pub no_window : Window
no_window = record { yesterday = false; today = false; tomorrow = false; opens = 0; closes = 0 }

-- is a minute in a window, from its opening on and before its closing, if it is booked?
unfoldable pub holds : Bool → ℕ → ℕ → ℕ → Bool
holds booked from to m = booked && (not (less m from) && less m to)

-- is a window open at a minute? Yesterday's midnight is a day further back, and tomorrow's a day later
unfoldable pub open_at : Window → ℕ → Bool
open_at v m =
    holds v.yesterday v.opens v.closes (m + day_minutes)
    || holds v.today v.opens v.closes m
    || holds v.tomorrow (v.opens + day_minutes) (v.closes + day_minutes) m

-- eight windows that open within a day and close within two
pub record InDays (windows : List Window) : Type 0 where
  pub eight : length windows ≡ field.processes
  pub opens : (p : ℕ) → p < field.processes → (get_or windows p no_window).opens ≤ day_minutes
  pub closes : (p : ℕ) → p < field.processes → (get_or windows p no_window).closes ≤ day_minutes + day_minutes
