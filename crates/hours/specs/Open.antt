-- Open or shut. Document 02, request 6: "Step k falls k − 1 seconds after the start, Gregorian calendar, no clock changes."
use Rattle.std.specs.Prelude.{ℕ, ◌+◌, ◌-◌, ◌*◌, ◌/◌, ◌%◌, ◌^◌, Bool, not, ◌&&◌, ◌||◌, List}
use Rattle.basics.specs.Choice.{pick, same, less}
use Rattle.calendar.specs.Dates.{day_number}
use Rattle.calendar.specs.Weekdays.{weekday, weekday_before}
use Rattle.windows.specs.Fields.{year, month, day, second, weekdays, opening, closing, day_minutes, day_seconds}

-- the minute at which a window closes, counted from the midnight from which its opening counts: "A closing before its opening counts a day later"
unfoldable pub closes : ℕ → ℕ → ℕ
closes from to = pick (less to from) (to + day_minutes) to

-- is a second in a window, counted from that midnight? "A window includes its opening second and not its closing one." So "Equal minutes mean shut."
unfoldable pub in_window : ℕ → ℕ → ℕ → Bool
in_window from to s = not (less s (60 * from)) && less s (60 * closes from to)

-- is a weekday's bit set? "bit 0 Monday to bit 6 Sunday"
unfoldable pub has_weekday : ℕ → ℕ → Bool
has_weekday bits w = same (bits / 2 ^ w % 2) 1

-- the window of a process on days of a weekday, at a second counted from the midnight of such a day: "a window belongs to the weekday from whose
-- midnight its opening counts"
unfoldable pub open_on : List ℕ → ℕ → ℕ → ℕ → Bool
open_on b p w s = has_weekday (weekdays b p) w && in_window (opening b p) (closing b p) s

-- the seconds from the midnight before the start to step k
unfoldable pub since_midnight : List ℕ → ℕ → ℕ
since_midnight b k = second b + (k - 1)

-- the day on which step k falls, counted from 1 January 2000, and the second of that day
unfoldable pub day_of : List ℕ → ℕ → ℕ
day_of b k = day_number (year b) (month b) (day b) + since_midnight b k / day_seconds

unfoldable pub second_of : List ℕ → ℕ → ℕ
second_of b k = since_midnight b k % day_seconds

-- is the window of process p open at step k? Today's may be, or yesterday's, whose midnight is a day further back; an earlier one never (`OnSomeDay`)
unfoldable pub is_open : List ℕ → ℕ → ℕ → Bool
is_open b p k =
    let today : ℕ = weekday (day_of b k) in
    let s : ℕ = second_of b k in
    open_on b p today s || open_on b p (weekday_before today) (s + day_seconds)
