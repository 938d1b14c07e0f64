-- Weekdays, by counting days. Document 02, request 6: "bit 0 Monday to bit 6 Sunday"; "1 January 2000 was a Saturday."
use Rattle.std.specs.Prelude.{ℕ, zero, suc, ◌-◌}
use Rattle.basics.specs.Choice.{pick, same}

abbrev pub monday : ℕ
monday = 0

abbrev pub tuesday : ℕ
tuesday = 1

abbrev pub wednesday : ℕ
wednesday = 2

abbrev pub thursday : ℕ
thursday = 3

abbrev pub friday : ℕ
friday = 4

abbrev pub saturday : ℕ
saturday = 5

abbrev pub sunday : ℕ
sunday = 6

-- the weekday of the next day
unfoldable pub weekday_after : ℕ → ℕ
weekday_after w = pick (same w sunday) monday (suc w)

-- the weekday of the day before
unfoldable pub weekday_before : ℕ → ℕ
weekday_before w = pick (same w monday) sunday (w - 1)

-- the weekday so many days after 1 January 2000
unfoldable pub weekday : ℕ → ℕ
weekday zero = saturday
weekday (suc n) = weekday_after (weekday n)

-- the weekday `n` days before a day of weekday `w`
unfoldable pub weekday_ago : ℕ → ℕ → ℕ
weekday_ago zero w = w
weekday_ago (suc n) w = weekday_before (weekday_ago n w)
