-- The fields of a window block. Document 02, request 6: "one 512-byte block numbered 0 with the same sums, has from byte 2: year (2 bytes, 2000 to 2099),
-- month and day (1 byte each), second of the day (4 bytes, 0 to 86,399), then for each of eight processes a weekday byte (bit 0 Monday to bit 6 Sunday,
-- bit 7 zero), opening and closing minute (2 bytes each, 0 to 1,440); zeros follow." Bytes are counted from the block's first.
use Rattle.std.specs.Prelude.{ℕ, ◌+◌, ◌*◌, List}
use Rattle.basics.specs.Maps.{at}
use Rattle.basics.specs.Words.{word}

-- "year (2 bytes"
unfoldable pub year : List ℕ → ℕ
year b = word b 2

-- "month and day (1 byte each)"
unfoldable pub month : List ℕ → ℕ
month b = at b 4

unfoldable pub day : List ℕ → ℕ
day b = at b 5

-- "second of the day (4 bytes"
unfoldable pub second : List ℕ → ℕ
second b = 65536 * word b 6 + word b 8

-- "for each of eight processes": where the entry of a process stands, five bytes each
unfoldable pub entry_at : ℕ → ℕ
entry_at p = 10 + 5 * p

-- "a weekday byte"
unfoldable pub weekdays : List ℕ → ℕ → ℕ
weekdays b p = at b (entry_at p)

-- "opening and closing minute (2 bytes each"
unfoldable pub opening : List ℕ → ℕ → ℕ
opening b p = word b (entry_at p + 1)

unfoldable pub closing : List ℕ → ℕ → ℕ
closing b p = word b (entry_at p + 3)

-- how many processes it has, and the most minutes of a day
abbrev pub booked_processes : ℕ
booked_processes = 8

abbrev pub day_minutes : ℕ
day_minutes = 1440

abbrev pub day_seconds : ℕ
day_seconds = 86400
