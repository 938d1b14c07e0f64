-- Open and shut steps, as one table: the edges of a window, of a day, of a month and of a year. They are worked out by hand from the words of document 02,
-- request 6, with weekdays from a calendar. `edges_proved` says that the definitions give them, by computation.
use Rattle.std.specs.Prelude.{◌≡◌, refl, ℕ, Bool, true, false, List, [], ◌∷◌, map}
use Rattle.basics.specs.Choice.{pick, same, less}
use Rattle.basics.specs.Maps.{at}
use Rattle.basics.specs.Words.{word, word_bytes}
use Rattle.block.specs.Block.{payload_size, add_byte, add_bytes, sums, block}
use Rattle.block.specs.Checked.{filled}
use Rattle.job.specs.Examples.{joined_records}
use Rattle.calendar.specs.Years.{is_leap, year_length, days_of_years}
use Rattle.calendar.specs.Months.{common_lengths, month_length, days_of_months}
use Rattle.calendar.specs.Dates.{day_number}
use Rattle.calendar.specs.Weekdays.{weekday, weekday_after, weekday_before}
use Rattle.windows.specs.Fields.{year, month, day, second, entry_at, weekdays, opening, closing}
use Rattle.hours.specs.Open.{closes, in_window, has_weekday, open_on, since_midnight, day_of, second_of, is_open}
use Rattle.windows.specs.Examples.{window, start, windows}

-- "bit 0 Monday to bit 6 Sunday"
abbrev pub mo : ℕ
mo = 1

abbrev pub tu : ℕ
tu = 2

abbrev pub we : ℕ
we = 4

abbrev pub th : ℕ
th = 8

abbrev pub fr : ℕ
fr = 16

abbrev pub sa : ℕ
sa = 32

abbrev pub su : ℕ
su = 64

abbrev pub daily : ℕ
daily = 127

-- starts in January 2000, from Wednesday the 5th to Monday the 10th, each at a second of the day
unfoldable pub wednesday : ℕ → List (List ℕ) → List ℕ
wednesday s entries = windows 2000 1 5 s entries

unfoldable pub thursday : ℕ → List (List ℕ) → List ℕ
thursday s entries = windows 2000 1 6 s entries

unfoldable pub friday : ℕ → List (List ℕ) → List ℕ
friday s entries = windows 2000 1 7 s entries

unfoldable pub sunday : ℕ → List (List ℕ) → List ℕ
sunday s entries = windows 2000 1 9 s entries

unfoldable pub monday : ℕ → List (List ℕ) → List ℕ
monday s entries = windows 2000 1 10 s entries

-- a block, a process and a step, and is the process's window open at that step?
pub record Row : Type 0 where
  pub block : List ℕ
  pub process : ℕ
  pub step : ℕ
  pub open_then : Bool

abbrev pub opened : List ℕ → ℕ → ℕ → Row
opened b p k = record { block = b; process = p; step = k; open_then = true }

abbrev pub shut : List ℕ → ℕ → ℕ → Row
shut b p k = record { block = b; process = p; step = k; open_then = false }

unfoldable pub rows : List Row
rows =
    -- "A window includes its opening second": 05:00 is second 18,000
    shut (thursday 17999 (window th 300 600 ∷ [])) 0 1
    ∷ opened (thursday 17999 (window th 300 600 ∷ [])) 0 2
    -- "and not its closing one": 10:00 is second 36,000
    ∷ opened (thursday 35998 (window th 300 600 ∷ [])) 0 2
    ∷ shut (thursday 35998 (window th 300 600 ∷ [])) 0 3
    -- "Step k falls k − 1 seconds after the start": the last step of the longest job, from 00:26:57 to 05:00
    ∷ shut (thursday 1617 (window th 300 600 ∷ [])) 0 16383
    ∷ opened (thursday 1617 (window th 300 600 ∷ [])) 0 16384
    -- each process has its own window; that of one without weekdays is shut
    ∷ opened (thursday 18000 (window fr 300 600 ∷ window th 300 600 ∷ [])) 1 1
    ∷ shut (thursday 18000 (window fr 300 600 ∷ window th 300 600 ∷ [])) 0 1
    ∷ shut (thursday 18000 (window 0 300 600 ∷ [])) 0 1
    ∷ shut (thursday 18000 (window daily 300 600 ∷ [])) 7 1
    -- "bit 0 Monday to bit 6 Sunday"
    ∷ opened (monday 18000 (window mo 300 600 ∷ [])) 0 1
    ∷ shut (monday 18000 (window su 300 600 ∷ [])) 0 1
    ∷ shut (monday 18000 (window tu 300 600 ∷ [])) 0 1
    ∷ opened (sunday 18000 (window su 300 600 ∷ [])) 0 1
    ∷ shut (sunday 18000 (window mo 300 600 ∷ [])) 0 1
    ∷ shut (sunday 18000 (window sa 300 600 ∷ [])) 0 1
    -- "A closing before its opening counts a day later": 22:00 to 02:00, from second 79,200 to second 7,200 of the next day
    ∷ shut (thursday 79199 (window th 1320 120 ∷ [])) 0 1
    ∷ opened (thursday 79199 (window th 1320 120 ∷ [])) 0 2
    ∷ opened (thursday 86398 (window th 1320 120 ∷ [])) 0 2
    ∷ opened (thursday 86398 (window th 1320 120 ∷ [])) 0 3
    ∷ opened (friday 7198 (window th 1320 120 ∷ [])) 0 2
    ∷ shut (friday 7198 (window th 1320 120 ∷ [])) 0 3
    -- "a window belongs to the weekday from whose midnight its opening counts": not to that of its closing
    ∷ shut (thursday 3600 (window th 1320 120 ∷ [])) 0 1
    ∷ opened (thursday 3600 (window we 1320 120 ∷ [])) 0 1
    ∷ shut (friday 79200 (window th 1320 120 ∷ [])) 0 1
    ∷ opened (monday 3600 (window su 1320 120 ∷ [])) 0 1
    ∷ shut (monday 3600 (window mo 1320 120 ∷ [])) 0 1
    -- a closing a minute before the opening: shut from 10:00 to 10:01 alone
    ∷ opened (thursday 35999 (window daily 601 600 ∷ [])) 0 1
    ∷ shut (thursday 35999 (window daily 601 600 ∷ [])) 0 2
    ∷ shut (thursday 35999 (window daily 601 600 ∷ [])) 0 61
    ∷ opened (thursday 35999 (window daily 601 600 ∷ [])) 0 62
    -- "Equal minutes mean shut."
    ∷ shut (thursday 35999 (window daily 600 600 ∷ [])) 0 1
    ∷ shut (thursday 35999 (window daily 600 600 ∷ [])) 0 2
    ∷ shut (thursday 0 (window daily 0 0 ∷ [])) 0 1
    ∷ shut (thursday 86399 (window daily 1440 1440 ∷ [])) 0 1
    ∷ shut (thursday 86399 (window daily 1440 1440 ∷ [])) 0 2
    -- 0 to 1,440 is a whole day, from its midnight to the next
    ∷ shut (wednesday 86399 (window th 0 1440 ∷ [])) 0 1
    ∷ opened (wednesday 86399 (window th 0 1440 ∷ [])) 0 2
    ∷ opened (thursday 86399 (window th 0 1440 ∷ [])) 0 1
    ∷ shut (thursday 86399 (window th 0 1440 ∷ [])) 0 2
    -- an opening of 1,440 is the next midnight, under the weekday before: Wednesday's 24:00 to 01:00 is on Thursday
    ∷ shut (wednesday 86399 (window we 1440 60 ∷ [])) 0 1
    ∷ opened (wednesday 86399 (window we 1440 60 ∷ [])) 0 2
    ∷ opened (thursday 3599 (window we 1440 60 ∷ [])) 0 1
    ∷ shut (thursday 3599 (window we 1440 60 ∷ [])) 0 2
    ∷ shut (thursday 0 (window th 1440 60 ∷ [])) 0 1
    ∷ opened (friday 0 (window th 1440 60 ∷ [])) 0 1
    -- 1,440 with closing 0: a day later, 0 is that very midnight
    ∷ shut (thursday 86399 (window daily 1440 0 ∷ [])) 0 1
    ∷ shut (thursday 86399 (window daily 1440 0 ∷ [])) 0 2
    -- 1,440 with closing 1,439: a whole day but its last minute
    ∷ opened (friday 86339 (window th 1440 1439 ∷ [])) 0 1
    ∷ shut (friday 86339 (window th 1440 1439 ∷ [])) 0 2
    -- "Gregorian calendar": Tuesday 29 February 2000 to Wednesday 1 March
    ∷ opened (windows 2000 2 29 86399 (window tu 0 1440 ∷ [])) 0 1
    ∷ shut (windows 2000 2 29 86399 (window tu 0 1440 ∷ [])) 0 2
    ∷ opened (windows 2000 2 29 86399 (window we 0 1440 ∷ [])) 0 2
    ∷ opened (windows 2000 3 1 0 (window we 0 1440 ∷ [])) 0 1
    -- Thursday 29 February 2024 to Friday 1 March, also within a window
    ∷ opened (windows 2024 2 29 86399 (window th 0 1440 ∷ [])) 0 1
    ∷ shut (windows 2024 2 29 86399 (window fr 0 1440 ∷ [])) 0 1
    ∷ opened (windows 2024 2 29 86399 (window fr 0 1440 ∷ [])) 0 2
    ∷ opened (windows 2024 2 29 86399 (window th 1320 120 ∷ [])) 0 2
    ∷ opened (windows 2024 3 1 0 (window fr 0 1440 ∷ [])) 0 1
    -- Wednesday 28 February 2001 to Thursday 1 March
    ∷ opened (windows 2001 2 28 86399 (window th 0 1440 ∷ [])) 0 2
    ∷ opened (windows 2001 3 1 0 (window th 0 1440 ∷ [])) 0 1
    -- Sunday 31 December 2000 to Monday 1 January 2001, also within a window
    ∷ opened (windows 2000 12 31 86399 (window su 0 1440 ∷ [])) 0 1
    ∷ shut (windows 2000 12 31 86399 (window su 0 1440 ∷ [])) 0 2
    ∷ opened (windows 2000 12 31 86399 (window mo 0 1440 ∷ [])) 0 2
    ∷ opened (windows 2000 12 31 86399 (window su 1320 120 ∷ [])) 0 2
    ∷ opened (windows 2001 1 1 3600 (window su 1320 120 ∷ [])) 0 1
    -- Tuesday 31 December 2024 to Wednesday 1 January 2025
    ∷ opened (windows 2024 12 31 86399 (window tu 0 1440 ∷ [])) 0 1
    ∷ opened (windows 2024 12 31 86399 (window we 0 1440 ∷ [])) 0 2
    -- "1 January 2000 was a Saturday", and the day before a Friday, whose window may still be open
    ∷ opened (windows 2000 1 1 0 (window sa 0 1440 ∷ [])) 0 1
    ∷ opened (windows 2000 1 1 0 (window fr 1320 120 ∷ [])) 0 1
    ∷ opened (windows 2000 1 1 0 (window fr 1320 120 ∷ [])) 0 7200
    ∷ shut (windows 2000 1 1 0 (window fr 1320 120 ∷ [])) 0 7201
    ∷ shut (windows 2000 1 1 0 (window sa 1320 120 ∷ [])) 0 1
    -- Thursday 31 December 2099 to Friday 1 January 2100
    ∷ opened (windows 2099 12 31 86399 (window th 0 1440 ∷ [])) 0 1
    ∷ opened (windows 2099 12 31 86399 (window fr 0 1440 ∷ window th 1320 120 ∷ [])) 0 2
    ∷ opened (windows 2099 12 31 86399 (window fr 0 1440 ∷ window th 1320 120 ∷ [])) 1 2
    ∷ []

pub edges_proved : map (λ r. is_open r.block r.process r.step) rows ≡ map (λ r. r.open_then) rows
unfolding rows thursday wednesday friday sunday monday window start windows joined_records filled pick same less at word word_bytes payload_size add_byte add_bytes sums block is_leap year_length days_of_years common_lengths month_length days_of_months day_number weekday_after weekday_before weekday year month day second entry_at weekdays opening closing closes in_window has_weekday open_on since_midnight day_of second_of is_open
edges_proved = refl
