-- Weekdays by name. Document 02, request 6: "bit 0 Monday to bit 6 Sunday".
use Rattle.std.specs.Prelude.{ℕ}
use Rattle.calendar.specs.declared.Weekday.{Weekday}
use Rattle.calendar.specs.declared.Weekday.TheVariants.{Monday, Tuesday, Wednesday, Thursday, Friday, Saturday, Sunday}
use Rattle.calendar.specs.Weekdays.{monday, tuesday, wednesday, thursday, friday, saturday, sunday}

-- the number of a weekday, by which the definitions count
abbrev pub weekday_number : Weekday → ℕ
weekday_number Monday = monday
weekday_number Tuesday = tuesday
weekday_number Wednesday = wednesday
weekday_number Thursday = thursday
weekday_number Friday = friday
weekday_number Saturday = saturday
weekday_number Sunday = sunday
