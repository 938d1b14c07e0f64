-- `calendar::Date::weekday` meets its contract: weekdays go round in sevens. Assumes nothing.
use mathlib.Core.Path.{ap}
use native.Mathlib.Omega.{arith}
use Rattle.calendar.specs.Weekdays.{weekday}
use Rattle.calendar.proofs.Weekdays.{weekday_is}
use Rattle.calendar.proofs.Date.weekday.Goals as goal

pub returns : goal.returns
returns c = omega (arith, c.numbered.ensures, weekday_is c.day_number.result, ap weekday c.day_number.ensures)
