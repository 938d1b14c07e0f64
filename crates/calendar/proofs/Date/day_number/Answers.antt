-- `calendar::Date::day_number` meets its contract: the days of years, months and days. Assumes nothing.
use native.Mathlib.Omega.{arith}
use Rattle.calendar.specs.Dates.{day_number}
use Rattle.calendar.proofs.Dates.{date_of}
use Rattle.calendar.proofs.Date.day_number.Goals as goal

pub month_start-requires : goal.month_start-requires
month_start-requires c = let date = date_of c.args.self.there in (date.first_month, omega arith)

pub overflow_sub-result : goal.overflow_sub-result
overflow_sub-result c = (date_of c.args.self.there).first_day

pub returns : goal.returns
unfolding day_number
returns c = omega (arith, c.year_start.ensures, c.month_start.ensures)
