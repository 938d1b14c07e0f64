-- `calendar::Weekday::previous` meets its contract. Assumes nothing.
use Rattle.calendar.proofs.Weekdays.{number_bound, before_is}
use Rattle.calendar.proofs.Weekday.previous.Goals as goal
use native.Mathlib.Omega.{arith}

pub returns : goal.returns
returns c = before_is (number_bound c.args.self) (omega (arith, c.numbered.ensures, c.from.ensures))
