-- `calendar::Weekday::next` meets its contract. Assumes nothing.
use Rattle.calendar.proofs.Weekdays.{number_bound, after_is}
use Rattle.calendar.proofs.Weekday.next.Goals as goal
use native.Mathlib.Omega.{arith}

pub returns : goal.returns
returns c = after_is (number_bound c.args.self) (omega (arith, c.numbered.ensures, c.from.ensures))
