-- `calendar::month_length` meets its contract: from a month's start to the next one's. Assumes nothing.
use native.Mathlib.Omega.{arith}
use Rattle.calendar.proofs.Months.{between_starts}
use Rattle.calendar.proofs.month_length.Goals as goal

pub overflow_sub-result : goal.overflow_sub-result
overflow_sub-result c = omega (arith, between_starts c.args.year c.args.month c.requires.0 c.month_start.ensures c.month_start-2.ensures)

pub returns : goal.returns
returns c = omega (arith, between_starts c.args.year c.args.month c.requires.0 c.month_start.ensures c.month_start-2.ensures)
