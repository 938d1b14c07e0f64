-- `calendar::year_start` meets its contract. Assumes nothing.
use mathlib.Core.Path.{sym}
use Prim.Native.Nat.{◌-◌}
use native.Mathlib.Omega.{arith}
use Rattle.calendar.proofs.Years.{days_of_years_is}
use Rattle.calendar.proofs.year_start.Goals as goal

pub returns : goal.returns
returns c = sym (days_of_years_is (c.args.year - 2000) (omega arith))
