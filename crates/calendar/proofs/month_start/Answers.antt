-- `calendar::month_start` meets its contract: the formula of a common year, and from March on the leap day. Assumes nothing.
use mathlib.Core.Path.{sym, ◌∙◌}
use Prim.Native.Nat.{◌-◌}
use native.Mathlib.Omega.{arith}
use Rattle.calendar.specs.Starts.{common_start}
use Rattle.calendar.proofs.Months.{can_take_off, before_march, with_leap_day, without_leap_day}
use Rattle.calendar.proofs.month_start.Goals as goal
use Rattle.calendar.proofs.month_start.Goals.{then-before_march-via-then-before_march, then-before_march-via-else-before_march+then-not-is_leap}

pub overflow_sub-days : goal.overflow_sub-days
overflow_sub-days c = can_take_off (c.args.month - 1) _

pub returns-then-before_march : goal.returns-then-before_march
unfolding common_start
returns-then-before_march c =
    elim c.then-before_march.branch [
      | then-before_march-via-then-before_march w ↦ before_march c.args.year (c.args.month - 1) w.if-before_march.true
      | then-before_march-via-else-before_march+then-not-is_leap w ↦ without_leap_day c.args.year (c.args.month - 1) (omega arith) w.if-before_march.false (sym w.is_leap.ensures ∙ w.if-not-is_leap.true)
    ]

pub returns : goal.returns
unfolding common_start
returns c = with_leap_day c.args.year (c.args.month - 1) (omega arith) (omega arith) (sym c.is_leap.ensures ∙ c.if-not-is_leap.false)
