-- `calendar::is_leap` meets its contract: a fourth year, and any other. Assumes nothing.
use mathlib.Core.Path.{◌∙◌}
use Rattle.basics.specs.Choice.{same}
use Rattle.basics.proofs.Choice.{equal_same, unequal_same}
use Rattle.calendar.proofs.Years.{leap_fourth, leap_hundredth}
use Rattle.calendar.proofs.is_leap.Goals as goal
use Rattle.calendar.proofs.is_leap.Goals.{then-year-eq0, else-year-eq0}

pub returns-then-year-ne0 : goal.returns-then-year-ne0
unfolding same
returns-then-year-ne0 c =
    leap_fourth c.args.year
    (elim c.if-year-eq0.branch [ then-year-eq0 w ↦ w.value-is ∙ simp (equal_same w.if-year-eq0.true) | else-year-eq0 w ↦ w.value-is ∙ simp (unequal_same w.if-year-eq0.false) ])
    c.if-year-ne0.true

pub returns-else-year-ne0 : goal.returns-else-year-ne0
unfolding same
returns-else-year-ne0 c =
    leap_hundredth c.args.year
    (elim c.if-year-eq0.branch [ then-year-eq0 w ↦ w.value-is ∙ simp (equal_same w.if-year-eq0.true) | else-year-eq0 w ↦ w.value-is ∙ simp (unequal_same w.if-year-eq0.false) ])
    c.if-year-ne0.false
