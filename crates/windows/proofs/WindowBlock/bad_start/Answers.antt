-- `windows::WindowBlock::bad_start` meets its contract: no date of the century, or no second of the day. Assumes nothing.
use mathlib.Core.Path.{ap, ◌∙◌}
use mathlib.Core.Bool.{not}
use Rattle.calendar.proofs.Century.{century_of}
use Rattle.windows.proofs.Tests.{date_missing, date_there}
use Rattle.windows.proofs.WindowBlock.bad_start.Goals as goal

pub returns-then-is_none : goal.returns-then-is_none
returns-then-is_none c =
    c.if-is_none.true ∙ date_missing _ (century_of _ _ _ c.start_date.result c.start_date.ensures) (c.is_none.ensures ∙ ap not c.if-is_none.true)

pub returns-else-is_none : goal.returns-else-is_none
returns-else-is_none c =
    date_there _ (century_of _ _ _ c.start_date.result c.start_date.ensures) (c.is_none.ensures ∙ ap not c.if-is_none.false) c.second.ensures
