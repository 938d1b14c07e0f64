-- `windows::WindowBlock::bad_window` meets its contract: each test is a part of the condition. Assumes nothing.
use mathlib.Core.Path.{◌∙◌}
use Rattle.basics.specs.Choice.{less}
use Rattle.windows.proofs.Tests.{bits_past, opening_past, window_past, window_last}
use Rattle.windows.proofs.WindowBlock.bad_window.Goals as goal
use Rattle.windows.proofs.WindowBlock.bad_window.Goals.{then-entry-gt-ALL_DAYS, else-entry-gt-ALL_DAYS}

pub returns-then-entry-gt-DAY_MINUTES : goal.returns-then-entry-gt-DAY_MINUTES
returns-then-entry-gt-DAY_MINUTES c =
    let past = c.if-entry-gt-DAY_MINUTES.either in
    elim c.if-entry-gt-ALL_DAYS.branch [
      | then-entry-gt-ALL_DAYS w ↦ w.t-5-is ∙ bits_past w.if-entry-gt-ALL_DAYS.true
      | else-entry-gt-ALL_DAYS w ↦ w.t-5-is ∙ opening_past w.if-entry-gt-ALL_DAYS.false past
    ]
    ∙ window_past _ _ c.entry-entry.ensures past

pub returns-else-entry-gt-DAY_MINUTES : goal.returns-else-entry-gt-DAY_MINUTES
unfolding less
returns-else-entry-gt-DAY_MINUTES c = window_last _ _ c.entry-entry.ensures c.if-entry-gt-DAY_MINUTES.false
