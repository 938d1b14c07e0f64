-- `windows::bad_block` meets its contract: each test is a part of the condition. Assumes nothing.
use mathlib.Core.Path.{refl, ap, ◌∙◌}
use mathlib.Core.Bool.{◌||◌}
use Rattle.block.proofs.Given.{error_counts}
use Rattle.windows.specs.Refused.{bad_start, bad_entries, bad_rest}
use Rattle.windows.proofs.Tests.{or_met, or_missed, refused_block, tests_decide}
use Rattle.windows.proofs.bad_block.Goals as goal
use Rattle.windows.proofs.bad_block.Goals.{then-bad_start, else-bad_start}

pub returns-in_default : goal.returns-in_default
returns-in_default c = refused_block _ c.in_default.ensures.number (error_counts c.in_default.field-0)

pub returns-then-bad_entries : goal.returns-then-bad_entries
returns-then-bad_entries c =
    or_met (bad_rest c.over-block.result)
    (elim c.if-bad_start.branch [
      | then-bad_start w ↦ or_met (bad_entries c.over-block.result) (w.value-is ∙ c.bad_start.ensures) (w.value-is ∙ w.if-bad_start.true)
      | else-bad_start w ↦ w.value-is ∙ w.bad_entries.ensures ∙ or_missed c.bad_start.ensures w.if-bad_start.false
    ])
    c.if-bad_entries.true
    ∙ ap (λ s. bad_start s || bad_entries s || bad_rest s) c.over-block.ensures
    ∙ tests_decide _ c.in-Ok.ensures.number refl

pub returns-else-bad_entries : goal.returns-else-bad_entries
returns-else-bad_entries c =
    c.bad_rest.ensures
    ∙ or_missed
    (elim c.if-bad_start.branch [
      | then-bad_start w ↦ or_met (bad_entries c.over-block.result) (w.value-is ∙ c.bad_start.ensures) (w.value-is ∙ w.if-bad_start.true)
      | else-bad_start w ↦ w.value-is ∙ w.bad_entries.ensures ∙ or_missed c.bad_start.ensures w.if-bad_start.false
    ])
    c.if-bad_entries.false
    ∙ ap (λ s. bad_start s || bad_entries s || bad_rest s) c.over-block.ensures
    ∙ tests_decide _ c.in-Ok.ensures.number refl
