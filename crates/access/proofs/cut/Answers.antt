-- `access::cut` meets its contract: under what each test told, the definition computes to the answer. Assumes nothing.
use mathlib.Core.Path.{refl, sym}
use Rattle.basics.specs.Choice.{pick}
use Rattle.rows.specs.Nodes.{marks, uppers}
use Rattle.rows.proofs.Nodes.{upper_stored}
use Rattle.machine.specs.Memory.{with_upper, yes_if}
use Rattle.machine.specs.Access.{access, have_set}
use Rattle.machine.specs.Notes.{event_of}
use Rattle.access.specs.Nodes.{memory_of}
use Rattle.access.specs.View.{reached_from, reached_by}
use Rattle.access.proofs.Cells.{cell_is, cell_is_not}
use Rattle.access.proofs.cut.Goals as goal

pub returns-then-cell-c : goal.returns-then-cell-c
unfolding access have_set reached_from reached_by memory_of event_of with_upper yes_if pick
returns-then-cell-c c = λ own.
    let lower = c.cell-lower.ensures in
    let another = cell_is_not (uppers _) _ c.cell.ensures c.if-cell-c.true in
    rw c.answer.ensures (record { reaches = rw (sym lower, another); tells = refl })

pub returns-then-cell-ne-LIVE : goal.returns-then-cell-ne-LIVE
unfolding access have_set reached_from reached_by memory_of event_of with_upper yes_if pick
returns-then-cell-ne-LIVE c = λ own.
    let lower = c.cell-lower.ensures in
    let holds = cell_is (uppers _) _ c.cell.ensures c.if-cell-c.false in
    let dead = cell_is_not (marks _) _ c.cell-2.ensures c.if-cell-ne-LIVE.true in
    rw c.answer-then-cell-ne-LIVE.ensures (record { reaches = rw (sym lower, holds, dead); tells = refl })

pub returns : goal.returns
unfolding access have_set reached_from reached_by memory_of event_of with_upper yes_if pick
returns c = λ own.
    let lower = c.cell-lower.ensures in
    let holds = cell_is (uppers _) _ c.cell.ensures c.if-cell-c.false in
    let live = cell_is (marks _) _ c.cell-2.ensures c.if-cell-ne-LIVE.false in
    let stored = upper_stored _ _ _ _ c.store.ensures.columns in
    rw c.answer-2.ensures (record { reaches = rw (sym lower, holds, live, stored.0, stored.1, stored.2); tells = refl })
