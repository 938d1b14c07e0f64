-- `access::link_above` meets its contract: under what each test told, the definition computes to the answer. Assumes nothing.
use mathlib.Core.Path.{refl}
use Rattle.basics.specs.Choice.{pick}
use Rattle.rows.specs.Nodes.{marks, uppers}
use Rattle.rows.proofs.Nodes.{next_stored, upper_stored}
use Rattle.machine.specs.Memory.{with_next, with_upper, yes_if}
use Rattle.machine.specs.Access.{access, have_set}
use Rattle.machine.specs.Notes.{event_of}
use Rattle.access.specs.Nodes.{memory_of}
use Rattle.access.specs.View.{reached_from, reached_by}
use Rattle.access.proofs.Cells.{cell_is, cell_is_not}
use Rattle.access.proofs.link_above.Goals as goal

pub returns-then-cell-ne-NONE : goal.returns-then-cell-ne-NONE
unfolding access have_set reached_from reached_by memory_of event_of with_next with_upper yes_if pick
returns-then-cell-ne-NONE c = let some = cell_is_not (uppers _) _ c.cell.ensures c.if-cell-ne-NONE.true in
    rw c.answer.ensures (record { reaches = rw some; tells = refl })

pub returns-then-cell-ne-LIVE : goal.returns-then-cell-ne-LIVE
unfolding access have_set reached_from reached_by memory_of event_of with_next with_upper yes_if pick
returns-then-cell-ne-LIVE c = let none = cell_is (uppers _) _ c.cell.ensures c.if-cell-ne-NONE.false in
    let dead = cell_is_not (marks _) _ c.cell-2.ensures c.if-cell-ne-LIVE.true in
    rw c.answer-then-cell-ne-LIVE.ensures (record { reaches = rw (none, dead); tells = refl })

pub returns : goal.returns
unfolding access have_set reached_from reached_by memory_of event_of with_next with_upper yes_if pick
returns c = let none = cell_is (uppers _) _ c.cell.ensures c.if-cell-ne-NONE.false in
    let live = cell_is (marks _) _ c.cell-2.ensures c.if-cell-ne-LIVE.false in
    let above = upper_stored _ _ _ _ c.store.ensures.columns in
    let below = next_stored _ _ _ _ c.store-2.ensures.columns in
    rw c.answer-2.ensures
    (record { reaches = rw (none, live, below.0, below.1, below.2, above.0, above.1, above.2); tells = refl })
