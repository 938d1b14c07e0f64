-- `access::clear_flag` meets its contract: under what each test told, the definition computes to the answer. Assumes nothing.
use mathlib.Core.Path.{refl}
use Rattle.basics.specs.Choice.{pick}
use Rattle.rows.specs.Nodes.{uppers}
use Rattle.rows.proofs.Nodes.{mark_stored}
use Rattle.machine.specs.Memory.{with_mark, yes_if}
use Rattle.machine.specs.Access.{access, have_set}
use Rattle.machine.specs.Notes.{event_of}
use Rattle.access.specs.Nodes.{memory_of}
use Rattle.access.specs.View.{reached_from, reached_by}
use Rattle.access.proofs.Cells.{cell_is, cell_is_not}
use Rattle.access.proofs.clear_flag.Goals as goal

pub returns-then-cell-eq-NONE : goal.returns-then-cell-eq-NONE
unfolding access have_set reached_from reached_by memory_of event_of with_mark yes_if pick
returns-then-cell-eq-NONE c = λ own.
    let stored = mark_stored _ _ _ _ c.store.ensures.columns in
    let none = cell_is (uppers _) _ c.cell.ensures c.if-cell-eq-NONE.true in
    rw c.answer.ensures (record { reaches = rw (none, stored.0, stored.1, stored.2); tells = refl })

pub returns : goal.returns
unfolding access have_set reached_from reached_by memory_of event_of with_mark yes_if pick
returns c = λ own.
    let some = cell_is_not (uppers _) _ c.cell.ensures c.if-cell-eq-NONE.false in
    rw c.answer-2.ensures (record { reaches = rw some; tells = refl })
