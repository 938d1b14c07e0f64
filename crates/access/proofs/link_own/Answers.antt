-- `access::link_own` meets its contract: under what each test told, the definition computes to the answer. Assumes nothing.
use mathlib.Core.Path.{refl, sym, ◌∙◌}
use Rattle.basics.specs.Choice.{pick}
use Rattle.basics.proofs.Choice.{equal_same, unequal_same}
use Rattle.rows.proofs.Nodes.{next_stored}
use Rattle.machine.specs.Memory.{with_next, yes_if}
use Rattle.machine.specs.Access.{access, have_set}
use Rattle.machine.specs.Notes.{event_of}
use Rattle.access.specs.Nodes.{memory_of}
use Rattle.access.specs.View.{reached_from, reached_by}
use Rattle.access.proofs.link_own.Goals as goal

pub returns-then-cell-eq-NONE : goal.returns-then-cell-eq-NONE
unfolding access have_set reached_from reached_by memory_of event_of with_next yes_if pick
returns-then-cell-eq-NONE c = let stored = next_stored _ _ _ _ c.store.ensures.columns in
    let none = equal_same (sym c.cell.ensures ∙ c.if-cell-eq-NONE.true) in
    rw c.answer.ensures (record { reaches = rw (none, stored.0, stored.1, stored.2); tells = refl })

pub returns : goal.returns
unfolding access have_set reached_from reached_by memory_of event_of with_next yes_if pick
returns c = let some = unequal_same (λ e. c.if-cell-eq-NONE.false (c.cell.ensures ∙ e)) in
    rw c.answer-2.ensures (record { reaches = rw some; tells = refl })
