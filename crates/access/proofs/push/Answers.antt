-- `access::push` meets its contract: under what each test told, the definition computes to the answer. Assumes nothing.
use mathlib.Core.Path.{refl}
use Rattle.basics.specs.Choice.{pick}
use Rattle.basics.proofs.Choice.{equal_same, unequal_same}
use Rattle.rows.proofs.Nodes.{next_stored}
use Rattle.machine.specs.Memory.{with_next, with_top, set_from_to, yes_if}
use Rattle.machine.specs.Access.{access, have_set}
use Rattle.machine.specs.Notes.{event_of}
use Rattle.access.specs.Nodes.{memory_of}
use Rattle.access.specs.View.{reached_from, reached_by}
use Rattle.access.proofs.push.Goals as goal

pub returns-then-c : goal.returns-then-c
unfolding access have_set reached_from reached_by memory_of event_of with_next with_top set_from_to yes_if pick
returns-then-c c = let stored = next_stored _ _ _ _ c.store.ensures.columns in
    rw c.answer.ensures
    (record { reaches = rw (equal_same c.if-c.true, stored.0, stored.1, stored.2); tells = refl })

pub returns : goal.returns
unfolding access have_set reached_from reached_by memory_of event_of with_next with_top set_from_to yes_if pick
returns c = rw c.answer-2.ensures (record { reaches = rw (unequal_same c.if-c.false); tells = refl })
