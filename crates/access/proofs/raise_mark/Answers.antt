-- `access::raise_mark` meets its contract: the definition computes to the answer. Assumes nothing.
use mathlib.Core.Path.{refl}
use Rattle.machine.specs.Memory.{with_mark}
use Rattle.rows.proofs.Nodes.{mark_stored}
use Rattle.machine.specs.Access.{access, have_set}
use Rattle.machine.specs.Notes.{event_of}
use Rattle.access.specs.Nodes.{memory_of}
use Rattle.access.specs.View.{reached_from, reached_by}
use Rattle.access.proofs.raise_mark.Goals as goal

pub returns : goal.returns
unfolding access have_set reached_from reached_by memory_of event_of with_mark
returns c = λ own.
    let stored = mark_stored _ _ _ _ c.store.ensures.columns in
    rw c.answer.ensures (record { reaches = rw (stored.0, stored.1, stored.2); tells = refl })
