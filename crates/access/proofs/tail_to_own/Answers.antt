-- `access::tail_to_own` meets its contract: the definition computes to the answer. Assumes nothing.
use mathlib.Core.Path.{refl}
use Rattle.machine.specs.Access.{access, have_set}
use Rattle.machine.specs.Notes.{event_of}
use Rattle.access.specs.Nodes.{memory_of}
use Rattle.access.specs.View.{reached_from, reached_by}
use Rattle.machine.specs.Memory.{with_tail}
use Rattle.access.proofs.tail_to_own.Goals as goal

pub returns : goal.returns
unfolding access have_set reached_from reached_by memory_of event_of with_tail
returns c = λ nodes.
    rw (c.answer.ensures, c.set_from_to-outcome.ensures.0, c.set_from_to-outcome.ensures.1)
    (record { reaches = refl; tells = refl })
