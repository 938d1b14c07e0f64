-- `idling::shut_stretch` meets its contract. The loop's invariant: the entries before the index are written. Assumes nothing.
use mathlib.Core.Bool.{false}
use lib.ListN.{get_or}
use Rattle.basics.specs.Maps.{at}
use Rattle.idling.specs.Rewritten.{Rewritten}
use Rattle.idling.specs.Entries.{entry_kept}
use Rattle.idling.proofs.shut_stretch.Given as goal

abbrev pub invariant-loop-entry : goal.invariant-loop-entry
invariant-loop-entry l = Rewritten (λ j. entry_kept (λ p. get_or l.allowed p false) (at l.initial.entries j)) 0 l.entry-index l.initial.entries l.entries
