-- `idling::allowed_at` meets its contract. The loop's invariant: those before p are found. Assumes nothing.
use mathlib.Core.Bool.{false}
use lib.ListN.{get_or}
use Rattle.idling.specs.Minutes.{no_window, open_at}
use Rattle.idling.proofs.Eight.{Filled}
use Rattle.idling.proofs.allowed_at.Given as goal

abbrev pub invariant-loop-p : goal.invariant-loop-p
invariant-loop-p l = Filled false (λ q. open_at (get_or l.bookings q no_window) l.minute) l.p l.may-items
