-- `idling::shut_steps` meets its contract: the loop's invariant is `Turning`; the measure is how many steps are left. Assumes nothing.
use Prim.Native.Nat.{◌-◌}
use Rattle.idling.proofs.Turns.{Turning}
use Rattle.idling.proofs.shut_steps.Given as goal

abbrev pub invariant-loop-done : goal.invariant-loop-done
invariant-loop-done l = Turning l.bookings l.second l.initial.s l.first l.steps l.minute l.end l.done l.s

abbrev pub decreases-loop-done : goal.decreases-loop-done
decreases-loop-done l = l.steps - l.done
