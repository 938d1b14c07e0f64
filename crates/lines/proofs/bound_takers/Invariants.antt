-- `lines::bound_takers` meets its contract. The loop's invariant: the bounds by `o` operations from either end. Assumes nothing.
use Rattle.lines.proofs.Bounds.{Bounded}
use Rattle.lines.proofs.bound_takers.Given as goal

abbrev pub invariant-loop-o : goal.invariant-loop-o
invariant-loop-o l = Bounded l.ops l.bounds l.count l.o
