-- `memory::copy` meets its contract. The loop's invariant: the first `i` bytes are laid. Assumes nothing.
use Rattle.std.proofs.Common.{drop}
use Rattle.basics.proofs.Laid.{Laid}
use Rattle.memory.proofs.copy.Given as goal

abbrev pub invariant-loop-i : goal.invariant-loop-i
invariant-loop-i l = Laid l.initial.to l.to l.i (drop l.i l.from) l.from
