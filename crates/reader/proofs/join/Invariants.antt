-- `reader::join` meets its contract. The loop's invariant: the blocks passed are joined, and those that are left decide. Assumes nothing.
use Rattle.reader.proofs.Joining.{Joining}
use Rattle.reader.proofs.join.Given as goal

abbrev pub invariant-loop-i : goal.invariant-loop-i
invariant-loop-i l = Joining l.file l.initial.work l.work l.count l.i
