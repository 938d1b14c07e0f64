-- `writer::put_blocks` meets its contract. The loop's invariant: the blocks passed are laid. Assumes nothing.
use Rattle.writer.proofs.Laying.{Laying}
use Rattle.writer.proofs.put_blocks.Given as goal

abbrev pub invariant-loop-i : goal.invariant-loop-i
invariant-loop-i l = Laying l.s l.initial.out l.out l.count l.i
