-- `salvager::gather` meets its contract. The loop's invariant: the blocks passed are taken, and none of them would be refused. Assumes nothing.
use Rattle.salvager.proofs.Gathering.{Gathering}
use Rattle.salvager.proofs.gather.Given as goal

abbrev pub invariant-loop-i : goal.invariant-loop-i
invariant-loop-i l = Gathering l.file l.initial.work l.work l.count l.i
