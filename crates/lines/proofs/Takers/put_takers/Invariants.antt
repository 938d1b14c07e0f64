-- `lines::Takers::put_takers` meets its contract. The loop's invariant: the takers before the next operation are written. Assumes nothing.
use Rattle.text.proofs.Each.{Written}
use Rattle.lines.proofs.Spaced.{took, member}
use Rattle.lines.proofs.Takers.put_takers.Given as goal

abbrev pub invariant-loop-before : goal.invariant-loop-before
invariant-loop-before l = Written (member (took l.self.ops.now l.item.0)) l.self.count l.before l.initial.page l.page
