-- `lines::LeftIterator::next` meets its contract. The loop's invariant: the items left are those that were left. The measure is how many nodes may still come. Assumes nothing.
use mathlib.Core.Path.{◌≡◌}
use Rattle.lines.specs.Walks.{items}
use Rattle.lines.proofs.LeftIterator.next.Given as goal

abbrev pub invariant-loop-self : goal.invariant-loop-self
invariant-loop-self l = items l.self ≡ items l.initial.self

abbrev pub decreases-loop-self : goal.decreases-loop-self
decreases-loop-self l = l.self.more
