-- `lines::Left::put_items` meets its contract. The loop's invariant: the items that the iterator has left are still to be written. Assumes nothing.
use Rattle.wording.specs.Report.{spaced}
use Rattle.text.proofs.Rest.{Rest}
use Rattle.lines.specs.Walks.{items}
use Rattle.lines.proofs.Left.put_items.Given as goal

abbrev pub invariant-loop-item : goal.invariant-loop-item
invariant-loop-item l = (goal.iterator-loop-item).can_next l.item-iterator × (goal.iterator-loop-item).is_finite l.item-iterator × Rest l.initial.page l.page (spaced (items l.item-iterator)) (spaced (items l.initial.item-iterator))
