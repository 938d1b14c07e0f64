-- `lines::LeftIterator::next` meets its contract. Assumes nothing.
use mathlib.Core.Path.{sym, ap, ◌∙◌}
use native.Mathlib.Omega.{arith}
use lib.ListN.{length}
use Rattle.lines.proofs.Nodes.{left_none, left_end, left_first, left_past}
use Rattle.lines.proofs.LeftIterator.next.Goals as goal

pub returns-then-stays-clause-steps : goal.returns-then-stays-clause-steps
returns-then-stays-clause-steps c = sym c.loop-self.invariant ∙ left_first c.loop-self.self.object c.loop-self.self.nodes.now c.loop-self-test.true c.if-self-ne0.true c.cell-self.ensures c.stays.ensures c.if-stays.true

pub returns-then-stays-clause-goes : goal.returns-then-stays-clause-goes
returns-then-stays-clause-goes c = record { on = λ f. (tt, tt, omega (arith, ap length (sym c.loop-self.invariant ∙ left_first c.loop-self.self.object c.loop-self.self.nodes.now c.loop-self-test.true c.if-self-ne0.true c.cell-self.ensures c.stays.ensures c.if-stays.true))); keeps = tt; rests = λ f. tt }

pub loop-self-preserved : goal.loop-self-preserved
loop-self-preserved c = sym (left_past c.loop-self.self.object c.loop-self.self.nodes.now c.loop-self-test.true c.if-self-ne0.true c.cell-self.ensures c.stays.ensures c.if-stays.false) ∙ c.loop-self.invariant

pub returns-else-self-ne0-clause-steps : goal.returns-else-self-ne0-clause-steps
returns-else-self-ne0-clause-steps c = let none = left_end c.loop-self.self.object c.loop-self.self.nodes.now c.loop-self.self.node c.loop-self.self.more (omega arith) in (sym c.loop-self.invariant ∙ none, none)

pub returns-after-loop-self-clause-steps : goal.returns-after-loop-self-clause-steps
returns-after-loop-self-clause-steps c = let none = left_none c.loop-self.self.object c.loop-self.self.nodes.now c.loop-self.self.node {more = c.loop-self.self.more} (omega arith) in (sym c.loop-self.invariant ∙ none, none)
