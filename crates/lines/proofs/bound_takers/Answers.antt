-- `lines::bound_takers` meets its contract. Assumes nothing.
use native.Mathlib.Omega.{arith}
use Rattle.lines.proofs.Bounds.{bounded_more}
use Rattle.std.proofs.Common.{rules}
use Rattle.lines.proofs.bound_takers.Goals as goal

pub loop-o-preserved : goal.loop-o-preserved
loop-o-preserved c = bounded_more _ _ _ _ c.loop-o.invariant (search rules) c.cell-last.ensures c.store.ensures.columns c.cell-first.ensures c.store-in-loop-o.ensures.columns (omega arith)
