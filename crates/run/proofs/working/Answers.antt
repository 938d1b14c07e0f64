-- `run::working` meets its contract: those counted and those among the places that are left make the whole. Assumes nothing.
use native.Mathlib.Omega.{arith}
use Rattle.run.proofs.Places.{counted_none, counted_one, counted_all}
use Rattle.run.proofs.working.Goals as goal
use Rattle.run.proofs.working.Goals.{then-place-count, else-place-count}

pub loop-place-preserved : goal.loop-place-preserved
loop-place-preserved c =
    elim c.if-place-count.branch [
      | then-place-count w ↦ rw w.total-is (omega arith, counted_one _ _ c.requires _ _ c.loop-place-test.true w.if-place-count.true c.loop-place.invariant.1)
      | else-place-count w ↦ rw w.total-is (omega arith, counted_none _ _ c.requires _ _ c.loop-place-test.true w.if-place-count.false c.loop-place.invariant.1)
    ]

pub returns : goal.returns
returns c = counted_all _ _ c.requires _ _ c.loop-place-test.false c.loop-place.invariant.1
