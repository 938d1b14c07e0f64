-- `run::working_on` meets its contract. Assumes nothing.
use native.Mathlib.Omega.{arith}
use Rattle.run.proofs.Places.{still_has, still_none}
use Rattle.run.proofs.working_on.Goals as goal

pub returns-then-o-count : goal.returns-then-o-count
returns-then-o-count c = omega (arith, still_has _ _ c.if-o-count.true)

pub returns : goal.returns
returns c = omega (arith, still_none _ _ c.if-o-count.false)
