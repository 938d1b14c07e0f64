-- `stage::nearest` meets its contract. Assumes nothing.
use native.Mathlib.Omega.{arith}
use Rattle.stage.proofs.Rounding.{by_parity}
use Rattle.stage.proofs.nearest.Goals as goal

pub returns : goal.returns
returns c = omega (arith, by_parity c.args.mm)
