-- `idling::allowed_at` meets its contract. Assumes nothing.
use mathlib.Core.Path.{refl}
use native.Mathlib.Omega.{arith}
use Rattle.idling.proofs.Eight.{filled_none, filled_next, filled_all}
use Rattle.idling.proofs.allowed_at.Goals as goal

pub loop-p-init : goal.loop-p-init
loop-p-init c = filled_none _ _ _ refl

pub loop-p-preserved : goal.loop-p-preserved
loop-p-preserved c = filled_next _ _ _ _ _ (omega arith) c.loop-p.invariant c.is_open.ensures

pub returns : goal.returns
returns c = filled_all _ _ _ (omega arith) c.loop-p.invariant
