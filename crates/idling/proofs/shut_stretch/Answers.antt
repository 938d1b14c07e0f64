-- `idling::shut_stretch` meets its contract. Assumes nothing.
use mathlib.Core.Path.{sym, subst}
use Prim.Native.Nat.{ℕ, ◌<◌}
use native.Mathlib.Omega.{arith}
use Rattle.basics.specs.Maps.{at}
use Rattle.job.specs.Limits.{field}
use Rattle.job.specs.Slot.{slot_of, process_of}
use Rattle.idling.proofs.Stretch.{stretch_open, stretch_ahead, stretch_next}
use Rattle.idling.proofs.shut_stretch.Goals as goal

pub returns-then-all_allowed : goal.returns-then-all_allowed
returns-then-all_allowed c = stretch_open _ _ (c.all_allowed.ensures c.if-all_allowed.true) (λ i low high. c.requires i high)

pub kept-requires : goal.kept-requires
unfolding at
kept-requires c =
    subst (λ (n : ℕ). process_of (slot_of n) < field.processes) (sym (stretch_ahead _ c.loop-entry.invariant)) (c.requires _ (omega arith))

pub loop-entry-preserved : goal.loop-entry-preserved
loop-entry-preserved c = stretch_next _ c.loop-entry.invariant (omega arith) (omega (arith, c.loop-entry.auto)) c.kept.ensures
