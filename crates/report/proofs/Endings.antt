-- What the column of endings says of an operation: that it has not ended, that it was dropped, or its last step. Assumes nothing.
use mathlib.Core.Path.{◌≡◌, sym, subst}
use mathlib.Core.Logic.{◌≢◌, ◌⊎◌, inl, inr}
use Prim.Native.Nat.{ℕ, ◌<◌}
use native.Mathlib.Omega.{arith}
use Rattle.basics.specs.Choice.{same}
use Rattle.basics.proofs.Choice.{pick_elim, same_equal, same_unequal, split}
use Rattle.rows.specs.Operations.{dropped_mark}
use Rattle.job.specs.Job.{Job}
use Rattle.machine.specs.Notes.{note}
use Rattle.machine.specs.Journal.{last}
use Rattle.machine.specs.Drops.{drop}
use Rattle.machine.proofs.Stamps.{last_le}
use Rattle.theory.proofs.Operations.Drops.{no_last}
use Rattle.journal.specs.Journal.{ending}

pub data Ends (j : Job) (k o : ℕ) : ℕ → Type 0 where
  stays_open : last (note j) k o ≡ 0 → drop j k o ≡ 0 → Ends j k o 0
  was_dropped : last (note j) k o ≡ 0 → drop j k o ≢ 0 → Ends j k o dropped_mark
  has_ended : last (note j) k o ≢ 0 → last (note j) k o ≢ dropped_mark → Ends j k o (last (note j) k o)

-- one of these, where no step has the number that marks a drop
pub ends : (j : Job) (k o : ℕ) → k < dropped_mark → o ≢ 0 → Ends j k o (ending j k o)
ends j k o short some =
    pick_elim (Ends j k o) (same (drop j k o) 0) (last (note j) k o) dropped_mark
    (λ t. by_last (same_equal t) (split (last (note j) k o) 0))
    (λ t. was_dropped (no_last j k o some (same_unequal t)) (same_unequal t))
  where
    by_last : drop j k o ≡ 0 → (last (note j) k o ≡ 0) ⊎ (last (note j) k o ≢ 0) → Ends j k o (last (note j) k o)
    by_last undropped (inl z) = subst (Ends j k o) (sym z) (stays_open z undropped)
    by_last undropped (inr n) = has_ended n (λ e. omega (arith, last_le (note j) k o))
