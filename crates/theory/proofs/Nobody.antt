-- Nobody has no operation: who is named for an idle step begins past the last one. Assumes nothing.
use mathlib.Core.Path.{◌≡◌}
use mathlib.Core.Logic.{◌≢◌, ◌⊎◌, inl, inr}
use Prim.Native.Nat.{ℕ, suc, ◌-◌, ◌≤◌, ◌<◌}
use native.Mathlib.Omega.{arith}
use Rattle.basics.specs.Choice.{same}
use Rattle.basics.proofs.Choice.{compare, same_equal}
use Rattle.job.specs.Job.{Job}
use Rattle.job.specs.Idle.{nobody}
use Rattle.machine.specs.Run.{seek, operation_after}
use Rattle.machine.specs.Explained.{IsOperation}
use Rattle.machine.proofs.Searches.{seek_from, seek_to, seek_meets}

-- no operation is nobody's
abbrev pub Free : Job → Type 0
Free j = (o : ℕ) → IsOperation j.count o → j.owner o ≢ nobody

pub none_after : (j : Job) → Free j → operation_after j nobody 0 ≡ suc j.count
unfolding operation_after
none_after j free = go (compare (seek (λ i. same (j.owner i) nobody) 1 (j.count - 0)) j.count)
  where
    go : (seek (λ i. same (j.owner i) nobody) 1 (j.count - 0) ≤ j.count) ⊎ (j.count < seek (λ i. same (j.owner i) nobody) 1 (j.count - 0)) → seek (λ i. same (j.owner i) nobody) 1 (j.count - 0) ≡ suc j.count
    go (inl b) =
        absurd (
        free (seek (λ i. same (j.owner i) nobody) 1 (j.count - 0)) (record { from_one = seek_from (λ i. same (j.owner i) nobody) 1 (j.count - 0); to_count = b })
        (same_equal (seek_meets (λ i. same (j.owner i) nobody) 1 (j.count - 0) (omega arith)))
        )
    go (inr b) = omega (arith, seek_to (λ i. same (j.owner i) nobody) 1 (j.count - 0))
