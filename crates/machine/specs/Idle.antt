-- The idle end of a run. Document 01, "The steps": "A scheduled process with no operation remaining makes an idle step, which still has
-- its number."
use Rattle.std.specs.Prelude.{◌≡◌, ℕ, ◌≤◌, ◌<◌}
use Rattle.job.specs.Job.{Job}
use Rattle.machine.specs.Notes.{note}

-- of the first k steps, each behind step `reach` is idle
pub record IdleBehind (j : Job) (reach k : ℕ) : Type 0 where
  pub within : reach ≤ k
  pub idle_step : (s : ℕ) → reach < s → s ≤ k → (note j s).by ≡ 0
