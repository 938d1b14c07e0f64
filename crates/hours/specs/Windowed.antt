-- A job with windows. Document 02, request 6: "A step outside its process's window is idle, a drop too". "An empty second input means no block, and
-- nothing is shut."
use Rattle.std.specs.Prelude.{ℕ, Bool, not, ◌&&◌, List}
use Rattle.job.specs.Job.{Job}
use Rattle.job.specs.Slot.{process_of}
use Rattle.job.specs.Refusals.{outside}
use Rattle.job.specs.Idle.{idle_at}
use Rattle.windows.specs.Refused.{no_block}
use Rattle.hours.specs.Open.{is_open}

-- is step k, one of the schedule's, outside its process's window?
unfoldable pub is_shut : List ℕ → Job → ℕ → Bool
is_shut b j k = not (no_block b) && not (outside 1 j.steps k) && not (is_open b (process_of (j.slot k)) k)

-- the job whose shut steps are idle
unfoldable pub windowed : List ℕ → Job → Job
windowed b j = idle_at (is_shut b j) j
