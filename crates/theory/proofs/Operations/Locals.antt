-- A job's run seen by its operations: each operation keeps its row and registers for ever, and memory moves by whoever acts. Assumes nothing.
use Prim.Native.Nat.{ℕ, zero, suc}
use Rattle.basics.specs.Choice.{pick, same}
use Rattle.job.specs.Job.{Job}
use Rattle.machine.specs.Memory.{Memory}
use Rattle.machine.specs.Run.{state_after}
use Rattle.machine.specs.Notes.{note}
use Rattle.machine.proofs.Turns.Locals.{Local, local_after}
use Rattle.theory.proofs.Listing.{initial}

-- shared memory after k steps
unfoldable pub memory : Job → ℕ → Memory
memory j k = (state_after j k).memory

-- the row and the registers of operation o after k steps
unfoldable pub local : Job → ℕ → ℕ → Local
local j zero o = initial j.object (j.is_put o)
local j (suc k) o = pick (same (note j (suc k)).by o) (local_after o (memory j k) (local j k o)) (local j k o)
