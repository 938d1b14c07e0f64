-- What a run needs of a stream, whatever the limits by which it was accepted: it is whole, and a run has a row for each operation, a cell
-- for each step and a place for each process, and one for nobody (`Idle.antt`).
use Rattle.std.specs.Prelude.{ℕ, ◌≤◌, ◌<◌, List, length}
use Rattle.job.specs.Limits.{field}
use Rattle.job.specs.Slot.{slot_of, process_of}
use Rattle.job.specs.Stream.{operations, schedule_length, process, scheduled, stream_length}

pub record Ready (s : List ℕ) : Type 0 where
  pub rows : operations s ≤ field.operations
  pub cells : schedule_length s ≤ field.steps
  pub places : (k : ℕ) → 1 ≤ k → k ≤ schedule_length s → process_of (slot_of (scheduled s k)) ≤ field.processes
  -- and nobody has an operation
  pub owners : (o : ℕ) → 1 ≤ o → o ≤ operations s → process s o < field.processes
  pub whole : stream_length s ≤ length s

-- every entry names one of the eight processes
pub record Named (s : List ℕ) : Type 0 where
  pub each : (k : ℕ) → 1 ≤ k → k ≤ schedule_length s → process_of (slot_of (scheduled s k)) < field.processes
