-- What a run leaves for its report, and what its report leaves in lent memory.
use Rattle.std.specs.Prelude.{◌≡◌, ℕ, ◌≤◌, ◌<◌, List, length}
use Rattle.rows.specs.Operations.{HasOps, dropped_mark}
use Rattle.rows.specs.Nodes.{HasNodes}
use Rattle.job.specs.declared.Heading.{Heading}
use Rattle.job.specs.Limits.{field}
use Rattle.job.specs.Job.{Job, heading_of}
use Rattle.machine.specs.declared.Finish.{Finish}
use Rattle.machine.specs.Run.{state_after}
use Rattle.machine.specs.Notes.{note}
use Rattle.machine.specs.Idle.{IdleBehind}
use Rattle.machine.specs.Lost as Lost
use Rattle.access.specs.Nodes.{object_memory}
use Rattle.journal.specs.Journal.{Holds}
use Rattle.text.specs.Laid.{laid}

-- the journal of all steps, the shared memory after them, a step behind which all are idle, and the rounds lost
pub record Leaves (j : Job) (h : Heading) (ops by nodes : List ℕ) (end : Finish) : Type 0 where
  pub heading : h ≡ heading_of j
  pub few : h.count ≤ field.operations
  -- no step has the number that marks a drop
  pub short : h.steps < dropped_mark
  pub has_ops : HasOps h.count ops
  pub has_nodes : HasNodes h.count nodes
  pub has_steps : h.steps < length by
  pub journal : Holds j h.steps ops by
  pub memory : object_memory end.object nodes ≡ (state_after j h.steps).memory
  pub behind : IdleBehind j end.reach.0 h.steps
  pub lost : end.lost ≡ Lost.lost (note j) h.steps

-- a text was written at the front of a memory: the bytes past it are as before, and its length is told
pub record Reported (before after : List ℕ) (told : ℕ) (bytes : List ℕ) : Type 0 where
  pub writes : after ≡ laid before 0 bytes
  pub tells : told ≡ length bytes
