-- What the run of a job needs of its stream and its lent memory, and what it leaves there: the definition's state and journal.
use Rattle.std.specs.Prelude.{◌≡◌, ℕ, ◌+◌, ◌≤◌, ◌<◌, List, [], ◌∷◌, length, get_or, Bool, true, false}
use Rattle.basics.specs.Choice.{pick, same, less}
use Rattle.basics.specs.Maps.{at}
use Rattle.rows.specs.Operations.{HasOps, cells, stored, dropped_mark}
use Rattle.rows.specs.declared.OpColumn.TheVariants.{First, Last}
use Rattle.rows.specs.Nodes.{HasNodes}
use Rattle.job.specs.declared.Heading.{Heading}
use Rattle.job.specs.declared.Slot.{Slot}
use Rattle.job.specs.Limits.{field}
use Rattle.job.specs.Slot.{is_drop}
use Rattle.job.specs.Job.{Job, job_of, heading_of}
use Rattle.job.specs.Ready.{Ready}
use Rattle.machine.specs.declared.Object.{Object}
use Rattle.machine.specs.declared.Place.{Place}
use Rattle.machine.specs.declared.Row.TheVariants.{Q1}
use Rattle.machine.specs.Table.{ended, is_return}
use Rattle.machine.specs.Run.{state_after}
use Rattle.access.specs.Nodes.{object_memory}
use Rattle.step.specs.declared.Stepped.{Stepped}
use Rattle.step.specs.Promise.{Inside, event_at, IsStep}
use Rattle.journal.specs.Stored.{Stored, Countable, HasCells}
use Rattle.journal.specs.Journal.{Holds}

-- what a run needs of its stream: it is ready, and its heading is told
pub record Runnable (stream : List ℕ) (job : Heading) : Type 0 where
  pub ready : Ready stream
  pub told : job ≡ heading_of (job_of stream)

-- a place that stands for none: an array has it past its end
abbrev pub nowhere : Place
nowhere = record { operation = record { 0 = 0 }; row = Q1; h = 0; t = 0; n = 0 }

-- "The eight places, one a process"; and behind them one for nobody, who is named for an idle step
abbrev pub run_places : ℕ
run_places = field.processes + 1

-- the places are those of the definition after k steps
pub record InPlace (j : Job) (k : ℕ) (places : List Place) : Type 0 where
  pub whole : length places ≡ run_places
  pub each : (p : ℕ) → p < run_places → get_or places p nowhere ≡ (state_after j k).places p

-- 1 for a process at operation o of so many, and 0 for one past the last
unfoldable pub still : ℕ → ℕ → ℕ
still count o = pick (less count o) 0 1

-- how many processes still have operations
unfoldable pub working : ℕ → List Place → ℕ
working count [] = 0
working count (place ∷ places) = still count place.operation.0 + working count places

-- memory and journal are those of the definition after k steps
pub record Ran (j : Job) (k : ℕ) (object : Object) (nodes ops by : List ℕ) : Type 0 where
  pub memory : object_memory object nodes ≡ (state_after j k).memory
  pub journal : Holds j k ops by

-- a row for every node and every operation, and a cell for every step
pub record Room (nodes ops by : List ℕ) : Type 0 where
  pub of_nodes : HasNodes field.operations nodes
  pub of_ops : HasOps field.operations ops
  pub of_steps : field.steps < length by

-- every cell is 0: "A fresh queue has Head and Tail at node 0 and every next none; a fresh stack has Top none and every mark clear."
abbrev pub Blank : List ℕ → Type 0
Blank l = (i : ℕ) → at l i ≡ 0

pub record AllBlank (nodes ops by : List ℕ) : Type 0 where
  pub no_node : Blank nodes
  pub no_cell : Blank ops
  pub no_step : Blank by

-- a place and an object's cells, as a step would give them
abbrev pub as_it_was : Place → Object → Stepped
as_it_was place object = record { row = place.row; left = record { h = place.h; t = place.t; n = place.n; object = object } }

-- what a drop at a place leaves in its operation's row, by whether that has begun: the operation is over, or nothing changed
pub data DropLeaves (place : Place) (object : Object) (ops : List ℕ) : Bool → Stepped → List ℕ → Type 0 where
  waits : {ops' : List ℕ} → same (cells ops First place.operation.0) 0 ≡ true → cells ops' ≡ cells ops → DropLeaves place object ops false (as_it_was place object) ops'
  drops : {ops' : List ℕ} → same (cells ops First place.operation.0) 0 ≡ false → cells ops' ≡ stored Last place.operation.0 dropped_mark (cells ops) → DropLeaves place object ops true (as_it_was place object) ops'

-- what a turn of a place leaves: what its step does, or what its drop does, which touches no node and enters no step
pub data TurnLeaves (slot : Slot) (place : Place) (k : ℕ) (object : Object) (nodes ops by : List ℕ) : Bool → Stepped → List ℕ → List ℕ → List ℕ → Type 0 where
  stepped : {over : Bool} {s : Stepped} {nodes' ops' by' : List ℕ} → is_drop slot ≡ false → over ≡ ended s.row → IsStep place object nodes s nodes' → Stored (event_at place object nodes) (ended s.row) (is_return s.row) place.operation.0 k ops by ops' by' → TurnLeaves slot place k object nodes ops by over s nodes' ops' by'
  dropped : {over : Bool} {s : Stepped} {ops' : List ℕ} → is_drop slot ≡ true → DropLeaves place object ops over s ops' → TurnLeaves slot place k object nodes ops by over s nodes ops' by

-- what step k of a place needs: its operation is there and has not ended, and every list has what the step reads or stores
pub record Makes (place : Place) (k : ℕ) (object : Object) (nodes ops by : List ℕ) : Type 0 where
  pub going : ended place.row ≡ false
  pub inside : Inside place.operation.0 place.h place.t nodes
  pub some : 1 ≤ place.operation.0
  pub noting : HasCells (event_at place object nodes) place.operation.0 ops
  pub counting : Countable ops
  pub entering : k < length by
