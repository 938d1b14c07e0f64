-- What the step of a place needs, and what it promises: the step of the definition, on shared memory as the code holds it.
use Rattle.std.specs.Prelude.{◌≡◌, ℕ, List}
use Rattle.rows.specs.Nodes.{nexts, HasNodes}
use Rattle.machine.specs.declared.Access.{Access}
use Rattle.machine.specs.declared.Event.{Event}
use Rattle.machine.specs.declared.Object.{Object}
use Rattle.machine.specs.declared.Place.{Place}
use Rattle.machine.specs.Run.{reached, row_after}
use Rattle.machine.specs.Notes.{event_of, acted}
use Rattle.access.specs.declared.Scalars.{Scalars}
use Rattle.access.specs.Nodes.{object_memory}
use Rattle.access.specs.View.{reached_from}
use Rattle.step.specs.declared.Stepped.{Stepped}

-- the own node, h, t and t's next, which a cut reads, have rows
pub record Inside (own h t : ℕ) (nodes : List ℕ) : Type 0 where
  pub own_row : HasNodes own nodes
  pub h_row : HasNodes h nodes
  pub t_row : HasNodes t nodes
  pub next_row : HasNodes (nexts nodes t) nodes

-- what access `a` of operation `own` is for the record
unfoldable pub heard : Access → ℕ → Scalars → List ℕ → Event
heard a own c nodes = event_of a (reached_from a own c nodes).outcome (reached_from a own c nodes).registers

-- the step of place `p` on an object's cells and nodes as given, with the nodes as it left them
pub record IsStep (p : Place) (object : Object) (nodes : List ℕ) (r : Stepped) (nodes' : List ℕ) : Type 0 where
  pub memory : object_memory r.left.object nodes' ≡ (reached (object_memory object nodes) p).memory
  pub registers : record { h = r.left.h; t = r.left.t; n = r.left.n } ≡ (reached (object_memory object nodes) p).registers
  pub row : r.row ≡ row_after p (reached (object_memory object nodes) p)

-- what that step is for the record
unfoldable pub event_at : Place → Object → List ℕ → Event
event_at p object nodes = (acted p (reached (object_memory object nodes) p)).event
