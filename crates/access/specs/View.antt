-- What it means that the code did an access on shared memory as it holds it: it left what the definition reaches, and says how the
-- access came out and what it was for the record.
use Rattle.std.specs.Prelude.{◌≡◌, ℕ, List}
use Rattle.machine.specs.declared.Access.{Access}
use Rattle.machine.specs.declared.Outcome.{Outcome}
use Rattle.machine.specs.declared.Event.{Event}
use Rattle.machine.specs.Access.{Reached, access}
use Rattle.machine.specs.Notes.{event_of}
use Rattle.access.specs.Nodes.{object_memory}
use Rattle.access.specs.declared.Scalars.{Scalars}
use Rattle.access.specs.declared.Accessed.{Accessed}

-- what access `a` of operation `own` reaches from the cells and the nodes
unfoldable pub reached_from : Access → ℕ → Scalars → List ℕ → Reached
reached_from a own c nodes =
    access a own (object_memory c.object nodes) (record { h = c.h; t = c.t; n = c.n })

-- what the code says it reached, with the nodes as it left them
unfoldable pub reached_by : Accessed → List ℕ → Reached
reached_by d nodes =
    record {
      memory = object_memory d.left.object nodes;
      registers = record { h = d.left.h; t = d.left.t; n = d.left.n };
      outcome = d.outcome;
    }

-- the code did access `a` of operation `own`
pub record Does (a : Access) (own : ℕ) (c : Scalars) (nodes : List ℕ) (d : Accessed) (nodes' : List ℕ) : Type 0 where
  pub reaches : reached_by d nodes' ≡ reached_from a own c nodes
  pub tells : d.event ≡ event_of a d.outcome (record { h = d.left.h; t = d.left.t; n = d.left.n })

-- it did so without looking at a node
abbrev pub DoesAlone : Access → ℕ → Scalars → Accessed → Type 0
DoesAlone a own c d = (nodes : List ℕ) → Does a own c nodes d nodes

-- the answer of an access that leaves cells `c`
abbrev pub answered : Scalars → Outcome → Event → Accessed
answered c o e =
    record { left = c; outcome = o; event = e }
