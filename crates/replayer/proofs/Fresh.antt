-- Memory as a replay makes it: blank, with a row for every node and every operation and a cell for every step. Assumes nothing.
use Prim.Native.Nat.{ℕ, ◌+◌, ◌*◌}
use native.Mathlib.Omega.{arith}
use lib.ListN.{replicate, length-replicate}
use Rattle.basics.specs.Maps.{at}
use Rattle.rows.specs.Operations.{op_width}
use Rattle.rows.specs.Nodes.{node_width}
use Rattle.job.specs.Limits.{field}
use Rattle.job.proofs.View.{zero_anywhere}
use Rattle.run.specs.Promise.{Room, Blank, AllBlank}

-- how many cells the lists have
abbrev nodes : ℕ
nodes = node_width * (field.operations + 1)

abbrev ops : ℕ
ops = op_width * (field.operations + 1)

abbrev steps : ℕ
steps = field.steps + 1

pub fresh_room : Room (replicate nodes 0) (replicate ops 0) (replicate steps 0)
fresh_room =
    record {
      of_nodes = omega (arith, length-replicate {A = ℕ} nodes 0);
      of_ops = omega (arith, length-replicate {A = ℕ} ops 0);
      of_steps = omega (arith, length-replicate {A = ℕ} steps 0);
    }

blank : (m : ℕ) → Blank (replicate m 0)
unfolding at
blank m i = zero_anywhere m i

pub fresh_blank : AllBlank (replicate nodes 0) (replicate ops 0) (replicate steps 0)
fresh_blank = record { no_node = blank nodes; no_cell = blank ops; no_step = blank steps }
