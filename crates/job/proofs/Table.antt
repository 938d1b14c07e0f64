-- The table's conditions of a stream: their numbers, and what the exact count of blocks has room for. Assumes nothing.
use Prim.Native.Nat.{ℕ, ◌+◌, ◌*◌, ◌≤◌, ◌<◌}
use native.Mathlib.Omega.{arith}
use mathlib.Core.List.{List}
use Rattle.block.specs.Block.{payload_size}
use Rattle.job.specs.declared.Limits.{Limits}
use Rattle.job.specs.Stream.{stream_length}
use Rattle.job.specs.Refusals.{exact_count, header_conditions, list_conditions}
use Rattle.job.proofs.Conditions.{Numbered}

pub header_numbered : (l : Limits) (s : List ℕ) → Numbered (header_conditions l s)
unfolding header_conditions
header_numbered l s = (omega arith, (omega arith, (omega arith, (omega arith, tt))))

pub lists_numbered : (s : List ℕ) → Numbered (list_conditions s)
unfolding list_conditions
lists_numbered s = (omega arith, (omega arith, tt))

-- the exact count has room for the stream, and one block less has not
pub exact_room : (s : List ℕ) → stream_length s ≤ payload_size * exact_count s
unfolding exact_count payload_size
exact_room s = omega arith

pub exact_least : (s : List ℕ) → payload_size * exact_count s < stream_length s + payload_size
unfolding exact_count payload_size
exact_least s = omega arith
