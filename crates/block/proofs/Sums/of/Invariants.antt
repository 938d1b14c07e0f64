-- `block::Sums::of` meets its contract. The loop's invariant: adding the bytes that are left gives the sums. Assumes nothing.
use Rattle.std.proofs.Common.{◌≡◌, drop}
use Rattle.block.specs.Block.{add_bytes, sums}
use Rattle.block.proofs.Sums.of.Given as goal

abbrev pub invariant-loop-x : goal.invariant-loop-x
invariant-loop-x l = add_bytes l.so_far (drop l.x-index l.s) ≡ sums l.s
