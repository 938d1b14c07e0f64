-- `reader::take_block` meets its contract: the block's payload stands at the front of the part that is lent on. Assumes nothing.
use mathlib.Core.Path.{ap, ◌∙◌}
use Prim.Native.Nat.{ℕ, ◌*◌, ◌-◌, ◌≤◌}
use mathlib.Core.List.{List}
use lib.ListN.{length, take, drop}
use Rattle.memory.specs.Over.{over}
use Rattle.memory.proofs.Over.{part_over, length_part}
use Rattle.block.specs.Block.{block_size, payload_size, block_refusal}
use Rattle.block.specs.Checked.{bytes_of}
use Rattle.block.proofs.Given.{length_given}
use Rattle.job.specs.File.{block_at}
use Rattle.job.proofs.Blocks.{block_part, length_block_at}
use native.Mathlib.Omega.{arith}
use Rattle.reader.proofs.take_block.Goals as goal

pub give-requires : goal.give-requires
unfolding block_size payload_size
give-requires c = let p = c.args in
    (ap length (block_part p.file.now p.i) ∙ length_block_at p.file.now p.i (omega arith), omega (arith, length_part p.work.now (payload_size * p.i) (length p.work.now - payload_size * p.i) (omega arith)))

pub returns : goal.returns
unfolding block_size payload_size
returns c = let p = c.args in
    let r = c.give.result in
    let work : List ℕ = p.work.now in
    let b : List ℕ = block_at p.file.now p.i in
    let given : length (bytes_of r b) ≤ payload_size = length_given r b (length_block_at p.file.now p.i (omega arith)) in
    let is_Block = block_part p.file.now p.i in record {
      number = c.give.ensures.number ∙ ap (block_refusal p.i) is_Block;
      payload = part_over work (bytes_of r b) c.give.new.to (payload_size * p.i) (length work - payload_size * p.i) (omega arith)
          (c.give.ensures.payload ∙ ap (λ (x : List ℕ). over (bytes_of r x) (take (length work - payload_size * p.i) (drop (payload_size * p.i) work))) is_Block);
    }
