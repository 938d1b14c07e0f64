-- `writer::put_blocks` meets its contract. The loop's invariant: the blocks passed are laid. Assumes nothing.
use Rattle.block.specs.Block.{block_size}
use Rattle.writer.proofs.Laying.{block_begins, laying_next, laying_all}
use native.Mathlib.Omega.{arith}
use Rattle.writer.proofs.put_blocks.Goals as goal

pub put_block-requires : goal.put_block-requires
unfolding block_size
put_block-requires c = let p = c.args in
    (omega arith, block_begins p.s.now c.loop-i.i p.count c.requires.1 c.requires.2 c.loop-i-test.true, omega arith)

pub loop-i-preserved : goal.loop-i-preserved
unfolding block_size
loop-i-preserved c = laying_next c.loop-i.invariant c.loop-i-test.true c.requires.1 c.requires.2 (omega arith) c.put_block.ensures

pub returns : goal.returns
unfolding block_size
returns c = laying_all c.loop-i.invariant c.loop-i-test.false (omega arith)
