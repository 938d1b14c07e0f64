-- `block::make` meets its contract: number and payload, and their sums on the part behind them. Assumes nothing.
use Rattle.std.proofs.Common.{sym, arith, length-take-le}
use Rattle.block.specs.Block.{block_size, summed_size, payload_size}
use Rattle.block.specs.Checked.{filled}
use Rattle.block.proofs.Sizes.{length_filled}
use Rattle.block.proofs.Made.{block_over}
use Rattle.block.specs.Block.{block_size, summed_size, payload_size}
use Rattle.block.proofs.Sizes.{length_filled}
use Rattle.block.proofs.make.Goals as goal

pub slice_bounds-of-end-2 : goal.slice_bounds-of-end-2
unfolding block_size
slice_bounds-of-end-2 c = sym (length-take-le 508 c.put_front.new.to (omega arith))

pub returns : goal.returns
unfolding block_size payload_size summed_size
returns c = let p = c.args in
    block_over p.to.now c.put_front.new.to c.put_sums.new.to p.number (filled p.payload.now) (length_filled p.payload.now c.requires.1) (omega arith) c.put_front.ensures c.of-s.ensures c.put_sums.ensures
