-- `block::put_front` meets its contract: the number, and the payload on the part behind it. Assumes nothing.
use Rattle.std.proofs.Common.{◌≡◌, length, refl, arith}
use Rattle.basics.specs.Words.{word_bytes}
use Rattle.memory.proofs.Over.{over_behind}
use Rattle.block.specs.Block.{summed_size, payload_size}
use Rattle.block.specs.Checked.{filled}
use Rattle.block.proofs.Sizes.{length_filled}
use Rattle.memory.proofs.Over.{over_behind}
use Rattle.block.proofs.put_front.Goals as goal

pub returns : goal.returns
unfolding word_bytes summed_size
returns c = let p = c.args in
    let size : length (filled p.payload.now) ≡ payload_size = length_filled p.payload.now (omega arith) in
    over_behind p.to.now (word_bytes p.number) (filled p.payload.now) c.put_word.new.to c.put_payload.new.to 2 c.put_word.ensures refl (omega arith) c.put_payload.ensures
