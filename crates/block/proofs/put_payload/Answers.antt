-- `block::put_payload` meets its contract: the payload, and zeros on the part behind it. Assumes nothing.
use Rattle.std.proofs.Common.{◌≡◌, ℕ, ◌-◌, List, length, take, drop, replicate, refl, arith}
use lib.ListN.{length-replicate}
use Rattle.memory.proofs.Over.{over_both, zeros_over, length_part}
use Rattle.block.specs.Block.{payload_size}
use Rattle.block.specs.Checked.{filled}
use lib.ListN.{length-replicate}
use Rattle.memory.proofs.Over.{over_both, zeros_over}
use Rattle.block.proofs.put_payload.Goals as goal

pub returns : goal.returns
unfolding filled payload_size
returns c = let p = c.args in
    let n : ℕ = length p.payload.now in
    let k : ℕ = payload_size - n in
    let m : List ℕ = c.copy.new.to in
    let zeros : List ℕ = replicate k 0 in
    let size : length zeros ≡ k = length-replicate k 0 in
    over_both p.to.now p.payload.now zeros m c.clear.new.to n k c.copy.ensures refl (omega arith) (zeros_over (take k (drop n m)) c.clear.new.to k (length_part m n k (omega arith)) c.clear.ensures)
