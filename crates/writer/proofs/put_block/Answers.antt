-- `writer::put_block` meets its contract: the block stands at the front of the part that is lent on. Assumes nothing.
use mathlib.Core.Path.{◌≡◌, ap, ◌∙◌}
use Prim.Native.Nat.{ℕ, ◌*◌, ◌-◌}
use mathlib.Core.List.{List}
use lib.ListN.{length, take, drop, length-take}
use Rattle.memory.specs.Over.{over}
use Rattle.memory.proofs.Over.{part_over, length_part, take_within}
use Rattle.block.specs.Block.{block_size, payload_size, block}
use Rattle.block.specs.Checked.{filled}
use Rattle.block.proofs.Accepted.{length_block}
use Rattle.job.proofs.Padded.{length_payload_filled}
use Rattle.writer.proofs.Laying.{own_bytes}
use native.Mathlib.Omega.{arith}
use Rattle.writer.proofs.put_block.Goals as goal

pub make-requires : goal.make-requires
unfolding block_size payload_size
make-requires c = let p = c.args in
    let out : List ℕ = p.out.now in
    let own = take_within p.s.now (payload_size * p.i) payload_size c.min-end.result c.min-end.ensures in (
      omega (arith, length_part out (block_size * p.i) (length out - block_size * p.i) (omega arith)),
      omega (arith, ap length own, length-take payload_size (drop (payload_size * p.i) p.s.now)),
    )

pub returns : goal.returns
unfolding block_size payload_size
returns c = let p = c.args in
    let out : List ℕ = p.out.now in
    let size : length (block p.i (filled (own_bytes p.s.now p.i))) ≡ block_size =
    length_block p.i (filled (own_bytes p.s.now p.i)) (length_payload_filled p.s.now p.i)
    in
    let own = take_within p.s.now (payload_size * p.i) payload_size c.min-end.result c.min-end.ensures in
    part_over out (block p.i (filled (own_bytes p.s.now p.i))) c.make.new.to (block_size * p.i) (length out - block_size * p.i) (omega arith)
    (c.make.ensures ∙ ap (λ (x : List ℕ). over (block p.i (filled x)) (take (length out - block_size * p.i) (drop (block_size * p.i) out))) own)
