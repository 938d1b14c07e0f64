-- `salvager::save_file` meets its contract: the leading payloads stand in front of the work memory, and their stream is saved. Assumes nothing.
use mathlib.Core.Path.{◌≡◌, refl, sym, ap, subst, ◌∙◌}
use Prim.Native.Nat.{ℕ, ◌*◌, ◌≤◌}
use mathlib.Core.List.{List}
use lib.ListN.{length, take, drop}
use lib.Seq.{length-take-le, take_at}
use Rattle.block.specs.Block.{block_size, payload_size}
use Rattle.job.specs.Limits.{most_stream}
use Rattle.job.specs.File.{block_count, payloads}
use Rattle.remains.specs.Kept.{leading}
use Rattle.remains.specs.Looked.{looked}
use Rattle.remains.proofs.Leading.{leading_le, length_full}
use Rattle.salvager.specs.Saved.{Saved}
use Rattle.salvager.proofs.Gathering.{behind_part}
use native.Mathlib.Omega.{arith}
use Rattle.salvager.proofs.save_file.Goals as goal

pub gather-n-requires : goal.gather-n-requires
unfolding block_size payload_size most_stream
gather-n-requires c = (omega (arith, c.min-count.ensures, c.requires.0.blocks_fit), omega (arith, c.min-count.ensures), omega (arith, c.min-count.ensures, c.requires.1))

pub overflow_mul-end : goal.overflow_mul-end
overflow_mul-end c = let p = c.args in
    record { fits = omega (arith, c.gather-n.ensures.count, leading_le p.file.now 0 c.min-count.result, c.min-count.ensures, c.requires.0.blocks_fit) }

pub slice_bounds-save-end : goal.slice_bounds-save-end
unfolding most_stream payload_size
slice_bounds-save-end c = let p = c.args in
    omega (arith, c.gather-n.auto.work, c.gather-n.ensures.count, leading_le p.file.now 0 c.min-count.result, c.min-count.ensures, c.requires.1)

pub slice_bounds-save-end-2 : goal.slice_bounds-save-end-2
unfolding most_stream payload_size
slice_bounds-save-end-2 c = let p = c.args in
    sym (length-take-le _ c.gather-n.new.work (omega (arith, c.gather-n.auto.work, c.gather-n.ensures.count, leading_le p.file.now 0 c.min-count.result, c.min-count.ensures, c.requires.1)))

pub returns : goal.returns
unfolding most_stream payload_size block_size block_count looked
returns c = let p = c.args in
    let g = c.gather-n in
    let n : ℕ = g.result in
    let count : ℕ = c.min-count.result in
    let work : List ℕ = g.new.work in
    let front : List ℕ = payloads p.file.now 0 n in
    let few : n ≤ count = omega (arith, g.ensures.count, leading_le p.file.now 0 count) in
    let size : length front ≡ payload_size * n = length_full p.file.now n (omega (arith, c.min-count.ensures)) in
    let below : payload_size * n ≤ most_stream p.limits = omega (arith, c.min-count.ensures) in
    let stream : take (payload_size * n) work ≡ looked p.limits p.file.now =
    ap (take (payload_size * n)) g.ensures.payloads
    ∙ take_at front (drop (length front) p.work.now) (payload_size * n) size
    ∙ ap (payloads p.file.now 0) (g.ensures.count ∙ ap (leading p.file.now 0) c.min-count.ensures)
    in
    record {
      saved = subst (λ (s : List ℕ). Saved p.limits s p.out.now c.save.new.out c.save.result) stream c.save.ensures;
      behind = behind_part c.save.new.s work (payload_size * n) (most_stream p.limits) (omega (arith, c.save.auto.s, length-take-le (payload_size * n) work (omega (arith, g.auto.work, c.requires.1)))) below
          ∙ ap (drop (most_stream p.limits)) g.ensures.payloads
          ∙ behind_part front p.work.now (length front) (most_stream p.limits) refl (omega (arith, size));
    }
