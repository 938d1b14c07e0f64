-- Lengths of the parts of a block. Assumes nothing.
use Rattle.std.proofs.Common.{◌≡◌, ℕ, ◌+◌, ◌-◌, ◌≤◌, List, ◌++◌, length, replicate, ap, ◌∙◌, arith, length-append}
use lib.ListN.{length-replicate}
use Rattle.basics.specs.Words.{word_bytes}
use Rattle.block.specs.Block.{payload_size, summed_size}
use Rattle.block.specs.Checked.{filled}

pub length_filled : (p : List ℕ) → length p ≤ payload_size → length (filled p) ≡ payload_size
unfolding filled
length_filled p h =
    let zeros : List ℕ = replicate (payload_size - length p) 0 in
    let size : length zeros ≡ payload_size - length p = length-replicate (payload_size - length p) 0 in
    let both : length (p ++ zeros) ≡ length p + length zeros = length-append p zeros in
    omega arith

pub length_front : (n : ℕ) (p : List ℕ) → length p ≡ payload_size → length (word_bytes n ++ p) ≡ summed_size
unfolding word_bytes summed_size
length_front n p e = length-append (word_bytes n) p ∙ ap (λ (k : ℕ). 2 + k) e
