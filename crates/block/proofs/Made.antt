-- A block is made of its number and payload and, on the part behind them, their sums. Assumes nothing.
use Rattle.std.proofs.Common.{◌≡◌, ℕ, ◌-◌, ◌≤◌, List, ◌++◌, length, take, drop, ap, ◌∙◌, arith, take_at}
use Rattle.basics.specs.Words.{word_bytes}
use Rattle.memory.specs.Over.{over}
use Rattle.memory.proofs.Over.{over_behind}
use Rattle.block.specs.Block.{block_size, summed_size, payload_size, sums, block}
use Rattle.block.specs.declared.Sums.{Sums}
use Rattle.block.proofs.Sizes.{length_front}

-- the bytes of two sums
abbrev sum_bytes : Sums → List ℕ
sum_bytes s = word_bytes s.a ++ word_bytes s.b

pub block_over : (m m' part : List ℕ) (n : ℕ) (p : List ℕ) {s : Sums} → length p ≡ payload_size → block_size ≤ length m' → m' ≡ over (word_bytes n ++ p) m
    → s ≡ sums (take summed_size m') → part ≡ over (word_bytes s.a ++ word_bytes s.b) (take (length m' - summed_size) (drop summed_size m'))
    → take summed_size m' ++ (part ++ drop (length m' - summed_size) (drop summed_size m')) ≡ over (block n p) m
unfolding block block_size summed_size payload_size word_bytes
block_over m m' part n p {s} size room e own e' =
    let front : List ℕ = word_bytes n ++ p in
    let front_size : length front ≡ summed_size = length_front n p size in
    let s_is : s ≡ sums front = own ∙ ap sums (ap (take summed_size) e ∙ take_at front (drop (length front) m) summed_size front_size) in
    over_behind m front (sum_bytes (sums front)) m' part summed_size e front_size (omega arith)
    (e' ∙ ap (λ (t : Sums). over (sum_bytes t) (take (length m' - summed_size) (drop summed_size m'))) s_is)
