-- The output while blocks are laid, one behind the other. Assumes nothing.
use mathlib.Core.Path.{◌≡◌, sym, ap, subst, ◌∙◌}
use Prim.Native.Nat.{ℕ, ◌+◌, ◌-◌, ◌*◌, ◌≤◌, ◌<◌}
use native.Mathlib.Nat.{sub-zero}
use native.Mathlib.Omega.{arith}
use mathlib.Core.List.{List, ◌++◌}
use lib.ListN.{length, take, drop}
use Rattle.basics.proofs.Laid.{Laid, laid_none, laid_piece, laid_whole}
use Rattle.memory.specs.Over.{over}
use Rattle.block.specs.Block.{block_size, payload_size, block}
use Rattle.block.specs.Checked.{filled}
use Rattle.block.proofs.Accepted.{length_block}
use Rattle.job.specs.Stream.{stream_length}
use Rattle.job.specs.Refusals.{exact_count}
use Rattle.job.specs.File.{blocks, padded, file_of}
use Rattle.job.proofs.Table.{exact_least}
use Rattle.job.proofs.Padded.{payload_filled, length_payload_filled, blocks_next, blocks_end}

-- the stream's bytes of the block at `i`
abbrev pub own_bytes : List ℕ → ℕ → List ℕ
own_bytes s i = take payload_size (drop (payload_size * i) s)

-- of `n` blocks, those below `i` are laid
pub record Laying (s start m : List ℕ) (n i : ℕ) : Type 0 where
  pub low : i ≤ n
  pub laid : Laid start m (block_size * i) (blocks (padded s) i (n - i)) (file_of s)

pub laying_none : (s m : List ℕ) (n : ℕ) → n ≡ exact_count s → Laying s m m n 0
unfolding block_size file_of
laying_none s m n e =
    record {
      low = omega arith;
      laid = subst (λ (k : ℕ). Laid m m 0 (blocks (padded s) 0 k) (file_of s)) (sym (sub-zero n ∙ e)) (laid_none m (file_of s));
    }

-- a block below the exact count has bytes of the stream
pub block_begins : (s : List ℕ) (i n : ℕ) → n ≡ exact_count s → length s ≡ stream_length s → i < n → payload_size * i ≤ length s
unfolding payload_size
block_begins s i n e size more = omega (arith, exact_least s)

pub laying_next : {s start m m' : List ℕ} {n i : ℕ} → Laying s start m n i → i < n → n ≡ exact_count s → length s ≡ stream_length s → block_size * n ≤ length m
    → m' ≡ take (block_size * i) m ++ over (block i (filled (own_bytes s i))) (drop (block_size * i) m) → Laying s start m' n (i + 1)
unfolding block_size
laying_next {s} {start} {m} {m'} {n} {i} l more e size room is =
    let filled_is : take payload_size (drop (payload_size * i) (padded s)) ≡ filled (own_bytes s i) =
    payload_filled s i (block_begins s i n e size more) (omega arith)
    in
    let next : blocks (padded s) i (n - i) ≡ block i (filled (own_bytes s i)) ++ blocks (padded s) (i + 1) (n - (i + 1)) =
    blocks_next (padded s) more ∙ ap (λ (p : List ℕ). block i p ++ blocks (padded s) (i + 1) (n - (i + 1))) filled_is
    in
    record {
      low = omega arith;
      laid =
          laid_piece block_size i m' (block i (filled (own_bytes s i)))
          (subst (λ (x : List ℕ). Laid start m (block_size * i) x (file_of s)) next l.laid)
          (length_block i (filled (own_bytes s i)) (length_payload_filled s i))
          (omega arith)
          is;
    }

pub laying_all : {s start m : List ℕ} {n i : ℕ} → Laying s start m n i → n ≤ i → block_size * n ≤ length m → m ≡ over (file_of s) start
unfolding block_size
laying_all {s} {start} {m} {n} {i} l done room =
    laid_whole (subst (λ (x : List ℕ). Laid start m (block_size * i) x (file_of s)) (blocks_end (padded s) done) l.laid) (omega (arith, l.low))
