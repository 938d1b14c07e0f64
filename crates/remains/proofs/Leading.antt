-- The leading blocks that would not be refused, and their payloads. Assumes nothing.
use mathlib.Core.Path.{◌≡◌, refl, sym, ap, ◌∙◌}
use mathlib.Core.Logic.{◌≢◌}
use Prim.Native.Nat.{ℕ, zero, suc, ◌+◌, ◌-◌, ◌*◌, ◌≤◌, ◌<◌, min}
use native.Mathlib.Nat.{mul-suc, mul-zero, add_comm, zero-min, min-zero, suc-min-suc}
use native.Mathlib.Numerals.{add-one}
use native.Mathlib.Omega.{arith}
use mathlib.Core.Bool.{Bool}
use mathlib.Core.List.{List, ◌++◌}
use lib.ListN.{length, take}
use lib.Seq.{take-nil, take-append-add}
use Rattle.basics.specs.Choice.{pick, same}
use Rattle.basics.proofs.Choice.{pick_true, pick_false, pick_then, pick_else, pick_elim, equal_same, unequal_same}
use Rattle.block.specs.Block.{block_size, payload_size, payload_of, block_refusal}
use Rattle.block.proofs.Accepted.{length_payload}
use Rattle.job.specs.File.{block_at, payloads}
use Rattle.job.proofs.Blocks.{length_block_at, payloads_are}
use Rattle.job.proofs.Conditions.{next_left, none_left}
use Rattle.job.proofs.Pieces.{pieces, length_pieces, pieces_alike}
use Rattle.remains.specs.Kept.{leading}

-- from the block at `i` up to block `n`: the next one, a refused one, and the end
module _ (file : List ℕ) {i n : ℕ} where
  pub leading_next : i < n → block_refusal i (block_at file i) ≡ 0 → leading file i (n - i) ≡ suc (leading file (i + 1) (n - (i + 1)))
  unfolding leading
  leading_next h e = simp (next_left h, equal_same e, pick_true, add-one)

  pub leading_here : i < n → block_refusal i (block_at file i) ≢ 0 → leading file i (n - i) ≡ 0
  unfolding leading
  leading_here h e = simp (next_left h, unequal_same e, pick_false)

  pub leading_end : n ≤ i → leading file i (n - i) ≡ 0
  unfolding leading
  leading_end h = simp (none_left h)

module _ (file : List ℕ) where
  pub leading_le : (i n : ℕ) → leading file i n ≤ n
  unfolding leading
  leading_le i zero = omega arith
  leading_le i (suc n) =
      pick_elim (λ (x : ℕ). x ≤ suc n) (same (block_refusal i (block_at file i)) 0) (suc (leading file (suc i) n)) 0
      (λ e. omega (arith, leading_le (suc i) n))
      (λ e. omega arith)

  -- where none would be refused, all of them
  pub leading_all : (i n : ℕ) → ((j : ℕ) → i ≤ j → j < i + n → block_refusal j (block_at file j) ≡ 0) → leading file i n ≡ n
  unfolding leading
  leading_all i zero h = refl
  leading_all i (suc n) h =
      pick_then (suc (leading file (suc i) n)) 0 (equal_same (h i (omega arith) (omega arith)))
      ∙ ap suc (leading_all (suc i) n (λ j a b. h j (omega arith) (omega arith)))

  -- of the first `n` alone
  pub leading_first : (i m n : ℕ) → leading file i (min m n) ≡ min (leading file i m) n
  unfolding leading
  leading_first i zero n = ap (leading file i) (zero-min n) ∙ sym (zero-min n)
  leading_first i (suc m) zero = ap (leading file i) (min-zero (suc m)) ∙ sym (min-zero _)
  leading_first i (suc m) (suc n) =
      ap (leading file i) (suc-min-suc m n)
      ∙ go (same (block_refusal i (block_at file i)) 0) (leading_first (suc i) m n)
    where
      go : (b : Bool) → leading file (suc i) (min m n) ≡ min (leading file (suc i) m) n
          → pick b (suc (leading file (suc i) (min m n))) 0 ≡ min (pick b (suc (leading file (suc i) m)) 0) (suc n)
      go b e =
          pick_elim (λ (x : ℕ). x ≡ min (pick b (suc (leading file (suc i) m)) 0) (suc n)) b (suc (leading file (suc i) (min m n))) 0
          (λ t. ap suc e ∙ sym (suc-min-suc _ n) ∙ ap (λ (x : ℕ). min x (suc n)) (sym (pick_then (suc (leading file (suc i) m)) 0 t)))
          (λ t. sym (zero-min (suc n)) ∙ ap (λ (x : ℕ). min x (suc n)) (sym (pick_else (suc (leading file (suc i) m)) 0 t)))

-- the first pieces of a list of pieces
first_pieces : (f : ℕ → List ℕ) (k i m n : ℕ) → ((j : ℕ) → i ≤ j → j < i + m → length (f j) ≡ k) → pieces f i (min m n) ≡ take (k * n) (pieces f i m)
unfolding pieces
first_pieces f k i zero n h = ap (pieces f i) (zero-min n) ∙ sym (take-nil (k * n))
first_pieces f k i (suc m) zero h = ap (pieces f i) (min-zero (suc m)) ∙ ap (λ (x : ℕ). take x (f i ++ pieces f (suc i) m)) (sym (mul-zero k))
first_pieces f k i (suc m) (suc n) h =
    ap (pieces f i) (suc-min-suc m n)
    ∙ ap (λ (t : List ℕ). f i ++ t) (first_pieces f k (suc i) m n (λ j a b. h j (omega arith) (omega arith)))
    ∙ sym (take-append-add (f i) (pieces f (suc i) m) (k * n))
    ∙ ap (λ (x : ℕ). take x (f i ++ pieces f (suc i) m))
    (ap (λ (x : ℕ). x + k * n) (h i (omega arith) (omega arith)) ∙ add_comm k (k * n) ∙ sym (mul-suc k n))

-- the payloads of full blocks
module _ (file : List ℕ) (m : ℕ) (full : block_size * m ≤ length file) where
  full_payload : (j : ℕ) → j < m → length (payload_of (block_at file j)) ≡ payload_size
  unfolding block_size
  full_payload j h = length_payload (block_at file j) (length_block_at file j (omega arith))

  pub length_full : length (payloads file 0 m) ≡ payload_size * m
  length_full =
      ap length (payloads_are file 0 m)
      ∙ length_pieces (λ j. payload_of (block_at file j)) payload_size 0 m (λ j a b. full_payload j (omega arith))

  -- those of the first `n` are the first bytes
  pub payloads_first : (n : ℕ) → payloads file 0 (min m n) ≡ take (payload_size * n) (payloads file 0 m)
  payloads_first n =
      payloads_are file 0 (min m n)
      ∙ first_pieces (λ j. payload_of (block_at file j)) payload_size 0 m n (λ j a b. full_payload j (omega arith))
      ∙ ap (take (payload_size * n)) (sym (payloads_are file 0 m))

-- the payloads of the same blocks are the same
pub payloads_same : (f g : List ℕ) (n : ℕ) → ((i : ℕ) → i < n → block_at f i ≡ block_at g i) → payloads f 0 n ≡ payloads g 0 n
payloads_same f g n h =
    payloads_are f 0 n
    ∙ pieces_alike (λ j. payload_of (block_at f j)) (λ j. payload_of (block_at g j)) 0 n (λ j a b. ap payload_of (h j (omega arith)))
    ∙ sym (payloads_are g 0 n)
