-- The blocks of a file, one after the other. Assumes nothing.
use mathlib.Core.Path.{◌≡◌, refl, sym, ap, ◌∙◌}
use mathlib.Core.Logic.{◌≢◌, ◌⊎◌, inl, inr}
use mathlib.Core.Bool.{Bool, true, false}
use Prim.Native.Nat.{ℕ, zero, suc, ◌+◌, ◌-◌, ◌*◌, ◌≤◌, ◌<◌}
use native.Mathlib.Numerals.{add-one}
use native.Mathlib.Omega.{arith}
use mathlib.Core.List.{List, [], ◌++◌}
use lib.ListN.{length, take, drop}
use Rattle.basics.specs.Choice.{pick, same}
use Rattle.basics.proofs.Choice.{pick_true, pick_false, equal_same, unequal_same, same_equal, same_unequal, both, split}
use Rattle.memory.proofs.Over.{length_part}
use Rattle.block.specs.Block.{block_size, payload_size, payload_of, block_refusal}
use Rattle.block.proofs.Accepted.{length_payload}
use Rattle.job.specs.File.{block_at, payloads, blocks_refusal}
use Rattle.job.proofs.Conditions.{next_left, none_left}
use Rattle.job.proofs.Pieces.{pieces, length_pieces}

-- the part of a file that the code lends
pub block_part : (file : List ℕ) (i : ℕ) → take (block_size * i + block_size - block_size * i) (drop (block_size * i) file) ≡ block_at file i
unfolding block_at
block_part file i = ap (λ (k : ℕ). take k (drop (block_size * i) file)) (let e : block_size * i + block_size - block_size * i ≡ block_size = omega arith in e)

pub length_block_at : (file : List ℕ) (i : ℕ) → block_size * i + block_size ≤ length file → length (block_at file i) ≡ block_size
unfolding block_at
length_block_at file i h = length_part file (block_size * i) block_size h

-- from the block at `i` up to block `n`: the next one, and the end
module _ (file : List ℕ) {i n : ℕ} where
  pub payloads_next : i < n → payloads file i (n - i) ≡ payload_of (block_at file i) ++ payloads file (i + 1) (n - (i + 1))
  unfolding payloads
  payloads_next h = simp (next_left h, add-one)

  pub payloads_end : n ≤ i → payloads file i (n - i) ≡ []
  unfolding payloads
  payloads_end h = simp (none_left h)

  pub refusal_here : i < n → block_refusal i (block_at file i) ≢ 0 → block_refusal i (block_at file i) ≡ blocks_refusal file i (n - i)
  unfolding blocks_refusal
  refusal_here h e = simp (next_left h, unequal_same e, pick_false)

  pub refusal_next : i < n → block_refusal i (block_at file i) ≡ 0 → blocks_refusal file (i + 1) (n - (i + 1)) ≡ blocks_refusal file i (n - i)
  unfolding blocks_refusal
  refusal_next h e = simp (next_left h, equal_same e, pick_true, add-one)

  pub refusal_end : n ≤ i → 0 ≡ blocks_refusal file i (n - i)
  unfolding blocks_refusal
  refusal_end h = simp (none_left h)

-- the payloads are pieces of one length
pub payloads_are : (file : List ℕ) (i n : ℕ) → payloads file i n ≡ pieces (λ j. payload_of (block_at file j)) i n
unfolding payloads pieces
payloads_are file i zero = refl
payloads_are file i (suc n) = ap (λ (t : List ℕ). payload_of (block_at file i) ++ t) (payloads_are file (suc i) n)

pub length_payload_at : (file : List ℕ) (n j : ℕ) → length file ≡ block_size * n → j < n → length (payload_of (block_at file j)) ≡ payload_size
unfolding block_size
length_payload_at file n j whole more = length_payload (block_at file j) (length_block_at file j (omega arith))

pub length_payloads : (file : List ℕ) (n : ℕ) → length file ≡ block_size * n → length (payloads file 0 n) ≡ payload_size * n
length_payloads file n whole =
    ap length (payloads_are file 0 n)
    ∙ length_pieces (λ j. payload_of (block_at file j)) payload_size 0 n (λ j a b. length_payload_at file n j whole (omega arith))

-- no block is refused, at all of them and at each
module _ (file : List ℕ) where
  pub each_accepted : (i n : ℕ) → blocks_refusal file i n ≡ 0 → (j : ℕ) → i ≤ j → j < i + n → block_refusal j (block_at file j) ≡ 0
  unfolding blocks_refusal
  each_accepted i zero e j a b = absurd (omega arith)
  each_accepted i (suc n) e j a b = by_first (both (same (block_refusal i (block_at file i)) 0)) (each_accepted (suc i) n)
    where
      choice : Bool → ℕ
      choice t = pick t (blocks_refusal file (suc i) n) (block_refusal i (block_at file i))

      by_place : block_refusal i (block_at file i) ≡ 0 → ((l : ℕ) → suc i ≤ l → l < suc i + n → block_refusal l (block_at file l) ≡ 0) → (i ≡ j) ⊎ (i ≢ j) → block_refusal j (block_at file j) ≡ 0
      by_place own later (inl p) = ap (λ (l : ℕ). block_refusal l (block_at file l)) (sym p) ∙ own
      by_place own later (inr p) = later j (omega arith) (omega arith)

      by_first : (same (block_refusal i (block_at file i)) 0 ≡ true) ⊎ (same (block_refusal i (block_at file i)) 0 ≡ false)
          → (blocks_refusal file (suc i) n ≡ 0 → (l : ℕ) → suc i ≤ l → l < suc i + n → block_refusal l (block_at file l) ≡ 0)
          → block_refusal j (block_at file j) ≡ 0
      by_first (inl t) later = by_place (same_equal t) (later (sym (pick_true (blocks_refusal file (suc i) n) (block_refusal i (block_at file i))) ∙ ap choice (sym t) ∙ e)) (split i j)
      by_first (inr t) later = absurd (same_unequal t (sym (pick_false (blocks_refusal file (suc i) n) (block_refusal i (block_at file i))) ∙ ap choice (sym t) ∙ e))

  pub all_accepted : (i n : ℕ) → ((j : ℕ) → i ≤ j → j < i + n → block_refusal j (block_at file j) ≡ 0) → blocks_refusal file i n ≡ 0
  unfolding blocks_refusal
  all_accepted i zero h = refl
  all_accepted i (suc n) h =
      ap (λ (t : Bool). pick t (blocks_refusal file (suc i) n) (block_refusal i (block_at file i))) (equal_same (h i (omega arith) (omega arith)))
      ∙ pick_true (blocks_refusal file (suc i) n) (block_refusal i (block_at file i))
      ∙ all_accepted (suc i) n (λ j a b. h j (omega arith) (omega arith))
