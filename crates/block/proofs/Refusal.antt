-- When a block gives its payload, and what refuses it first. Assumes nothing.
use Rattle.std.proofs.Common.{◌≡◌, ℕ, ◌+◌, true, false, ◌≢◌, ◌⊎◌, List, take, sym, refl, ap, ◌∙◌, inl, inr, arith}
use mathlib.Core.Bool.{or-true}
use Rattle.basics.specs.Choice.{same}
use Rattle.basics.specs.Words.{word}
use Rattle.basics.proofs.Choice.{pick_true, pick_false, equal_same, unequal_same, same_equal, same_unequal, both}
use Rattle.block.specs.Block.{summed_size, sums, sum_differs, misplaced, block_refusal}
use Rattle.block.specs.declared.Sums.{Sums}

-- the sums of a block's number and payload
abbrev pub own_sums : List ℕ → Sums
own_sums b = sums (take summed_size b)

-- a block whose sums are right, and which stands at its place
pub record Good (position : ℕ) (b : List ℕ) : Type 0 where
  pub sum_a : word b summed_size ≡ (own_sums b).a
  pub sum_b : word b (summed_size + 2) ≡ (own_sums b).b
  pub place : word b 0 ≡ position

-- what a check finds: a sum that differs, or a wrong place, or a good block
pub sum_a_differs : (position : ℕ) (b : List ℕ) {w : ℕ} {s : Sums} → s ≡ own_sums b → w ≡ word b summed_size → w ≢ s.a → 3 ≡ block_refusal position b
unfolding block_refusal sum_differs
sum_a_differs position b own p h = simp (unequal_same (λ e. h (p ∙ e ∙ ap (λ (t : Sums). t.a) (sym own))), pick_true)

pub sum_b_differs : (position : ℕ) (b : List ℕ) {w : ℕ} {s : Sums} → s ≡ own_sums b → w ≡ word b (summed_size + 2) → w ≢ s.b → 3 ≡ block_refusal position b
unfolding block_refusal sum_differs
sum_b_differs position b own p h =
    simp (unequal_same (λ e. h (p ∙ e ∙ ap (λ (t : Sums). t.b) (sym own))), or-true, pick_true)

pub place_differs : (position : ℕ) (b : List ℕ) → word b summed_size ≡ (own_sums b).a → word b (summed_size + 2) ≡ (own_sums b).b
    → word b 0 ≢ position → 4 ≡ block_refusal position b
unfolding block_refusal sum_differs misplaced
place_differs position b p q h = simp (equal_same p, equal_same q, unequal_same h, pick_true, pick_false)

pub good_accepted : {position : ℕ} {b : List ℕ} → Good position b → 0 ≡ block_refusal position b
unfolding block_refusal sum_differs misplaced
good_accepted g = simp (equal_same g.sum_a, equal_same g.sum_b, equal_same g.place, pick_false)

-- a block with neither refusal is good
pub accepted_good : {position : ℕ} {b : List ℕ} → block_refusal position b ≡ 0 → Good position b
unfolding block_refusal sum_differs misplaced
accepted_good {position} {b} e = go (both (same (word b summed_size) (own_sums b).a)) (both (same (word b (summed_size + 2)) (own_sums b).b)) (both (same (word b 0) position))
  where
    go : (same (word b summed_size) (own_sums b).a ≡ true) ⊎ (same (word b summed_size) (own_sums b).a ≡ false)
        → (same (word b (summed_size + 2)) (own_sums b).b ≡ true) ⊎ (same (word b (summed_size + 2)) (own_sums b).b ≡ false)
        → (same (word b 0) position ≡ true) ⊎ (same (word b 0) position ≡ false)
        → Good position b
    go (inl p) (inl q) (inl r) = record { sum_a = same_equal p; sum_b = same_equal q; place = same_equal r }
    go (inr p) q r = absurd (let z : ◌≡◌ {A = ℕ} 3 0 = sum_a_differs position b refl refl (same_unequal p) ∙ e in omega arith)
    go (inl p) (inr q) r = absurd (let z : ◌≡◌ {A = ℕ} 3 0 = sum_b_differs position b refl refl (same_unequal q) ∙ e in omega arith)
    go (inl p) (inl q) (inr r) = absurd (let z : ◌≡◌ {A = ℕ} 4 0 = place_differs position b (same_equal p) (same_equal q) (same_unequal r) ∙ e in omega arith)
