-- A number added up over processes 0 to P − 1: what is counted for each of them apart is what is counted at all. Assumes nothing.
use mathlib.Core.Path.{◌≡◌, refl, sym, ap, ◌∙◌}
use mathlib.Core.Logic.{◌≢◌, ◌⊎◌, inl, inr}
use Prim.Native.Nat.{ℕ, zero, suc, ◌+◌, ◌*◌, ◌≤◌, ◌<◌}
use mathlib.Core.Bool.{Bool, true, false, ◌&&◌, and-false, and-eq-true_iff}
use native.Mathlib.Omega.{arith}
use Rattle.basics.specs.Choice.{pick, same}
use Rattle.basics.proofs.Choice.{split, same_equal, equal_same, unequal_same}
use Rattle.machine.specs.Lost.{tally}
use Rattle.machine.proofs.Tallies.{counts_one, counts_none}

unfoldable pub total : (ℕ → ℕ) → ℕ → ℕ
total f zero = 0
total f (suc p) = total f p + f p

pub total_none : (f : ℕ → ℕ) → total f 0 ≡ 0
unfolding total
total_none f = refl

total_zero : (f : ℕ → ℕ) (P : ℕ) → ((p : ℕ) → f p ≡ 0) → total f P ≡ 0
unfolding total
total_zero f zero h = refl
total_zero f (suc P) h = omega (arith, total_zero f P h, h P)

total_add : (f g h : ℕ → ℕ) (P : ℕ) → ((p : ℕ) → f p ≡ g p + h p) → total f P ≡ total g P + total h P
unfolding total
total_add f g h zero e = refl
total_add f g h (suc P) e = omega (arith, total_add f g h P e, e P)

-- one process among them
module _ (v : ℕ) where
  abbrev one : ℕ → ℕ
  one p = pick (same v p) 1 0

  total_past : (P : ℕ) → P ≤ v → total one P ≡ 0
  unfolding total
  total_past zero h = refl
  total_past (suc P) h = omega (arith, counts_none (same v P) (unequal_same (λ e. omega arith)), total_past P (omega arith))

  total_one : (P : ℕ) → v < P → total one P ≡ 1
  unfolding total
  total_one zero h = absurd (omega arith)
  total_one (suc P) h = go (split v P) (λ low. total_one P low)
    where
      go : (v ≡ P) ⊎ (v ≢ P) → (v < P → total one P ≡ 1) → total one P + one P ≡ 1
      go (inl e) below = omega (arith, counts_one (same v P) (equal_same e), total_past P (omega arith))
      go (inr n) below = omega (arith, counts_none (same v P) (unequal_same n), below (omega arith))

-- the steps that meet a test and are of process p, where each step is of one
unfoldable pub of_process : (ℕ → Bool) → (ℕ → ℕ) → ℕ → ℕ → Bool
of_process f w p s = f s && same (w s) p

module _ (f : ℕ → Bool) (w : ℕ → ℕ) (p s : ℕ) where
  pub of_process_is : f s ≡ true → w s ≡ p → of_process f w p s ≡ true
  unfolding of_process
  of_process_is e o = (and-eq-true_iff (f s) (same (w s) p)).1 (e, equal_same o)

  pub of_process_meets : of_process f w p s ≡ true → f s ≡ true
  unfolding of_process
  of_process_meets e = ((and-eq-true_iff (f s) (same (w s) p)).0 e).0

  pub of_process_own : of_process f w p s ≡ true → w s ≡ p
  unfolding of_process
  of_process_own e = same_equal ((and-eq-true_iff (f s) (same (w s) p)).0 e).1

  pub of_process_unless : f s ≡ false → of_process f w p s ≡ false
  unfolding of_process
  of_process_unless e = ap (λ b. b && same (w s) p) e

  pub of_process_other : w s ≢ p → of_process f w p s ≡ false
  unfolding of_process
  of_process_other n = ap (λ b. f s && b) (unequal_same n) ∙ and-false (f s)

module _ (f : ℕ → Bool) (w : ℕ → ℕ) (P : ℕ) (known : (s : ℕ) → f s ≡ true → w s < P) where
  step_total : (s : ℕ) → ◌≡◌ {A = ℕ} (total (λ p. pick (of_process f w p s) 1 0) P) (pick (f s) 1 0)
  unfolding of_process
  step_total s = go (f s) refl
    where
      go : (b : Bool) → f s ≡ b → ◌≡◌ {A = ℕ} (total (λ p. pick (b && same (w s) p) 1 0) P) (pick b 1 0)
      go true e = total_one (w s) P (known s e) ∙ sym (counts_one true refl)
      go false e = total_zero (λ p. pick false 1 0) P (λ p. counts_none false refl) ∙ sym (counts_none false refl)

  pub total_tally : (k : ℕ) → total (λ p. tally (of_process f w p) k) P ≡ tally f k
  unfolding tally
  total_tally zero = total_zero (λ p. 0) P (λ p. refl)
  total_tally (suc k) =
      omega (
        arith,
        total_add (λ p. tally (of_process f w p) k + pick (of_process f w p (suc k)) 1 0) (λ p. tally (of_process f w p) k) (λ p. pick (of_process f w p (suc k)) 1 0) P (λ p. refl),
        total_tally k,
        step_total (suc k),
      )

-- a bound for each process is one for all
pub total_bound : (f g h : ℕ → ℕ) (c P : ℕ) → ((p : ℕ) → f p + 2 * g p ≤ c + h p) → total f P + 2 * total g P ≤ P * c + total h P
unfolding total
total_bound f g h c zero e = omega arith
total_bound f g h c (suc P) e = omega (arith, total_bound f g h c P e, e P)
