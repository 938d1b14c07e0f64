-- Counts of steps: with one more step, over more steps, and one test against another; and lost rounds, which are such a count. Assumes nothing.
use mathlib.Core.Path.{◌≡◌, refl, ap, ◌∙◌}
use mathlib.Core.Logic.{◌≢◌, ◌⊎◌, inl, inr}
use Prim.Native.Nat.{ℕ, zero, suc, ◌+◌, ◌≤◌, ◌<◌}
use native.Mathlib.Omega.{arith}
use mathlib.Core.Bool.{Bool, true, false, not, ◌&&◌}
use Rattle.basics.specs.Choice.{pick}
use Rattle.basics.proofs.Choice.{both, split, pick_then, pick_else}
use Rattle.machine.specs.Notes.{Note}
use Rattle.machine.specs.Lost.{tally, lost}

-- a test counts for one, or for none
pub counts_one : (b : Bool) → b ≡ true → ◌≡◌ {A = ℕ} (pick b 1 0) 1
counts_one b e = pick_then 1 0 e

pub counts_none : (b : Bool) → b ≡ false → ◌≡◌ {A = ℕ} (pick b 1 0) 0
counts_none b e = pick_else 1 0 e

module _ (f : ℕ → Bool) where
  pub tally_zero : tally f 0 ≡ 0
  unfolding tally
  tally_zero = refl

  pub tally_meets : (k : ℕ) → f (suc k) ≡ true → tally f (suc k) ≡ suc (tally f k)
  unfolding tally
  tally_meets k e = omega (arith, counts_one (f (suc k)) e)

  pub tally_misses : (k : ℕ) → f (suc k) ≡ false → tally f (suc k) ≡ tally f k
  unfolding tally
  tally_misses k e = omega (arith, counts_none (f (suc k)) e)

  one_up : (k : ℕ) → tally f k ≤ tally f (suc k)
  one_up k = go (both (f (suc k)))
    where
      go : (f (suc k) ≡ true) ⊎ (f (suc k) ≡ false) → tally f k ≤ tally f (suc k)
      go (inl e) = omega (arith, tally_meets k e)
      go (inr e) = omega (arith, tally_misses k e)

  -- no more are counted than there are
  pub tally_le : (k : ℕ) → tally f k ≤ k
  tally_le zero = omega (arith, tally_zero)
  tally_le (suc k) = go (both (f (suc k))) (tally_le k)
    where
      go : (f (suc k) ≡ true) ⊎ (f (suc k) ≡ false) → tally f k ≤ k → tally f (suc k) ≤ suc k
      go (inl e) below = omega (arith, tally_meets k e)
      go (inr e) below = omega (arith, tally_misses k e)

  -- more steps
  pub tally_up : (k l : ℕ) → k ≤ l → tally f k ≤ tally f l
  tally_up k zero h = let e : k ≡ 0 = omega arith in omega (arith, ap (tally f) e)
  tally_up k (suc l) h = go (split k (suc l)) (λ b. tally_up k l b)
    where
      go : (k ≡ suc l) ⊎ (k ≢ suc l) → (k ≤ l → tally f k ≤ tally f l) → tally f k ≤ tally f (suc l)
      go (inl e) below = omega (arith, ap (tally f) e)
      go (inr n) below = omega (arith, below (omega arith), one_up l)

  -- and one that meets the test among them
  pub tally_past : (k l : ℕ) → k < l → f l ≡ true → tally f k < tally f l
  tally_past k zero h e = absurd (omega arith)
  tally_past k (suc l) h e = omega (arith, tally_meets l e, tally_up k l (omega arith))

-- a test that no step meets
pub tally_none : (f : ℕ → Bool) (k : ℕ) → ((s : ℕ) → 1 ≤ s → s ≤ k → f s ≡ false) → tally f k ≡ 0
tally_none f zero h = tally_zero f
tally_none f (suc k) h = tally_misses f k (h (suc k) (omega arith) (omega arith)) ∙ tally_none f k (λ s low high. h s low (omega arith))

-- what meets one test meets another
pub tally_below : (f g : ℕ → Bool) (k : ℕ) → ((s : ℕ) → 1 ≤ s → s ≤ k → f s ≡ true → g s ≡ true) → tally f k ≤ tally g k
tally_below f g zero h = omega (arith, tally_zero f, tally_zero g)
tally_below f g (suc k) h = go (both (f (suc k))) (tally_below f g k (λ s low high. h s low (omega arith)))
  where
    go : (f (suc k) ≡ true) ⊎ (f (suc k) ≡ false) → tally f k ≤ tally g k → tally f (suc k) ≤ tally g (suc k)
    go (inl e) below = omega (arith, tally_meets f k e, tally_meets g k (h (suc k) (omega arith) (omega arith) e))
    go (inr e) below = omega (arith, tally_misses f k e, tally_up g k (suc k) (omega arith))

-- but for one step
pub tally_but_one : (f g : ℕ → Bool) (x k : ℕ) → ((s : ℕ) → 1 ≤ s → s ≤ k → s ≢ x → f s ≡ true → g s ≡ true) → tally f k ≤ suc (tally g k)
tally_but_one f g x zero h = omega (arith, tally_zero f)
tally_but_one f g x (suc k) h = go (both (f (suc k))) (split (suc k) x) (tally_but_one f g x k (λ s low high. h s low (omega arith)))
  where
    go : (f (suc k) ≡ true) ⊎ (f (suc k) ≡ false) → (suc k ≡ x) ⊎ (suc k ≢ x) → tally f k ≤ suc (tally g k) → tally f (suc k) ≤ suc (tally g (suc k))
    go (inr e) at_x before = omega (arith, tally_misses f k e, tally_up g k (suc k) (omega arith), before)
    go (inl e) (inl is) before =
        omega (arith, tally_meets f k e, tally_up g k (suc k) (omega arith), tally_below f g k (λ s low high. h s low (omega arith) (λ w. omega arith)))
    go (inl e) (inr n) before = omega (arith, tally_meets f k e, tally_meets g k (h (suc k) (omega arith) (omega arith) n e), before)

-- those of a test that meet a second one, and those that do not
one_parts : (b c : Bool) → ◌≡◌ {A = ℕ} (pick (b && not c) 1 0 + pick (b && c) 1 0) (pick b 1 0)
unfolding pick
one_parts true true = refl
one_parts true false = refl
one_parts false true = refl
one_parts false false = refl

pub tally_parts : (f g : ℕ → Bool) (k : ℕ) → tally (λ s. f s && not (g s)) k + tally (λ s. f s && g s) k ≡ tally f k
unfolding tally
tally_parts f g zero = refl
tally_parts f g (suc k) = omega (arith, tally_parts f g k, one_parts (f (suc k)) (g (suc k)))

-- lost rounds
module _ (log : ℕ → Note) where
  pub lost_zero : lost log 0 ≡ 0
  unfolding lost tally
  lost_zero = refl

  pub lost_step : (k : ℕ) {b : Bool} → (log (suc k)).back ≡ b → lost log (suc k) ≡ lost log k + pick b 1 0
  unfolding lost tally
  lost_step k e = ap (λ (b : Bool). lost log k + pick b 1 0) e

  pub lost_kept : (k : ℕ) → (log (suc k)).back ≡ false → lost log (suc k) ≡ lost log k
  unfolding lost
  lost_kept k e = tally_misses (λ s. (log s).back) k e

  pub lost_le : (k : ℕ) → lost log k ≤ k
  unfolding lost
  lost_le k = tally_le (λ s. (log s).back) k
