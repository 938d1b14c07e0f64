-- A rule at every number below a bound, by one test that is computed at each. Assumes nothing.
use mathlib.Core.Path.{◌≡◌, refl, sym, ap, ◌∙◌}
use mathlib.Core.Logic.{◌⊎◌, ◌≢◌, inl, inr}
use Prim.Native.Nat.{ℕ, zero, suc, ◌<◌}
use native.Mathlib.Omega.{arith}
use mathlib.Core.Bool.{Bool, true, false, ◌&&◌, false≢true}
use Rattle.basics.specs.Choice.{same}
use Rattle.basics.proofs.Choice.{same_equal, split}

-- two tests that both hold
pub and_both : (a b : Bool) → a && b ≡ true → (a ≡ true) × (b ≡ true)
and_both true b e = (refl, e)
and_both false b e = absurd (false≢true e)

-- are two functions of numbers equal below a bound?
unfoldable pub agree : (ℕ → ℕ) → (ℕ → ℕ) → ℕ → Bool
agree f g zero = true
agree f g (suc n) = agree f g n && same (f n) (g n)

pub agree_at : (f g : ℕ → ℕ) (n : ℕ) → agree f g n ≡ true → (k : ℕ) → k < n → f k ≡ g k
unfolding agree
agree_at f g zero t k h = absurd (omega arith)
agree_at f g (suc n) t k h = by_place (split k n) (agree_at f g n (and_both (agree f g n) (same (f n) (g n)) t).0 k)
  where
    by_place : (k ≡ n) ⊎ (k ≢ n) → (k < n → f k ≡ g k) → f k ≡ g k
    by_place (inl e) before = ap f e ∙ same_equal (and_both (agree f g n) (same (f n) (g n)) t).1 ∙ sym (ap g e)
    by_place (inr e) before = before (omega arith)
