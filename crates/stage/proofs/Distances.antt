-- Differences of whole numbers, and how far they are apart, by order and sign. Assumes nothing.
use mathlib.Core.Path.{◌≡◌, refl, sym, ap, subst, ◌∙◌}
use Prim.Native.Nat.{ℕ, zero, suc, ◌+◌, ◌-◌, ◌*◌, ◌≤◌, ◌<◌}
use native.Mathlib.Omega.{arith}
use mathlib.Core.Bool.{Bool, true, false, not, cond}
use lib.Dec.{T, ltb, ltb→lt, nltb→le}
use lib.IntN.{ℤ, pos, negsuc, neg_ℤ, nat_abs, ◌-ℤ◌, ◌*ℤ◌, neg_ℤ-neg_ℤ, neg_ℤ-+ℤ}
use Rattle.stage.specs.Centimetres.{off}

-- what holds of a difference in either order of its numbers holds of it
pub by_order {κ} : (P : ℤ → Type κ) (a b : ℕ) → (a < b → P (negsuc (b - suc a))) → (b ≤ a → P (pos (a - b))) → P (pos a -ℤ pos b)
by_order P a zero f g = subst (λ (n : ℕ). P (pos n)) (let e : a - 0 ≡ a + 0 = omega arith in e) (g (omega arith))
by_order P a (suc b) f g = go (ltb a (suc b)) (λ t. f (ltb→lt a (suc b) t)) (λ t. g (nltb→le a (suc b) t))
  where
    go : (t : Bool) → (T t → P (negsuc (suc b - suc a))) → (T (not t) → P (pos (a - suc b))) → P (cond t (negsuc (suc b - suc a)) (pos (a - suc b)))
    go true low high = low tt
    go false low high = high tt

-- two numbers that are not negative: one of the two differences is 0
apart : (a b : ℕ) → nat_abs (pos a -ℤ pos b) ≡ (a - b) + (b - a)
apart a b = by_order (λ z. nat_abs z ≡ (a - b) + (b - a)) a b (λ h. omega arith) (λ h. omega arith)

-- two of which only the first may be negative
across : (a b : ℕ) → nat_abs (neg_ℤ (pos a) -ℤ pos b) ≡ a + b
across zero zero = omega arith
across zero (suc b) = omega (arith, apart 0 (suc b))
across (suc a) zero = omega (arith, apart 0 (suc a))
across (suc a) (suc b) = omega arith

pub off_above : (mm cm : ℕ) → off (pos mm) (pos cm) ≡ (10 * cm - mm) + (mm - 10 * cm)
unfolding off
off_above mm cm = apart (10 * cm) mm

pub off_across : (mm n : ℕ) → 10 ≤ off (pos mm) (negsuc n)
unfolding off
off_across mm n = omega (arith, across (10 * suc n) mm)

pub nat_abs_negated : (z : ℤ) → nat_abs (neg_ℤ z) ≡ nat_abs z
nat_abs_negated (pos zero) = refl
nat_abs_negated (pos (suc n)) = refl
nat_abs_negated (negsuc n) = refl

ten_negated : (cm : ℤ) → pos 10 *ℤ neg_ℤ cm ≡ neg_ℤ (pos 10 *ℤ cm)
ten_negated (pos zero) = refl
ten_negated (pos (suc n)) = refl
ten_negated (negsuc n) = sym (neg_ℤ-neg_ℤ (pos (10 * suc n)))

-- below the datum as above it
pub off_negated : (mm cm : ℤ) → off (neg_ℤ mm) (neg_ℤ cm) ≡ off mm cm
unfolding off
off_negated mm cm =
    ap (λ (z : ℤ). nat_abs (z -ℤ neg_ℤ mm)) (ten_negated cm)
    ∙ ap nat_abs (sym (neg_ℤ-+ℤ (pos 10 *ℤ cm) (neg_ℤ mm)))
    ∙ nat_abs_negated (pos 10 *ℤ cm -ℤ mm)
