-- Rounding on both sides of the datum: the two facts, that they fix the printed number, and one sum and one quotient that give it. Assumes
-- nothing.
use mathlib.Core.Path.{◌≡◌, refl, sym, ap, subst, ◌∙◌}
use mathlib.Core.Logic.{◌≢◌, ⊎_elim}
use Prim.Native.Nat.{ℕ, zero, suc, ◌+◌, ◌/◌, ◌%◌, ◌≤◌, ◌<◌}
use native.Mathlib.Omega.{arith}
use lib.IntN.{ℤ, pos, negsuc, neg_ℤ, nat_abs, neg_ℤ-neg_ℤ}
use Rattle.basics.specs.Choice.{pick, same, less}
use Rattle.basics.proofs.Choice.{pick_elim, pick_else, both, same_equal, same_unequal, unequal_same, less_lt, less_le}
use Rattle.stage.specs.Centimetres.{half_way, even_one, nearest, centimetres, Rounded}
use Rattle.stage.proofs.Distances.{off_above, off_across, off_negated, nat_abs_negated}

-- the facts of a stage that is not below the datum
rounded_above : (mm : ℕ) → Rounded (pos mm) (pos (nearest mm))
unfolding nearest half_way even_one
rounded_above mm =
    pick_elim (λ (cm : ℕ). Rounded (pos mm) (pos cm)) (half_way mm) (even_one (mm / 10)) ((mm + 5) / 10)
    (λ e. let h : mm % 10 ≡ 5 = same_equal e in let o = off_above mm (even_one (mm / 10)) in record { near = omega (arith, o); even = λ f. omega arith })
    (λ e. let h : mm % 10 ≢ 5 = same_unequal e in let o = off_above mm ((mm + 5) / 10) in record { near = omega (arith, o); even = λ f. omega (arith, o) })

-- and of the one as far on the other side
rounded_negated : {mm cm : ℤ} → Rounded mm cm → Rounded (neg_ℤ mm) (neg_ℤ cm)
rounded_negated {mm} {cm} r =
    record {
      near = omega (arith, off_negated mm cm, r.near);
      even = λ f. let e : nat_abs cm % 2 ≡ 0 = r.even (sym (off_negated mm cm) ∙ f) in ap (λ (n : ℕ). n % 2) (nat_abs_negated cm) ∙ e;
    }

-- both facts hold for every stage
pub rounded : (mm : ℤ) → Rounded mm (centimetres mm)
unfolding centimetres
rounded (pos mm) = rounded_above mm
rounded (negsuc n) = rounded_negated (rounded_above (suc n))

-- of two neighbours one is odd
not_both_even : (n : ℕ) → n % 2 ≡ 0 → suc n % 2 ≡ 0 → ⊥
not_both_even n e f =
    ⊎_elim (λ l. let h : n / 2 < suc n / 2 = less_lt l in omega arith) (λ l. let h : suc n / 2 ≤ n / 2 = less_le l in omega arith)
    (both (less (n / 2) (suc n / 2)))

-- of two numbers with both facts none is above the other: they would be neighbours, each half off, and both even
not_above : {mm low high : ℕ} → Rounded (pos mm) (pos low) → Rounded (pos mm) (pos high) → low < high → ⊥
not_above {mm} {low} {high} r s h =
    let lower = off_above mm low in
    let upper = off_above mm high in
    let next : high ≡ suc low = omega (arith, r.near, s.near, lower, upper) in
    let high_even : suc low % 2 ≡ 0 = subst (λ (n : ℕ). n % 2 ≡ 0) next (s.even (omega (arith, r.near, s.near, lower, upper))) in
    not_both_even low (r.even (omega (arith, r.near, s.near, lower, upper))) high_even

at_most : {mm low high : ℕ} → Rounded (pos mm) (pos low) → Rounded (pos mm) (pos high) → high ≤ low
at_most {mm} {low} {high} r s = ⊎_elim (λ l. absurd (not_above r s (less_lt l))) less_le (both (less low high))

-- of a stage that is not below the datum no other number has both facts: a negative one is too far off
only_above : (mm : ℕ) (cm : ℤ) → Rounded (pos mm) cm → cm ≡ pos (nearest mm)
only_above mm (pos cm) r = ap pos (let e : cm ≡ nearest mm = omega (arith, at_most r (rounded_above mm), at_most (rounded_above mm) r) in e)
only_above mm (negsuc n) r = absurd (let b : ⊥ = omega (arith, off_across mm n, r.near) in b)

-- no other number than the printed one has both facts
pub no_other : (mm cm : ℤ) → Rounded mm cm → cm ≡ centimetres mm
unfolding centimetres
no_other (pos mm) cm r = only_above mm cm r
no_other (negsuc n) cm r = sym (neg_ℤ-neg_ℤ cm) ∙ ap neg_ℤ (only_above (suc n) (neg_ℤ cm) (rounded_negated r))

-- Request 1: "Values that are not half way print as before"
pub as_before : (mm : ℕ) → mm % 10 ≢ 5 → centimetres (pos mm) ≡ pos ((mm + 5) / 10)
unfolding centimetres nearest half_way
as_before mm h = ap pos (pick_else (even_one (mm / 10)) ((mm + 5) / 10) (unequal_same h))

-- Request 2: "The even rule holds on both sides": a stage below the datum has the number of the one as far above it, with the other sign
pub both_sides : (mm : ℤ) → centimetres (neg_ℤ mm) ≡ neg_ℤ (centimetres mm)
unfolding centimetres nearest half_way even_one pick same
both_sides (pos zero) = refl
both_sides (pos (suc n)) = refl
both_sides (negsuc n) = sym (neg_ℤ-neg_ℤ (pos (nearest (suc n))))

-- how many centimetres are printed, without the sign
pub nat_abs_centimetres : (mm : ℤ) → nat_abs (centimetres mm) ≡ nearest (nat_abs mm)
unfolding centimetres
nat_abs_centimetres (pos mm) = refl
nat_abs_centimetres (negsuc n) = nat_abs_negated (pos (nearest (suc n)))

-- 4 added before the tenth is taken sends half a centimetre toward zero, 5 away from it
pub by_parity : (mm : ℕ) → (mm + (4 + mm / 10 % 2)) / 10 ≡ nearest mm
unfolding nearest half_way even_one
by_parity mm =
    pick_elim (λ (n : ℕ). (mm + (4 + mm / 10 % 2)) / 10 ≡ n) (half_way mm) (even_one (mm / 10)) ((mm + 5) / 10)
    (λ e. let five : mm % 10 ≡ 5 = same_equal e in omega arith)
    (λ e. let other : mm % 10 ≢ 5 = same_unequal e in omega arith)
