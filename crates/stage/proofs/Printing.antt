-- The text of a stage by its sign and its centimetres, and how long it is. Assumes nothing.
use mathlib.Core.Path.{◌≡◌, refl, sym, ap, subst, ◌∙◌}
use Prim.Native.Nat.{ℕ, zero, suc, ◌-◌, ◌^◌, ◌≤◌, ◌<◌}
use native.Mathlib.Omega.{arith}
use mathlib.Core.Bool.{Bool, true, false, true≢false}
use lib.Dec.{T, leb, ltb, leb→le}
use mathlib.Core.List.{◌++◌}
use lib.ListN.{length}
use lib.IntN.{ℤ, pos, negsuc, neg_ℤ, nat_abs}
use Rattle.std.specs.Int.{is_negative}
use Rattle.basics.specs.Choice.{less}
use Rattle.basics.specs.Text.{text, decimal}
use Rattle.basics.proofs.Choice.{lt_less, le_less}
use Rattle.basics.proofs.Text.{decimal_length}
use Rattle.stage.specs.Millimetres.{millimetres}
use Rattle.stage.specs.Centimetres.{nearest, centimetres}
use Rattle.stage.specs.Printed.{signed_decimal, stage_text}
use Rattle.stage.proofs.Fields.{above_datum, below_datum, either_side}
use Rattle.stage.proofs.Rounding.{by_parity, nat_abs_centimetres}

-- a number that is not below nought
not_below : (m : ℕ) → is_negative (pos m) ≡ false
unfolding less
not_below m = le_less (let h : 0 ≤ m = omega arith in h)

-- a stage is below the datum from the field 32,768 on
pub is_below : (field : ℕ) → field < 65536 → leb 32768 field ≡ is_negative (millimetres field)
unfolding less
is_below field high =
    either_side (λ z. leb 32768 field ≡ is_negative z) field high
    (λ h. le_less (let low : field ≤ 32767 = omega arith in low) ∙ sym (not_below field))
    (λ h. lt_less (let past : 32767 < field = omega arith in past))

module _ (field : ℕ) (high : field < 65536) where
  pub below_from : is_negative (millimetres field) ≡ true → 32768 ≤ field
  below_from s = leb→le 32768 field (subst T (sym (is_below field high ∙ s)) tt)

  -- how many mm it is off the datum
  pub distance_below : is_negative (millimetres field) ≡ true → 65536 - field ≡ nat_abs (millimetres field)
  distance_below s =
      let low : 32768 ≤ field = below_from s in
      (let e : 65536 - field ≡ suc (65535 - field) = omega arith in e) ∙ ap nat_abs (sym (below_datum field low high))

  pub distance_above : is_negative (millimetres field) ≡ false → field ≡ nat_abs (millimetres field)
  distance_above = either_side (λ z. is_negative z ≡ false → field ≡ nat_abs z) field high (λ h s. refl) (λ h s. absurd (true≢false s))

-- a stage that is not below the datum prints no negative number
pub sign_above : (mm : ℤ) → is_negative mm ≡ false → false ≡ is_negative (centimetres mm)
unfolding centimetres
sign_above (pos mm) s = sym (not_below (nearest mm))
sign_above (negsuc n) s = absurd (true≢false s)

-- one below it does, unless the number is nought
negated_sign : (n : ℕ) → ltb 0 n ≡ is_negative (neg_ℤ (pos n))
unfolding less
negated_sign zero = refl
negated_sign (suc n) = lt_less (let h : 0 < suc n = omega arith in h)

pub sign_below : (mm : ℤ) {cm : ℕ} → is_negative mm ≡ true → cm ≡ nat_abs (centimetres mm) → ltb 0 cm ≡ is_negative (centimetres mm)
unfolding centimetres
sign_below (pos mm) s e = absurd (true≢false (sym s ∙ not_below mm))
sign_below (negsuc n) {cm} s e = ap (ltb 0) (e ∙ nat_abs_centimetres (negsuc n)) ∙ negated_sign (nearest (suc n))

-- a number below nought is a `-` and its digits; another is its digits
signed_below : (z : ℤ) → is_negative z ≡ true → text "-" ++ decimal (nat_abs z) ≡ signed_decimal z
unfolding signed_decimal
signed_below (pos m) s = absurd (true≢false (sym s ∙ not_below m))
signed_below (negsuc n) s = refl

signed_above : (z : ℤ) → is_negative z ≡ false → decimal (nat_abs z) ≡ signed_decimal z
unfolding signed_decimal
signed_above (pos m) s = refl
signed_above (negsuc n) s = absurd (true≢false s)

-- whole centimetres by the distance from the datum
pub centimetres_below : (mm : ℤ) → is_negative mm ≡ true → neg_ℤ (pos (nearest (nat_abs mm))) ≡ centimetres mm
unfolding centimetres
centimetres_below (pos m) s = absurd (true≢false (sym s ∙ not_below m))
centimetres_below (negsuc n) s = refl

pub centimetres_above : (mm : ℤ) → is_negative mm ≡ false → pos (nearest (nat_abs mm)) ≡ centimetres mm
unfolding centimetres
centimetres_above (pos m) s = refl
centimetres_above (negsuc n) s = absurd (true≢false s)

-- a distance of 16 bits has few centimetres
pub few_centimetres : {far cm : ℕ} → far ≤ 32768 → cm ≡ nearest far → cm ≤ 3277
few_centimetres {far} {cm} most e = omega (arith, most, e, by_parity far)

-- what the code finds of a number, and the text that goes with it
module _ {z n : ℤ} {sign : Bool} {digits : ℕ} (same : n ≡ z) (i : sign ≡ is_negative n) (d : digits ≡ nat_abs n) where
  pub printed_below : sign ≡ true → text "-" ++ decimal digits ≡ signed_decimal z
  printed_below s = ap (λ (n : ℕ). text "-" ++ decimal n) d ∙ signed_below n (sym i ∙ s) ∙ ap signed_decimal same

  pub printed_above : sign ≡ false → decimal digits ≡ signed_decimal z
  printed_above s = ap decimal d ∙ signed_above n (sym i ∙ s) ∙ ap signed_decimal same

-- what is printed of the number that the code finds
pub stage_printed : (field : ℕ) {mm cm : ℤ} → mm ≡ millimetres field → cm ≡ centimetres mm → signed_decimal cm ≡ stage_text field
unfolding stage_text
stage_printed field m e = ap signed_decimal (e ∙ ap centimetres m)

-- at most 3,277 cm are printed
pub most_centimetres : (field : ℕ) → field < 65536 → nat_abs (centimetres (millimetres field)) ≤ 3277
most_centimetres field high =
    let far : nat_abs (millimetres field) ≤ 32768 = either_side (λ z. nat_abs z ≤ 32768) field high (λ h. omega arith) (λ h. omega arith) in
    let mm : ℕ = nat_abs (millimetres field) in
    omega (arith, nat_abs_centimetres (millimetres field), by_parity mm, far)

signed_length : (most : ℕ) (z : ℤ) → nat_abs z < 10 ^ suc most → length (signed_decimal z) ≤ suc (suc most)
unfolding signed_decimal text
signed_length most (pos n) h = omega (arith, decimal_length most n h)
signed_length most (negsuc n) h = omega (arith, decimal_length most (suc n) h)

-- four digits and a sign
pub stage_length : (field : ℕ) → field < 65536 → length (stage_text field) ≤ 5
unfolding stage_text
stage_length field high = signed_length 3 (centimetres (millimetres field)) (omega (arith, most_centimetres field high))

-- what is not below the datum prints as request 1 alone has it
pub above_as_before : (field : ℕ) → field < 32768 → stage_text field ≡ decimal (nearest field)
unfolding stage_text signed_decimal centimetres
above_as_before field h = ap (λ (z : ℤ). signed_decimal (centimetres z)) (above_datum field h)
