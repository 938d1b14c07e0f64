-- The number in a field: above the datum and below it, that the facts fix it, and that it is what the kit's own i16 reads. Assumes nothing.
use mathlib.Core.Path.{◌≡◌, refl, sym, ap, subst, ◌∙◌}
use mathlib.Core.Logic.{inl, inr, ⊎_elim}
use Prim.Native.Nat.{ℕ, suc, ◌-◌, ◌≤◌, ◌<◌}
use native.Mathlib.Omega.{arith}
use lib.Dec.{leb→le, le→leb}
use lib.IntN.{ℤ, pos, negsuc, ◌-ℤ◌}
use lib.Signed.{◌≤ℤ◌, mag}
use mir.Syntax.{w16}
use mir.Val.{to_z, of_z}
use Rattle.std.proofs.Math.Facts.{to_z-of_z}
use mir.ValLaws.{to_z_pos, to_z-neg}
use Rattle.basics.specs.Choice.{less}
use Rattle.basics.proofs.Choice.{both, pick_then, pick_else, less_lt, less_le, lt_less, le_less}
use Rattle.stage.specs.Millimetres.{millimetres, Signed}
use Rattle.stage.proofs.Distances.{by_order}

-- 65,536 less than a field
less_65536 : (field : ℕ) → field < 65536 → pos field -ℤ pos 65536 ≡ negsuc (65535 - field)
less_65536 field h =
    by_order (λ z. z ≡ negsuc (65535 - field)) field 65536
    (λ l. ap negsuc (let e : 65536 - suc field ≡ 65535 - field = omega arith in e))
    (λ past. absurd (let b : ⊥ = omega arith in b))

pub below_datum : (field : ℕ) → 32768 ≤ field → field < 65536 → millimetres field ≡ negsuc (65535 - field)
unfolding millimetres
below_datum field low high = pick_else (pos field) (pos field -ℤ pos 65536) (le_less low) ∙ less_65536 field high

pub above_datum : (field : ℕ) → field < 32768 → millimetres field ≡ pos field
unfolding millimetres
above_datum field h = pick_then (pos field) (pos field -ℤ pos 65536) (lt_less h)

-- what holds of both sides holds of every field
pub either_side {κ} : (P : ℤ → Type κ) (field : ℕ) → field < 65536 → (field < 32768 → P (pos field)) → (32768 ≤ field → P (negsuc (65535 - field))) → P (millimetres field)
either_side P field high f g =
    ⊎_elim (λ e. subst P (sym (above_datum field (less_lt e))) (f (less_lt e)))
    (λ e. subst P (sym (below_datum field (less_le e) high)) (g (less_le e)))
    (both (less field 32768))

-- the facts hold of the number in every field
pub signed : (field : ℕ) → field < 65536 → Signed field (millimetres field)
signed field high =
    either_side (Signed field) field high
    (λ h. record { from = record { le = tt }; to = record { le = le→leb field 32767 (omega arith) }; complement = inl refl })
    (λ h. record { from = record { le = le→leb (65535 - field) 32767 (omega arith) }; to = record { le = tt }; complement = inr (sym (less_65536 field high)) })

-- and of no other number
pub no_other_number : (field : ℕ) (mm : ℤ) → field < 65536 → Signed field mm → mm ≡ millimetres field
no_other_number field mm high s =
    ⊎_elim
    (λ (e : mm ≡ pos field).
    let low : field ≤ 32767 = leb→le field 32767 (subst (λ (z : ℤ). z ≤ℤ pos 32767) e s.to).le in
    e ∙ sym (above_datum field (omega arith)))
    (λ (e : mm ≡ pos field -ℤ pos 65536).
    let is : mm ≡ negsuc (65535 - field) = e ∙ less_65536 field high in
    let near : 65535 - field ≤ 32767 = leb→le (65535 - field) 32767 (subst (λ (z : ℤ). negsuc 32767 ≤ℤ z) is s.from).le in
    is ∙ sym (below_datum field (omega arith) high))
    s.complement

-- "two's complement" as the kit has it: the number that an i16 with these bits is
pub as_i16 : (field : ℕ) → field < 65536 → to_z w16 field ≡ millimetres field
as_i16 field high =
    either_side (λ z. to_z w16 field ≡ z) field high (λ h. to_z_pos w16 field h)
    (λ h.
    let back : field ≡ 65536 - suc (65535 - field) = omega arith in
    ap (to_z w16) back ∙ to_z-neg w16 (65535 - field) (let near : 65535 - field < 32768 = omega arith in near))

-- an i16 that is passed on is the same number
pub held : {z : ℤ} → mag z < 32768 → to_z w16 (of_z w16 z) ≡ z
held {z} h = to_z-of_z {w = w16} {z = z} (record { sfits = h })
