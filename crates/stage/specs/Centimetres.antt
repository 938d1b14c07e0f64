-- A stage in whole centimetres, and the facts to check it by.
use Rattle.std.specs.Prelude.{◌≡◌, ℕ, suc, ◌+◌, ◌/◌, ◌%◌, ◌≤◌, Bool, ℤ, pos, negsuc, neg_ℤ, nat_abs, ◌-ℤ◌, ◌*ℤ◌}
use Rattle.basics.specs.Choice.{pick, same}

-- "half way between two centimetres"
unfoldable pub half_way : ℕ → Bool
half_way mm = same (mm % 10) 5

-- "the even one" of a number and the next
unfoldable pub even_one : ℕ → ℕ
even_one n = n + n % 2

-- Document 02, request 1: "a stage half way between two centimetres goes to the even one"; any other to the nearest
unfoldable pub nearest : ℕ → ℕ
nearest mm = pick (half_way mm) (even_one (mm / 10)) ((mm + 5) / 10)

-- Request 2: "The even rule holds on both sides" of the datum (`negsuc n` is −(n + 1))
unfoldable pub centimetres : ℤ → ℤ
centimetres (pos mm) = pos (nearest mm)
centimetres (negsuc n) = neg_ℤ (pos (nearest (suc n)))

-- how many mm a number of centimetres is off a value
unfoldable pub off : ℤ → ℤ → ℕ
off mm cm = nat_abs (pos 10 *ℤ cm -ℤ mm)

-- a printed number is never more than half a centimetre off; where it is exactly half off, it is even
pub record Rounded (mm cm : ℤ) : Type 0 where
  pub near : off mm cm ≤ 5
  pub even : off mm cm ≡ 5 → nat_abs cm % 2 ≡ 0
