-- The one number that an exported call gives: "number × 2^32 + length". A length is below 2^32, so both can be read off it.
use Rattle.std.specs.Prelude.{ℕ, ◌+◌, ◌*◌, ◌^◌}

unfoldable pub packed : ℕ → ℕ → ℕ
packed number length = number * 2 ^ 32 + length
