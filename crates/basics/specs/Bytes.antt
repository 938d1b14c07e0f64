-- Numbers that are bytes. What a `&[u8]` refers to always is such a list; a theorem about all lists has to say so.
use Rattle.std.specs.Prelude.{ℕ, ◌<◌, List}
use Rattle.basics.specs.Maps.{at}

-- every number of a list is a byte
pub record Bytes (l : List ℕ) : Type 0 where
  pub byte : (i : ℕ) → at l i < 256
