-- Bytes laid in lent memory.
use Rattle.std.specs.Prelude.{ℕ, ◌+◌, List, ◌++◌, length, take, drop}

-- some bytes laid at a place of a memory: as before up to the place, then these bytes, then as before
unfoldable pub laid : List ℕ → ℕ → List ℕ → List ℕ
laid out at bytes = take at out ++ bytes ++ drop (at + length bytes) out
