-- Document 01: "Multi-byte numbers are big-endian and unsigned." All of them have two bytes.
use Rattle.std.specs.Prelude.{ℕ, suc, ◌+◌, ◌*◌, ◌/◌, ◌%◌, List, [], ◌∷◌}
use Rattle.basics.specs.Maps.{at}

-- the number in the two bytes at an index
unfoldable pub word : List ℕ → ℕ → ℕ
word l i = 256 * at l i + at l (suc i)

-- the two bytes of a number below 65,536
unfoldable pub word_bytes : ℕ → List ℕ
word_bytes n = n / 256 % 256 ∷ n % 256 ∷ []
