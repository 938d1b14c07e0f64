-- What the programs say.
use Rattle.std.specs.Prelude.{ℕ, ◌≤◌, List, ◌++◌, length, take, codes, decimal, Option}
use Rattle.std.specs.Io.KnownBytes.{Appends}

-- the line of a refusal, with its newline
abbrev pub refused_line : ℕ → List ℕ
refused_line number = (codes "refused " ++ decimal number) ++ codes "\n"

-- a writer, of which it is known what it holds, holds the first bytes of a memory behind what it held; the memory has as many
abbrev pub Shown : Option (List ℕ) → Option (List ℕ) → List ℕ → ℕ → Type 0
Shown old new bytes n = (n ≤ length bytes) × Appends old new (take n bytes)
