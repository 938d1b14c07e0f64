-- Streams of small jobs, written out: the table of refusals and the table of traces are made of them.
use Rattle.std.specs.Prelude.{ℕ, List, [], ◌∷◌, ◌++◌, length}
use Rattle.basics.specs.Words.{word_bytes}

-- the record of a put by a process, with its value, and of a take
unfoldable pub put : ℕ → ℕ → List ℕ
put p mm = p ∷ 1 ∷ word_bytes mm

unfoldable pub take : ℕ → List ℕ
take p = p ∷ 2 ∷ 0 ∷ 0 ∷ []

unfoldable pub joined_records : List (List ℕ) → List ℕ
joined_records [] = []
joined_records (r ∷ l) = r ++ joined_records l

-- kind, P, N and S
unfoldable pub header : ℕ → ℕ → ℕ → ℕ → List ℕ
header object count ops steps = object ∷ count ∷ word_bytes ops ++ word_bytes steps

-- the stream of a kind, a number of processes, operations and a schedule
unfoldable pub stream : ℕ → ℕ → List (List ℕ) → List ℕ → List ℕ
stream object count ops schedule =
    header object count (length ops) (length schedule) ++ joined_records ops ++ schedule
