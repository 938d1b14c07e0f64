-- What is said of a salvage. Document 02, request 7: "prints `kept A of B entries`".
use Rattle.std.specs.Prelude.{ℕ, List, ◌++◌}
use Rattle.basics.specs.Text.{text, decimal}

-- the line, with its newline
unfoldable pub kept_line : ℕ → ℕ → List ℕ
kept_line a b = (text "kept " ++ decimal a) ++ (text " of " ++ decimal b) ++ text " entries\n"
