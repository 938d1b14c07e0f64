-- What a function that writes at the front of a memory leaves there.
use Rattle.std.specs.Prelude.{ℕ, List, ◌++◌, length, drop}

-- some bytes over the front of a memory, and behind them what was there
abbrev pub over : List ℕ → List ℕ → List ℕ
over x m = x ++ drop (length x) m
