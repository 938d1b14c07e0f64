-- Memory as a function of its index: a list of bytes or cells read so, and one cell changed.
use Rattle.std.specs.Prelude.{ℕ, List, get_or}
use Rattle.basics.specs.Choice.{pick, same}

-- what stands at an index of a list, and 0 past its end
unfoldable pub at : List ℕ → ℕ → ℕ
at l i = get_or l i 0

-- the function that is `v` at `i` and `f` elsewhere
unfoldable pub upd : {A : Type 0} → (ℕ → A) → ℕ → A → ℕ → A
upd f i v j = pick (same j i) v (f j)
