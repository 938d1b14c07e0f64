-- Rows in one list of numbers, each of `width` cells: cell f of row i stands at width * i + f, so columns are apart for every row.
use Rattle.std.specs.Prelude.{ℕ, ◌+◌, ◌*◌, ◌≤◌, List, length}
use Rattle.basics.specs.Choice.{pick, same}
use Rattle.basics.specs.Maps.{at, upd}

-- where cell `f` of row `i` stands
abbrev pub place : ℕ → ℕ → ℕ → ℕ
place width i f = width * i + f

-- column `f` of rows that are read as a function
unfoldable pub column : ℕ → ℕ → (ℕ → ℕ) → ℕ → ℕ
column width f m i = m (place width i f)

-- a list has the rows up to row `n`
abbrev pub HasRows : ℕ → ℕ → List ℕ → Type 0
HasRows width n l = place width n width ≤ length l

-- rows whose column `f` is their cell `number f`
module _ {C : Type 0} (number : C → ℕ) where
  -- what they hold: a map for each column
  abbrev pub cells_of : ℕ → List ℕ → C → ℕ → ℕ
  cells_of width l f = column width (number f) (at l)

  -- the same after a store in column `f` of row `i`
  unfoldable pub stored_in : C → ℕ → ℕ → (C → ℕ → ℕ) → C → ℕ → ℕ
  stored_in f i v c g = pick (same (number g) (number f)) (upd (c g) i v) (c g)
