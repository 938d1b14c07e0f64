-- What a cell that was read tells of the definition's test on it: the cell of a node, by the map of its column. Assumes nothing.
use mathlib.Core.Path.{◌≡◌, sym, ◌∙◌}
use mathlib.Core.Logic.{◌≢◌}
use Prim.Native.Nat.{ℕ}
use mathlib.Core.Bool.{true, false}
use Rattle.basics.specs.Choice.{same}
use Rattle.basics.proofs.Choice.{equal_same, unequal_same}

module _ (column : ℕ → ℕ) (i : ℕ) {x v : ℕ} where
  pub cell_is : x ≡ column i → x ≡ v → same (column i) v ≡ true
  cell_is read e = equal_same (sym read ∙ e)

  pub cell_is_not : x ≡ column i → x ≢ v → same (column i) v ≡ false
  cell_is_not read n = unequal_same (λ e. n (read ∙ e))
