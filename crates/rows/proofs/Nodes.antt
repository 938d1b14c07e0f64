-- A store in the row of a node, column by column: of its next, of its mark, or of its upper. Assumes nothing.
use mathlib.Core.Path.{◌≡◌, ap}
use Prim.Native.Nat.{ℕ}
use mathlib.Core.List.{List}
use Rattle.basics.specs.Choice.{pick, same}
use Rattle.basics.specs.Maps.{upd}
use Rattle.rows.specs.Rows.{stored_in}
use Rattle.rows.specs.declared.NodeColumn.{NodeColumn}
use Rattle.rows.specs.declared.NodeColumn.TheVariants.{Next, Mark, Upper}
use Rattle.rows.specs.Nodes.{number, node_cells, nexts, marks, uppers}

module _ (l l' : List ℕ) (i v : ℕ) where
  -- what column `g` holds after a store in column `f`
  after : (f g : NodeColumn) → node_cells l' ≡ stored_in number f i v (node_cells l) → node_cells l' g ≡ stored_in number f i v (node_cells l) g
  after f g e = ap (λ (c : NodeColumn → ℕ → ℕ). c g) e

  pub next_stored : node_cells l' ≡ stored_in number Next i v (node_cells l) → (nexts l' ≡ upd (nexts l) i v) × (marks l' ≡ marks l) × (uppers l' ≡ uppers l)
  unfolding stored_in pick same
  next_stored e = (after Next Next e, after Next Mark e, after Next Upper e)

  pub mark_stored : node_cells l' ≡ stored_in number Mark i v (node_cells l) → (nexts l' ≡ nexts l) × (marks l' ≡ upd (marks l) i v) × (uppers l' ≡ uppers l)
  unfolding stored_in pick same
  mark_stored e = (after Mark Next e, after Mark Mark e, after Mark Upper e)

  pub upper_stored : node_cells l' ≡ stored_in number Upper i v (node_cells l) → (nexts l' ≡ nexts l) × (marks l' ≡ marks l) × (uppers l' ≡ upd (uppers l) i v)
  unfolding stored_in pick same
  upper_stored e = (after Upper Next e, after Upper Mark e, after Upper Upper e)
