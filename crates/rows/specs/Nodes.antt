-- The row of a node: its next, its mark and its upper.
use Rattle.std.specs.Prelude.{ℕ, List}
use Rattle.rows.specs.Rows.{HasRows, cells_of}
use Rattle.rows.specs.declared.NodeColumn.{NodeColumn}
use Rattle.rows.specs.declared.NodeColumn.TheVariants.{Next, Mark, Upper}

-- the cell of each column
abbrev pub number : NodeColumn → ℕ
number Next = 0
number Mark = 1
number Upper = 2

-- how wide a node's row is: three columns and a free cell
abbrev pub node_width : ℕ
node_width = 4

-- what some rows hold: a map for each column
abbrev pub node_cells : List ℕ → NodeColumn → ℕ → ℕ
node_cells l = cells_of number node_width l

-- the nodes' nexts
abbrev pub nexts : List ℕ → ℕ → ℕ
nexts l = node_cells l Next

-- the nodes' marks
abbrev pub marks : List ℕ → ℕ → ℕ
marks l = node_cells l Mark

-- the nodes' uppers
abbrev pub uppers : List ℕ → ℕ → ℕ
uppers l = node_cells l Upper

-- a list has the rows of nodes up to node `n`
abbrev pub HasNodes : ℕ → List ℕ → Type 0
HasNodes n l = HasRows node_width n l
