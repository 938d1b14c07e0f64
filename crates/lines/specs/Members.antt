-- The takers of an item and the items that are left, as the rows that hold a run's outcome say them.
use Rattle.std.specs.Prelude.{ℕ, zero, suc, ◌+◌, ◌≤◌, ◌<◌, Bool, true, List}
use Rattle.basics.specs.Choice.{pick, same}
use Rattle.rows.specs.Rows.{HasRows, cells_of}
use Rattle.rows.specs.Operations.{HasOps, cells}
use Rattle.rows.specs.declared.OpColumn.TheVariants.{Taken}
use Rattle.rows.specs.Nodes.{HasNodes, nexts, marks, uppers}
use Rattle.job.specs.declared.Kind.{Kind}
use Rattle.job.specs.declared.Kind.TheVariants.{Queue, Stack, TwoWay}
use Rattle.lines.specs.declared.BoundColumn.{BoundColumn}
use Rattle.lines.specs.declared.BoundColumn.TheVariants.{Skip, Beyond}
use Rattle.machine.specs.Effects.{numbers, sift}
use Rattle.machine.specs.Left.{walk}

-- the operations from 1 to `count` that took an item, ascending
unfoldable pub takers_of : (ℕ → ℕ) → ℕ → ℕ → List ℕ
takers_of taken count item = sift (λ o. same (taken o) item) (numbers count)

-- the cell of each column of an item's row of bounds
abbrev pub bound_number : BoundColumn → ℕ
bound_number Skip = 0
bound_number Beyond = 1

-- how many columns it has, and that a list has the rows of items up to item `n`
abbrev pub bound_width : ℕ
bound_width = 2

abbrev pub HasBounds : ℕ → List ℕ → Type 0
HasBounds n l = HasRows bound_width n l

-- what some rows hold: a map for each column
abbrev pub bound_cells : List ℕ → BoundColumn → ℕ → ℕ
bound_cells l = cells_of bound_number bound_width l

-- every operation's item has a row, and bounds may be stored: none is past `count` yet
pub record Unbounded (ops bounds : List ℕ) (count : ℕ) : Type 0 where
  pub has_ops : HasOps count ops
  pub has_bounds : HasBounds count bounds
  pub items : (o : ℕ) → 1 ≤ o → o ≤ count → cells ops Taken o ≤ count
  pub small : (f : BoundColumn) (i : ℕ) → bound_cells bounds f i ≤ count

-- how many operations come before an item's first taker, and how many behind its last
abbrev pub skips : List ℕ → ℕ → ℕ
skips l = bound_cells l Skip

abbrev pub beyonds : List ℕ → ℕ → ℕ
beyonds l = bound_cells l Beyond

-- where the takers of each item are: behind the operations that its row skips, and not among those beyond
pub record Bounds (ops bounds : List ℕ) (count : ℕ) : Type 0 where
  pub has_ops : HasOps count ops
  pub has_bounds : HasBounds count bounds
  pub from : (o : ℕ) → 1 ≤ o → o ≤ count → skips bounds (cells ops Taken o) < o
  pub to : (o : ℕ) → 1 ≤ o → o ≤ count → o + beyonds bounds (cells ops Taken o) ≤ count
  pub small : (f : BoundColumn) (i : ℕ) → bound_cells bounds f i ≤ count

-- the uppermost node from node i up through the uppers, by at most `count` of them
unfoldable pub climb : (ℕ → ℕ) → ℕ → ℕ → ℕ
climb upper i zero = i
climb upper i (suc count) =
    let higher : ℕ = climb upper (upper i) count in
    pick (same (upper i) 0) i higher

-- the node from which the items that are left are walked: "for a queue the nodes linked behind Head […]; for a stack […] from Top down";
-- document 02, request 3: "the live nodes upward from the sentinel, listed top first", so from the uppermost down
unfoldable pub first_node : Kind → List ℕ → ℕ → ℕ → ℕ → ℕ
first_node Queue nodes head top count = nexts nodes head
first_node Stack nodes head top count = top
first_node TwoWay nodes head top count = climb (uppers nodes) 0 count

-- is a node that is reached still there, by its mark? "for a stack the unmarked nodes"; "the live nodes"
unfoldable pub stays : Kind → ℕ → Bool
stays Queue mark = true
stays Stack mark = same mark 0
stays TwoWay mark = same mark 0

-- the items that are left, from a node on
unfoldable pub left_from : Kind → List ℕ → ℕ → ℕ → List ℕ
left_from object nodes node count = sift (λ i. stays object (marks nodes i)) (walk (nexts nodes) node count)

-- the nodes 0 to `count` have rows, every next is one of them, and so is the first
pub record NodesThere (nodes : List ℕ) (count node : ℕ) : Type 0 where
  pub has_nodes : HasNodes count nodes
  pub within : (i : ℕ) → nexts nodes i ≤ count
  pub first : node ≤ count

-- a node has a row, and so has every next
pub record FromHere (nodes : List ℕ) (node : ℕ) : Type 0 where
  pub here : HasNodes node nodes
  pub next : (i : ℕ) → HasNodes (nexts nodes i) nodes

-- the nodes 0 to `count` have rows, and every upper is one of them
pub record UppersThere (nodes : List ℕ) (count : ℕ) : Type 0 where
  pub has_nodes : HasNodes count nodes
  pub within : (i : ℕ) → uppers nodes i ≤ count
