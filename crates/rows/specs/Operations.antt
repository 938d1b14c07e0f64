-- The row of an operation: six steps or items that a run keeps of it, a column for each.
use Rattle.std.specs.Prelude.{ℕ, List}
use Rattle.rows.specs.Rows.{HasRows, cells_of, stored_in}
use Rattle.rows.specs.declared.OpColumn.{OpColumn}
use Rattle.rows.specs.declared.OpColumn.TheVariants.{First, Last, Start, Link, Taken, Stands}

-- the cell of each column
abbrev pub number : OpColumn → ℕ
number First = 0
number Last = 1
number Start = 2
number Link = 3
number Taken = 4
number Stands = 5

-- how many they are
abbrev pub op_width : ℕ
op_width = 6

-- what stands for the last step of a dropped operation, which has none: no step has this number
abbrev pub dropped_mark : ℕ
dropped_mark = 65535

-- a list has the rows of operations up to operation `n`
abbrev pub HasOps : ℕ → List ℕ → Type 0
HasOps n l = HasRows op_width n l

-- what some rows hold: a map for each column
abbrev pub Cells : Type 0
Cells = OpColumn → ℕ → ℕ

abbrev pub cells : List ℕ → Cells
cells l = cells_of number op_width l

-- the cells after a store in the row of operation `o`
abbrev pub stored : OpColumn → ℕ → ℕ → Cells → Cells
stored f o v c = stored_in number f o v c
