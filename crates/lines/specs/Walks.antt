-- The takers of an item and the items that are left, as the code goes over them.
use Rattle.std.specs.Prelude.{◌≡◌, ℕ, List}
use Rattle.rows.specs.Operations.{cells}
use Rattle.rows.specs.declared.OpColumn.TheVariants.{Taken}
use Rattle.machine.specs.Record.{Recorded}
use Rattle.lines.specs.declared.Found.{Found}
use Rattle.lines.specs.declared.Takers.{Takers}
use Rattle.lines.specs.declared.Left.{Left}
use Rattle.lines.specs.Members.{takers_of, left_from}
use Rattle.lines.specs.Lines.{take_text, found_line}

-- takers are those of some operations, `count` of them
pub record IsOf (ops : List ℕ) (count : ℕ) (t : Takers) : Type 0 where
  pub same_ops : t.ops.now ≡ ops
  pub same_count : t.count ≡ count

-- the takers of an item, the text of their line, and the line of what was found for a step
abbrev pub takers_in : Takers → ℕ → List ℕ
takers_in t item = takers_of (cells t.ops.now Taken) t.count item

abbrev pub take_line_of : Takers → ℕ → ℕ → List ℕ
take_line_of t s item = take_text s item (takers_in t item)

abbrev pub line_of : Takers → ℕ → Found → Recorded
line_of t s found = found_line (cells t.ops.now Taken) t.count s found

-- the items that are left
abbrev pub items : Left → List ℕ
items l = left_from l.object l.nodes.now l.node l.more
