-- What stands at a step, by the row of the operation that made it.
use Rattle.std.specs.Prelude.{ℕ, zero, suc, ◌≤◌, ◌<◌, List, [], ◌∷◌, ◌++◌, length, Option, Some, None}
use Rattle.basics.specs.Choice.{pick, same}
use Rattle.basics.specs.Maps.{at}
use Rattle.rows.specs.Operations.{HasOps, Cells, cells, dropped_mark}
use Rattle.rows.specs.declared.OpColumn.TheVariants.{Last, Start, Link, Taken, Stands}
use Rattle.job.specs.declared.Operation.{Operation}
use Rattle.machine.specs.Record.{Recorded}
use Rattle.lines.specs.declared.Found.{Found}
use Rattle.lines.specs.declared.Found.TheVariants.{Put, Takers, Empty}
use Rattle.lines.specs.Lines.{found_line}

-- what stands at its own step stands at step s if this is the one
unfoldable pub here : ℕ → ℕ → Found → Option Found
here own s f = pick (same own s) (Some f) None

-- what stands at step s, made by operation o, 0 if nobody made it: "Put: its changing Q3 or P3." A take: the line of its item. "Empty: its
-- last T1, or the R1 that read none." Document 02, request 3: "at the changing V4, at W2 for empty"
unfoldable pub found : Cells → ℕ → Operation → Option Found
found c s o =
    let ended : Option Found = pick (same (c Last o.0) dropped_mark) None (here (c Start o.0) s (Empty o)) in
    let empty : Option Found = pick (same (c Last o.0) 0) None ended in
    let takers : Option Found = here (c Stands (c Taken o.0)) s (Takers (record { 0 = c Taken o.0 })) in
    pick (same o.0 0) None
    (pick (same (c Link o.0) 0) (pick (same (c Taken o.0) 0) empty takers) (here (c Link o.0) s (Put o)))

-- the line of what was found, if anything was
unfoldable pub found_line_if : (ℕ → ℕ) → ℕ → ℕ → Option Found → List Recorded
found_line_if taken count s None = []
found_line_if taken count s (Some f) = found_line taken count s f ∷ []

-- the line of a step, if there is one
abbrev pub line_at : Cells → (ℕ → ℕ) → ℕ → ℕ → List Recorded
line_at c by count s = found_line_if (c Taken) count s (found c s (record { 0 = by s }))

-- the lines at steps 1 to s
unfoldable pub found_lines : Cells → (ℕ → ℕ) → ℕ → ℕ → List Recorded
found_lines c by count zero = []
found_lines c by count (suc s) = found_lines c by count s ++ line_at c by count (suc s)

-- the operations and the items that the lists name have rows
pub record Within (ops by : List ℕ) (count reach : ℕ) : Type 0 where
  pub has_ops : HasOps count ops
  pub has_steps : reach < length by
  pub makers : (s : ℕ) → 1 ≤ s → s ≤ reach → at by s ≤ count
  pub items : (o : ℕ) → 1 ≤ o → o ≤ count → cells ops Taken o ≤ count
