-- A step as it is for its operation: the row and the registers before and after, and how it goes by a test. Assumes nothing.
use mathlib.Core.Path.{◌≡◌}
use mathlib.Core.Logic.{◌≢◌}
use Prim.Native.Nat.{ℕ}
use mathlib.Core.Bool.{Bool, true, false}
use Rattle.basics.specs.Choice.{same}
use Rattle.basics.proofs.Choice.{test_elim, same_equal, same_unequal}
use Rattle.machine.specs.declared.Row.{Row}
use Rattle.machine.specs.declared.Event.{Event}
use Rattle.machine.specs.Memory.{Memory}
use Rattle.machine.specs.Table.{row_of, successor}
use Rattle.machine.specs.Access.{Registers, Reached}
use Rattle.machine.specs.Run.{reach}
use Rattle.machine.specs.Notes.{Answer, event_of, answer_of}

-- the row and the registers of an operation
pub record Local : Type 0 where
  pub row : Row
  pub registers : Registers

-- an operation at a row, with registers h, t, n
abbrev pub at_row : Row → ℕ → ℕ → ℕ → Local
at_row r h t n = record { row = r; registers = record { h = h; t = t; n = n } }

-- what a step of an operation reaches
unfoldable pub reaches : ℕ → Memory → Local → Reached
reaches o m l = reach l.row o m l.registers

-- an operation after its step
unfoldable pub local_after : ℕ → Memory → Local → Local
local_after o m l = record { row = successor (row_of l.row) (reaches o m l).outcome; registers = (reaches o m l).registers }

-- a relation between memory and an operation before a step of it and after; with the event and the answer of the step
abbrev pub Steps : Type 1
Steps = ℕ → Memory → Local → Memory → Local → Event → Answer → Type 0

-- the step that an access makes, once it has reached something, is so related
abbrev pub StepTo : Steps → ℕ → Memory → Local → Reached → Type 0
StepTo Turn o m l a =
    Turn o m l a.memory
    (record { row = successor (row_of l.row) a.outcome; registers = a.registers })
    (event_of (row_of l.row).access a.outcome a.registers)
    (answer_of (successor (row_of l.row) a.outcome) a.registers)

-- what the table and the accesses do is so related
abbrev pub StepOf : Steps → ℕ → Memory → Local → Type 0
StepOf Turn o m l =
    Turn o m l (reaches o m l).memory (local_after o m l)
    (event_of (row_of l.row).access (reaches o m l).outcome (reaches o m l).registers)
    (answer_of (local_after o m l).row (local_after o m l).registers)

-- a step that goes by whether two numbers are equal
pub by_test : (Turn : Steps) (o : ℕ) (m : Memory) (l : Local) (a b : ℕ) (to : Bool → Reached) → (a ≡ b → StepTo Turn o m l (to true)) → (a ≢ b → StepTo Turn o m l (to false)) → StepTo Turn o m l (to (same a b))
by_test Turn o m l a b to then else =
    test_elim (λ x. StepTo Turn o m l (to x)) (same a b) (λ e. then (same_equal e)) (λ e. else (same_unequal e))
