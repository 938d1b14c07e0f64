-- What an object has to give of its listings, for the general theory to know its steps: where its operations can be, its turns, that the step
-- table makes them, and what each of them is as a move between phases.
use mathlib.Core.Path.{◌≡◌}
use Prim.Native.Nat.{ℕ}
use mathlib.Core.Bool.{Bool, false}
use Rattle.job.specs.declared.Kind.{Kind}
use Rattle.machine.specs.declared.Event.{Event}
use Rattle.machine.specs.Memory.{Memory}
use Rattle.machine.specs.Table.{ended, first_row}
use Rattle.machine.specs.Notes.{Answer}
use Rattle.machine.proofs.Turns.Locals.{Local, Steps, StepOf}
use Rattle.theory.proofs.Phases.{Phase, Phase.going, Move}

-- an operation before its first step
unfoldable pub initial : Kind → Bool → Local
initial kind put = record { row = first_row kind put; registers = record { h = 0; t = 0; n = 0 } }

pub record Listing (kind : Kind) : Type 1 where
  -- where an operation on the object can be, and the phase that this is
  pub On : Local → Type 0
  pub phase : {l : Local} → On l → Phase
  -- its turns, one for each outcome of each of its rows
  pub Turn : Steps
  -- an operation begins there
  pub starts : (put : Bool) → (x : On (initial kind put)) × (phase x ≡ going put)
  -- what the table and the accesses do is a turn
  pub turn : (o : ℕ) (m : Memory) {l : Local} → On l → ended l.row ≡ false → StepOf Turn o m l
  -- a turn leads on, by a move
  pub moves : {o : ℕ} {m m' : Memory} {l l' : Local} {e : Event} {a : Answer} → Turn o m l m' l' e a → (x : On l) → (y : On l') × Move kind (phase x) e a (phase y)
