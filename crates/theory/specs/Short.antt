-- A schedule cut short. Document 02, request 7: "Where the kept blocks are those of the undamaged file, operations that ended in the kept steps have the
-- answers of the undamaged job, though a line may have fewer takers and a stack line an earlier step."
use Rattle.std.specs.Prelude.{◌≡◌, ◌≢◌, ℕ, ◌≤◌}
use mathlib.Core.List.{List, Memᴰ}
use Rattle.job.specs.declared.Kind.{Kind}
use Rattle.job.specs.Job.{Job}
use Rattle.machine.specs.Multiplicity.Line.{put, takes, empty}
use Rattle.machine.specs.Run.{state_after}
use Rattle.machine.specs.Notes.{note}
use Rattle.machine.specs.Journal.{first, last, answer}
use Rattle.machine.specs.Effects.{rule}
use Rattle.machine.specs.Effects.Rule.{by_move}
use Rattle.machine.specs.Record.{Recorded, the_record}

-- a job with another's operations, whose schedule is the other's first entries. A run reads no value field, so none is compared
pub record CutShort (whole kept : Job) : Type 0 where
  -- the same object
  pub objects : kept.object ≡ whole.object
  -- as many operations
  pub counts : kept.count ≡ whole.count
  -- of the same processes
  pub owners : kept.owner ≡ whole.owner
  -- the same of them puts
  pub puts : kept.is_put ≡ whole.is_put
  -- no more entries
  pub fewer : kept.steps ≤ whole.steps
  -- and each as it was
  pub entries : (k : ℕ) → 1 ≤ k → k ≤ kept.steps → kept.slot k ≡ whole.slot k

-- what an operation that ended in the kept steps has
pub record KeptAnswer (whole kept : Job) (o : ℕ) : Type 0 where
  -- "the answers of the undamaged job"
  pub its_answer : answer (note kept) kept.steps o ≡ answer (note whole) whole.steps o
  -- its first and its last step too
  pub its_first : first (note kept) kept.steps o ≡ first (note whole) whole.steps o
  pub its_last : last (note kept) kept.steps o ≡ last (note whole) whole.steps o

-- where, in a longer record, the line stands of an item whose line at step s has these takers. "a line may have fewer takers and a stack line an
-- earlier step"
pub record TakesStand (object : Kind) (longer : List Recorded) (s item : ℕ) (few : List ℕ) : Type 0 where
  -- its step: no earlier one, and the same where lines of takers stand at a move
  pub at : ℕ
  pub no_earlier : s ≤ at
  pub at_a_move : rule object ≡ by_move → at ≡ s
  -- its takers: these are among them
  pub takers : List ℕ
  pub among : (o : ℕ) → Memᴰ o few → Memᴰ o takers
  -- it is there
  pub stands : Memᴰ (record { step = at; line = takes item takers }) longer

-- the run of the kept entries against the whole run
pub record KeptRun (whole kept : Job) : Type 0 where
  -- the same states, and the same notes of the steps
  pub states : (k : ℕ) → k ≤ kept.steps → state_after kept k ≡ state_after whole k
  pub notes : (k : ℕ) → k ≤ kept.steps → note kept k ≡ note whole k
  -- "operations that ended in the kept steps have the answers of the undamaged job"
  pub answers : (o : ℕ) → last (note kept) kept.steps o ≢ 0 → KeptAnswer whole kept o
  -- a put's line stands where it stood
  pub puts_stand : (s o : ℕ) → Memᴰ (record { step = s; line = put o }) (the_record kept kept.steps) → Memᴰ (record { step = s; line = put o }) (the_record whole whole.steps)
  -- so does the line of a take that found nothing
  pub empties_stand : (s o : ℕ) → Memᴰ (record { step = s; line = empty o }) (the_record kept kept.steps) → Memᴰ (record { step = s; line = empty o }) (the_record whole whole.steps)
  -- "a line may have fewer takers and a stack line an earlier step"
  pub takes_stand : (s item : ℕ) (takers : List ℕ) → Memᴰ (record { step = s; line = takes item takers }) (the_record kept kept.steps) → TakesStand kept.object (the_record whole whole.steps) s item takers
