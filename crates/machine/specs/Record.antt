-- The record of a run of k steps: "one order of effects that explains every answer". Document 01: "Lines stand in the order of their
-- steps." No two operations make one step, so a step has at most one line: the effect of the operation that made it.
use Rattle.std.specs.Prelude.{ℕ, zero, suc, List, [], ◌∷◌, ◌++◌, map}
use Rattle.basics.specs.Choice.{pick, same}
use Rattle.job.specs.declared.Kind.{Kind}
use Rattle.job.specs.Job.{Job}
use Rattle.machine.specs.Multiplicity.{Line}
use Rattle.machine.specs.Notes.{Note, note}
use Rattle.machine.specs.Effects.{Effect, effect}
use Rattle.machine.specs.Effects.Effect.{none, stands}

-- a line of the record, with its step
pub record Recorded : Type 0 where
  pub step : ℕ
  pub line : Line

-- an effect's line, if it stands at step s
unfoldable pub if_at : ℕ → Effect → List Recorded
if_at s none = []
if_at s (stands at line) = pick (same at s) (record { step = s; line = line } ∷ []) []

-- the line at step s of k steps, if there is one
unfoldable pub line_at : Kind → (ℕ → Note) → ℕ → ℕ → ℕ → List Recorded
line_at kind log count k s = if_at s (effect kind log count k (log s).by)

-- the lines at steps 1 to s of k steps
unfoldable pub lines_to : Kind → (ℕ → Note) → ℕ → ℕ → ℕ → List Recorded
lines_to kind log count k zero = []
lines_to kind log count k (suc s) = lines_to kind log count k s ++ line_at kind log count k (suc s)

-- the same of a job's run of k steps
abbrev pub run_line : Job → ℕ → ℕ → List Recorded
run_line j k s = line_at j.object (note j) j.count k s

abbrev pub run_lines : Job → ℕ → ℕ → List Recorded
run_lines j k s = lines_to j.object (note j) j.count k s

-- the record of a job's run of k steps
unfoldable pub the_record : Job → ℕ → List Recorded
the_record j k = run_lines j k k

-- its lines without their steps, as a machine plays them
unfoldable pub lines_of : List Recorded → List Line
lines_of l = map (λ r. r.line) l
