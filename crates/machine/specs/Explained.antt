-- Demand 3, the statement: "Whatever operations an accepted job lists, and whatever order of steps it gives, idle ones included, the
-- record of that run, begun with fresh memory and empty contents, has only lines that the queue or stack with multiplicity allows".
-- It is stated of any number of processes, operations and steps k.
use Rattle.std.specs.Prelude.{◌≡◌, ◌≢◌, ℕ, suc, ◌+◌, ◌≤◌, ◌<◌, true, false, length}
use mathlib.Core.List.{List, [], ◌∷◌, Memᴰ}
use Rattle.std.proofs.Math.Option.{some}
use Rattle.basics.specs.Choice.{pick, same}
use Rattle.job.specs.Job.{Job}
use Rattle.machine.specs.Multiplicity.{Line, play}
use Rattle.machine.specs.Multiplicity.Line.{put, takes, empty}
use Rattle.machine.specs.Notes.{Answer, note}
use Rattle.machine.specs.Journal.{first, last, answer, link, taken}
use Rattle.machine.specs.Effects.{takers, takes_at, is_stack, took_effect, Precedes, Overlap}
use Rattle.machine.specs.Drops.{drop}
use Rattle.machine.specs.Record.{Recorded, run_line, the_record, lines_of}
use Rattle.machine.specs.Left.{left}

-- the operations in a line
unfoldable pub members : Line → List ℕ
members (put o) = o ∷ []
members (takes item takers) = takers
members (empty o) = o ∷ []

-- how often a number is in a list
unfoldable pub occurrences : ℕ → List ℕ → ℕ
occurrences o [] = 0
occurrences o (x ∷ l) = pick (same o x) 1 0 + occurrences o l

-- how often an operation is in a record
unfoldable pub times : ℕ → List Recorded → ℕ
times o [] = 0
times o (r ∷ l) = occurrences o (members r.line) + times o l

-- "An operation is there with its answer if a done put is the put of its item, a take that got item n is among the takes of n, and an
-- empty take is the one answering empty."
pub data Says : Line → ℕ → Answer → Type 0 where
  says_done : {o : ℕ} → Says (put o) o Answer.done
  says_item : {o item : ℕ} {takers : List ℕ} → Memᴰ o takers → Says (takes item takers) o (Answer.item item)
  says_empty : {o : ℕ} → Says (empty o) o Answer.empty

-- each step is less than the next
pub data Ascending : List Recorded → Type 0 where
  none : Ascending []
  one : {r : Recorded} → Ascending (r ∷ [])
  more : {r s : Recorded} {l : List Recorded} → r.step < s.step → Ascending (s ∷ l) → Ascending (r ∷ s ∷ l)

-- "Every answered operation is in it exactly once, with its answer, at a step from its first to its last."
pub record Answered (j : Job) (k o : ℕ) : Type 0 where
  pub place : Recorded
  pub recorded : Memᴰ place (the_record j k)
  pub once : times o (the_record j k) ≡ 1
  pub its_answer : Says place.line o (answer (note j) k o)
  pub from_first : first (note j) k o ≤ place.step
  pub to_last : place.step ≤ last (note j) k o

-- "One that has not ended took effect exactly if it is a put whose changing step above was made, or a stack take that is a member above":
-- it is in the record as the put of its item, at that step, or among the takes of the item on which it ran R3 or passed W4, where their line stands
pub data OpenLine (j : Job) (k o : ℕ) : Recorded → Type 0 where
  its_put : j.is_put o ≡ true → link (note j) k o ≢ 0 → OpenLine j k o (record { step = link (note j) k o; line = put o })
  its_takes : j.is_put o ≡ false → is_stack j.object ≡ true → taken (note j) k o ≢ 0 → Memᴰ o (takers (note j) j.count k (taken (note j) k o)) → OpenLine j k o (record { step = takes_at j.object (note j) j.count k (taken (note j) k o); line = takes (taken (note j) k o) (takers (note j) j.count k (taken (note j) k o)) })

-- "An unanswered one is in it once exactly when it took effect […] and never before its first step."
pub record InEffect (j : Job) (k o : ℕ) : Type 0 where
  pub place : Recorded
  pub recorded : Memᴰ place (the_record j k)
  pub its_line : OpenLine j k o place
  pub once : times o (the_record j k) ≡ 1
  pub begun : first (note j) k o ≢ 0
  pub from_first : first (note j) k o ≤ place.step

-- Document 02, request 4: "A dropped operation […] has no last step, and is recorded by the same conditions as an open one. Its effect, if
-- any, stands no later than the drop". It began before it and makes no step behind it; the drop is nobody's step and has no line.
pub record Dropped (j : Job) (k o : ℕ) : Type 0 where
  pub begun : first (note j) k o ≢ 0
  pub from_first : first (note j) k o < drop j k o
  pub no_last : last (note j) k o ≡ 0
  pub no_step_behind : (s : ℕ) → s ≤ k → (note j s).by ≡ o → s < drop j k o
  pub by_nobody : (note j (drop j k o)).by ≡ 0
  pub no_line : run_line j k (drop j k o) ≡ []
  pub no_later : (r : Recorded) → Memᴰ r (the_record j k) → Memᴰ o (members r.line) → r.step ≤ drop j k o

-- the number of put lines, and of takers' lines
unfoldable pub put_lines : List Line → ℕ
put_lines [] = 0
put_lines (put o ∷ l) = suc (put_lines l)
put_lines (takes item takers ∷ l) = put_lines l
put_lines (empty o ∷ l) = put_lines l

unfoldable pub take_lines : List Line → ℕ
take_lines [] = 0
take_lines (put o ∷ l) = take_lines l
take_lines (takes item takers ∷ l) = suc (take_lines l)
take_lines (empty o ∷ l) = take_lines l

-- is it one of so many operations?
pub record IsOperation (count o : ℕ) : Type 0 where
  pub from_one : 1 ≤ o
  pub to_count : o ≤ count

pub record Explained (j : Job) (k : ℕ) : Type 0 where
  -- "only lines that the queue or stack with multiplicity allows, each after all those before it; and at its end the contents are
  -- exactly those reported as left, in the same order"
  pub allowed : play j.object (lines_of (the_record j k)) [] ≡ some (left j k)
  -- "Lines stand in the order of their steps."
  pub ascending : Ascending (the_record j k)
  -- "Every answered operation is in it exactly once, with its answer, at a step from its first to its last."
  pub answered : (o : ℕ) → IsOperation j.count o → last (note j) k o ≢ 0 → Answered j k o
  -- "An unanswered one is in it once exactly when it took effect, otherwise not at all, and never before its first step."
  pub in_effect : (o : ℕ) → IsOperation j.count o → last (note j) k o ≡ 0 → took_effect j.object (note j) k o ≡ true → InEffect j k o
  pub without_effect : (o : ℕ) → IsOperation j.count o → last (note j) k o ≡ 0 → took_effect j.object (note j) k o ≡ false → times o (the_record j k) ≡ 0
  -- a dropped one is unanswered, so the two above are said of it too; "Its effect, if any, stands no later than the drop"
  pub dropped : (o : ℕ) → IsOperation j.count o → drop j k o ≢ 0 → Dropped j k o
  -- nothing else is in it
  pub operations : (r : Recorded) → Memᴰ r (the_record j k) → (o : ℕ) → Memᴰ o (members r.line) → IsOperation j.count o
  -- "So for any two operations in the record, one that ended before the other began stands in an earlier line"
  pub ordered : (r s : Recorded) → Memᴰ r (the_record j k) → Memᴰ s (the_record j k) → (o q : ℕ) → Memᴰ o (members r.line) → Memᴰ q (members s.line) → Precedes (note j) k o q → r.step < s.step
  -- "and any two takers of one item overlap"
  pub overlapping : (s item : ℕ) (takers : List ℕ) → Memᴰ (record { step = s; line = takes item takers }) (the_record j k) → (o q : ℕ) → Memᴰ o takers → Memᴰ q takers → Overlap (note j) k o q
  -- "Items put in the record are those handed out, counted by line, plus those left."
  pub conserved : put_lines (lines_of (the_record j k)) ≡ take_lines (lines_of (the_record j k)) + length (left j k)
