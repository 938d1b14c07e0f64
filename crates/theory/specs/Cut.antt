-- Entries cut out of a schedule. Document 02, request 6: "whoever replays with windows gets what the job with those entries cut out gives, step numbers
-- kept." So the job whose schedule is the other entries alone has the same answers, the same lines, lost rounds and items left, and each of its step
-- numbers is that of the entry that it stood at.
use Rattle.std.specs.Prelude.{◌≡◌, ◌≢◌, ℕ, zero, suc, ◌≤◌, ◌<◌, Bool, false, not, ◌&&◌, List, map}
use Rattle.basics.specs.Choice.{pick, same}
use Rattle.job.specs.Job.{Job}
use Rattle.job.specs.Idle.{idle_at}
use Rattle.machine.specs.Notes.{note}
use Rattle.machine.specs.Journal.{first, last, answer}
use Rattle.machine.specs.Drops.{drop}
use Rattle.machine.specs.Record.{Recorded, the_record}
use Rattle.machine.specs.Left.{left}
use Rattle.machine.specs.Lost.{tally, lost}

-- how many of the entries 1 to k stay, when those that `out` says are cut out
unfoldable pub stayed : (ℕ → Bool) → ℕ → ℕ
stayed out k = tally (λ s. not (out s)) k

-- the entry that comes to stand at place i: the i-th of those among the first k that stay, 0 if there are fewer
unfoldable pub entry_of : (ℕ → Bool) → ℕ → ℕ → ℕ
entry_of out zero i = 0
entry_of out (suc k) i = pick (not (out (suc k)) && same (stayed out (suc k)) i) (suc k) (entry_of out k i)

-- the job with those entries cut out
unfoldable pub cut : (ℕ → Bool) → Job → Job
cut out j =
    record {
      object = j.object;
      count = j.count;
      owner = j.owner;
      is_put = j.is_put;
      field = j.field;
      steps = stayed out j.steps;
      slot = λ i. j.slot (entry_of out j.steps i);
    }

-- a line with another step number
abbrev pub renumber : (ℕ → ℕ) → Recorded → Recorded
renumber number r = record { step = number r.step; line = r.line }

-- lines with other step numbers
unfoldable pub renumbered : (ℕ → ℕ) → List Recorded → List Recorded
renumbered number l = map (renumber number) l

-- the job whose entries are idle where `out` says so, against the job with those entries cut out
pub record SameAsCut (out : ℕ → Bool) (j : Job) : Type 0 where
  -- "step numbers kept": place i has the i-th entry that stays. Each place has one, in the schedule's order, and each that stays has a place
  pub stays : (i : ℕ) → 1 ≤ i → i ≤ (cut out j).steps → (1 ≤ entry_of out j.steps i) × (entry_of out j.steps i ≤ j.steps) × (out (entry_of out j.steps i) ≡ false)
  pub in_order : (i h : ℕ) → i < h → h ≤ (cut out j).steps → entry_of out j.steps i < entry_of out j.steps h
  pub each : (s : ℕ) → 1 ≤ s → s ≤ j.steps → out s ≡ false → entry_of out j.steps (stayed out s) ≡ s
  -- the same answers
  pub answers : (o : ℕ) → answer (note (idle_at out j)) j.steps o ≡ answer (note (cut out j)) (cut out j).steps o
  -- first and last steps and drops, at the entries that they stood at
  pub firsts : (o : ℕ) → o ≢ 0 → first (note (idle_at out j)) j.steps o ≡ entry_of out j.steps (first (note (cut out j)) (cut out j).steps o)
  pub lasts : (o : ℕ) → last (note (idle_at out j)) j.steps o ≡ entry_of out j.steps (last (note (cut out j)) (cut out j).steps o)
  pub drops : (o : ℕ) → o ≢ 0 → drop (idle_at out j) j.steps o ≡ entry_of out j.steps (drop (cut out j) (cut out j).steps o)
  -- the same lines, likewise
  pub lines : the_record (idle_at out j) j.steps ≡ renumbered (entry_of out j.steps) (the_record (cut out j) (cut out j).steps)
  -- the same lost rounds, and the same left
  pub rounds : lost (note (idle_at out j)) j.steps ≡ lost (note (cut out j)) (cut out j).steps
  pub remains : left (idle_at out j) j.steps ≡ left (cut out j) (cut out j).steps
