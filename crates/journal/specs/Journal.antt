-- What it means that lent memory holds the journal of the first k steps of a job: every column of an operation's row is the search of the
-- definitions that it stands for, and so is who made each step.
use Rattle.std.specs.Prelude.{◌≡◌, ℕ, ◌≤◌, ◌<◌, List}
use Rattle.basics.specs.Choice.{pick, same}
use Rattle.basics.specs.Maps.{at}
use Rattle.rows.specs.declared.OpColumn.{OpColumn}
use Rattle.rows.specs.Operations.{Cells, cells, dropped_mark}
use Rattle.rows.specs.declared.OpColumn.TheVariants.{First, Last, Start, Link, Taken, Stands}
use Rattle.job.specs.Job.{Job}
use Rattle.machine.specs.Notes.{note}
use Rattle.machine.specs.Journal as the
use Rattle.machine.specs.Drops.{drop}
use Rattle.machine.specs.Effects.{takes_at}
use Rattle.machine.specs.Explained.{IsOperation}
use Rattle.machine.specs.Lost.{lost}

-- its last step, or the mark of one that was dropped
abbrev pub ending : Job → ℕ → ℕ → ℕ
ending j k o = pick (same (drop j k o) 0) (the.last (note j) k o) dropped_mark

-- what a column says of an operation after k steps
abbrev pub held : Job → ℕ → OpColumn → ℕ → ℕ
held j k First o = the.first (note j) k o
held j k Last o = ending j k o
held j k Start o = the.start (note j) k o
held j k Link o = the.link (note j) k o
held j k Taken o = the.taken (note j) k o
held j k Stands item = takes_at j.object (note j) j.count k item

-- the rows of all operations
abbrev pub Agrees : Job → ℕ → Cells → Type 0
Agrees j k c = (f : OpColumn) (o : ℕ) → IsOperation j.count o → c f o ≡ held j k f o

-- the whole journal: `by` has who made each step, and 0 for an idle one
pub record Holds (j : Job) (k : ℕ) (ops by : List ℕ) : Type 0 where
  pub agrees : Agrees j k (cells ops)
  pub by_at : (s : ℕ) → 1 ≤ s → s ≤ k → at by s ≡ (note j s).by
  pub by_later : (s : ℕ) → k < s → at by s ≡ 0
  -- row 0 is no operation's: its first cell has how many rounds are lost
  pub rounds : cells ops First 0 ≡ lost (note j) k
