-- How many rounds a queue can lose. Document 02, request 5: the count "must […] be at most 2 × (P − 1) × K + D, with K the puts in the record and D
-- the drops made between a changing Q3 and its Q4. With one process and no drop it is 0."
use Rattle.std.specs.Prelude.{◌≡◌, ℕ, ◌+◌, ◌-◌, ◌*◌, ◌≤◌, Bool, not, ◌&&◌}
use Rattle.basics.specs.Choice.{same}
use Rattle.job.specs.Job.{Job}
use Rattle.machine.specs.Notes.{note}
use Rattle.machine.specs.Journal.{link}
use Rattle.machine.specs.Drops.{dropped}
use Rattle.machine.specs.Record.{the_record, lines_of}
use Rattle.machine.specs.Explained.{put_lines}
use Rattle.machine.specs.Lost.{tally, lost}

-- K: "the puts in the record", those of open and of dropped operations too
unfoldable pub puts : Job → ℕ → ℕ
puts j k = put_lines (lines_of (the_record j k))

-- did step s drop an operation between its changing Q3 and its Q4? It has linked its node, and whoever is dropped has not ended
unfoldable pub late_drop : Job → ℕ → Bool
late_drop j s = not (same (dropped j s) 0) && not (same (link (note j) s (dropped j s)) 0)

-- D: the drops so made
unfoldable pub late_drops : Job → ℕ → ℕ
late_drops j k = tally (late_drop j) k

-- 2 × (P − 1) × K + D, of a run of k steps by P processes
unfoldable pub most_lost : Job → ℕ → ℕ → ℕ
most_lost j k P = 2 * (P - 1) * puts j k + late_drops j k

pub record Bounded (j : Job) (k P : ℕ) : Type 0 where
  -- "be at most 2 × (P − 1) × K + D"
  pub at_most : lost (note j) k ≤ most_lost j k P
  -- "With one process and no drop it is 0."
  pub alone : P ≡ 1 → ((s : ℕ) → s ≤ k → dropped j s ≡ 0) → lost (note j) k ≡ 0
