-- How an operation that has begun reads behind `last`: its last step and its answer, open, or dropped. Assumes nothing.
use mathlib.Core.Path.{◌≡◌, ◌∙◌}
use mathlib.Core.Logic.{◌≢◌}
use Prim.Native.Nat.{ℕ}
use mathlib.Core.List.{◌++◌}
use Rattle.basics.specs.Text.{text, decimal}
use Rattle.basics.proofs.Choice.{pick_then, pick_else, equal_same, unequal_same}
use Rattle.job.specs.Job.{Job}
use Rattle.machine.specs.Notes.{note}
use Rattle.machine.specs.Journal.{last, answer}
use Rattle.machine.specs.Drops.{drop}
use Rattle.wording.specs.Report.{answer_text, end_text}

module _ (j : Job) (k o : ℕ) where
  pub ended_reads : last (note j) k o ≢ 0 → end_text j k o ≡ decimal (last (note j) k o) ++ answer_text j (answer (note j) k o)
  unfolding end_text
  ended_reads n = pick_else _ _ (unequal_same n)

  -- "An open one reads `last - open`"
  pub open_reads : last (note j) k o ≡ 0 → drop j k o ≡ 0 → end_text j k o ≡ text "- open"
  unfolding end_text
  open_reads z d = pick_then _ _ (equal_same z) ∙ pick_then _ _ (equal_same d)

  -- "A dropped operation prints `last - dropped`"
  pub dropped_reads : last (note j) k o ≡ 0 → drop j k o ≢ 0 → end_text j k o ≡ text "- dropped"
  unfolding end_text
  dropped_reads z d = pick_then _ _ (equal_same z) ∙ pick_else _ _ (unequal_same d)
