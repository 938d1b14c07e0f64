-- A job some of whose steps are idle. Document 01, "The steps": "A scheduled process with no operation remaining makes an idle step, which still has its
-- number." So an idle step is that of a process without operations: process 8, since a job's are 0 to 7.
use Rattle.std.specs.Prelude.{ℕ, Bool}
use Rattle.basics.specs.Choice.{pick}
use Rattle.job.specs.declared.Slot.{Slot}
use Rattle.job.specs.declared.Slot.TheVariants.{Acts}
use Rattle.job.specs.Limits.{field}
use Rattle.job.specs.Job.{Job}

-- who has no operation
abbrev pub nobody : ℕ
nobody = field.processes

-- what the schedule names for an idle step
abbrev pub idle_slot : Slot
idle_slot = Acts (record { 0 = nobody })

-- the job with idle steps where `idle` says so, and every other step as it is
unfoldable pub idle_at : (ℕ → Bool) → Job → Job
idle_at idle j =
    record {
      object = j.object;
      count = j.count;
      owner = j.owner;
      is_put = j.is_put;
      field = j.field;
      steps = j.steps;
      slot = λ k. pick (idle k) idle_slot (j.slot k);
    }
