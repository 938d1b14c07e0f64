-- The job that a stream holds, as a run sees it: no bytes, no limits, any number of processes.
use Rattle.std.specs.Prelude.{ℕ, Bool, false, List}
use Rattle.basics.specs.Choice.{pick, same, less}
use Rattle.job.specs.declared.Kind.{Kind}
use Rattle.job.specs.declared.Heading.{Heading}
use Rattle.job.specs.declared.Slot.{Slot}
use Rattle.job.specs.Kind.{kind_of, kind_found}
use Rattle.job.specs.Slot.{slot_of}
use Rattle.job.specs.Stream.{kind, operations, schedule_length, process, action, value, scheduled}

pub record Job : Type 0 where
  -- the kind whose number the stream has
  pub object : Kind
  -- the number of operations, N; they are 1 to N
  pub count : ℕ
  -- the process that does an operation
  pub owner : ℕ → ℕ
  -- is an operation a put? Else it is a take
  pub is_put : ℕ → Bool
  -- the value field of an operation's record; what it says in mm: `millimetres` of crate stage
  pub field : ℕ → ℕ
  -- the schedule's length, S; steps are 1 to S
  pub steps : ℕ
  -- what the schedule names for a step
  pub slot : ℕ → Slot

-- what a stream says of an operation. Behind the record of operation N stands the schedule, so of a number past N it says nothing
abbrev pub recorded : {A : Type 0} → List ℕ → A → (ℕ → A) → ℕ → A
recorded s none said o = pick (less (operations s) o) none (said o)

-- the job in a stream
unfoldable pub job_of : List ℕ → Job
job_of s =
    record {
      object = kind_found (kind_of (kind s));
      count = operations s;
      owner = recorded s 0 (process s);
      is_put = recorded s false (λ o. same (action s o) 1);
      field = recorded s 0 (value s);
      steps = schedule_length s;
      slot = λ k. slot_of (scheduled s k);
    }

-- what a job's run and its report are told of its header
abbrev pub heading_of : Job → Heading
heading_of j = record { object = j.object; count = j.count; steps = j.steps }
