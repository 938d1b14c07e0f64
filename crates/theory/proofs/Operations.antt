-- The run of a job is a course of its object. The place of a process is the operation in its hand (`Operations/Hands.antt`), so every step is idle or one
-- operation's, and nothing above this file knows of processes. Assumes nothing.
pub mod Locals
pub mod Hands
pub mod Drops
use mathlib.Core.Path.{◌≡◌, refl, sym, ap, subst, ◌∙◌}
use mathlib.Core.Logic.{◌≢◌, ◌⊎◌, inl, inr}
use Prim.Native.Nat.{ℕ, zero, suc}
use mathlib.Core.Bool.{false}
use Rattle.basics.proofs.Choice.{split}
use Rattle.job.specs.Job.{Job}
use Rattle.machine.specs.Memory.{fresh_memory}
use Rattle.machine.specs.Table.{row_of, ended}
use Rattle.machine.specs.Run.{row_after, fresh_state, state_after}
use Rattle.machine.specs.Notes.{idle, acted, note, event_of, answer_of}
use Rattle.machine.specs.Explained.{IsOperation}
use Rattle.machine.proofs.Turns.Locals.{reaches, local_after}
use Rattle.theory.proofs.Course.{listing, Passes, Acts, Course}
use Rattle.theory.proofs.Life.{operation_some}
use Locals.{memory, local}
use Hands.{place_of, Acting, OneStep, one_step, by_own, local_zero, local_own, local_other}
use Hands.OneStep.{idles, drops, acts}

-- operation o makes step k + 1, as the definitions have it
record StepMade (j : Job) (k o : ℕ) : Type 0 where
  operation : IsOperation j.count o
  going : ended (local j k o).row ≡ false
  by : (note j (suc k)).by ≡ o
  memory_after : memory j (suc k) ≡ (reaches o (memory j k) (local j k o)).memory
  own_after : local j (suc k) o ≡ local_after o (memory j k) (local j k o)
  event : (note j (suc k)).event ≡ event_of (row_of (local j k o).row).access (reaches o (memory j k) (local j k o)).outcome (reaches o (memory j k) (local j k o)).registers
  answer : (note j (suc k)).answer ≡ answer_of (local j (suc k) o).row (local j (suc k) o).registers

-- a step that nobody makes leaves every operation where it is
pub passes : (j : Job) (k : ℕ) → memory j (suc k) ≡ memory j k → note j (suc k) ≡ idle → Passes (note j) (memory j) (local j) k
unfolding idle
passes j k kept nothing =
    record {
      nothing = nothing;
      memory_kept = kept;
      locals_kept = λ q n. local_other j k q (λ e. n (sym e ∙ ap (λ x. x.by) nothing));
    }

makes : {j : Job} {k p o : ℕ} → Acting j k p o → StepMade j k o
unfolding memory acted place_of row_after local_after reaches
makes {j} {k} {o = o} a =
    let own_after : local j (suc k) o ≡ local_after o (memory j k) (local j k o) = local_own j k o (by_own a) in
    record {
      operation = record { from_one = a.hand.from_one; to_count = a.to_count };
      going = a.hand.going;
      by = by_own a;
      memory_after = ap (λ s. s.memory) a.state;
      own_after = own_after;
      event = ap (λ x. x.event) a.said;
      answer = ap (λ x. x.answer) a.said ∙ ap (λ l. answer_of l.row l.registers) (sym own_after);
    }

-- to the object every step is an operation's or nobody's: it cannot tell a drop from an idle step
step_made : (j : Job) (k : ℕ) → Passes (note j) (memory j) (local j) k ⊎ ((o : ℕ) × StepMade j k o)
unfolding memory
step_made j k = by_step (one_step j k)
  where
    by_step : OneStep j k → Passes (note j) (memory j) (local j) k ⊎ ((o : ℕ) × StepMade j k o)
    by_step (idles i) = inl (passes j k (ap (λ s. s.memory) i.state) i.said)
    by_step (drops d) = inl (passes j k (ap (λ s. s.memory) d.state) d.said)
    by_step (acts {o = o} a) = inr (o, makes a)

module _ (j : Job) where
  turned : (k o : ℕ) → StepMade j k o → (listing j.object).On (local j k o) → (listing j.object).Turn o (memory j k) (local j k o) (memory j (suc k)) (local j (suc k) o) (note j (suc k)).event (note j (suc k)).answer
  turned k o a on = rw (a.memory_after, a.event, a.answer, a.own_after) ((listing j.object).turn o (memory j k) on a.going)

  -- every operation is where one on the object can be
  on_rows : (k o : ℕ) → o ≢ 0 → (listing j.object).On (local j k o)
  on_rows zero o some = subst (listing j.object).On (sym (local_zero j o)) ((listing j.object).starts (j.is_put o)).0
  on_rows (suc k) o some = by_step (step_made j k) (on_rows k o some)
    where
      kept : (note j (suc k)).by ≢ o → (listing j.object).On (local j k o) → (listing j.object).On (local j (suc k) o)
      kept other on = subst (listing j.object).On (sym (local_other j k o other)) on

      by_actor : (q : ℕ) → StepMade j k q → (q ≡ o) ⊎ (q ≢ o) → (listing j.object).On (local j k o) → (listing j.object).On (local j (suc k) o)
      by_actor q a (inl e) on = ((listing j.object).moves (turned k o (subst (StepMade j k) e a) on) on).0
      by_actor q a (inr n) on = kept (λ e. n (sym a.by ∙ e)) on

      by_step : Passes (note j) (memory j) (local j) k ⊎ ((q : ℕ) × StepMade j k q) → (listing j.object).On (local j k o) → (listing j.object).On (local j (suc k) o)
      by_step (inl i) on = subst (listing j.object).On (sym (i.locals_kept o some)) on
      by_step (inr a) on = by_actor a.0 a.1 (split a.0 o) on

  pub course_step : (k : ℕ) → Passes (note j) (memory j) (local j) k ⊎ ((o : ℕ) × Acts j.object j.count (note j) (memory j) (local j) k o)
  course_step k = by_step (step_made j k)
    where
      acts : (o : ℕ) → StepMade j k o → Acts j.object j.count (note j) (memory j) (local j) k o
      acts o a =
          record {
            operation = a.operation;
            by = a.by;
            turned = turned k o a (on_rows k o (operation_some a.operation));
            others_kept = λ q n. local_other j k q (λ e. n (sym e ∙ a.by));
          }

      by_step : Passes (note j) (memory j) (local j) k ⊎ ((o : ℕ) × StepMade j k o) → Passes (note j) (memory j) (local j) k ⊎ ((o : ℕ) × Acts j.object j.count (note j) (memory j) (local j) k o)
      by_step (inl i) = inl i
      by_step (inr a) = inr (a.0, acts a.0 a.1)

pub note_first : (j : Job) → note j 0 ≡ idle
unfolding note
note_first j = refl

pub memory_first : (j : Job) → memory j 0 ≡ fresh_memory
unfolding memory state_after fresh_state
memory_first j = refl

-- the course that a job's run is to its object
abbrev pub course : (j : Job) → Course j.object
course j =
    record {
      count = j.count;
      is_put = j.is_put;
      log = note j;
      memory = memory j;
      local = local j;
      log_first = note_first j;
      memory_first = memory_first j;
      local_first = local_zero j;
      step = course_step j;
    }
