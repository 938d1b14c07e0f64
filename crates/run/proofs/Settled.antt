-- Where every process has come to the end of its operations, the run has settled: the steps that are left are idle and change nothing.
-- Assumes nothing.
use mathlib.Core.Path.{◌≡◌, refl, sym, subst, ◌∙◌}
use Prim.Native.Nat.{ℕ, zero, suc, ◌+◌, ◌-◌, ◌≤◌, ◌<◌}
use native.Mathlib.Omega.{arith}
use mathlib.Core.List.{List}
use Rattle.job.specs.declared.Heading.{Heading}
use Rattle.job.specs.Slot.{process_of}
use Rattle.job.specs.Job.{Job, job_of}
use Rattle.machine.specs.declared.Object.{Object}
use Rattle.machine.specs.declared.Place.{Place}
use Rattle.machine.specs.Idle.{IdleBehind}
use Rattle.run.specs.Promise.{Runnable, Ran}
use Rattle.run.proofs.Places.{EachRests, each_rests}
use Rattle.run.proofs.Loop.{Turning, p_in_range, turning_rests, finished}

-- what every step up to the last one keeps
kept : (P : ℕ → Type 0) (end : ℕ) → ((k : ℕ) → k < end → P k → P (k + 1)) → (k n : ℕ) → k + n ≡ end → P k → P end
kept P end step k zero e h = let done : k ≡ end = omega arith in subst P done h
kept P end step k (suc n) e h = kept P end step (k + 1) n (omega arith) (step k (omega arith) h)

module _ {stream : List ℕ} {job : Heading} (r : Runnable stream job) {k : ℕ} {places : List Place} {total : ℕ} {object : Object} {nodes₀ ops₀ by₀ nodes ops by : List ℕ} (t : Turning stream job k places total object nodes₀ ops₀ by₀ nodes ops by) (rest : EachRests job.count places) where
  -- the invariant holds after the last step, with the same places, cells and lists
  settled : Turning stream job job.steps places total object nodes₀ ops₀ by₀ nodes ops by
  settled =
      let small : k ≤ job.steps = t.small in
      kept (λ x. Turning stream job x places total object nodes₀ ops₀ by₀ nodes ops by) job.steps
      (λ x more u. turning_rests r u more refl (process_of ((job_of stream).slot (x + 1))) refl (rest _ (p_in_range r u more refl (process_of ((job_of stream).slot (x + 1))) refl)))
      k (job.steps - k) (omega arith) t

  -- so what the code has now is what it has at the end
  pub ran_to_end : Ran (job_of stream) job.steps object nodes ops by
  ran_to_end = settled.ran

  -- and nobody makes the steps behind step k
  pub idle_behind : IdleBehind (job_of stream) k job.steps
  idle_behind =
      record {
        within = t.small;
        idle_step = λ s later upto. sym (ran_to_end.journal.by_at s (omega arith) upto) ∙ t.ran.journal.by_later s later;
      }

-- behind the last step there is none
pub none_behind : (j : Job) {reach k : ℕ} → reach ≤ k → k ≤ reach → IdleBehind j reach k
none_behind j within over = record { within = within; idle_step = λ s later upto. absurd (let x : ⊥ = omega arith in x) }

-- what the loop leaves where it stops, at the last step or before it
pub record Over (stream : List ℕ) (job : Heading) (reach : ℕ) (object : Object) (nodes ops by : List ℕ) : Type 0 where
  pub ran : Ran (job_of stream) job.steps object nodes ops by
  pub behind : IdleBehind (job_of stream) reach job.steps

-- at the last step every step is made
pub all_made : {stream : List ℕ} {job : Heading} {k reach : ℕ} {places : List Place} {total : ℕ} {object : Object} {nodes₀ ops₀ by₀ nodes ops by : List ℕ} → Turning stream job k places total object nodes₀ ops₀ by₀ nodes ops by → job.steps ≤ k → reach ≡ job.steps → Over stream job reach object nodes ops by
all_made t over is = record { ran = finished t over; behind = none_behind _ (omega arith) (omega arith) }

-- where no process has operations left, the steps behind change nothing
pub none_left : {stream : List ℕ} {job : Heading} (r : Runnable stream job) {k : ℕ} {places : List Place} {total : ℕ} {object : Object} {nodes₀ ops₀ by₀ nodes ops by : List ℕ} → Turning stream job k places total object nodes₀ ops₀ by₀ nodes ops by → total ≡ 0 → Over stream job k object nodes ops by
none_left r t none =
    let rest = each_rests _ _ t.in_place.whole (sym t.counted ∙ none) in
    record { ran = ran_to_end r t rest; behind = idle_behind r t rest }
