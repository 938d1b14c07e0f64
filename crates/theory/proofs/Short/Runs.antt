-- The run of a job whose schedule is another's first entries: the same state and the same note, step by step. Assumes nothing.
use mathlib.Core.Path.{◌≡◌, refl, sym, ap, ◌∙◌}
use Prim.Native.Nat.{ℕ, zero, suc, ◌≤◌}
use mathlib.Core.Bool.{Bool}
use native.Mathlib.Omega.{arith}
use Rattle.job.specs.declared.Kind.{Kind}
use Rattle.job.specs.declared.Slot.{Slot}
use Rattle.job.specs.declared.Slot.TheVariants.{Acts, Drops}
use Rattle.job.specs.Job.{Job}
use Rattle.job.specs.Idle.{idle_slot}
use Rattle.machine.specs.Run.{State, operation_after, before, fresh_state, place_after, resting, acting, dropping, step, state_after}
use Rattle.machine.specs.Notes.{note_next, note}
use Rattle.theory.specs.Short.{CutShort}

-- a job of some operations and no schedule
abbrev unscheduled : Kind → ℕ → (ℕ → ℕ) → (ℕ → Bool) → Job
unscheduled object count owner is_put =
    record { object = object; count = count; owner = owner; is_put = is_put; field = λ o. 0; steps = 0; slot = λ k. idle_slot }

-- a job's operations alone
abbrev operations : Job → Job
operations j = unscheduled j.object j.count j.owner j.is_put

-- a step depends on the job by its operations alone
step_by_operations : (j : Job) (slot : Slot) (s : State) → step j slot s ≡ step (operations j) slot s
unfolding step acting dropping resting before operation_after place_after
step_by_operations j (Acts p) s = refl
step_by_operations j (Drops p) s = refl

note_by_operations : (j : Job) (slot : Slot) (s : State) → note_next j s slot ≡ note_next (operations j) s slot
unfolding note_next resting
note_by_operations j (Acts p) s = refl
note_by_operations j (Drops p) s = refl

fresh_by_operations : (j : Job) → fresh_state j ≡ fresh_state (operations j)
unfolding fresh_state before operation_after
fresh_by_operations j = refl

module _ (whole kept : Job) (short : CutShort whole kept) where
  same_operations : operations kept ≡ operations whole
  same_operations = λ i. unscheduled (short.objects i) (short.counts i) (short.owners i) (short.puts i)

  step_same : (slot : Slot) (s : State) → step kept slot s ≡ step whole slot s
  step_same slot s = step_by_operations kept slot s ∙ ap (λ (j : Job). step j slot s) same_operations ∙ sym (step_by_operations whole slot s)

  note_same : (slot : Slot) (s : State) → note_next kept s slot ≡ note_next whole s slot
  note_same slot s = note_by_operations kept slot s ∙ ap (λ (j : Job). note_next j s slot) same_operations ∙ sym (note_by_operations whole slot s)

  fresh_same : fresh_state kept ≡ fresh_state whole
  fresh_same = fresh_by_operations kept ∙ ap fresh_state same_operations ∙ sym (fresh_by_operations whole)

  pub state_kept : (k : ℕ) → k ≤ kept.steps → state_after kept k ≡ state_after whole k
  unfolding state_after
  state_kept zero b = fresh_same
  state_kept (suc k) b =
      step_same (kept.slot (suc k)) (state_after kept k)
      ∙ ap (λ (x : Slot). step whole x (state_after kept k)) (short.entries (suc k) (omega arith) b)
      ∙ ap (step whole (whole.slot (suc k))) (state_kept k (omega arith))

  pub note_kept : (k : ℕ) → k ≤ kept.steps → note kept k ≡ note whole k
  unfolding note
  note_kept zero b = refl
  note_kept (suc k) b =
      note_same (kept.slot (suc k)) (state_after kept k)
      ∙ ap (note_next whole (state_after kept k)) (short.entries (suc k) (omega arith) b)
      ∙ ap (λ (x : State). note_next whole x (whole.slot (suc k))) (state_kept k (omega arith))
