-- The run of a job whose entries are idle where `out` says so, and of the job with them cut out: the same state, step by step. Assumes nothing.
use mathlib.Core.Path.{◌≡◌, refl, sym, ap, ◌∙◌}
use mathlib.Core.Logic.{◌≢◌, ◌⊎◌, inl, inr}
use Prim.Native.Nat.{ℕ, zero, suc, ◌-◌, ◌≤◌, ◌<◌}
use mathlib.Core.Bool.{Bool, true, false}
use native.Mathlib.Omega.{arith}
use Rattle.basics.specs.Choice.{same}
use Rattle.basics.proofs.Choice.{both, pick_then, pick_else, pick_elim, unequal_same, less_le, lt_less}
use Rattle.basics.proofs.Maps.{upd_elim}
use Rattle.job.specs.declared.Slot.{Slot}
use Rattle.job.specs.declared.Slot.TheVariants.{Acts, Drops}
use Rattle.job.specs.Job.{Job}
use Rattle.job.specs.Idle.{nobody, idle_slot, idle_at}
use Rattle.machine.specs.Run.{State, operation_after, before, fresh_state, place_after, resting, acting, dropping, step, state_after}
use Rattle.machine.specs.Notes.{idle, note_next, note}
use Rattle.machine.specs.Drops.{dropped_next, dropped}
use Rattle.machine.proofs.Searches.{seek_from}
use Rattle.theory.specs.Cut.{stayed, entry_of, cut}
use Rattle.theory.proofs.Nobody.{Free, none_after}
use Rattle.theory.proofs.Cut.Entries.{stayed_zero, stayed_in, stayed_out, entry_each}
use Rattle.theory.proofs.Cut.Searches.{Agree}
use Rattle.theory.proofs.Cut.Logs.{SameLog}

module _ (out : ℕ → Bool) (j : Job) (free : Free j) where
  abbrev w : Job
  w = idle_at out j

  abbrev c : Job
  c = cut out j

  -- nobody rests: its place is past the last operation, and stays there
  abbrev Rests : State → Type 0
  Rests s = j.count < (s.places nobody).operation.0

  fresh_rests : Rests (fresh_state w)
  unfolding fresh_state before idle_at
  fresh_rests = omega (arith, none_after w free)

  acting_rests : (p : ℕ) (s : State) → Rests s → Rests (acting w p s)
  unfolding acting resting idle_at
  acting_rests p s h =
      pick_elim Rests (resting w (s.places p)) s _ (λ t. h)
      (λ f. upd_elim (λ q. j.count < q.operation.0) s.places p _ nobody (λ e. absurd (omega (arith, h, less_le f, ap (λ q. (s.places q).operation.0) e))) (λ n. h))

  dropping_rests : (p : ℕ) (s : State) → Rests s → Rests (dropping w p s)
  unfolding dropping before operation_after idle_at
  dropping_rests p s h =
      let o : ℕ = (s.places p).operation.0 in
      pick_elim Rests (s.begun o) _ s
      (λ t. upd_elim (λ q. j.count < q.operation.0) s.places p _ nobody (λ e. omega (arith, h, seek_from (λ i. same (j.owner i) p) (suc o) (j.count - o), ap (λ q. (s.places q).operation.0) e)) (λ n. h))
      (λ f. h)

  step_rests : (slot : Slot) (s : State) → Rests s → Rests (step w slot s)
  unfolding step
  step_rests (Acts p) s h = acting_rests p.0 s h
  step_rests (Drops p) s h = dropping_rests p.0 s h

  rests : (k : ℕ) → Rests (state_after w k)
  unfolding state_after
  rests zero = fresh_rests
  rests (suc k) = step_rests (w.slot (suc k)) (state_after w k) (rests k)

  nobody_rests : (k : ℕ) → resting w ((state_after w k).places nobody) ≡ true
  unfolding resting idle_at
  nobody_rests k = lt_less (rests k)

  -- what is named for a step
  slot_out : (k : ℕ) → out k ≡ true → w.slot k ≡ idle_slot
  unfolding idle_at
  slot_out k t = pick_then _ _ t

  slot_in : (k : ℕ) → suc k ≤ j.steps → out (suc k) ≡ false → w.slot (suc k) ≡ c.slot (suc (stayed out k))
  unfolding idle_at cut
  slot_in k b i = pick_else _ _ i ∙ ap j.slot (sym (ap (entry_of out j.steps) (sym (stayed_in out k i)) ∙ entry_each out (suc k) j.steps (omega arith) b i))

  -- the two jobs have the same operations, so a step of one is a step of the other
  step_same : (slot : Slot) (s : State) → step w slot s ≡ step c slot s
  unfolding step acting dropping resting before operation_after place_after idle_at cut
  step_same (Acts p) s = refl
  step_same (Drops p) s = refl

  note_same : (slot : Slot) (s : State) → note_next w s slot ≡ note_next c s slot
  unfolding note_next resting idle_at cut
  note_same (Acts p) s = refl
  note_same (Drops p) s = refl

  fresh_same : fresh_state w ≡ fresh_state c
  unfolding fresh_state before operation_after idle_at cut
  fresh_same = refl

  idles : (k : ℕ) → step w idle_slot (state_after w k) ≡ state_after w k
  unfolding step acting
  idles k = pick_then _ _ (nobody_rests k)

  pub state_cut : (k : ℕ) → k ≤ j.steps → state_after w k ≡ state_after c (stayed out k)
  unfolding state_after
  state_cut zero b = fresh_same ∙ ap (state_after c) (sym (stayed_zero out))
  state_cut (suc k) b = go (both (out (suc k))) (state_cut k (omega arith))
    where
      go : (out (suc k) ≡ true) ⊎ (out (suc k) ≡ false) → state_after w k ≡ state_after c (stayed out k) → step w (w.slot (suc k)) (state_after w k) ≡ state_after c (stayed out (suc k))
      go (inl t) below = ap (λ (x : Slot). step w x (state_after w k)) (slot_out (suc k) t) ∙ idles k ∙ below ∙ ap (state_after c) (sym (stayed_out out k t))
      go (inr i) below =
          step_same (w.slot (suc k)) (state_after w k)
          ∙ ap (λ (x : Slot). step c x (state_after w k)) (slot_in k b i)
          ∙ ap (step c (c.slot (suc (stayed out k)))) below
          ∙ ap (state_after c) (sym (stayed_in out k i))

  -- what a step was
  note_zero : note w 0 ≡ note c 0
  unfolding note
  note_zero = refl

  note_out : (k : ℕ) → out (suc k) ≡ true → note w (suc k) ≡ idle
  unfolding note note_next
  note_out k t = ap (note_next w (state_after w k)) (slot_out (suc k) t) ∙ pick_then _ _ (nobody_rests k)

  note_in : (k : ℕ) → suc k ≤ j.steps → out (suc k) ≡ false → note w (suc k) ≡ note c (suc (stayed out k))
  unfolding note
  note_in k b i =
      note_same (w.slot (suc k)) (state_after w k)
      ∙ ap (note_next c (state_after w k)) (slot_in k b i)
      ∙ ap (λ (x : State). note_next c x (c.slot (suc (stayed out k)))) (state_cut k (omega arith))

  pub notes_cut : SameLog out j.steps (note w) (note c)
  notes_cut = record { at_zero = note_zero; at_out = λ k b t. note_out k t; at_in = note_in }

  -- and what it dropped
  dropped_out : (k : ℕ) → out (suc k) ≡ true → dropped w (suc k) ≡ 0
  unfolding dropped dropped_next
  dropped_out k t = ap (dropped_next (state_after w k)) (slot_out (suc k) t)

  dropped_in : (k : ℕ) → suc k ≤ j.steps → out (suc k) ≡ false → dropped w (suc k) ≡ dropped c (suc (stayed out k))
  unfolding dropped
  dropped_in k b i =
      ap (dropped_next (state_after w k)) (slot_in k b i)
      ∙ ap (λ (x : State). dropped_next x (c.slot (suc (stayed out k)))) (state_cut k (omega arith))

  pub drops_cut : (o : ℕ) → o ≢ 0 → Agree out j.steps (λ s. same (dropped w s) o) (λ s. same (dropped c s) o)
  drops_cut o h =
      record {
        at_out = λ k b t. unequal_same (λ q. h (sym q ∙ dropped_out k t));
        at_in = λ k b i. ap (λ (x : ℕ). same x o) (dropped_in k b i);
      }
