-- The first R3 on a node, and what one more step does to it. Assumes nothing.
use mathlib.Core.Path.{◌≡◌, sym, ap}
use mathlib.Core.Logic.{◌≢◌}
use Prim.Native.Nat.{ℕ, suc, ◌≤◌, ◌<◌}
use mathlib.Core.Bool.{Bool, true, false, true≢false}
use Rattle.basics.specs.Choice.{same}
use Rattle.basics.proofs.Choice.{same_equal, same_refl}
use Rattle.machine.specs.declared.Event.{Event}
use Rattle.machine.specs.declared.Event.TheVariants.{Quiet, Round, Linked, Moved, Late, Raised}
use Rattle.machine.specs.Notes.{Note}
use Rattle.machine.specs.Journal.{earliest}
use Rattle.machine.proofs.Searches.{earliest_zero, earliest_le, earliest_meets, earliest_least, earliest_kept, earliest_stays, earliest_later}

-- is it an R3 on node t?
unfoldable pub is_raise : ℕ → Event → Bool
is_raise t Quiet = false
is_raise t Round = false
is_raise t Linked = false
is_raise t (Moved n) = false
is_raise t (Late n) = false
is_raise t (Raised u) = same u t

-- the first of k steps that is an R3 on node t, 0 if there is none
unfoldable pub raised : (ℕ → Note) → ℕ → ℕ → ℕ
raised log k t = earliest (λ s. is_raise t (log s).event) k

-- such a step is for the item t
raise_event : {t : ℕ} (e : Event) → is_raise t e ≡ true → e ≡ Raised t
unfolding is_raise
raise_event Quiet h = absurd (true≢false (sym h))
raise_event Round h = absurd (true≢false (sym h))
raise_event Linked h = absurd (true≢false (sym h))
raise_event (Moved n) h = absurd (true≢false (sym h))
raise_event (Late n) h = absurd (true≢false (sym h))
raise_event (Raised u) h = ap Raised (same_equal h)

raised_is_raise : {t : ℕ} {e : Event} → e ≡ Raised t → is_raise t e ≡ true
unfolding is_raise
raised_is_raise {t} h = rw h (same_refl t)

module _ (log : ℕ → Note) where
  pub raised_zero : (t : ℕ) → raised log 0 t ≡ 0
  unfolding raised
  raised_zero t = earliest_zero (λ s. is_raise t (log s).event)

  pub raised_le : (k t : ℕ) → raised log k t ≤ k
  unfolding raised
  raised_le k t = earliest_le (λ s. is_raise t (log s).event) k

  -- it is an R3 on t
  pub raised_event : (k t : ℕ) → raised log k t ≢ 0 → (log (raised log k t)).event ≡ Raised t
  unfolding raised
  raised_event k t n = raise_event _ (earliest_meets (λ s. is_raise t (log s).event) k n)

  -- no R3 on t is before it
  pub raised_least : (k t s : ℕ) → (log s).event ≡ Raised t → 1 ≤ s → s ≤ k → (raised log k t ≢ 0) × (raised log k t ≤ s)
  unfolding raised
  raised_least k t s e low high = earliest_least (λ s. is_raise t (log s).event) k s (raised_is_raise e) low high

  pub raised_stays : (k l t : ℕ) → k ≤ l → raised log k t ≢ 0 → raised log l t ≡ raised log k t
  unfolding raised
  raised_stays k l t h n = earliest_stays (λ s. is_raise t (log s).event) k l h n

  -- another step changes nothing
  pub raised_kept : (k t : ℕ) → is_raise t (log (suc k)).event ≡ false → raised log (suc k) t ≡ raised log k t
  unfolding raised
  raised_kept k t e = earliest_kept (λ s. is_raise t (log s).event) k e

  -- a step that is before it stays before it
  pub raised_later : (k t s : ℕ) → s ≤ k → (raised log k t ≢ 0 → s < raised log k t) → raised log (suc k) t ≢ 0 → s < raised log (suc k) t
  unfolding raised
  raised_later k t s low h n = earliest_later (λ s. is_raise t (log s).event) k s low h n
