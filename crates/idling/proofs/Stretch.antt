-- The loop over a stretch of entries: nothing is written where every process may act, and each turn writes what is kept of one entry. Assumes nothing.
use mathlib.Core.Path.{◌≡◌, refl, ap, ◌∙◌}
use Prim.Native.Nat.{ℕ, ◌+◌, ◌≤◌, ◌<◌}
use mathlib.Core.Bool.{Bool, true}
use mathlib.Core.List.{List}
use lib.ListN.{length, get_or, set}
use Rattle.basics.specs.Maps.{at}
use Rattle.job.specs.Limits.{field}
use Rattle.job.specs.Slot.{slot_of, process_of}
use Rattle.idling.specs.Rewritten.{Rewritten}
use Rattle.idling.specs.Entries.{entry_kept}
use Rattle.idling.proofs.Rewritten.{rewritten_same, rewritten_next, rewritten_ahead}
use Rattle.idling.proofs.Entries.{entry_stays}

module _ (may : ℕ → Bool) {from : ℕ} {s : List ℕ} where
  pub stretch_open : (to : ℕ) → ((p : ℕ) → p < field.processes → may p ≡ true) → ((i : ℕ) → from ≤ i → i < to → process_of (slot_of (at s i)) < field.processes)
      → Rewritten (λ i. entry_kept may (at s i)) from to s s
  stretch_open to all named = rewritten_same _ from to s (λ i low high. entry_stays may (at s i) refl (all (process_of (slot_of (at s i))) (named i low high)))

  -- the entry that a turn reads is as it was
  pub stretch_ahead : {m : List ℕ} {n : ℕ} → Rewritten (λ i. entry_kept may (at s i)) from n s m → get_or m n 0 ≡ get_or s n 0
  unfolding at
  stretch_ahead r = rewritten_ahead r

  pub stretch_next : {m : List ℕ} {n v : ℕ} → Rewritten (λ i. entry_kept may (at s i)) from n s m → from ≤ n → n < length m → v ≡ entry_kept may (get_or m n 0)
      → Rewritten (λ i. entry_kept may (at s i)) from (n + 1) s (set m n v)
  unfolding at
  stretch_next {n = n} {v} r low room e = rewritten_next n v r low room (e ∙ ap (entry_kept may) (rewritten_ahead r))
