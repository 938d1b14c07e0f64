-- What a stream says of an operation that has a record, and which have one. Assumes nothing.
use mathlib.Core.Path.{◌≡◌, sym, subst}
use Prim.Native.Nat.{ℕ, ◌+◌, ◌≤◌, ◌<◌}
use native.Mathlib.Omega.{arith}
use mathlib.Core.Bool.{false}
use mathlib.Core.List.{List}
use Rattle.basics.specs.Choice.{same}
use lib.ListN.{length}
use Rattle.basics.proofs.Choice.{pick_then, pick_else, lt_less, le_less}
use Rattle.job.specs.Stream.{operations, record_at, process, action, value, HasRecord}
use Rattle.job.specs.Job.{recorded, job_of}

recorded_said : {A : Type 0} (s : List ℕ) (none : A) (said : ℕ → A) {o : ℕ} → o ≤ operations s → recorded s none said o ≡ said o
recorded_said s none said h = pick_else none (said _) (le_less h)

module _ (s : List ℕ) {o : ℕ} (one : o ≤ operations s) where
  pub owner_said : (job_of s).owner o ≡ process s o
  unfolding job_of
  owner_said = recorded_said s 0 (process s) one

  pub put_said : (job_of s).is_put o ≡ same (action s o) 1
  unfolding job_of
  put_said = recorded_said s false (λ o. same (action s o) 1) one

  pub field_said : (job_of s).field o ≡ value s o
  unfolding job_of
  field_said = recorded_said s 0 (value s) one

-- where the last record is there, so is each; and the number after the last is no put
module _ (s : List ℕ) {count : ℕ} (all : count ≡ (job_of s).count) where
  pub has_record : record_at count + 3 < length s → {o : ℕ} → o ≤ count → HasRecord s o
  unfolding job_of record_at
  has_record last h = record { one = omega (arith, all); there = omega arith }

  pub none_puts : {o : ℕ} → count < o → false ≡ (job_of s).is_put o
  unfolding job_of
  none_puts {o} h = sym (pick_then false (same (action s o) 1) (lt_less (subst (λ (n : ℕ). n < o) all h)))
