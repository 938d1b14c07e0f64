-- How the search for a process's next operation goes on: it ends at what it finds, or past the last one. Assumes nothing.
use mathlib.Core.Path.{◌≡◌, ap, ◌∙◌}
use Prim.Native.Nat.{ℕ, suc, ◌+◌, ◌-◌, ◌≤◌, ◌<◌}
use native.Mathlib.Omega.{arith}
use mathlib.Core.Bool.{Bool, true, false}
use Rattle.basics.specs.Choice.{same}
use Rattle.basics.proofs.Choice.{pick_then, pick_else}
use Rattle.job.specs.Job.{Job, job_of}
use Rattle.machine.specs.Run.{seek, operation_after}
use Rattle.hands.specs.declared.Source.{Source}

-- the search for p's operation among those from i to N
unfoldable pub search_from : Job → ℕ → ℕ → ℕ
search_from j p i = seek (λ o. same (j.owner o) p) i (suc j.count - i)

seek_found : (f : ℕ → Bool) (i count : ℕ) → f i ≡ true → seek f i (suc count) ≡ i
unfolding seek
seek_found f i count e = pick_then i _ e

seek_passed : (f : ℕ → Bool) (i count : ℕ) → f i ≡ false → seek f i (suc count) ≡ seek f (suc i) count
unfolding seek
seek_passed f i count e = pick_else i _ e

module _ (j : Job) (p : ℕ) where
  pub search_begins : (o : ℕ) → o ≤ j.count → operation_after j p o ≡ search_from j p (o + 1)
  unfolding operation_after search_from
  search_begins o h =
      let next : suc o ≡ o + 1 = omega arith in
      let rest : j.count - o ≡ suc j.count - (o + 1) = omega arith in
      λ x. seek (λ q. same (j.owner q) p) (next x) (rest x)

  pub search_finds : (i : ℕ) → i ≤ j.count → same (j.owner i) p ≡ true → search_from j p i ≡ i
  unfolding search_from
  search_finds i h e =
      let more : suc j.count - i ≡ suc (j.count - i) = omega arith in
      ap (seek (λ o. same (j.owner o) p) i) more ∙ seek_found _ i _ e

  pub search_passes : (i : ℕ) → i ≤ j.count → same (j.owner i) p ≡ false → search_from j p i ≡ search_from j p (i + 1)
  unfolding search_from
  search_passes i h e =
      let more : suc j.count - i ≡ suc (j.count - i) = omega arith in
      let less : j.count - i ≡ suc j.count - (i + 1) = omega arith in
      let next : suc i ≡ i + 1 = omega arith in
      ap (seek (λ o. same (j.owner o) p) i) more
      ∙ seek_passed _ i _ e
      ∙ (λ x. seek (λ o. same (j.owner o) p) (next x) (less x))

  pub search_ends : (i : ℕ) → j.count < i → search_from j p i ≡ i
  unfolding search_from seek
  search_ends i h = ap (seek (λ o. same (j.owner o) p) i) (let e : suc j.count - i ≡ 0 = omega arith in e)

-- a source's heading says how many operations its job has
pub counts : (s : Source) → s.heading.count ≡ (job_of s.stream.now).count
counts s = s.counted
