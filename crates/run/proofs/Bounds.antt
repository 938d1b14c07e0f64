-- What the code reads of a stream that is ready lies in it, and is what the job says. Assumes nothing.
use mathlib.Core.Path.{◌≡◌, sym, ap, subst}
use Prim.Native.Nat.{ℕ, ◌+◌, ◌*◌, ◌≤◌, ◌<◌}
use native.Mathlib.Omega.{arith}
use mathlib.Core.List.{List}
use lib.ListN.{length}
use Rattle.job.specs.declared.Heading.{Heading}
use Rattle.job.specs.Limits.{field}
use Rattle.job.specs.Slot.{process_of}
use Rattle.job.specs.Stream.{record_at}
use Rattle.job.specs.Job.{job_of}
use Rattle.job.proofs.Recorded.{owner_said}
use Rattle.job.proofs.Ready.{record_there, entry_there}
use Rattle.theory.proofs.Nobody.{Free}
use Rattle.run.specs.Promise.{Runnable, run_places}

module _ {stream : List ℕ} {job : Heading} (r : Runnable stream job) where
  pub its_count : job.count ≡ (job_of stream).count
  its_count = ap (λ (h : Heading). h.count) r.told

  its_steps : job.steps ≡ (job_of stream).steps
  its_steps = ap (λ (h : Heading). h.steps) r.told

  pub few : job.count ≤ field.operations
  unfolding job_of
  few = subst (λ n. n ≤ field.operations) (sym its_count) r.ready.rows

  pub short : job.steps ≤ field.steps
  unfolding job_of
  short = subst (λ n. n ≤ field.steps) (sym its_steps) r.ready.cells

  -- the records of its operations
  pub record_read : (o : ℕ) → o ≤ job.count → record_at o + 3 < length stream
  unfolding job_of
  record_read o h = record_there r.ready o (omega (arith, its_count))

  -- the entries of its schedule, each of one of eight processes, or nobody's
  pub entry_read : (k : ℕ) → k ≤ job.steps → 5 + 4 * job.count + k < length stream
  unfolding job_of
  entry_read k h = omega (arith, its_count, entry_there r.ready k (omega (arith, its_steps)))

  pub entry_in_range : (k : ℕ) → 1 ≤ k → k ≤ job.steps → process_of ((job_of stream).slot k) < run_places
  unfolding job_of
  entry_in_range k low high = omega (arith, r.ready.places k low (omega (arith, its_steps)))

  -- and nobody has an operation
  pub free : Free (job_of stream)
  unfolding job_of
  free o op e = omega (arith, e, owner_said stream op.to_count, r.ready.owners o op.from_one op.to_count)
