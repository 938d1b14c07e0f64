-- What a stream that is ready for a run has: every field is there. Assumes nothing.
use Prim.Native.Nat.{ℕ, ◌+◌, ◌*◌, ◌≤◌, ◌<◌}
use native.Mathlib.Omega.{arith}
use mathlib.Core.List.{List}
use lib.ListN.{length}
use Rattle.job.specs.Stream.{operations, schedule_length, record_at, stream_length}
use Rattle.job.specs.Ready.{Ready}

module _ {s : List ℕ} (r : Ready s) where
  pub header_there : 6 ≤ length s
  unfolding stream_length
  header_there = omega (arith, r.whole)

  pub record_there : (o : ℕ) → o ≤ operations s → record_at o + 3 < length s
  unfolding record_at stream_length
  record_there o h = omega (arith, r.whole)

  pub entry_there : (k : ℕ) → k ≤ schedule_length s → 5 + 4 * operations s + k < length s
  unfolding stream_length
  entry_there k h = omega (arith, r.whole)
