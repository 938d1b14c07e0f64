-- One job, one file: two accepted files whose jobs agree field by field are equal. Assumes nothing.
use mathlib.Core.Path.{◌≡◌, sym, ap, ap₂, subst, ◌∙◌}
use mathlib.Core.Logic.{◌⊎◌, inl, inr}
use Prim.Native.Nat.{ℕ, zero, suc, ◌+◌, ◌-◌, ◌*◌, ◌/◌, ◌%◌, ◌≤◌, ◌<◌}
use native.Mathlib.Omega.{arith}
use mathlib.Core.Bool.{true, false}
use mathlib.Core.List.{List}
use lib.ListN.{length}
use lib.Seq.{ext_get_or}
use Rattle.basics.specs.Bytes.{Bytes}
use Rattle.basics.specs.Choice.{less}
use Rattle.basics.specs.Maps.{at}
use Rattle.basics.proofs.Choice.{both, less_lt, less_le}
use Rattle.basics.proofs.Words.{word_parts}
use Rattle.job.specs.declared.Limits.{Limits}
use Rattle.job.specs.Limits.{Sound}
use Rattle.job.specs.Stream.{kind, processes, operations, schedule_length, record_at, process, action, value, scheduled, stream_length}
use Rattle.job.specs.File.{file_of, file_refusal, stream_of}
use Rattle.job.specs.RoundTrip.{SameJob}
use Rattle.job.proofs.Accepted.{accepted_good}
use Rattle.job.proofs.Restored.{restored_file}
use Rattle.job.proofs.View.{stream_bytes, stream_good}

-- a byte of the stream stands in the header, in a record or in the schedule
module _ (s t : List ℕ) (h : Bytes s) (k : Bytes t) (j : SameJob s t) where
  -- the same byte, counted another way
  moved : (i l : ℕ) → i ≡ l → at s i ≡ at t i → at s l ≡ at t l
  moved i l e = subst (λ (n : ℕ). at s n ≡ at t n) e

  header_byte : (i : ℕ) → i < 6 → at s i ≡ at t i
  unfolding kind processes operations schedule_length
  header_byte zero b = j.kinds
  header_byte (suc zero) b = j.process_counts
  header_byte (suc (suc zero)) b = (word_parts s t 2 h k j.operation_counts).0
  header_byte (suc (suc (suc zero))) b = (word_parts s t 2 h k j.operation_counts).1
  header_byte (suc (suc (suc (suc zero)))) b = (word_parts s t 4 h k j.step_counts).0
  header_byte (suc (suc (suc (suc (suc zero))))) b = (word_parts s t 4 h k j.step_counts).1
  header_byte (suc (suc (suc (suc (suc (suc i)))))) b = absurd (omega arith)

  record_byte : (o : ℕ) → 1 ≤ o → o ≤ operations s → (r : ℕ) → r < 4 → at s (2 + 4 * o + r) ≡ at t (2 + 4 * o + r)
  unfolding process action value record_at
  record_byte o low high zero b = moved (2 + 4 * o) (2 + 4 * o + 0) (omega arith) (j.owners o low high)
  record_byte o low high (suc zero) b = j.actions o low high
  record_byte o low high (suc (suc zero)) b = (word_parts s t (2 + 4 * o + 2) h k (j.values o low high)).0
  record_byte o low high (suc (suc (suc zero))) b = moved (suc (2 + 4 * o + 2)) (2 + 4 * o + 3) (omega arith) (word_parts s t (2 + 4 * o + 2) h k (j.values o low high)).1
  record_byte o low high (suc (suc (suc (suc r)))) b = absurd (omega arith)

  each_byte : (i : ℕ) → i < stream_length s → at s i ≡ at t i
  unfolding stream_length scheduled
  each_byte i b = by_header (both (less i 6))
    where
      by_list : 6 ≤ i → (less i (6 + 4 * operations s) ≡ true) ⊎ (less i (6 + 4 * operations s) ≡ false) → at s i ≡ at t i
      by_list past (inl e) =
          let within : i < 6 + 4 * operations s = less_lt e in
          moved (2 + 4 * ((i - 2) / 4) + (i - 2) % 4) i (omega arith) (record_byte ((i - 2) / 4) (omega arith) (omega arith) ((i - 2) % 4) (omega arith))
      by_list past (inr e) =
          let behind : 6 + 4 * operations s ≤ i = less_le e in
          let step : ℕ = i - (5 + 4 * operations s) in
          moved (5 + 4 * operations s + step) i (omega arith)
          (j.entries step (omega arith) (omega arith) ∙ ap (λ (n : ℕ). at t (5 + 4 * n + step)) (sym j.operation_counts))

      by_header : (less i 6 ≡ true) ⊎ (less i 6 ≡ false) → at s i ≡ at t i
      by_header (inl e) = header_byte i (less_lt e)
      by_header (inr e) = by_list (less_le e) (both (less i (6 + 4 * operations s)))

  same_stream : length s ≡ stream_length s → length t ≡ stream_length t → s ≡ t
  unfolding at stream_length
  same_stream p q =
      ext_get_or 0 s t (p ∙ ap₂ (λ (n l : ℕ). 6 + 4 * n + l) j.operation_counts j.step_counts ∙ sym q) (λ i b. each_byte i (omega arith))

pub one_job_one_file : {l : Limits} → Sound l → (f g : List ℕ) → Bytes f → Bytes g → file_refusal l f ≡ 0 → file_refusal l g ≡ 0 → SameJob (stream_of f) (stream_of g) → f ≡ g
one_job_one_file {l} sound f g h k p q j =
    let streams : stream_of f ≡ stream_of g =
    same_stream (stream_of f) (stream_of g) (stream_bytes f h) (stream_bytes g k) j
    (stream_good f (accepted_good l f p)).size (stream_good g (accepted_good l g q)).size
    in
    sym (restored_file sound f h p) ∙ ap file_of streams ∙ restored_file sound g k q
