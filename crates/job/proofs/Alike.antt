-- Two lists that are alike as far as the first one's stream goes hold the same stream: every field, and every condition but the
-- padding's. Assumes nothing.
use mathlib.Core.Path.{◌≡◌, refl, sym, ap, ap₂, ◌∙◌}
use Prim.Native.Nat.{ℕ, zero, suc, ◌+◌, ◌-◌, ◌*◌, ◌/◌, ◌≤◌, ◌<◌}
use native.Mathlib.Omega.{arith}
use mathlib.Core.Bool.{Bool, ◌||◌}
use mathlib.Core.List.{List}
use Rattle.basics.specs.Choice.{less}
use Rattle.basics.specs.Maps.{at}
use Rattle.basics.specs.Words.{word}
use Rattle.block.specs.Block.{payload_size}
use Rattle.job.specs.declared.Limits.{Limits}
use Rattle.job.specs.Kind.{kind_of, is_missing}
use Rattle.job.specs.Stream.{kind, processes, operations, schedule_length, record_at, process, action, value, scheduled, stream_length}
use Rattle.job.specs.Refusals.{any, outside, exact_count, bad_kind, bad_processes, bad_operations, bad_schedule_length, bad_record, bad_records, bad_entry, bad_schedule}
use Rattle.job.proofs.Accepted.{Fine}

any_alike : (f g : ℕ → Bool) (i n : ℕ) → ((j : ℕ) → i ≤ j → j < i + n → f j ≡ g j) → any f i n ≡ any g i n
unfolding any
any_alike f g i zero h = refl
any_alike f g i (suc n) h = ap₂ ◌||◌ (h i (omega arith) (omega arith)) (any_alike f g (suc i) n (λ j a b. h j (omega arith) (omega arith)))

pub record Alike (s t : List ℕ) : Type 0 where
  pub byte : (i : ℕ) → i < stream_length s → at s i ≡ at t i

module _ {s t : List ℕ} (a : Alike s t) where
  -- a number of two bytes of the stream
  word_alike : (i : ℕ) → suc i < stream_length s → word s i ≡ word t i
  unfolding word
  word_alike i h = ap₂ (λ (x y : ℕ). 256 * x + y) (a.byte i (omega arith)) (a.byte (suc i) h)

  kind_alike : kind s ≡ kind t
  unfolding kind stream_length
  kind_alike = a.byte 0 (omega arith)

  processes_alike : processes s ≡ processes t
  unfolding processes stream_length
  processes_alike = a.byte 1 (omega arith)

  operations_alike : operations s ≡ operations t
  unfolding operations stream_length
  operations_alike = word_alike 2 (omega arith)

  schedule_length_alike : schedule_length s ≡ schedule_length t
  unfolding schedule_length stream_length
  schedule_length_alike = word_alike 4 (omega arith)

  pub stream_length_alike : stream_length s ≡ stream_length t
  unfolding stream_length
  stream_length_alike = ap₂ (λ (n k : ℕ). 6 + 4 * n + k) operations_alike schedule_length_alike

  pub exact_count_alike : exact_count s ≡ exact_count t
  unfolding exact_count
  exact_count_alike = ap (λ (l : ℕ). (l + (payload_size - 1)) / payload_size) stream_length_alike

  record_alike : (o : ℕ) → 1 ≤ o → o < 1 + operations s → bad_record s o ≡ bad_record t o
  unfolding bad_record process action value record_at stream_length
  record_alike o low high =
      let own : process s o ≡ process t o = a.byte (2 + 4 * o) (omega arith) in
      let act : action s o ≡ action t o = a.byte (2 + 4 * o + 1) (omega arith) in
      let val : value s o ≡ value t o = word_alike (2 + 4 * o + 2) (omega arith) in
      simp (own, act, val, processes_alike)

  entry_alike : (k : ℕ) → 1 ≤ k → k < 1 + schedule_length s → bad_entry s k ≡ bad_entry t k
  unfolding bad_entry scheduled stream_length
  entry_alike k low high =
      let step : scheduled s k ≡ scheduled t k = a.byte (5 + 4 * operations s + k) (omega arith) ∙ ap (λ (n : ℕ). at t (5 + 4 * n + k)) operations_alike in
      simp (step, processes_alike)

  pub fine_alike : {l : Limits} → Fine l s → Fine l t
  unfolding bad_kind bad_processes bad_operations bad_schedule_length bad_records bad_schedule
  fine_alike {l} f =
      record {
        kind = ap (λ (n : ℕ). is_missing (kind_of n)) (sym kind_alike) ∙ f.kind;
        processes = ap (outside 1 l.processes) (sym processes_alike) ∙ f.processes;
        operations = ap (outside 1 l.operations) (sym operations_alike) ∙ f.operations;
        steps = ap (less l.steps) (sym schedule_length_alike) ∙ f.steps;
        records = ap (any (bad_record t) 1) (sym operations_alike) ∙ sym (any_alike (bad_record s) (bad_record t) 1 (operations s) record_alike) ∙ f.records;
        schedule = ap (any (bad_entry t) 1) (sym schedule_length_alike) ∙ sym (any_alike (bad_entry s) (bad_entry t) 1 (schedule_length s) entry_alike) ∙ f.schedule;
      }
