-- What comes out is a proper file: it is accepted, and holds the header, the records and the entries kept. Assumes nothing.
use mathlib.Core.Path.{◌≡◌, sym, ap, subst, ◌∙◌}
use Prim.Native.Nat.{ℕ, ◌+◌, ◌*◌, ◌≤◌}
use native.Mathlib.Omega.{arith}
use mathlib.Core.List.{List}
use lib.ListN.{length, length-replicate}
use Rattle.basics.specs.Choice.{less}
use Rattle.basics.proofs.Choice.{le_less}
use Rattle.job.specs.declared.Limits.{Limits}
use Rattle.job.specs.Limits.{most_file, Sound}
use Rattle.job.specs.Kind.{kind_of, is_missing}
use Rattle.job.specs.Stream.{operations, stream_length}
use Rattle.job.specs.Refusals.{outside, bad_kind, bad_processes, bad_operations, bad_schedule_length}
use Rattle.job.specs.File.{zeros, stream_of}
use Rattle.job.specs.Calls.{write_number}
use Rattle.job.proofs.Accepted.{GoodStream, good_written}
use Rattle.job.proofs.Written.{written_accepted, written_stream}
use Rattle.remains.specs.Kept.{kept, records_end, entries_kept, shortened}
use Rattle.remains.specs.Salvage.{salvage_refusal, salvaged, kept_entries}
use Rattle.remains.specs.Claims.{FirstEntries, Proper}
use Rattle.remains.proofs.AllButCount.{SameButCount, kind_kept, processes_kept, operations_kept, first_entries, length_shortened, same_but_count}
use Rattle.remains.proofs.Unmet.{InRange, Remains, all_unmet, few_steps}

-- a header in range, with all its records
module _ {l : Limits} (sound : Sound l) (s : List ℕ) (h : InRange l s) (there : records_end s ≤ length s) where
  -- no more entries are kept than the limits allow
  pub few_kept : entries_kept s ≤ l.steps
  unfolding entries_kept
  few_kept = omega (arith, few_steps h)

  pub kept_but_count : SameButCount (entries_kept s) s (shortened s)
  kept_but_count = same_but_count s there (omega (arith, few_kept, sound.cells))

  pub shortened_range : InRange l (shortened s)
  unfolding bad_kind bad_processes bad_operations bad_schedule_length
  shortened_range =
      let a = kept_but_count in
      record {
        kinds = ap (λ (n : ℕ). is_missing (kind_of n)) (kind_kept a) ∙ h.kinds;
        process_count = ap (outside 1 l.processes) (processes_kept a) ∙ h.process_count;
        operation_count = ap (outside 1 l.operations) (operations_kept a) ∙ h.operation_count;
        step_count = ap (less l.steps) a.count ∙ le_less few_kept;
      }

  pub shortened_size : length (shortened s) ≡ stream_length (shortened s)
  unfolding stream_length
  shortened_size =
      let a = kept_but_count in
      let n : length (shortened s) ≡ 6 + 4 * operations s + entries_kept s = length_shortened s there in
      omega (arith, a.count, operations_kept a)

pub shortened_good : {l : Limits} → Sound l → (s : List ℕ) → Remains l s → GoodStream l (shortened s)
shortened_good {l} sound s r =
    let h = shortened_range sound s r.header r.records_there in
    record {
      size = shortened_size sound s r.header r.records_there;
      fine = record { kind = h.kinds; processes = h.process_count; operations = h.operation_count; steps = h.step_count; records = r.records; schedule = r.schedule };
    }

module _ {l : Limits} (sound : Sound l) (file : List ℕ) (accepted : salvage_refusal l file ≡ 0) where
  pub remains : Remains l (kept file)
  unfolding salvage_refusal
  remains = all_unmet l (kept file) accepted

  -- the writer takes the shortened stream, in an output that is large enough
  taken : write_number l (shortened (kept file)) (zeros (most_file l)) ≡ 0
  unfolding zeros
  taken = good_written l (shortened (kept file)) (zeros (most_file l)) (omega (arith, length-replicate {A = ℕ} (most_file l) 0)) (shortened_good sound (kept file) remains)

  pub stream_salvaged : stream_of (salvaged file) ≡ shortened (kept file)
  unfolding salvaged
  stream_salvaged = written_stream sound (shortened (kept file)) (zeros (most_file l)) taken

  pub proper : Proper l file
  unfolding salvaged kept_entries
  proper =
      record {
        accepted = written_accepted sound (shortened (kept file)) (zeros (most_file l)) taken;
        its_job = subst (FirstEntries (entries_kept (kept file)) (kept file)) (sym stream_salvaged) (first_entries (kept_but_count sound (kept file) remains.header remains.records_there));
      }
