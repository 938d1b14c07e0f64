-- "An undamaged file comes out the same." Assumes nothing.
use mathlib.Core.Path.{◌≡◌, sym, ap, ap₂, ◌∙◌}
use Prim.Native.Nat.{ℕ, ◌+◌, ◌*◌, ◌≤◌, min}
use native.Mathlib.Omega.{arith}
use mathlib.Core.List.{List, ◌++◌}
use lib.ListN.{length, take, drop}
use lib.Seq.{take-add, drop-drop}
use Rattle.basics.specs.Bytes.{Bytes}
use Rattle.basics.specs.Words.{word_bytes}
use Rattle.basics.proofs.Choice.{le_less}
use Rattle.basics.proofs.Words.{word_bytes_at}
use Rattle.job.specs.declared.Limits.{Limits}
use Rattle.job.specs.Limits.{Sound}
use Rattle.job.specs.Stream.{operations, schedule_length, stream_length}
use Rattle.job.specs.Refusals.{exact_count, bad_records, bad_schedule, header_conditions, list_conditions}
use Rattle.job.specs.File.{block_count, payloads, joined, file_of, file_refusal, stream_of}
use Rattle.job.proofs.Accepted.{GoodFile, accepted_good}
use Rattle.job.proofs.Blocks.{each_accepted}
use Rattle.job.proofs.Conditions.{unmet_zero}
use Rattle.job.proofs.Restored.{restored_file}
use Rattle.job.proofs.View.{joined_bytes, stream_room, stream_good}
use Rattle.remains.specs.Kept.{intact_blocks, intact, kept_blocks, kept, records_end, entries_kept, shortened}
use Rattle.remains.specs.Salvage.{cut_records, kept_conditions, kept_refusal, salvage_refusal, salvaged, kept_entries, named_entries}
use Rattle.remains.specs.Claims.{Undamaged}
use Rattle.remains.proofs.Leading.{leading_all}

-- a stream that is all there keeps its entries, and is shortened to itself
module _ (s : List ℕ) (there : stream_length s ≤ length s) where
  all_kept : entries_kept s ≡ schedule_length s
  unfolding entries_kept records_end stream_length
  all_kept = omega arith

  itself : Bytes s → shortened s ≡ take (stream_length s) s
  unfolding shortened stream_length schedule_length
  itself h =
      let n : ℕ = 4 * operations s + schedule_length s in
      ap (λ (a : ℕ). take 4 s ++ (word_bytes a ++ take (4 * operations s + a) (drop 6 s))) all_kept
      ∙ ap₂ (λ (x y : List ℕ). take 4 s ++ (x ++ take n y)) (sym (word_bytes_at s 4 h (omega arith))) (sym (drop-drop 2 4 s))
      ∙ ap (λ (x : List ℕ). take 4 s ++ x) (sym (take-add 2 n (drop 4 s)))
      ∙ sym (take-add 4 (2 + n) s)
      ∙ ap (λ (k : ℕ). take k s) (let e : 4 + (2 + n) ≡ 6 + 4 * operations s + schedule_length s = omega arith in e)

module _ {l : Limits} (sound : Sound l) (file : List ℕ) (h : Bytes file) (accepted : file_refusal l file ≡ 0) where
  good : GoodFile l file
  good = accepted_good l file accepted

  all_intact : intact_blocks file ≡ block_count file
  unfolding intact_blocks
  all_intact = leading_all file 0 (block_count file) (each_accepted file 0 (block_count file) good.blocks)

  kept_joined : kept file ≡ joined file
  unfolding kept kept_blocks intact joined
  kept_joined =
      let wanted : exact_count (payloads file 0 (intact_blocks file)) ≡ block_count file = ap (λ (n : ℕ). exact_count (payloads file 0 n)) all_intact ∙ sym good.count in
      ap (payloads file 0) (let e : min (intact_blocks file) (exact_count (payloads file 0 (intact_blocks file))) ≡ block_count file = omega (arith, all_intact) in e)

  there : stream_length (joined file) ≤ length (joined file)
  there = stream_room file good

  shortened_is : shortened (kept file) ≡ stream_of file
  unfolding stream_of
  shortened_is = ap shortened kept_joined ∙ itself (joined file) there (joined_bytes file h)

  none_met : salvage_refusal l file ≡ 0
  unfolding salvage_refusal kept_refusal kept_conditions header_conditions list_conditions cut_records records_end stream_length
  none_met =
      let s : List ℕ = joined file in
      let f = good.fine in
      let g = (stream_good file good).fine in
      let whole : shortened s ≡ stream_of file = sym (ap shortened kept_joined) ∙ shortened_is in
      ap (kept_refusal l) kept_joined
      ∙ unmet_zero (kept_conditions l s)
      (le_less (omega (arith, there)), (f.kind, (f.processes, (f.operations, (f.steps, (le_less (omega (arith, there)), (ap bad_records whole ∙ g.records, (ap bad_schedule whole ∙ g.schedule, tt))))))))

  pub undamaged : Undamaged l file
  unfolding salvaged kept_entries named_entries
  undamaged =
      record {
        number = none_met;
        unchanged = ap file_of shortened_is ∙ restored_file sound file h accepted;
        all_entries = ap entries_kept kept_joined ∙ all_kept (joined file) there ∙ ap schedule_length (sym kept_joined);
      }
