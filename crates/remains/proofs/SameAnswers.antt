-- "Where the kept blocks are those of the undamaged file, operations that ended in the kept steps have the answers of the undamaged job": the job that comes
-- out is the undamaged one cut short. Assumes nothing.
use mathlib.Core.Path.{◌≡◌, sym, ap, subst, fun_ext, ◌∙◌}
use mathlib.Core.Logic.{◌⊎◌, inl, inr}
use Prim.Native.Nat.{ℕ, zero, suc, ◌+◌, ◌*◌, ◌≤◌, ◌<◌, min}
use native.Mathlib.Omega.{arith}
use mathlib.Core.Bool.{false}
use mathlib.Core.List.{List}
use lib.ListN.{length, take, get_or-append}
use lib.Seq.{get_or-take}
use Rattle.basics.specs.Choice.{same}
use Rattle.basics.specs.Maps.{at}
use Rattle.basics.proofs.Choice.{compare, pick_then, pick_else, lt_less, le_less}
use Rattle.block.specs.Block.{block_size, payload_size, payload_of}
use Rattle.block.proofs.Accepted.{length_payload}
use Rattle.job.specs.declared.Limits.{Limits}
use Rattle.job.specs.Limits.{Sound}
use Rattle.job.specs.Kind.{kind_of, kind_found}
use Rattle.job.specs.Slot.{slot_of}
use Rattle.job.specs.Stream.{operations, schedule_length, record_at, process, action, stream_length}
use Rattle.job.specs.Refusals.{exact_count}
use Rattle.job.specs.File.{block_at, block_count, payloads, joined, file_refusal, stream_of}
use Rattle.job.specs.Job.{recorded, job_of}
use Rattle.job.proofs.Accepted.{GoodFile, accepted_good}
use Rattle.job.proofs.Alike.{stream_length_alike}
use Rattle.job.proofs.Blocks.{length_block_at}
use Rattle.job.proofs.Table.{exact_room}
use Rattle.job.proofs.View.{stream_alike}
use Rattle.theory.specs.Short.{CutShort, KeptRun}
use Rattle.theory.proofs.Short.{kept_run}
use Rattle.remains.specs.Kept.{intact, kept_blocks, kept, records_end, entries_kept, shortened}
use Rattle.remains.specs.Salvage.{salvage_refusal, salvaged}
use Rattle.remains.specs.Claims.{BlocksOf}
use Rattle.remains.proofs.Leading.{payloads_first, payloads_same, length_full}
use Rattle.remains.proofs.Front.{SameHeader, header_of_front, operations_same, steps_same, exact_same}
use Rattle.remains.proofs.Looked.{intact_full, kept_front}
use Rattle.remains.proofs.AllButCount.{SameButCount, kind_kept, operations_kept, first_entries}
use Rattle.remains.proofs.Proper.{remains, kept_but_count, stream_salvaged}

-- a stream with another's bytes up to its `n`-th entry has its job, cut short
module _ {n : ℕ} {s t : List ℕ} (a : SameButCount n s t) where
  -- what both say of an operation in the first two bytes of its record; those of operation 0 are the count of operations
  recorded_kept : {A : Type 0} (none : A) (f : ℕ → A) (place : ℕ → ℕ) → ((o : ℕ) → (2 + 4 * o ≤ place o) × (place o < 4 + 4 * o))
      → recorded t none (λ o. f (at t (place o))) ≡ recorded s none (λ o. f (at s (place o)))
  recorded_kept none f place near = fun_ext (λ o. by_count o (compare o (operations s)))
    where
      by_place : (o : ℕ) → o ≤ operations s → (1 ≤ o) ⊎ (o < 1) → at t (place o) ≡ at s (place o)
      by_place o h (inl low) = a.behind (place o) (omega (arith, near o)) (omega (arith, near o))
      by_place o h (inr low) = a.front (place o) (omega (arith, near o))

      by_count : (o : ℕ) → (o ≤ operations s) ⊎ (operations s < o) → recorded t none (λ o. f (at t (place o))) o ≡ recorded s none (λ o. f (at s (place o))) o
      by_count o (inl h) = pick_else none _ (le_less (omega (arith, operations_kept a))) ∙ ap f (by_place o h (compare 1 o)) ∙ sym (pick_else none _ (le_less h))
      by_count o (inr h) = pick_then none _ (lt_less (omega (arith, operations_kept a))) ∙ sym (pick_then none _ (lt_less h))

  pub job_cut_short : CutShort (job_of s) (job_of t)
  unfolding job_of process action record_at
  job_cut_short =
      record {
        objects = ap (λ (k : ℕ). kind_found (kind_of k)) (kind_kept a);
        counts = operations_kept a;
        owners = recorded_kept 0 (λ x. x) (λ o. 2 + 4 * o) (λ o. (omega arith, omega arith));
        puts = recorded_kept false (λ x. same x 1) (λ o. 2 + 4 * o + 1) (λ o. (omega arith, omega arith));
        fewer = omega (arith, a.count, a.no_more);
        entries = λ k low high. ap slot_of ((first_entries a).entries k low (omega (arith, a.count)));
      }

six_fit : 6 ≤ payload_size
unfolding payload_size
six_fit = omega arith

-- the header stands in the first block
header_in_first : (f : List ℕ) (m : ℕ) → block_size ≤ length f → 1 ≤ m → SameHeader (payloads f 0 m) (payload_of (block_at f 0))
unfolding payloads at block_size
header_in_first f zero one some = absurd (omega arith)
header_in_first f (suc m) one some =
    let size : length (payload_of (block_at f 0)) ≡ payload_size = length_payload (block_at f 0) (length_block_at f 0 (omega arith)) in
    record { byte = λ i h. get_or-append (payload_of (block_at f 0)) (payloads f 1 m) 0 i (omega (arith, size, six_fit)) }

-- the same bytes as far as the kept blocks go
module _ {l : Limits} (sound : Sound l) (file whole : List ℕ) (accepted : salvage_refusal l file ≡ 0) (undamaged : file_refusal l whole ≡ 0) (b : BlocksOf whole file) where
  good : GoodFile l whole
  good = accepted_good l whole undamaged

  abbrev n : ℕ
  n = kept_blocks file

  kept_of_whole : kept file ≡ payloads whole 0 n
  unfolding kept
  kept_of_whole = payloads_same file whole n b.each

  -- the header is there, so at least one block is kept, and no more than the header asks for
  length_kept : length (kept file) ≡ payload_size * n
  unfolding kept kept_blocks block_size
  length_kept = length_full file n (omega (arith, intact_full file))

  some_kept : 1 ≤ n
  unfolding payload_size
  some_kept = omega (arith, length_kept, (remains sound file accepted).header_there)

  wanted : n ≤ exact_count (kept file)
  unfolding kept_blocks payload_size stream_length
  wanted =
      let room : stream_length (intact file) ≤ payload_size * exact_count (intact file) = exact_room (intact file) in
      let same : exact_count (intact file) ≡ exact_count (kept file) = exact_same (header_of_front (intact file) (payload_size * exact_count (intact file)) (omega arith)) ∙ ap exact_count (sym (kept_front file)) in
      omega arith

  header_of_whole : SameHeader (payloads whole 0 n) (joined whole)
  unfolding joined block_size
  header_of_whole =
      let one : block_size ≤ length whole = omega (arith, good.sized.least, good.sized.whole) in
      let x : SameHeader (payloads whole 0 n) (payload_of (block_at whole 0)) = header_in_first whole n one some_kept in
      let y : SameHeader (payloads whole 0 (block_count whole)) (payload_of (block_at whole 0)) = header_in_first whole (block_count whole) one good.sized.least in
      record { byte = λ i h. x.byte i h ∙ sym (y.byte i h) }

  within : n ≤ block_count whole
  within = omega (arith, wanted, ap exact_count kept_of_whole, exact_same header_of_whole, good.count)

  kept_front_of_whole : kept file ≡ take (payload_size * n) (joined whole)
  unfolding joined block_size
  kept_front_of_whole =
      kept_of_whole
      ∙ ap (payloads whole 0) (let e : n ≡ min (block_count whole) n = omega (arith, within) in e)
      ∙ payloads_first whole (block_count whole) (omega (arith, good.sized.whole)) n

  byte_of_whole : (i : ℕ) → i < length (kept file) → i < stream_length (joined whole) → at (kept file) i ≡ at (stream_of whole) i
  unfolding at
  byte_of_whole i h within_stream =
      ap (λ (x : List ℕ). at x i) kept_front_of_whole ∙ get_or-take (payload_size * n) (joined whole) i 0 (omega (arith, length_kept)) ∙ (stream_alike whole good).byte i within_stream

  -- the header of what is kept is the whole file's
  whole_header : SameHeader (kept file) (stream_of whole)
  unfolding stream_length
  whole_header = record { byte = λ i h. byte_of_whole i (omega (arith, (remains sound file accepted).header_there)) (omega arith) }

  kept_but_count_of_whole : SameButCount (entries_kept (kept file)) (stream_of whole) (shortened (kept file))
  unfolding entries_kept records_end stream_length
  kept_but_count_of_whole =
      let there : records_end (kept file) ≤ length (kept file) = (remains sound file accepted).records_there in
      let count : operations (kept file) ≡ operations (stream_of whole) = operations_same whole_header in
      let steps : schedule_length (kept file) ≡ schedule_length (stream_of whole) = steps_same whole_header in
      let long : stream_length (joined whole) ≡ stream_length (stream_of whole) = stream_length_alike (stream_alike whole good) in
      let a = kept_but_count sound (kept file) (remains sound file accepted).header there in
      record {
        front = λ i h. a.front i h ∙ whole_header.byte i (omega arith);
        behind = λ i low high. a.behind i low (omega arith) ∙ byte_of_whole i (omega arith) (omega arith);
        count = a.count;
        no_more = omega (arith, a.no_more);
      }

  -- so the job that comes out is the whole file's, cut short, and runs as that does
  pub answers_kept : KeptRun (job_of (stream_of whole)) (job_of (stream_of (salvaged file)))
  answers_kept =
      subst (λ (x : List ℕ). KeptRun (job_of (stream_of whole)) (job_of x)) (sym (stream_salvaged sound file accepted))
      (kept_run (job_of (stream_of whole)) (job_of (shortened (kept file))) (job_cut_short kept_but_count_of_whole))
