-- One view of an accepted file, for any limits: its joined payloads, the stream in them, and that stream with zeros behind it, which is what
-- the work memory holds. Each is read everywhere as the others are. Assumes nothing.
use mathlib.Core.Path.{◌≡◌, refl, sym, ap, fun_ext, ◌∙◌}
use Prim.Native.Nat.{ℕ, zero, suc, ◌+◌, ◌-◌, ◌*◌, ◌≤◌, ◌<◌}
use native.Mathlib.Omega.{arith}
use mathlib.Core.Bool.{false, not, ◌||◌, ◌&&◌}
use mathlib.Core.List.{List, [], ◌∷◌, ◌++◌}
use borrow.Author.Tests.{not-false}
use lib.ListN.{length, drop, get_or, replicate, length-append, length-replicate, get_or-replicate, length-drop, take-append-drop}
use lib.Seq.{get_or-take, get_or-drop, ext_get_or, length-take-le}
use Rattle.basics.specs.Bytes.{Bytes}
use Rattle.basics.specs.Choice.{pick, same, less}
use Rattle.basics.specs.Maps.{at}
use Rattle.basics.specs.Words.{word}
use Rattle.basics.proofs.Bytes.{bytes_none, bytes_append, bytes_take, bytes_drop}
use Rattle.basics.proofs.Choice.{same_equal, less_lt, less_le}
use Rattle.block.specs.Block.{block_size, payload_size, payload_of}
use Rattle.job.specs.declared.Limits.{Limits}
use Rattle.job.specs.Limits.{most_stream, Sound}
use Rattle.job.specs.Kind.{kind_of, kind_found}
use Rattle.job.specs.Slot.{slot_of, process_of}
use Rattle.job.specs.Stream.{kind, processes, operations, schedule_length, record_at, process, action, value, scheduled, stream_length}
use Rattle.job.specs.Refusals.{outside, bad_padding, bad_processes, bad_record, bad_records, bad_schedule, bad_entry}
use Rattle.job.specs.File.{zeros, block_at, block_count, payloads, joined, stream_of, zeros_behind, zero_filled}
use Rattle.job.specs.Job.{job_of}
use Rattle.job.specs.Ready.{Ready, Named}
use Rattle.job.proofs.Accepted.{Fine, Sized, GoodFile, GoodStream}
use Rattle.job.proofs.Alike.{Alike, fine_alike, stream_length_alike}
use Rattle.job.proofs.Blocks.{length_payloads}
use Rattle.job.proofs.Conditions.{any_each, or_both}
use Rattle.job.proofs.Padded.{fine_counts}
use Rattle.job.proofs.Table.{exact_room}

-- what a file of bytes holds is bytes
payloads_bytes : (file : List ℕ) (i n : ℕ) → Bytes file → Bytes (payloads file i n)
unfolding payloads payload_of block_at
payloads_bytes file i zero h = bytes_none
payloads_bytes file i (suc n) h =
    bytes_append _ _ (bytes_take payload_size _ (bytes_drop 2 _ (bytes_take block_size _ (bytes_drop (block_size * i) file h))))
    (payloads_bytes file (suc i) n h)

pub joined_bytes : (file : List ℕ) → Bytes file → Bytes (joined file)
unfolding joined
joined_bytes file h = payloads_bytes file 0 (block_count file) h

pub stream_bytes : (file : List ℕ) → Bytes file → Bytes (stream_of file)
unfolding stream_of
stream_bytes file h = bytes_take (stream_length (joined file)) (joined file) (joined_bytes file h)

-- a list of zeros is read as 0 everywhere
pub zero_anywhere : (m i : ℕ) → ◌≡◌ {A = ℕ} (get_or (replicate m 0) i 0) 0
zero_anywhere zero i = refl
zero_anywhere (suc m) zero = refl
zero_anywhere (suc m) (suc i) = zero_anywhere m i

-- zeros behind a list are read as what is not there
at_zeros : (s : List ℕ) (n : ℕ) → at (s ++ zeros n) ≡ at s
unfolding at zeros
at_zeros s n = fun_ext (λ i. go s i)
  where
    go : (s : List ℕ) (i : ℕ) → get_or (s ++ replicate n 0) i 0 ≡ get_or s i 0
    go [] i = zero_anywhere n i
    go (x ∷ s) zero = refl
    go (x ∷ s) (suc i) = go s i

all_zeros : (s : List ℕ) → ((i : ℕ) → i < length s → get_or s i 0 ≡ 0) → s ≡ zeros (length s)
unfolding zeros
all_zeros s h = ext_get_or 0 s (replicate (length s) 0) (sym (length-replicate (length s) 0)) (λ i b. h i b ∙ sym (get_or-replicate (length s) i 0 0 b))

-- jobs of lists that are read alike are the same
job_alike : (s t : List ℕ) → at s ≡ at t → job_of s ≡ job_of t
unfolding job_of kind operations process action value schedule_length scheduled record_at word
job_alike s t e =
    λ i.
    record {
      object = kind_found (kind_of (e i 0));
      count = 256 * e i 2 + e i 3;
      owner = λ o. pick (less (256 * e i 2 + e i 3) o) 0 (e i (2 + 4 * o));
      is_put = λ o. pick (less (256 * e i 2 + e i 3) o) false (same (e i (2 + 4 * o + 1)) 1);
      field = λ o. pick (less (256 * e i 2 + e i 3) o) 0 (256 * e i (2 + 4 * o + 2) + e i (suc (2 + 4 * o + 2)));
      steps = 256 * e i 4 + e i 5;
      slot = λ k. slot_of (e i (5 + 4 * (256 * e i 2 + e i 3) + k));
    }

-- number 6 turns back more processes than the limits have
pub fine_processes : {l : Limits} {s : List ℕ} → Fine l s → processes s ≤ l.processes
unfolding bad_processes outside
fine_processes {l} {s} f = less_le (or_both (less (processes s) 1) (less l.processes (processes s)) f.processes).1

-- every entry of a stream in range names a process that a run has a place for
fine_named : {l : Limits} {s : List ℕ} → Sound l → Fine l s → Named s
unfolding bad_schedule bad_entry
fine_named {l} {s} sound f =
    let entry : (k : ℕ) → 1 ≤ k → k < 1 + schedule_length s → process_of (slot_of (scheduled s k)) < processes s =
    λ k low high. less_lt (not-false (less (process_of (slot_of (scheduled s k))) (processes s)) (any_each (bad_entry s) 1 (schedule_length s) f.schedule k low high))
    in
    record { each = λ k low high. omega (arith, entry k low (omega arith), fine_processes f, sound.places) }

-- number 10 turns back an operation whose process is P or more
pub fine_owner : {l : Limits} {s : List ℕ} → Fine l s → (o : ℕ) → 1 ≤ o → o ≤ operations s → process s o < processes s
unfolding bad_records bad_record
fine_owner {s = s} f o low high =
    let fine : bad_record s o ≡ false = any_each (bad_record s) 1 (operations s) f.records o low (omega arith) in
    let its_process : not (less (process s o) (processes s)) || outside 1 2 (action s o) ≡ false = (or_both (not (less (process s o) (processes s)) || outside 1 2 (action s o)) (same (action s o) 2 && not (same (value s o) 0)) fine).0 in
    less_lt (not-false (less (process s o) (processes s)) (or_both (not (less (process s o) (processes s))) (outside 1 2 (action s o)) its_process).0)

-- a stream in range, as long as the longest, is ready for a run
fine_ready : {l : Limits} {s : List ℕ} → Sound l → Fine l s → length s ≡ most_stream l → Ready s
unfolding stream_length
fine_ready {l} {s} sound f long =
    let few : operations s ≤ l.operations = (fine_counts f).0 in
    let short : schedule_length s ≤ l.steps = (fine_counts f).1 in
    record {
      rows = omega (arith, sound.rows);
      cells = omega (arith, sound.cells);
      places = λ k low high. omega (arith, (fine_named sound f).each k low high);
      owners = λ o low high. omega (arith, fine_owner f o low high, fine_processes f, sound.places);
      whole = omega (arith, sound.stream_fits);
    }

pub length_joined : {l : Limits} (file : List ℕ) → Sized l file (block_count file) → length (joined file) ≡ payload_size * block_count file
unfolding joined
length_joined file z = length_payloads file (block_count file) z.whole

module _ {l : Limits} (file : List ℕ) (g : GoodFile l file) where
  pub stream_room : stream_length (joined file) ≤ length (joined file)
  unfolding payload_size
  stream_room = omega (arith, length_joined file g.sized, g.count, exact_room (joined file))

  pub stream_alike : Alike (joined file) (stream_of file)
  unfolding stream_of at
  stream_alike = record { byte = λ i h. sym (get_or-take (stream_length (joined file)) (joined file) i 0 h) }

  pub length_stream : length (stream_of file) ≡ stream_length (joined file)
  unfolding stream_of
  length_stream = length-take-le (stream_length (joined file)) (joined file) stream_room

  pub stream_good : GoodStream l (stream_of file)
  stream_good = record { size = length_stream ∙ stream_length_alike stream_alike; fine = fine_alike stream_alike g.fine }

  -- behind the stream stand zeros
  padding_zeros : drop (stream_length (joined file)) (joined file) ≡ zeros (length (joined file) - stream_length (joined file))
  unfolding bad_padding at
  padding_zeros =
      let n : ℕ = stream_length (joined file) in
      let behind : length (drop n (joined file)) ≡ length (joined file) - n = length-drop n (joined file) in
      let clean = any_each (λ i. not (same (at (joined file) i) 0)) n (length (joined file) - n) g.padding in
      all_zeros (drop n (joined file))
      (λ i b. get_or-drop n (joined file) i 0 ∙ same_equal (not-false (same (get_or (joined file) (n + i) 0) 0) (clean (n + i) (omega arith) (omega arith))))
      ∙ ap zeros behind

  pub joined_is : stream_of file ++ zeros (length (joined file) - stream_length (joined file)) ≡ joined file
  unfolding stream_of
  joined_is =
      ap (λ (t : List ℕ). stream_of file ++ t) (sym padding_zeros) ∙ take-append-drop (stream_length (joined file)) (joined file)

  -- the stream fits its part of the work memory, and zeros fill that part
  pub stream_fits : length (stream_of file) ≤ most_stream l
  unfolding most_stream payload_size
  stream_fits = omega (arith, length_stream, stream_room, length_joined file g.sized, g.sized.most)

  pub filled_long : length (zero_filled l file) ≡ most_stream l
  unfolding zero_filled zeros_behind zeros
  filled_long =
      length-append (stream_of file) (replicate (most_stream l - length (stream_of file)) 0)
      ∙ ap (λ (n : ℕ). length (stream_of file) + n) (length-replicate (most_stream l - length (stream_of file)) 0)
      ∙ (let h : length (stream_of file) ≤ most_stream l = stream_fits in omega arith)

  -- it is read as the joined payloads are, and so is in range, and the same job
  at_filled : at (zero_filled l file) ≡ at (joined file)
  unfolding zero_filled zeros_behind
  at_filled = at_zeros (stream_of file) _ ∙ sym (at_zeros (stream_of file) _) ∙ ap at joined_is

  pub filled_job : job_of (zero_filled l file) ≡ job_of (stream_of file)
  unfolding zero_filled zeros_behind
  filled_job = job_alike _ _ (at_zeros (stream_of file) _)

  filled_fine : Fine l (zero_filled l file)
  filled_fine = fine_alike (record { byte = λ i h. ap (λ (f : ℕ → ℕ). f i) (sym at_filled) }) g.fine

  pub filled_ready : Sound l → Ready (zero_filled l file)
  filled_ready sound = fine_ready sound filled_fine filled_long

  pub filled_named : Sound l → Named (zero_filled l file)
  filled_named sound = fine_named sound filled_fine
