-- What an accepted file and an accepted stream are: every condition of the table is not met. Assumes nothing.
use mathlib.Core.Path.{◌≡◌, sym, ap, ◌∙◌}
use mathlib.Core.Logic.{◌≢◌, ◌⊎◌, inl, inr}
use Prim.Native.Nat.{ℕ, ◌*◌, ◌%◌, ◌≤◌}
use native.Mathlib.Omega.{arith}
use mathlib.Core.Bool.{true, false, not, ◌||◌}
use mathlib.Core.List.{List, [], ◌∷◌, ◌++◌}
use lib.ListN.{length}
use borrow.Author.Tests.{not-false}
use Rattle.basics.specs.Choice.{same, less}
use Rattle.basics.proofs.Choice.{both, pick_true, pick_false, same_equal, same_unequal, equal_same, unequal_same, less_le, le_less}
use Rattle.block.specs.Block.{block_size}
use Rattle.job.specs.declared.Limits.{Limits}
use Rattle.job.specs.Limits.{most_file}
use Rattle.job.specs.Stream.{stream_length}
use Rattle.job.specs.Refusals.{exact_count, bad_kind, bad_processes, bad_operations, bad_schedule_length, bad_records, bad_schedule, bad_padding, header_conditions, list_conditions}
use Rattle.job.specs.File.{joined, block_count, bad_length, bad_count, blocks_refusal, stream_refusal, file_refusal}
use Rattle.job.specs.Calls.{write_number}
use Rattle.job.proofs.Conditions.{zero_unmet, unmet_zero, or_both}

-- a stream whose header, records and schedule are in range
pub record Fine (l : Limits) (s : List ℕ) : Type 0 where
  pub kind : bad_kind s ≡ false
  pub processes : bad_processes l s ≡ false
  pub operations : bad_operations l s ≡ false
  pub steps : bad_schedule_length l s ≡ false
  pub records : bad_records s ≡ false
  pub schedule : bad_schedule s ≡ false

-- so many whole blocks
pub record Sized (l : Limits) (file : List ℕ) (n : ℕ) : Type 0 where
  pub least : 1 ≤ n
  pub most : n ≤ l.blocks
  pub whole : length file ≡ block_size * n

pub length_good : (l : Limits) (file : List ℕ) → bad_length l file ≡ false → Sized l file (block_count file)
unfolding bad_length block_count block_size most_file
length_good l file e =
    let last = or_both (same (length file) 0 || less (most_file l) (length file)) (not (same (length file % block_size) 0)) e in
    let first = or_both (same (length file) 0) (less (most_file l) (length file)) last.0 in
    let nonempty : length file ≢ 0 = same_unequal first.0 in
    let most : length file ≤ most_file l = less_le first.1 in
    let whole : length file % block_size ≡ 0 = same_equal (not-false (same (length file % block_size) 0) last.1) in
    record { least = omega arith; most = omega arith; whole = omega arith }

-- a file of whole blocks that all give their payload, with a fine stream and zeros in exactly the blocks that it wants
pub record GoodFile (l : Limits) (file : List ℕ) : Type 0 where
  pub sized : Sized l file (block_count file)
  pub blocks : blocks_refusal file 0 (block_count file) ≡ 0
  pub fine : Fine l (joined file)
  pub count : block_count file ≡ exact_count (joined file)
  pub padding : bad_padding (joined file) ≡ false

stream_good : (l : Limits) (file : List ℕ) → bad_length l file ≡ false → blocks_refusal file 0 (block_count file) ≡ 0 → stream_refusal l file ≡ 0 → GoodFile l file
unfolding stream_refusal header_conditions list_conditions bad_count
stream_good l file sized blocks e =
    let s : List ℕ = joined file in
    let u = zero_unmet
    (header_conditions l s ++ (9, bad_count file) ∷ list_conditions s ++ (12, bad_padding s) ∷ [])
    (omega arith, (omega arith, (omega arith, (omega arith, (omega arith, (omega arith, (omega arith, (omega arith, tt))))))))
    e
    in
    record {
      sized = length_good l file sized;
      blocks = blocks;
      fine = record { kind = u.0; processes = u.1.0; operations = u.1.1.0; steps = u.1.1.1.0; records = u.1.1.1.1.1.0; schedule = u.1.1.1.1.1.1.0 };
      count = same_equal (not-false (same (block_count file) (exact_count s)) u.1.1.1.1.0);
      padding = u.1.1.1.1.1.1.1.0;
    }

-- which part of a file's refusal decides
module _ (l : Limits) (file : List ℕ) where
  pub length_decides : bad_length l file ≡ true → 2 ≡ file_refusal l file
  unfolding file_refusal
  length_decides e = simp (e, pick_true)

  pub blocks_decide : bad_length l file ≡ false → blocks_refusal file 0 (block_count file) ≢ 0 → blocks_refusal file 0 (block_count file) ≡ file_refusal l file
  unfolding file_refusal
  blocks_decide e h = simp (e, unequal_same h, pick_false)

  pub stream_decides : bad_length l file ≡ false → blocks_refusal file 0 (block_count file) ≡ 0 → stream_refusal l file ≡ file_refusal l file
  unfolding file_refusal
  stream_decides e h = simp (e, equal_same h, pick_true, pick_false)

pub accepted_good : (l : Limits) (file : List ℕ) → file_refusal l file ≡ 0 → GoodFile l file
accepted_good l file z = by_length (both (bad_length l file))
  where
    by_blocks : bad_length l file ≡ false → (same (blocks_refusal file 0 (block_count file)) 0 ≡ true) ⊎ (same (blocks_refusal file 0 (block_count file)) 0 ≡ false) → GoodFile l file
    by_blocks e (inl h) = stream_good l file e (same_equal h) (stream_decides l file e (same_equal h) ∙ z)
    by_blocks e (inr h) = absurd (same_unequal h (blocks_decide l file e (same_unequal h) ∙ z))

    by_length : (bad_length l file ≡ true) ⊎ (bad_length l file ≡ false) → GoodFile l file
    by_length (inl e) = absurd (let q : ◌≡◌ {A = ℕ} 2 0 = length_decides l file e ∙ z in omega arith)
    by_length (inr e) = by_blocks e (both (same (blocks_refusal file 0 (block_count file)) 0))

sized_good : (l : Limits) (file : List ℕ) → Sized l file (block_count file) → bad_length l file ≡ false
unfolding bad_length block_count block_size most_file
sized_good l file z =
    let nonempty : same (length file) 0 ≡ false = unequal_same (omega (arith, z.least)) in
    let most : less (most_file l) (length file) ≡ false = le_less (omega (arith, z.most, z.whole)) in
    let whole : same (length file % block_size) 0 ≡ true = equal_same (omega (arith, z.whole)) in
    simp (nonempty, most, whole)

pub good_accepted : (l : Limits) (file : List ℕ) → GoodFile l file → file_refusal l file ≡ 0
unfolding stream_refusal header_conditions list_conditions bad_count
good_accepted l file g =
    let s : List ℕ = joined file in
    let f = g.fine in
    let none : stream_refusal l file ≡ 0 =
    unmet_zero (header_conditions l s ++ (9, bad_count file) ∷ list_conditions s ++ (12, bad_padding s) ∷ [])
    (f.kind, (f.processes, (f.operations, (f.steps, (ap not (equal_same g.count), (f.records, (f.schedule, (g.padding, tt))))))))
    in
    sym (stream_decides l file (sized_good l file g.sized) g.blocks) ∙ none

-- a stream that the writer takes
pub record GoodStream (l : Limits) (s : List ℕ) : Type 0 where
  pub size : length s ≡ stream_length s
  pub fine : Fine l s

pub written_good : (l : Limits) (s out : List ℕ) → write_number l s out ≡ 0 → (most_file l ≤ length out) × GoodStream l s
unfolding write_number header_conditions list_conditions
written_good l s out e =
    let u = zero_unmet
    ((1, less (length out) (most_file l)) ∷ (2, less (length s) 6) ∷ header_conditions l s ++ (9, not (same (length s) (stream_length s))) ∷ list_conditions s)
    (omega arith, (omega arith, (omega arith, (omega arith, (omega arith, (omega arith, (omega arith, (omega arith, (omega arith, tt)))))))))
    e
    in
    let h = u.1.1 in (
      less_le u.0,
      record {
        size = same_equal (not-false (same (length s) (stream_length s)) h.1.1.1.1.0);
        fine = record { kind = h.0; processes = h.1.0; operations = h.1.1.0; steps = h.1.1.1.0; records = h.1.1.1.1.1.0; schedule = h.1.1.1.1.1.1.0 };
      },
    )

pub good_written : (l : Limits) (s out : List ℕ) → most_file l ≤ length out → GoodStream l s → write_number l s out ≡ 0
unfolding write_number header_conditions list_conditions stream_length
good_written l s out room g =
    let f = g.fine in
    unmet_zero ((1, less (length out) (most_file l)) ∷ (2, less (length s) 6) ∷ header_conditions l s ++ (9, not (same (length s) (stream_length s))) ∷ list_conditions s)
    (le_less room, (le_less (omega (arith, g.size)), (f.kind, (f.processes, (f.operations, (f.steps, (ap not (equal_same g.size), (f.records, (f.schedule, tt)))))))))
