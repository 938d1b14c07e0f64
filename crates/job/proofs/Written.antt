-- Reading what is written: the file of a stream that the writer takes is accepted, and holds that stream. Assumes nothing.
use mathlib.Core.Path.{◌≡◌, refl, sym, ap, subst, ◌∙◌}
use Prim.Native.Nat.{ℕ, ◌+◌, ◌-◌, ◌*◌, ◌≤◌, ◌<◌}
use native.Mathlib.Omega.{arith}
use mathlib.Core.Bool.{true, false, not}
use mathlib.Core.List.{List, ◌++◌}
use lib.ListN.{length, take, drop, get_or, get_or-replicate, get_or-append}
use lib.Seq.{take_at, take_all, get_or-append-add}
use Rattle.basics.specs.Choice.{same, less}
use Rattle.basics.specs.Maps.{at}
use Rattle.basics.proofs.Choice.{equal_same, le_less, pick_true, pick_false}
use Rattle.block.specs.Block.{block_size, payload_size, block, payload_of, block_refusal}
use Rattle.block.proofs.Accepted.{made_accepted, made_payload}
use Rattle.job.specs.declared.Limits.{Limits}
use Rattle.job.specs.Limits.{most_stream, Sound}
use Rattle.job.specs.Stream.{stream_length}
use Rattle.job.specs.Refusals.{exact_count, bad_padding}
use Rattle.job.specs.File.{zeros, block_at, block_count, payloads, joined, padded, file_of, blocks_refusal, file_refusal, stream_of}
use Rattle.job.specs.Calls.{small_work, read_number, read_length, held, read_work, write_number}
use Rattle.job.specs.RoundTrip.{ReadBack}
use Rattle.job.proofs.Accepted.{Fine, GoodFile, GoodStream, good_accepted, written_good}
use Rattle.job.proofs.Alike.{Alike, fine_alike, stream_length_alike, exact_count_alike}
use Rattle.job.proofs.Blocks.{payloads_are, all_accepted}
use Rattle.job.proofs.Conditions.{any_none}
use Rattle.job.proofs.Padded.{blocks_are, length_own_payload, length_own_block, whole_padded, length_file_of, fine_small}
use Rattle.job.proofs.Pieces.{pieces, pieces_alike, pieces_of, piece_at}
use Rattle.job.proofs.Table.{exact_room}

-- a padded stream holds the stream, and zeros behind it
module _ (s : List ℕ) (size : length s ≡ stream_length s) where
  padded_alike : Alike s (padded s)
  unfolding padded at
  padded_alike = record { byte = λ i h. sym (get_or-append s (zeros (payload_size * exact_count s - length s)) 0 i (omega arith)) }

  padding_zero : (i : ℕ) → length s ≤ i → i < payload_size * exact_count s → at (padded s) i ≡ 0
  unfolding padded at zeros
  padding_zero i low high =
      let z : ℕ = payload_size * exact_count s - length s in
      ap (λ (k : ℕ). get_or (s ++ zeros z) k 0) (let e : i ≡ length s + (i - length s) = omega arith in e)
      ∙ get_or-append-add s (zeros z) (i - length s) 0
      ∙ get_or-replicate z (i - length s) 0 0 (omega arith)

  padded_clean : bad_padding (padded s) ≡ false
  unfolding bad_padding
  padded_clean =
      let same_length : stream_length s ≡ stream_length (padded s) = stream_length_alike padded_alike in
      let whole : length (padded s) ≡ payload_size * exact_count s = whole_padded s size in
      any_none (λ i. not (same (at (padded s) i) 0)) (stream_length (padded s)) (length (padded s) - stream_length (padded s))
      (λ i a b. ap not (equal_same (padding_zero i (omega arith) (omega arith))))

  padded_stream : take (stream_length (padded s)) (padded s) ≡ s
  unfolding padded
  padded_stream =
      ap (λ (n : ℕ). take n (padded s)) (sym (stream_length_alike padded_alike))
      ∙ take_at s (zeros (payload_size * exact_count s - length s)) (stream_length s) size

  -- the file's blocks, and what they join to
  module _ (n : ℕ) (n_is : n ≡ exact_count s) where
    whole_stream : length (padded s) ≡ payload_size * n
    whole_stream = whole_padded s size ∙ ap (λ (k : ℕ). payload_size * k) (sym n_is)

    count_is : block_count (file_of s) ≡ n
    unfolding block_count block_size
    count_is = omega (arith, length_file_of s size)

    own : ℕ → List ℕ
    own j = take payload_size (drop (payload_size * j) (padded s))

    block_is : (j : ℕ) → j < n → block_at (file_of s) j ≡ block j (own j)
    unfolding block_at file_of own
    block_is j more =
        ap (λ (f : List ℕ). take block_size (drop (block_size * j) f)) (blocks_are (padded s) 0 (exact_count s) ∙ ap (pieces (λ l. block l (own l)) 0) (sym n_is))
        ∙ piece_at (λ l. block l (own l)) block_size n j more (λ l b. length_own_block (padded s) n l whole_stream b)

    joined_is : joined (file_of s) ≡ padded s
    unfolding joined payload_size own
    joined_is =
        ap (payloads (file_of s) 0) count_is
        ∙ payloads_are (file_of s) 0 n
        ∙ pieces_alike (λ j. payload_of (block_at (file_of s) j)) own 0 n
        (λ j a b. ap payload_of (block_is j (omega arith)) ∙ made_payload j (own j) (length_own_payload (padded s) n j whole_stream (omega arith)))
        ∙ pieces_of (padded s) payload_size 0 n
        ∙ take_all (payload_size * n) (padded s) (omega (arith, whole_stream))

    blocks_good : n < 65536 → blocks_refusal (file_of s) 0 n ≡ 0
    unfolding own
    blocks_good few =
        all_accepted (file_of s) 0 n
        (λ j a b. ap (block_refusal j) (block_is j (omega arith)) ∙ made_accepted j (own j) (omega arith) (length_own_payload (padded s) n j whole_stream (omega arith)))

module _ {l : Limits} (sound : Sound l) where
  written_file_good : (s : List ℕ) → GoodStream l s → GoodFile l (file_of s)
  unfolding stream_length payload_size block_size
  written_file_good s g =
      let size : length s ≡ stream_length s = g.size in
      let n : ℕ = exact_count s in
      let few : n ≤ l.blocks = fine_small sound s g.fine in
      let count : block_count (file_of s) ≡ n = count_is s size n refl in
      let joins : joined (file_of s) ≡ padded s = joined_is s size n refl in
      record {
        sized =
            record {
              least = omega (arith, exact_room s);
              most = omega arith;
              whole = length_file_of s size ∙ ap (λ (k : ℕ). block_size * k) (sym count);
            };
        blocks = ap (blocks_refusal (file_of s) 0) count ∙ blocks_good s size n refl (omega (arith, sound.blocks_fit));
        fine = subst (Fine l) (sym joins) (fine_alike (padded_alike s size) g.fine);
        count = count ∙ exact_count_alike (padded_alike s size) ∙ ap exact_count (sym joins);
        padding = ap bad_padding joins ∙ padded_clean s size;
      }

  -- for every stream that the writer takes, its file is accepted
  pub written_accepted : (s out : List ℕ) → write_number l s out ≡ 0 → file_refusal l (file_of s) ≡ 0
  written_accepted s out z = good_accepted l (file_of s) (written_file_good s (written_good l s out z).1)

  -- and holds that stream
  pub written_stream : (s out : List ℕ) → write_number l s out ≡ 0 → stream_of (file_of s) ≡ s
  unfolding stream_of
  written_stream s out z =
      let size : length s ≡ stream_length s = (written_good l s out z).1.size in
      ap (λ (l : List ℕ). take (stream_length l) l) (joined_is s size (exact_count s) refl) ∙ padded_stream s size

  -- in the words of the calls
  pub read_what_is_written : (s out work : List ℕ) → write_number l s out ≡ 0 → most_stream l ≤ length work → ReadBack l s work
  unfolding read_number read_length read_work small_work
  read_what_is_written s out work z room =
      let large : less (length work) (most_stream l) ≡ false = le_less room in
      let accepted : file_refusal l (file_of s) ≡ 0 = written_accepted s out z in
      let zero : same (file_refusal l (file_of s)) 0 ≡ true = equal_same accepted in
      let number : read_number l (file_of s) work ≡ 0 = simp (large, pick_false) accepted in
      record {
        number = number;
        size = simp (large, pick_false, zero, pick_true) (ap length (written_stream s out z));
        left = simp (large, pick_false, zero, pick_true) (ap (λ (x : List ℕ). held l x work) (written_stream s out z));
      }
