-- Writing what is read: the stream of an accepted file is taken by the writer, and its file is that very file. Assumes nothing.
use mathlib.Core.Path.{◌≡◌, sym, ap, ap₂, ◌∙◌}
use Prim.Native.Nat.{ℕ, ◌-◌, ◌*◌, ◌≤◌, ◌<◌}
use native.Mathlib.Omega.{arith}
use mathlib.Core.Bool.{true}
use mathlib.Core.List.{List, ◌++◌}
use lib.ListN.{length, take, drop}
use lib.Seq.{take_all}
use Rattle.basics.specs.Bytes.{Bytes}
use Rattle.basics.specs.Choice.{same}
use Rattle.basics.proofs.Bytes.{bytes_take, bytes_drop}
use Rattle.basics.proofs.Choice.{equal_same, pick_true}
use Rattle.block.specs.Block.{block_size, payload_size, block, payload_of}
use Rattle.block.proofs.Accepted.{accepted_iff_made}
use Rattle.job.specs.declared.Limits.{Limits}
use Rattle.job.specs.Limits.{most_file, Sound}
use Rattle.job.specs.Stream.{stream_length}
use Rattle.job.specs.Refusals.{exact_count}
use Rattle.job.specs.File.{zeros, block_at, block_count, joined, blocks, padded, file_of, file_refusal, stream_of}
use Rattle.job.specs.Calls.{write_number, write_length, write_out}
use Rattle.job.specs.RoundTrip.{WrittenBack}
use Rattle.job.proofs.Accepted.{GoodFile, accepted_good, good_written}
use Rattle.job.proofs.Alike.{exact_count_alike}
use Rattle.job.proofs.Blocks.{payloads_are, length_payload_at, length_block_at, each_accepted}
use Rattle.job.proofs.Padded.{blocks_are}
use Rattle.job.proofs.Pieces.{pieces_alike, pieces_of, piece_at}
use Rattle.job.proofs.View.{length_joined, length_stream, stream_alike, stream_good, joined_is}

module _ {l : Limits} (file : List ℕ) (g : GoodFile l file) where
  exact_is : exact_count (stream_of file) ≡ block_count file
  exact_is = sym (exact_count_alike (stream_alike file g)) ∙ sym g.count

  padded_is : padded (stream_of file) ≡ joined file
  unfolding padded
  padded_is =
      ap (λ (k : ℕ). stream_of file ++ zeros k)
      (ap₂ (λ (a b : ℕ). payload_size * a - b) exact_is (length_stream file g) ∙ ap (λ (k : ℕ). k - stream_length (joined file)) (sym (length_joined file g.sized)))
      ∙ joined_is file g

  -- each payload of the joined stream is its block's, and each block is the one made of it
  module _ (sound : Sound l) (h : Bytes file) (j : ℕ) (more : j < block_count file) where
    payload_is : take payload_size (drop (payload_size * j) (joined file)) ≡ payload_of (block_at file j)
    unfolding joined
    payload_is =
        ap (λ (l : List ℕ). take payload_size (drop (payload_size * j) l)) (payloads_are file 0 (block_count file))
        ∙ piece_at (λ i. payload_of (block_at file i)) payload_size (block_count file) j more (λ i b. length_payload_at file (block_count file) i g.sized.whole b)

    made_is : block j (take payload_size (drop (payload_size * j) (joined file))) ≡ block_at file j
    unfolding block_at block_size
    made_is =
        ap (block j) payload_is
        ∙ sym ((accepted_iff_made j (block_at file j) (omega (arith, g.sized.most, sound.blocks_fit)) (bytes_take block_size (drop (block_size * j) file) (bytes_drop (block_size * j) file h)) (length_block_at file j (omega (arith, g.sized.whole)))).0 (each_accepted file 0 (block_count file) g.blocks j (omega arith) (omega arith)))

  restored : Sound l → Bytes file → file_of (stream_of file) ≡ file
  unfolding file_of block_at block_size
  restored sound h =
      ap₂ (λ (s : List ℕ) (n : ℕ). blocks s 0 n) padded_is exact_is
      ∙ blocks_are (joined file) 0 (block_count file)
      ∙ pieces_alike (λ j. block j (take payload_size (drop (payload_size * j) (joined file)))) (block_at file) 0 (block_count file) (λ j a b. made_is sound h j (omega arith))
      ∙ pieces_of file block_size 0 (block_count file)
      ∙ take_all (block_size * block_count file) file (omega (arith, g.sized.whole))

module _ {l : Limits} (sound : Sound l) (file : List ℕ) (h : Bytes file) (accepted : file_refusal l file ≡ 0) where
  -- for every accepted file, the writer takes its stream
  read_taken : (out : List ℕ) → most_file l ≤ length out → write_number l (stream_of file) out ≡ 0
  read_taken out room = good_written l (stream_of file) out room (stream_good file (accepted_good l file accepted))

  -- and makes that very file of it
  pub restored_file : file_of (stream_of file) ≡ file
  restored_file = restored file (accepted_good l file accepted) sound h

  -- in the words of the calls
  pub write_what_is_read : (out : List ℕ) → most_file l ≤ length out → WrittenBack l file out
  unfolding write_length write_out
  write_what_is_read out room =
      let number : write_number l (stream_of file) out ≡ 0 = read_taken out room in
      let taken : same (write_number l (stream_of file) out) 0 ≡ true = equal_same number in
      record {
        number = number;
        size = simp (taken, pick_true) (ap length restored_file);
        left = simp (taken, pick_true) (ap (λ (f : List ℕ). f ++ drop (length f) out) restored_file);
      }
