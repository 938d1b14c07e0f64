-- What a load leaves: of a refused file nothing, of an accepted one its stream. Assumes nothing.
use mathlib.Core.Path.{◌≡◌, refl, sym, ap, ◌∙◌}
use Prim.Native.Nat.{ℕ, ◌*◌, ◌≤◌, ◌<◌}
use native.Mathlib.Omega.{arith}
use mathlib.Core.Bool.{true, false}
use mathlib.Core.List.{List, []}
use lib.ListN.{length, take, drop}
use lib.Seq.{take_at, take-take}
use Rattle.basics.specs.Choice.{same}
use Rattle.basics.proofs.Choice.{pick_then, pick_else, same_equal, unequal_same, equal_same}
use Rattle.memory.specs.Over.{over}
use Rattle.memory.proofs.Over.{drop_more}
use Rattle.block.specs.Block.{block_size, payload_size}
use Rattle.job.specs.declared.Limits.{Limits}
use Rattle.std.specs.Prelude.{Result, Ok, Err, IfOk}
use Rattle.std.specs.Result.{IsErrAnd}
use Rattle.job.specs.declared.Refusal.{Refusal}
use Rattle.job.specs.Answer.{refusal_number, answer_number}
use Rattle.job.proofs.Answered.{refusal_counts}
use Rattle.job.specs.Limits.{most_stream, Sound}
use Rattle.job.specs.Stream.{stream_length}
use Rattle.job.specs.File.{joined, block_count, payloads, bad_length, bad_count, blocks_refusal, stream_refusal, file_refusal, stream_of}
use Rattle.job.proofs.Accepted.{Sized, GoodFile, length_good, accepted_good, stream_decides}
use Rattle.job.proofs.View.{length_joined, stream_room, length_stream, stream_fits}
use Rattle.reader.specs.Loaded.{kept, joined_refusal, Loaded}

pub refused_loaded : {l : Limits} {file start work : List ℕ} (e : Refusal) → refusal_number e ≡ file_refusal l file
    → drop (most_stream l) work ≡ drop (most_stream l) start → Loaded l file start work (Err e)
unfolding kept
refused_loaded {l} {file} {start} {work} e number behind =
    let nothing : kept l file ≡ [] = pick_else _ _ (unequal_same (λ z. refusal_counts e (number ∙ z))) in
    record {
      number = number;
      size = ap length (sym nothing);
      room = omega arith;
      front = sym nothing;
      behind = behind;
    }

-- the same of the exit of a `?`
pub refused_on : {l : Limits} {file start work : List ℕ} (r : Result ℕ Refusal) (e : Refusal) → IsErrAnd r (λ x. x ≡ e) → refusal_number e ≡ file_refusal l file
    → drop (most_stream l) work ≡ drop (most_stream l) start → Loaded l file start work r
refused_on (Ok n) e h number behind = absurd h
refused_on (Err d) e h number behind = refused_loaded d (ap refusal_number h ∙ number) behind

-- the work memory has room for every block of a file whose length is one that a file can have
pub blocks_have_room : {l : Limits} (file work : List ℕ) → Sound l → bad_length l file ≡ false → most_stream l ≤ length work
    → (block_count file < 65536) × (length file ≡ block_size * block_count file) × (payload_size * block_count file ≤ length work)
unfolding most_stream payload_size
blocks_have_room {l} file work sound good room =
    let z : Sized l file (block_count file) = length_good l file good in
    (omega (arith, z.most, sound.blocks_fit), z.whole, omega (arith, z.most))

-- what stays behind those blocks stays behind the longest stream
pub behind_blocks : (l : Limits) (file start work : List ℕ) → bad_length l file ≡ false
    → drop (payload_size * block_count file) work ≡ drop (payload_size * block_count file) start → drop (most_stream l) work ≡ drop (most_stream l) start
unfolding most_stream payload_size
behind_blocks l file start work good e = drop_more work start (payload_size * block_count file) (most_stream l) (omega (arith, (length_good l file good).most)) e

joined_refusal_is : (l : Limits) (file : List ℕ) → joined_refusal l (joined file) (block_count file) ≡ stream_refusal l file
unfolding joined_refusal stream_refusal bad_count
joined_refusal_is l file = refl

stream_loaded : {l : Limits} (file start work : List ℕ) (r : ℕ) → same (file_refusal l file) 0 ≡ true → r ≡ stream_length (joined file)
    → take (payload_size * block_count file) work ≡ joined file → drop (most_stream l) work ≡ drop (most_stream l) start → Loaded l file start work (Ok r)
unfolding kept stream_of
stream_loaded {l} file start work r t size front behind =
    let g : GoodFile l file = accepted_good l file (same_equal t) in
    let whole : kept l file ≡ stream_of file = pick_then _ _ t in
    let n : ℕ = stream_length (joined file) in
    let room : n ≤ payload_size * block_count file = omega (arith, stream_room file g, length_joined file g.sized) in
    record {
      number = sym (same_equal t);
      size = size ∙ sym (ap length whole ∙ length_stream file g);
      room = omega (arith, length_stream file g, stream_fits file g);
      front = ap (λ (k : ℕ). take k work) size ∙ sym (take-take n (payload_size * block_count file) work room) ∙ ap (take n) front ∙ sym whole;
      behind = behind;
    }

pub joined_loaded : (l : Limits) (file start work : List ℕ) (r : Result ℕ Refusal) → bad_length l file ≡ false → blocks_refusal file 0 (block_count file) ≡ 0
    → work ≡ over (payloads file 0 (block_count file)) start → drop (most_stream l) work ≡ drop (most_stream l) start
    → answer_number r ≡ joined_refusal l (take (payload_size * block_count file) work) (block_count file)
    → IfOk r (λ n. n ≡ stream_length (take (payload_size * block_count file) work)) → Loaded l file start work r
unfolding joined
joined_loaded l file start work r sized blocks e behind number size = by_answer r number size
  where
    front : take (payload_size * block_count file) work ≡ joined file
    front =
        ap (take (payload_size * block_count file)) e
        ∙ take_at (joined file) (drop (length (joined file)) start) (payload_size * block_count file) (length_joined file (length_good l file sized))

    refusal : joined_refusal l (take (payload_size * block_count file) work) (block_count file) ≡ file_refusal l file
    refusal = ap (λ (s : List ℕ). joined_refusal l s (block_count file)) front ∙ joined_refusal_is l file ∙ stream_decides l file sized blocks

    by_answer : (r : Result ℕ Refusal) → answer_number r ≡ joined_refusal l (take (payload_size * block_count file) work) (block_count file)
        → IfOk r (λ n. n ≡ stream_length (take (payload_size * block_count file) work)) → Loaded l file start work r
    by_answer (Ok n) number size = stream_loaded file start work n (equal_same (sym (number ∙ refusal))) (size ∙ ap stream_length front) front behind
    by_answer (Err e) number size = refused_loaded e (number ∙ refusal) behind
