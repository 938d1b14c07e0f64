-- The blocks of a padded stream. Assumes nothing.
use mathlib.Core.Path.{◌≡◌, refl, ap, ◌∙◌}
use Prim.Native.Nat.{ℕ, zero, suc, ◌+◌, ◌-◌, ◌*◌, ◌≤◌, ◌<◌}
use native.Mathlib.Numerals.{add-one}
use native.Mathlib.Omega.{arith}
use mathlib.Core.List.{List, [], ◌∷◌, ◌++◌}
use lib.ListN.{length, take, drop, length-append, length-take, length-drop, length-replicate}
use lib.Seq.{drop-append-le}
use Rattle.basics.specs.Choice.{less}
use Rattle.basics.proofs.Choice.{less_le}
use Rattle.memory.proofs.Over.{length_part}
use Rattle.block.specs.Block.{block_size, payload_size, block}
use Rattle.block.specs.Checked.{filled}
use Rattle.block.proofs.Accepted.{length_block}
use Rattle.block.proofs.Sizes.{length_filled}
use Rattle.job.specs.declared.Limits.{Limits}
use Rattle.job.specs.Limits.{most_stream, Sound}
use Rattle.job.specs.Stream.{operations, schedule_length, stream_length}
use Rattle.job.specs.Refusals.{exact_count, outside, bad_operations, bad_schedule_length}
use Rattle.job.specs.File.{zeros, blocks, padded, file_of}
use Rattle.job.proofs.Accepted.{Fine}
use Rattle.job.proofs.Conditions.{or_both, next_left, none_left}
use Rattle.job.proofs.Table.{exact_room}
use Rattle.job.proofs.Pieces.{pieces, length_pieces}

take_of_zeros : (n z : ℕ) → n ≤ z → take n (zeros z) ≡ zeros n
unfolding zeros
take_of_zeros zero z h = refl
take_of_zeros (suc n) zero h = absurd (omega arith)
take_of_zeros (suc n) (suc z) h = ap (λ (t : List ℕ). 0 ∷ t) (take_of_zeros n z (omega arith))

-- so many bytes of a list with zeros behind it: those of the list, and zeros
take_padded : (l : List ℕ) (n z : ℕ) → n ≤ length l + z → take n (l ++ zeros z) ≡ take n l ++ zeros (n - length (take n l))
unfolding zeros
take_padded l zero z h = refl
take_padded [] (suc n) z h = take_of_zeros (suc n) z (omega arith) ∙ ap zeros (let e : suc n ≡ suc n - 0 = omega arith in e)
take_padded (x ∷ l) (suc n) z h =
    ap (λ (t : List ℕ). x ∷ t)
    (take_padded l n z (omega arith)
    ∙ ap (λ (k : ℕ). take n l ++ zeros k) (let e : n - length (take n l) ≡ suc n - suc (length (take n l)) = omega arith in e))

-- the payload of a block: the stream's own bytes there, filled with zeros
pub payload_filled : (s : List ℕ) (i : ℕ) → payload_size * i ≤ length s → i < exact_count s
    → take payload_size (drop (payload_size * i) (padded s)) ≡ filled (take payload_size (drop (payload_size * i) s))
unfolding padded filled zeros payload_size
payload_filled s i h more =
    let z : ℕ = payload_size * exact_count s - length s in
    ap (take payload_size) (drop-append-le (payload_size * i) s (zeros z) h)
    ∙ take_padded (drop (payload_size * i) s) payload_size z (omega (arith, length-drop (payload_size * i) s))

pub length_payload_filled : (s : List ℕ) (i : ℕ) → length (filled (take payload_size (drop (payload_size * i) s))) ≡ payload_size
length_payload_filled s i = length_filled (take payload_size (drop (payload_size * i) s)) (omega (arith, length-take payload_size (drop (payload_size * i) s)))

-- from the block at `i` up to block `n`: the next one, and the end
module _ (s : List ℕ) {i n : ℕ} where
  pub blocks_next : i < n → blocks s i (n - i) ≡ block i (take payload_size (drop (payload_size * i) s)) ++ blocks s (i + 1) (n - (i + 1))
  unfolding blocks
  blocks_next h = simp (next_left h, add-one)

  pub blocks_end : n ≤ i → blocks s i (n - i) ≡ []
  unfolding blocks
  blocks_end h = simp (none_left h)

-- the numbers of operations and steps of a stream in range
pub fine_counts : {l : Limits} {s : List ℕ} → Fine l s → (operations s ≤ l.operations) × (schedule_length s ≤ l.steps)
unfolding bad_operations bad_schedule_length outside
fine_counts {l} {s} f = (less_le (or_both (less (operations s) 1) (less l.operations (operations s)) f.operations).1, less_le f.steps)

-- a stream in range wants no more blocks than a file may have
pub fine_small : {l : Limits} → Sound l → (s : List ℕ) → Fine l s → exact_count s ≤ l.blocks
unfolding exact_count stream_length payload_size most_stream
fine_small {l} sound s f =
    let fits : 6 + 4 * l.operations + l.steps ≤ most_stream l = sound.stream_fits in
    omega (arith, fine_counts f)

-- the blocks are pieces of one length
pub blocks_are : (s : List ℕ) (i n : ℕ) → blocks s i n ≡ pieces (λ j. block j (take payload_size (drop (payload_size * j) s))) i n
unfolding blocks pieces
blocks_are s i zero = refl
blocks_are s i (suc n) = ap (λ (t : List ℕ). block i (take payload_size (drop (payload_size * i) s)) ++ t) (blocks_are s (suc i) n)

pub length_own_payload : (s : List ℕ) (n j : ℕ) → length s ≡ payload_size * n → j < n → length (take payload_size (drop (payload_size * j) s)) ≡ payload_size
unfolding payload_size
length_own_payload s n j whole more = length_part s (payload_size * j) payload_size (omega arith)

pub length_own_block : (s : List ℕ) (n j : ℕ) → length s ≡ payload_size * n → j < n → length (block j (take payload_size (drop (payload_size * j) s))) ≡ block_size
length_own_block s n j whole more = length_block j (take payload_size (drop (payload_size * j) s)) (length_own_payload s n j whole more)

length_padded : (s : List ℕ) → length s ≤ payload_size * exact_count s → length (padded s) ≡ payload_size * exact_count s
unfolding padded zeros
length_padded s h =
    let z : List ℕ = zeros (payload_size * exact_count s - length s) in
    let size : length z ≡ payload_size * exact_count s - length s = length-replicate (payload_size * exact_count s - length s) 0 in
    let both : length (s ++ z) ≡ length s + length z = length-append s z in
    omega arith

-- a stream without padding is padded to whole blocks
pub whole_padded : (s : List ℕ) → length s ≡ stream_length s → length (padded s) ≡ payload_size * exact_count s
whole_padded s e = length_padded s (omega (arith, exact_room s))

pub length_file_of : (s : List ℕ) → length s ≡ stream_length s → length (file_of s) ≡ block_size * exact_count s
unfolding file_of
length_file_of s e =
    ap length (blocks_are (padded s) 0 (exact_count s))
    ∙ length_pieces (λ j. block j (take payload_size (drop (payload_size * j) (padded s)))) block_size 0 (exact_count s)
    (λ j a b. length_own_block (padded s) (exact_count s) j (whole_padded s e) (omega arith))
