-- A block is accepted exactly if it is the block that the maker makes of its number and payload. Assumes nothing.
use Rattle.std.proofs.Common.{◌≡◌, ℕ, ◌+◌, ◌-◌, ◌<◌, ◌↔◌, List, [], ◌∷◌, ◌++◌, length, take, drop, sym, refl, ap, ◌∙◌, subst, ap₂, append_assoc, append-nil, arith, length-append, length-drop, take-append-drop, take_all, drop-drop, take_at, take-add}
use Rattle.basics.specs.Bytes.{Bytes}
use Rattle.basics.specs.Words.{word, word_bytes}
use Rattle.basics.proofs.Words.{word_bytes_at, word_read}
use Rattle.memory.proofs.Over.{length_part}
use Rattle.block.specs.Block.{block_size, summed_size, payload_size, add_byte, add_bytes, sums, block, payload_of, block_refusal}
use Rattle.block.specs.declared.Sums.{Sums}
use Rattle.block.proofs.Sizes.{length_front}
use Rattle.block.proofs.Refusal.{Good, own_sums, good_accepted, accepted_good}

-- both sums are two-byte numbers
pub record Small (s : Sums) : Type 0 where
  pub a : s.a < 65536
  pub b : s.b < 65536

add_byte_small : (s : Sums) (x : ℕ) → Small (add_byte s x)
unfolding add_byte
add_byte_small s x = record { a = omega arith; b = omega arith }

add_bytes_small : (s : Sums) (l : List ℕ) → Small s → Small (add_bytes s l)
unfolding add_bytes
add_bytes_small s [] h = h
add_bytes_small s (x ∷ l) h = add_bytes_small (add_byte s x) l (add_byte_small s x)

sums_small : (l : List ℕ) → Small (sums l)
unfolding sums
sums_small l = add_bytes_small (record { a = 1; b = 0 }) l (record { a = omega arith; b = omega arith })

pub length_payload : (b : List ℕ) → length b ≡ block_size → length (payload_of b) ≡ payload_size
unfolding payload_of payload_size block_size
length_payload b size = length_part b 2 payload_size (omega arith)

-- a block's number and payload
front_of : (b : List ℕ) → Bytes b → length b ≡ block_size → take summed_size b ≡ word_bytes (word b 0) ++ payload_of b
unfolding summed_size payload_size payload_of block_size
front_of b h size = take-add 2 payload_size b ∙ ap (λ (t : List ℕ). t ++ take payload_size (drop 2 b)) (word_bytes_at b 0 h (omega arith))

-- a block's sums
back_of : (b : List ℕ) → Bytes b → length b ≡ block_size → drop summed_size b ≡ word_bytes (word b summed_size) ++ word_bytes (word b (summed_size + 2))
unfolding summed_size payload_size block_size
back_of b h size =
    let last : length (drop (summed_size + 2) b) ≡ length b - (summed_size + 2) = length-drop (summed_size + 2) b in
    sym (take-append-drop 2 (drop summed_size b))
    ∙ ap₂ ◌++◌ (word_bytes_at b summed_size h (omega arith)) (drop-drop 2 summed_size b ∙ sym (take_all 2 (drop (summed_size + 2) b) (omega arith)) ∙ word_bytes_at b (summed_size + 2) h (omega arith))

good_made : (position : ℕ) (b : List ℕ) → Bytes b → length b ≡ block_size → Good position b → b ≡ block position (payload_of b)
unfolding block
good_made position b h size g =
    let front : take summed_size b ≡ word_bytes position ++ payload_of b = front_of b h size ∙ ap (λ (n : ℕ). word_bytes n ++ payload_of b) g.place in
    let own : own_sums b ≡ sums (word_bytes position ++ payload_of b) = ap sums front in
    let back : drop summed_size b ≡ word_bytes (own_sums b).a ++ word_bytes (own_sums b).b =
    back_of b h size ∙ ap₂ (λ (m n : ℕ). word_bytes m ++ word_bytes n) g.sum_a g.sum_b
    in
    sym (take-append-drop summed_size b)
    ∙ ap₂ ◌++◌ front (back ∙ ap (λ (s : Sums). word_bytes s.a ++ word_bytes s.b) own)

made_good : (position : ℕ) (p : List ℕ) → position < 65536 → length p ≡ payload_size → Good position (block position p)
unfolding block word_bytes
made_good position p fits size =
    let front : List ℕ = word_bytes position ++ p in
    let s : Sums = sums front in
    let small : Small s = sums_small front in
    let front_size : length front ≡ summed_size = length_front position p size in
    let made : List ℕ = front ++ (word_bytes s.a ++ word_bytes s.b) in
    let regrouped : made ≡ (front ++ word_bytes s.a) ++ (word_bytes s.b ++ []) =
    ap (λ (t : List ℕ). front ++ (word_bytes s.a ++ t)) (sym (append-nil (word_bytes s.b)))
    ∙ sym (append_assoc front (word_bytes s.a) (word_bytes s.b ++ []))
    in
    let next_size : length (front ++ word_bytes s.a) ≡ summed_size + 2 = length-append front (word_bytes s.a) ∙ ap (λ (k : ℕ). k + 2) front_size in
    let own : own_sums made ≡ s = ap sums (take_at front (word_bytes s.a ++ word_bytes s.b) summed_size front_size) in
    record {
      sum_a = word_read front (word_bytes s.b) s.a summed_size front_size small.a ∙ ap (λ (t : Sums). t.a) (sym own);
      sum_b =
          ap (λ (t : List ℕ). word t (summed_size + 2)) regrouped
          ∙ word_read (front ++ word_bytes s.a) [] s.b (summed_size + 2) next_size small.b
          ∙ ap (λ (t : Sums). t.b) (sym own);
      place =
          ap (λ (t : List ℕ). word t 0) (append_assoc (word_bytes position) p (word_bytes s.a ++ word_bytes s.b))
          ∙ word_read [] (p ++ (word_bytes s.a ++ word_bytes s.b)) position 0 refl fits;
    }

-- of its number and payload: a block at its own position
pub accepted_iff_made : (position : ℕ) (b : List ℕ) → position < 65536 → Bytes b → length b ≡ block_size
    → (block_refusal position b ≡ 0) ↔ (b ≡ block position (payload_of b))
accepted_iff_made position b fits h size = (
  λ e. good_made position b h size (accepted_good e),
  λ e. sym (good_accepted (subst (λ (t : List ℕ). Good position t) (sym e) (made_good position (payload_of b) fits (length_payload b size)))),
)

-- so a block that is made is accepted, and gives its payload
pub made_accepted : (position : ℕ) (p : List ℕ) → position < 65536 → length p ≡ payload_size → block_refusal position (block position p) ≡ 0
made_accepted position p fits size = sym (good_accepted (made_good position p fits size))

pub made_payload : (position : ℕ) (p : List ℕ) → length p ≡ payload_size → payload_of (block position p) ≡ p
unfolding block payload_of word_bytes
made_payload position p size = take_at p _ payload_size size

pub length_block : (position : ℕ) (p : List ℕ) → length p ≡ payload_size → length (block position p) ≡ block_size
unfolding block block_size summed_size payload_size word_bytes
length_block position p size =
    let front : List ℕ = word_bytes position ++ p in
    let s : Sums = sums front in
    length-append front (word_bytes s.a ++ word_bytes s.b) ∙ ap (λ (k : ℕ). k + 4) (length_front position p size)
