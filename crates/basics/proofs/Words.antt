-- Laws of two-byte numbers: reading back what was written, and the bytes of a number. Assumes nothing.
use mathlib.Core.Path.{◌≡◌, ap, ◌∙◌}
use Prim.Native.Nat.{ℕ, suc, ◌+◌, ◌*◌, ◌/◌, ◌%◌, ◌≤◌, ◌<◌}
use native.Mathlib.Omega.{arith}
use mathlib.Core.List.{List, [], ◌∷◌, ◌++◌}
use lib.ListN.{length, take, drop, get_or}
use lib.Seq.{drop-cons, get_or_at, get_or-append-add}
use Rattle.basics.specs.Bytes.{Bytes}
use Rattle.basics.specs.Maps.{at}
use Rattle.basics.specs.Words.{word, word_bytes}

-- two bytes are those of the number that they hold
pub word_bytes_at : (l : List ℕ) (i : ℕ) → Bytes l → i + 2 ≤ length l → take 2 (drop i l) ≡ word_bytes (word l i)
unfolding word word_bytes at
word_bytes_at l i h room =
    let x : ℕ = get_or l i 0 in
    let y : ℕ = get_or l (suc i) 0 in
    let low : y < 256 = h.byte (suc i) in
    ap (take 2) (drop-cons l i 0 (omega arith) ∙ ap (λ (t : List ℕ). x ∷ t) (drop-cons l (suc i) 0 (omega arith)))
    ∙ ap (λ (k : ℕ). k ∷ y ∷ []) (let e : x ≡ (256 * x + y) / 256 % 256 = omega (arith, h.byte i) in e)
    ∙ ap (λ (k : ℕ). (256 * x + y) / 256 % 256 ∷ k ∷ []) (let e : y ≡ (256 * x + y) % 256 = omega arith in e)

-- a number's bytes hold the number
pub word_read : (x y : List ℕ) (n i : ℕ) → length x ≡ i → n < 65536 → word (x ++ (word_bytes n ++ y)) i ≡ n
unfolding word word_bytes at
word_read x y n i size fits =
    let l : List ℕ = x ++ n / 256 % 256 ∷ n % 256 ∷ y in
    let first : get_or l i 0 ≡ n / 256 % 256 = get_or_at x (n / 256 % 256) (n % 256 ∷ y) 0 i size in
    let second : get_or l (suc i) 0 ≡ n % 256 =
    ap (λ (k : ℕ). get_or l k 0) (let e : suc i ≡ length x + 1 = omega arith in e) ∙ get_or-append-add x (n / 256 % 256 ∷ n % 256 ∷ y) 1 0
    in
    omega arith

-- equal numbers have equal bytes
pub word_parts : (l m : List ℕ) (i : ℕ) → Bytes l → Bytes m → word l i ≡ word m i → (at l i ≡ at m i) × (at l (suc i) ≡ at m (suc i))
unfolding word
word_parts l m i h k e =
    let low_l : at l (suc i) < 256 = h.byte (suc i) in
    let low_m : at m (suc i) < 256 = k.byte (suc i) in
    (omega arith, omega arith)
