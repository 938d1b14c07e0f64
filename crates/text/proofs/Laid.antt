-- Laws of `laid`: laying one thing behind another is laying both, and so is laying it before. Assumes nothing.
use mathlib.Core.Path.{◌≡◌, refl, sym, ap, ◌∙◌}
use Prim.Native.Nat.{ℕ, suc, ◌+◌, ◌≤◌, ◌<◌}
use native.Mathlib.Nat.{add-zero}
use native.Mathlib.Numerals.{add-one}
use native.Mathlib.Omega.{arith}
use mathlib.Core.List.{List, [], ◌∷◌, ◌++◌, append_assoc, append-nil}
use lib.ListN.{length, take, drop, get_or, set, length-append, length-drop, take-append-drop}
use lib.Seq.{length-take-le, take-suc, set_split, set_at, take_all, take_at, drop_at, drop-drop}
use borrow.Rule.Slice.PartMut.{put_mid}
use Rattle.std.proofs.lemmas.Slice.{put_mid-paste}
use Rattle.text.specs.Laid.{laid}

pub laid_nothing : (out : List ℕ) (at : ℕ) → laid out at [] ≡ out
unfolding laid
laid_nothing out at =
    ap (λ (l : List ℕ). l ++ drop (at + 0) out) (append-nil (take at out))
    ∙ ap (λ (n : ℕ). take at out ++ drop n out) (add-zero at)
    ∙ take-append-drop at out

module _ (out : List ℕ) (at : ℕ) (bytes : List ℕ) (room : at + length bytes ≤ length out) where
  length_front : length (take at out ++ bytes) ≡ at + length bytes
  length_front = length-append (take at out) bytes ∙ ap (λ (n : ℕ). n + length bytes) (length-take-le at out (omega arith))

  pub length_laid : length (laid out at bytes) ≡ length out
  unfolding laid
  length_laid =
      let behind : List ℕ = drop (at + length bytes) out in
      omega (arith, length-append (take at out ++ bytes) behind, length_front, length-drop (at + length bytes) out)

  -- what stands before the end of the bytes, and what stands behind it
  take_laid : take (at + length bytes) (laid out at bytes) ≡ take at out ++ bytes
  unfolding laid
  take_laid = take_at (take at out ++ bytes) (drop (at + length bytes) out) (at + length bytes) length_front

  drop_laid : drop (at + length bytes) (laid out at bytes) ≡ drop (at + length bytes) out
  unfolding laid
  drop_laid = drop_at (take at out ++ bytes) (drop (at + length bytes) out) (at + length bytes) length_front

-- laying `a` and then `b` behind it is laying `a ++ b`
pub laid_then : (out : List ℕ) (at : ℕ) (a b : List ℕ) → at + length (a ++ b) ≤ length out → laid (laid out at a) (at + length a) b ≡ laid out at (a ++ b)
unfolding laid
laid_then out at a b room =
    let both : length (a ++ b) ≡ length a + length b = length-append a b in
    let room_a : at + length a ≤ length out = omega arith in
    let end : at + length a + length b ≡ at + length (a ++ b) = omega arith in
    let mid : List ℕ = laid out at a in
    let back : drop (at + length a + length b) mid ≡ drop (at + length (a ++ b)) out =
    sym (drop-drop (length b) (at + length a) mid)
    ∙ ap (drop (length b)) (drop_laid out at a room_a)
    ∙ drop-drop (length b) (at + length a) out
    ∙ ap (λ (n : ℕ). drop n out) end
    in
    ap (λ (l : List ℕ). l ++ b ++ drop (at + length a + length b) mid) (take_laid out at a room_a)
    ∙ ap (λ (l : List ℕ). take at out ++ a ++ b ++ l) back
    ∙ ap (λ (l : List ℕ). l ++ drop (at + length (a ++ b)) out) (append_assoc (take at out) a b)

-- a store lays one byte
pub set_is_laid : (out : List ℕ) (i b : ℕ) → i < length out → set out i b ≡ laid out i (b ∷ [])
unfolding laid
set_is_laid out i b h =
    set_split out i b h
    ∙ ap (λ (n : ℕ). take i out ++ b ∷ drop n out) (sym (add-one i))
    ∙ sym (append_assoc (take i out) (b ∷ []) (drop (i + 1) out))

-- a store in front of what is laid
pub set_before_laid : (out : List ℕ) (i b : ℕ) (bytes : List ℕ) → suc i + length bytes ≤ length out → set (laid out (suc i) bytes) i b ≡ laid out i (b ∷ bytes)
unfolding laid
set_before_laid out i b bytes room =
    let behind : List ℕ = drop (suc i + length bytes) out in
    let front : length (take i out) ≡ i = length-take-le i out (omega arith) in
    ap (λ (l : List ℕ). set (l ++ bytes ++ behind) i b) (take-suc out i 0 (omega arith))
    ∙ ap (λ (l : List ℕ). set l i b) (ap (λ (l : List ℕ). l ++ behind) (append_assoc (take i out) (get_or out i 0 ∷ []) bytes) ∙ append_assoc (take i out) (get_or out i 0 ∷ bytes) behind)
    ∙ set_at (take i out) (get_or out i 0) (bytes ++ behind) b i front
    ∙ sym (append_assoc (take i out) (b ∷ bytes) behind)
    ∙ ap (λ (n : ℕ). take i out ++ b ∷ bytes ++ drop n out) (let e : suc i + length bytes ≡ i + suc (length bytes) = omega arith in e)

-- a copy of bytes lays them
pub part_is_laid : (out : List ℕ) (at : ℕ) {k : ℕ} {copied bytes : List ℕ} → copied ≡ bytes → k ≡ length bytes → put_mid at k out copied ≡ laid out at bytes
unfolding laid
part_is_laid out at {k} {copied} {bytes} same long =
    put_mid-paste at k out copied bytes (length bytes) same (sym long) refl
    ∙ ap (λ (l : List ℕ). take at out ++ l ++ drop (at + length bytes) out) (take_all (length bytes) bytes (omega arith))
