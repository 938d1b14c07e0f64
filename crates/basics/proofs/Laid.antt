-- Bytes laid behind one another from the front of a memory: what stands there, what is to come, and what is behind it.
-- A loop that copies or lays one thing behind the other keeps `Laid`. Assumes nothing.
use mathlib.Core.Path.{◌≡◌, refl, sym, ap, subst, ◌∙◌}
use Prim.Native.Nat.{ℕ, ◌+◌, ◌-◌, ◌*◌, ◌≤◌, ◌<◌}
use native.Mathlib.Nat.{mul-suc}
use native.Mathlib.Numerals.{add-one}
use native.Mathlib.Omega.{arith}
use mathlib.Core.List.{List, [], ◌∷◌, ◌++◌, append_assoc, append-nil}
use lib.ListN.{length, take, drop, get_or, set, drop_of_length-le, length-append, length-drop, take-append-drop}
use lib.Seq.{take_at, drop_at, drop-drop, set_split, drop-cons, length-take-le}

-- the memory `m`, which was `start`: before `at` stands all of `whole` but the `rest` at its end, and from there on all is as it was
pub record Laid (start m : List ℕ) (at : ℕ) (rest whole : List ℕ) : Type 0 where
  pub front : take at m ++ rest ≡ whole
  pub back : drop at m ≡ drop at start
  pub size : length m ≡ length start

pub laid_none : (m whole : List ℕ) → Laid m m 0 whole whole
laid_none m whole = record { front = refl; back = refl; size = refl }

-- a part that begins at `at` and now holds new bytes and then what it held
laid_more : {start m rest whole : List ℕ} {at : ℕ} (m' new : List ℕ) → Laid start m at (new ++ rest) whole → at + length new ≤ length m
    → m' ≡ take at m ++ (new ++ drop (length new) (drop at m)) → Laid start m' (at + length new) rest whole
laid_more {start} {m} {rest} {whole} {at} m' new l room e =
    let n : ℕ = length new in
    let size_front : length (take at m) ≡ at = length-take-le at m (omega arith) in
    let size_both : length (take at m ++ new) ≡ at + n = length-append (take at m) new ∙ ap (λ (k : ℕ). k + n) size_front in
    let behind : List ℕ = drop n (drop at m) in
    let e' : m' ≡ (take at m ++ new) ++ behind = e ∙ sym (append_assoc (take at m) new behind) in
    record {
      front = ap (λ (x : List ℕ). take (at + n) x ++ rest) e' ∙ ap (λ (x : List ℕ). x ++ rest) (take_at (take at m ++ new) behind (at + n) size_both) ∙ append_assoc (take at m) new rest ∙ l.front;
      back = ap (drop (at + n)) e' ∙ drop_at (take at m ++ new) behind (at + n) size_both ∙ ap (drop n) l.back ∙ drop-drop n at start;
      size =
          let a : length m' ≡ at + n + length behind = ap length e' ∙ length-append (take at m ++ new) behind ∙ ap (λ (k : ℕ). k + length behind) size_both in
          let b : length behind ≡ length (drop at m) - n = length-drop n (drop at m) in
          let d : length (drop at m) ≡ length m - at = length-drop at m in
          omega (arith, l.size);
    }

-- one byte
laid_byte : {start m rest whole : List ℕ} {at : ℕ} (x : ℕ) → Laid start m at (x ∷ rest) whole → at < length m → Laid start (set m at x) (at + 1) rest whole
laid_byte {start} {m} {rest} {whole} {at} x l room =
    laid_more (set m at x) (x ∷ []) l (omega arith) (set_split m at x room ∙ ap (λ (y : List ℕ). take at m ++ x ∷ y) (ap (λ (k : ℕ). drop k m) (sym (add-one at)) ∙ sym (drop-drop 1 at m)))

-- where nothing is to come
laid_all : {start m whole : List ℕ} {at : ℕ} → Laid start m at [] whole → m ≡ whole ++ drop at start
laid_all {start} {m} {whole} {at} l =
    sym (take-append-drop at m) ∙ ap (λ (x : List ℕ). x ++ drop at m) (sym (append-nil (take at m)) ∙ l.front) ∙ ap (λ (x : List ℕ). whole ++ x) l.back

-- a copy of one list: one byte more, and the end
pub laid_copied : {start m from : List ℕ} {i : ℕ} → Laid start m i (drop i from) from → i < length from → i < length m
    → Laid start (set m i (get_or from i 0)) (i + 1) (drop (i + 1) from) from
laid_copied {start} {m} {from} {i} l more room =
    laid_byte (get_or from i 0) (subst (λ (x : List ℕ). Laid start m i x from) (rw (add-one, drop-cons from i 0)) l) room

pub laid_copy : {start m from : List ℕ} {i : ℕ} → Laid start m i (drop i from) from → i ≤ length from → length from ≤ i → m ≡ from ++ drop (length from) start
laid_copy {start} {m} {from} {i} l low high =
    let done : i ≡ length from = omega arith in
    laid_all (subst (λ (x : List ℕ). Laid start m (length from) x from) (drop_of_length-le from {i = length from} (omega arith)) (subst (λ (k : ℕ). Laid start m k (drop k from) from) done l))

-- pieces of one size: the next one, and the end
pub laid_piece : {start m rest whole : List ℕ} (size i : ℕ) (m' new : List ℕ) → Laid start m (size * i) (new ++ rest) whole → length new ≡ size
    → size * i + size ≤ length m → m' ≡ take (size * i) m ++ (new ++ drop (length new) (drop (size * i) m)) → Laid start m' (size * (i + 1)) rest whole
laid_piece {start} {m} {rest} {whole} size i m' new l e room is =
    let next : size * i + length new ≡ size * (i + 1) = ap (λ (k : ℕ). size * i + k) e ∙ sym (mul-suc size i) ∙ ap (λ (k : ℕ). size * k) (sym (add-one i)) in
    subst (λ (k : ℕ). Laid start m' k rest whole) next (laid_more m' new l (omega arith) is)

pub laid_whole : {start m whole : List ℕ} {at : ℕ} → Laid start m at [] whole → at ≤ length m → m ≡ whole ++ drop (length whole) start
laid_whole {start} {m} {whole} {at} l room =
    let size : length whole ≡ at = ap length (sym l.front ∙ append-nil (take at m)) ∙ length-take-le at m room in
    laid_all l ∙ ap (λ (k : ℕ). whole ++ drop k start) (sym size)
