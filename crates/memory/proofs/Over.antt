-- A part of a memory is lent, and something is laid over the front of that part: what the whole is then. Assumes nothing.
use mathlib.Core.Path.{◌≡◌, refl, sym, ap, ◌∙◌}
use mathlib.Core.Logic.{◌⊎◌, inl, inr}
use Prim.Native.Nat.{ℕ, zero, suc, ◌+◌, ◌-◌, min, ◌≤◌, ◌<◌}
use mathlib.Core.Bool.{true, false}
use native.Mathlib.Omega.{arith}
use mathlib.Core.List.{List, [], ◌∷◌, ◌++◌, append_assoc, append-nil}
use lib.ListN.{length, take, drop, replicate, length-append, length-drop, length-replicate, drop_of_length-le}
use lib.Seq.{take_at, drop_at, drop-drop, take_all, length-take-le}
use Rattle.basics.specs.Choice.{less}
use Rattle.basics.proofs.Choice.{both, less_lt, less_le}
use Rattle.memory.specs.Over.{over}

-- the part's rest and what is behind the part
drop_take : (n k : ℕ) (l : List ℕ) → n ≤ k → drop n (take k l) ++ drop k l ≡ drop n l
drop_take zero zero l h = refl
drop_take zero (suc k) [] h = refl
drop_take zero (suc k) (x ∷ l) h = ap (λ (t : List ℕ). x ∷ t) (drop_take zero k l (omega arith))
drop_take (suc n) zero l h = absurd (omega arith)
drop_take (suc n) (suc k) [] h = refl
drop_take (suc n) (suc k) (x ∷ l) h = drop_take n k l (omega arith)

-- the part of `k` bytes at `a` comes back with new bytes over its front
pub part_over : (m new part : List ℕ) (a k : ℕ) → length new ≤ k → part ≡ over new (take k (drop a m))
    → take a m ++ (part ++ drop k (drop a m)) ≡ take a m ++ over new (drop a m)
part_over m new part a k h e =
    ap (λ (t : List ℕ). take a m ++ t)
    (ap (λ (t : List ℕ). t ++ drop k (drop a m)) e
    ∙ append_assoc new (drop (length new) (take k (drop a m))) (drop k (drop a m))
    ∙ ap (λ (t : List ℕ). new ++ t) (drop_take (length new) k (drop a m) h))

-- one thing at the front, and then another on a part behind it
pub over_both : (m x y m' part : List ℕ) (a k : ℕ) → m' ≡ over x m → length x ≡ a → length y ≤ k → part ≡ over y (take k (drop a m'))
    → take a m' ++ (part ++ drop k (drop a m')) ≡ over (x ++ y) m
over_both m x y m' part a k p size h e =
    part_over m' y part a k h e
    ∙ ap (λ (t : List ℕ). take a t ++ over y (drop a t)) p
    ∙ ap (λ (t : List ℕ). t ++ over y (drop a (over x m))) (take_at x (drop (length x) m) a size)
    ∙ ap (λ (t : List ℕ). x ++ over y t) (drop_at x (drop (length x) m) a size)
    ∙ sym (append_assoc x y (drop (length y) (drop (length x) m)))
    ∙ ap (λ (t : List ℕ). x ++ y ++ t) (drop-drop (length y) (length x) m ∙ ap (λ (n : ℕ). drop n m) (sym (length-append x y)))

-- the same, where the part goes to the end
pub over_behind : (m x y m' part : List ℕ) (a : ℕ) → m' ≡ over x m → length x ≡ a → a + length y ≤ length m'
    → part ≡ over y (take (length m' - a) (drop a m')) → take a m' ++ (part ++ drop (length m' - a) (drop a m')) ≡ over (x ++ y) m
over_behind m x y m' part a p size room e = over_both m x y m' part a (length m' - a) p size (omega arith) e

-- zeros over the whole of a part
pub zeros_over : (l part : List ℕ) (k : ℕ) → length l ≡ k → part ≡ replicate (length l) 0 → part ≡ over (replicate k 0) l
zeros_over l part k size e =
    let z : List ℕ = replicate k 0 in
    let n : length z ≡ k = length-replicate k 0 in
    e ∙ ap (λ (i : ℕ). replicate i 0) size ∙ sym (append-nil z) ∙ ap (λ (t : List ℕ). z ++ t) (sym (drop_of_length-le l {i = length z} (omega arith)))

pub length_part : (m : List ℕ) (a k : ℕ) → a + k ≤ length m → length (take k (drop a m)) ≡ k
length_part m a k h = let e : length (drop a m) ≡ length m - a = length-drop a m in length-take-le k (drop a m) (omega arith)

-- two memories that are alike from `a` on are alike from `b` on
pub drop_more : (x y : List ℕ) (a b : ℕ) → a ≤ b → drop a x ≡ drop a y → drop b x ≡ drop b y
drop_more x y a b h e =
    let k : b ≡ a + (b - a) = omega arith in
    ap (λ (n : ℕ). drop n x) k ∙ sym (drop-drop (b - a) a x) ∙ ap (drop (b - a)) e ∙ drop-drop (b - a) a y ∙ ap (λ (n : ℕ). drop n y) (sym k)

-- so many bytes of a list from a place on, or all that are there
pub take_within : (l : List ℕ) (a n e : ℕ) → e ≡ min (a + n) (length l) → take (e - a) (drop a l) ≡ take n (drop a l)
take_within l a n e is = go (both (less n (length (drop a l))))
  where
    behind : length (drop a l) ≡ length l - a
    behind = length-drop a l

    go : (less n (length (drop a l)) ≡ true) ⊎ (less n (length (drop a l)) ≡ false) → take (e - a) (drop a l) ≡ take n (drop a l)
    go (inl h) = let more : n < length (drop a l) = less_lt h in ap (λ (k : ℕ). take k (drop a l)) (let q : e - a ≡ n = omega (arith, behind) in q)
    go (inr h) =
        let all : length (drop a l) ≤ n = less_le h in
        take_all (e - a) (drop a l) (omega (arith, behind)) ∙ sym (take_all n (drop a l) all)
