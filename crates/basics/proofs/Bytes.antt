-- Parts of bytes are bytes, and so are bytes behind bytes. Assumes nothing.
use mathlib.Core.Path.{◌≡◌, sym, ap, subst, ◌∙◌}
use mathlib.Core.Logic.{◌⊎◌, inl, inr}
use Prim.Native.Nat.{ℕ, ◌+◌, ◌-◌, ◌<◌, ◌≤◌}
use native.Mathlib.Omega.{arith}
use mathlib.Core.Bool.{true, false}
use mathlib.Core.List.{List, [], ◌++◌}
use lib.ListN.{length, take, drop, get_or, length-take, get_or-eq_default, get_or-append}
use lib.Seq.{get_or-take, get_or-drop, get_or-append-add}
use Rattle.basics.specs.Bytes.{Bytes}
use Rattle.basics.specs.Choice.{less}
use Rattle.basics.specs.Maps.{at}
use Rattle.basics.proofs.Choice.{both, less_lt, less_le}

pub bytes_drop : (n : ℕ) (l : List ℕ) → Bytes l → Bytes (drop n l)
unfolding at
bytes_drop n l h = record { byte = λ i. subst (λ (x : ℕ). x < 256) (sym (get_or-drop n l i 0)) (h.byte (n + i)) }

pub bytes_take : (n : ℕ) (l : List ℕ) → Bytes l → Bytes (take n l)
unfolding at
bytes_take n l h = record { byte = λ i. by_place i (both (less i n)) }
  where
    by_place : (i : ℕ) → (less i n ≡ true) ⊎ (less i n ≡ false) → get_or (take n l) i 0 < 256
    by_place i (inl t) = subst (λ (x : ℕ). x < 256) (sym (get_or-take n l i 0 (less_lt t))) (h.byte i)
    by_place i (inr t) =
        let past : n ≤ i = less_le t in
        let none : get_or (take n l) i 0 ≡ 0 = get_or-eq_default (take n l) 0 {n = i} (omega (arith, length-take n l)) in
        omega arith

pub bytes_none : Bytes []
unfolding at
bytes_none = record { byte = λ i. omega arith }

pub bytes_append : (l m : List ℕ) → Bytes l → Bytes m → Bytes (l ++ m)
unfolding at
bytes_append l m h k = record { byte = λ i. by_place i (both (less i (length l))) }
  where
    by_place : (i : ℕ) → (less i (length l) ≡ true) ⊎ (less i (length l) ≡ false) → get_or (l ++ m) i 0 < 256
    by_place i (inl t) = subst (λ (x : ℕ). x < 256) (sym (get_or-append l m 0 i (less_lt t))) (h.byte i)
    by_place i (inr t) =
        let past : length l ≤ i = less_le t in
        let behind : get_or (l ++ m) i 0 ≡ get_or m (i - length l) 0 =
        ap (λ (n : ℕ). get_or (l ++ m) n 0) (let e : i ≡ length l + (i - length l) = omega arith in e) ∙ get_or-append-add l m (i - length l) 0
        in
        subst (λ (x : ℕ). x < 256) (sym behind) (k.byte (i - length l))
