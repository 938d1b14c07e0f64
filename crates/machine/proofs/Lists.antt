-- Facts about lists of numbers: membership, no repetition, and that distinct numbers from 1 to n are at most n. Assumes nothing.
use mathlib.Core.Path.{◌≡◌, refl, sym, ap, ◌∙◌}
use mathlib.Core.Logic.{◌≢◌, ◌⊎◌, inl, inr}
use Prim.Native.Nat.{ℕ, zero, suc, ◌+◌, ◌≤◌}
use mathlib.Core.Bool.{Bool, true, false, not, true≢false}
use mathlib.Core.List.{List, [], ◌∷◌, ◌++◌, Memᴰ}
use native.Mathlib.Omega.{arith}
use lib.ListN.{length}
use Rattle.basics.specs.Choice.{pick, same}
use Rattle.basics.proofs.Choice.{both, pick_true, pick_false, pick_then, pick_else, pick_elim, same_refl, same_equal, equal_same, unequal_same, split}
use Rattle.machine.specs.Effects.{numbers, sift}
use Rattle.machine.specs.Explained.{occurrences}

-- a member that is kept stays
pub sift_in : (f : ℕ → Bool) {x : ℕ} {l : List ℕ} → Memᴰ x l → f x ≡ true → Memᴰ x (sift f l)
unfolding sift
sift_in f {x} (mathlib.Core.List.Memᴰ.head {x = y} {xs = l} e) t =
    pick_elim (Memᴰ x) (f y) (y ∷ sift f l) (sift f l) (λ p. mathlib.Core.List.Memᴰ.head e) (λ p. absurd (true≢false (sym t ∙ ap f e ∙ p)))
sift_in f {x} (mathlib.Core.List.Memᴰ.tail {x = y} {xs = l} m) t =
    let rest : Memᴰ x (sift f l) = sift_in f m t in
    pick_elim (Memᴰ x) (f y) (y ∷ sift f l) (sift f l) (λ p. mathlib.Core.List.Memᴰ.tail rest) (λ p. rest)

-- a first member stays, or goes
pub sift_keeps : (f : ℕ → Bool) (x : ℕ) (l : List ℕ) → f x ≡ true → sift f (x ∷ l) ≡ x ∷ sift f l
unfolding sift
sift_keeps f x l t = pick_then _ _ t

pub sift_drops : (f : ℕ → Bool) (x : ℕ) (l : List ℕ) → f x ≡ false → sift f (x ∷ l) ≡ sift f l
unfolding sift
sift_drops f x l t = pick_else _ _ t

-- what a sift keeps was a member and meets the test
pub sift_out : (f : ℕ → Bool) (l : List ℕ) {x : ℕ} → Memᴰ x (sift f l) → Memᴰ x l × (f x ≡ true)
unfolding sift
sift_out f [] m = absurd (mathlib.Core.List.Memᴰ.not-nil m)
sift_out f (y ∷ l) {x} m =
    let below : Memᴰ x (sift f l) → Memᴰ x l × (f x ≡ true) = λ n. sift_out f l n in
    pick_elim (λ r. Memᴰ x r → Memᴰ x (y ∷ l) × (f x ≡ true)) (f y) (y ∷ sift f l) (sift f l) (λ p n. front below p (mathlib.Core.List.Memᴰ.cases_cons n)) (λ p n. behind (below n)) m
  where
    behind : Memᴰ x l × (f x ≡ true) → Memᴰ x (y ∷ l) × (f x ≡ true)
    behind r = (mathlib.Core.List.Memᴰ.tail r.0, r.1)

    front : (Memᴰ x (sift f l) → Memᴰ x l × (f x ≡ true)) → f y ≡ true → (x ≡ y) ⊎ Memᴰ x (sift f l) → Memᴰ x (y ∷ l) × (f x ≡ true)
    front below p (inl e) = (mathlib.Core.List.Memᴰ.head e, ap f e ∙ p)
    front below p (inr n) = behind (below n)

pub sift_append : (f : ℕ → Bool) (a b : List ℕ) → sift f (a ++ b) ≡ sift f a ++ sift f b
unfolding sift
sift_append f [] b = refl
sift_append f (x ∷ a) b =
    let rest : sift f (a ++ b) ≡ sift f a ++ sift f b = sift_append f a b in
    go rest (both (f x))
  where
    go : sift f (a ++ b) ≡ sift f a ++ sift f b → (f x ≡ true) ⊎ (f x ≡ false) → pick (f x) (x ∷ sift f (a ++ b)) (sift f (a ++ b)) ≡ pick (f x) (x ∷ sift f a) (sift f a) ++ sift f b
    go rest (inl t) = simp (t, pick_true) (ap (λ l. x ∷ l) rest)
    go rest (inr t) = simp (t, pick_false) rest

-- tests that agree on the members keep the same
pub sift_agrees : (f g : ℕ → Bool) (l : List ℕ) → ((x : ℕ) → Memᴰ x l → f x ≡ g x) → sift f l ≡ sift g l
unfolding sift
sift_agrees f g [] h = refl
sift_agrees f g (x ∷ l) h =
    let rest : sift f l ≡ sift g l = sift_agrees f g l (λ y m. h y (mathlib.Core.List.Memᴰ.tail m)) in
    rw (h x (mathlib.Core.List.Memᴰ.head refl)) (ap (λ r. pick (g x) (x ∷ r) r) rest)

-- a test that all members meet keeps all
pub sift_all : (f : ℕ → Bool) (l : List ℕ) → ((x : ℕ) → Memᴰ x l → f x ≡ true) → sift f l ≡ l
unfolding sift
sift_all f [] h = refl
sift_all f (x ∷ l) h =
    let rest : sift f l ≡ l = sift_all f l (λ y m. h y (mathlib.Core.List.Memᴰ.tail m)) in
    rw (h x (mathlib.Core.List.Memᴰ.head refl), pick_true) (ap (λ r. x ∷ r) rest)

-- the numbers 1 to n are those
pub numbers_in : (n : ℕ) {x : ℕ} → 1 ≤ x → x ≤ n → Memᴰ x (numbers n)
unfolding numbers
numbers_in zero low high = absurd (omega arith)
numbers_in (suc n) {x} low high =
    let below : x ≤ n → Memᴰ x (numbers n) = λ h. numbers_in n low h in
    go below (split x (suc n))
  where
    go : (x ≤ n → Memᴰ x (numbers n)) → (x ≡ suc n) ⊎ (x ≢ suc n) → Memᴰ x (numbers n ++ (suc n ∷ []))
    go below (inl e) = mathlib.Core.List.Memᴰ.append_right (numbers n) (mathlib.Core.List.Memᴰ.head e)
    go below (inr d) = mathlib.Core.List.Memᴰ.append_left (suc n ∷ []) (below (omega arith))

pub numbers_out : (n : ℕ) {x : ℕ} → Memᴰ x (numbers n) → (1 ≤ x) × (x ≤ n)
unfolding numbers
numbers_out zero m = absurd (mathlib.Core.List.Memᴰ.not-nil m)
numbers_out (suc n) {x} m =
    let below : Memᴰ x (numbers n) → (1 ≤ x) × (x ≤ n) = λ h. numbers_out n h in
    go below (mathlib.Core.List.Memᴰ.append_cases (numbers n) m)
  where
    go : (Memᴰ x (numbers n) → (1 ≤ x) × (x ≤ n)) → Memᴰ x (numbers n) ⊎ Memᴰ x (suc n ∷ []) → (1 ≤ x) × (x ≤ suc n)
    go below (inl h) = let b : (1 ≤ x) × (x ≤ n) = below h in omega arith
    go below (inr h) = let e : x ≡ suc n = mathlib.Core.List.Memᴰ.eq_of_singleton h in omega arith

-- a list without repetition
pub data Distinct : List ℕ → Type 0 where
  none : Distinct []
  more : {x : ℕ} {l : List ℕ} → (Memᴰ x l → ⊥) → Distinct l → Distinct (x ∷ l)

pub distinct_first : {x : ℕ} {l : List ℕ} → Distinct (x ∷ l) → Memᴰ x l → ⊥
distinct_first (more fresh d) = fresh

pub distinct_rest : {x : ℕ} {l : List ℕ} → Distinct (x ∷ l) → Distinct l
distinct_rest (more fresh d) = d

distinct_append : {a b : List ℕ} → Distinct a → Distinct b → ((x : ℕ) → Memᴰ x a → Memᴰ x b → ⊥) → Distinct (a ++ b)
distinct_append none d apart = d
distinct_append {b} (more {x = x} {l = a} fresh c) d apart = more (λ m. go (mathlib.Core.List.Memᴰ.append_cases a m)) (distinct_append c d (λ y m n. apart y (mathlib.Core.List.Memᴰ.tail m) n))
  where
    go : Memᴰ x a ⊎ Memᴰ x b → ⊥
    go (inl m) = fresh m
    go (inr m) = apart x (mathlib.Core.List.Memᴰ.head refl) m

pub numbers_distinct : (n : ℕ) → Distinct (numbers n)
unfolding numbers
numbers_distinct zero = none
numbers_distinct (suc n) = distinct_append (numbers_distinct n) (more mathlib.Core.List.Memᴰ.not-nil none) (λ x m h. let b : (1 ≤ x) × (x ≤ n) = numbers_out n m in let e : x ≡ suc n = mathlib.Core.List.Memᴰ.eq_of_singleton h in omega arith)

pub sift_distinct : (f : ℕ → Bool) {l : List ℕ} → Distinct l → Distinct (sift f l)
unfolding sift
sift_distinct f none = none
sift_distinct f (more {x = x} {l = l} fresh d) =
    let rest : Distinct (sift f l) = sift_distinct f d in
    pick_elim Distinct (f x) (x ∷ sift f l) (sift f l) (λ p. more (λ m. fresh (sift_out f l m).0) rest) (λ p. rest)

-- how often a number is in a distinct list: once if it is there, and never else
pub occurs_never : (x : ℕ) (l : List ℕ) → (Memᴰ x l → ⊥) → occurrences x l ≡ 0
unfolding occurrences
occurs_never x [] h = refl
occurs_never x (y ∷ l) h =
    let rest : occurrences x l ≡ 0 = occurs_never x l (λ m. h (mathlib.Core.List.Memᴰ.tail m)) in
    pick_elim (λ c. c + occurrences x l ≡ 0) (same x y) 1 0 (λ p. absurd (h (mathlib.Core.List.Memᴰ.head (same_equal p)))) (λ p. omega arith)

pub occurs_once : (x : ℕ) {l : List ℕ} → Distinct l → Memᴰ x l → occurrences x l ≡ 1
unfolding occurrences
occurs_once x none m = absurd (mathlib.Core.List.Memᴰ.not-nil m)
occurs_once x (more {x = y} {l = l} fresh d) m =
    let below : Memᴰ x l → occurrences x l ≡ 1 = λ n. occurs_once x d n in
    go below (split x y) (mathlib.Core.List.Memᴰ.cases_cons m)
  where
    go : (Memᴰ x l → occurrences x l ≡ 1) → (x ≡ y) ⊎ (x ≢ y) → (x ≡ y) ⊎ Memᴰ x l → pick (same x y) 1 0 + occurrences x l ≡ 1
    go below (inl e) m =
        let none_behind : occurrences x l ≡ 0 = occurs_never x l (λ n. fresh (mathlib.Core.List.Memᴰ.cast (sym e) n)) in
        rw (equal_same e, pick_true) (omega arith)
    go below (inr d) (inl e) = absurd (d e)
    go below (inr d) (inr n) =
        let one_behind : occurrences x l ≡ 1 = below n in
        rw (unequal_same d, pick_false) (omega arith)

-- a member occurs
occurs : {x : ℕ} {l : List ℕ} → Memᴰ x l → 1 ≤ occurrences x l
unfolding occurrences
occurs {x} (mathlib.Core.List.Memᴰ.head {x = y} {xs = l} e) =
    let one : ◌≡◌ {A = ℕ} (pick (same x y) 1 0) 1 = pick_then 1 0 (equal_same e) in
    omega arith
occurs {x} (mathlib.Core.List.Memᴰ.tail {x = y} {xs = l} m) = let behind : 1 ≤ occurrences x l = occurs m in omega arith

-- a list of which no member occurs twice
pub occurring_once : (l : List ℕ) → ((x : ℕ) → Memᴰ x l → occurrences x l ≤ 1) → Distinct l
unfolding occurrences
occurring_once [] h = none
occurring_once (x ∷ l) h =
    more fresh (occurring_once l (λ y m. let all : pick (same y x) 1 0 + occurrences y l ≤ 1 = h y (mathlib.Core.List.Memᴰ.tail m) in omega arith))
  where
    fresh : Memᴰ x l → ⊥
    fresh m =
        let all : pick (same x x) 1 0 + occurrences x l ≤ 1 = h x (mathlib.Core.List.Memᴰ.head refl) in
        let one : ◌≡◌ {A = ℕ} (pick (same x x) 1 0) 1 = pick_then 1 0 (same_refl x) in
        let behind : 1 ≤ occurrences x l = occurs m in
        omega arith

pub occurrences_append : (x : ℕ) (a b : List ℕ) → occurrences x (a ++ b) ≡ occurrences x a + occurrences x b
unfolding occurrences
occurrences_append x [] b = omega arith
occurrences_append x (y ∷ a) b = omega (arith, occurrences_append x a b)

-- one number left out of a distinct list shortens it by one at most
shortens_by_one : (y : ℕ) {l : List ℕ} → Distinct l → length l ≤ suc (length (sift (λ x. not (same x y)) l))
unfolding sift
shortens_by_one y none = omega arith
shortens_by_one y (more {x = x} {l = l} fresh d) =
    let rest : length l ≤ suc (length (sift (λ x. not (same x y)) l)) = shortens_by_one y d in
    go rest (both (same x y))
  where
    go : length l ≤ suc (length (sift (λ x. not (same x y)) l)) → (same x y ≡ true) ⊎ (same x y ≡ false) → suc (length l) ≤ suc (length (pick (not (same x y)) (x ∷ sift (λ x. not (same x y)) l) (sift (λ x. not (same x y)) l)))
    go rest (inl t) =
        let all : sift (λ x. not (same x y)) l ≡ l = sift_all (λ x. not (same x y)) l (λ z m. ap not (unequal_same (λ e. fresh (mathlib.Core.List.Memᴰ.cast (same_equal t ∙ sym e) m)))) in
        rw (t, pick_false, all) (omega arith)
    go rest (inr t) = rw (t, pick_true) (omega arith)

-- distinct numbers from 1 to n are at most n
pub distinct_at_most : (n : ℕ) {l : List ℕ} → Distinct l → ((x : ℕ) → Memᴰ x l → (1 ≤ x) × (x ≤ n)) → length l ≤ n
distinct_at_most zero none h = omega arith
distinct_at_most zero (more {x = x} fresh d) h = let b : (1 ≤ x) × (x ≤ 0) = h x (mathlib.Core.List.Memᴰ.head refl) in absurd (omega arith)
distinct_at_most (suc n) {l} d h =
    let kept : List ℕ = sift (λ x. not (same x (suc n))) l in
    let few : length kept ≤ n = distinct_at_most n (sift_distinct (λ x. not (same x (suc n))) d) (λ x m. inside x (sift_out (λ x. not (same x (suc n))) l m)) in
    let by_one : length l ≤ suc (length kept) = shortens_by_one (suc n) d in
    omega arith
  where
    inside : (x : ℕ) → Memᴰ x l × (not (same x (suc n)) ≡ true) → (1 ≤ x) × (x ≤ n)
    inside x r =
        let b : (1 ≤ x) × (x ≤ suc n) = h x r.0 in
        let d : x ≢ suc n = λ e. true≢false (sym r.1 ∙ ap not (equal_same e)) in
        omega arith
