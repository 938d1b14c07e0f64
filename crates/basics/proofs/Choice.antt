-- Laws of `pick`, `same` and `less`: what a test says of numbers, and how a proof goes by cases of it. Assumes nothing.
use mathlib.Core.Path.{◌≡◌, refl, sym, ap, subst, ◌∙◌}
use mathlib.Core.Logic.{◌≢◌, ◌⊎◌, inl, inr}
use Prim.Native.Nat.{ℕ, ◌≤◌, ◌<◌}
use mathlib.Core.Bool.{Bool, true, false, not, true≢false}
use native.Mathlib.Omega.{arith}
use lib.Dec.{T, eqb, leb, ltb, eqb→eq, eqb_refl, ltb→lt, lt→ltb, nltb→le}
use borrow.Author.Tests.{le-leb, lt-leb}
use Rattle.basics.specs.Choice.{pick, same, less}

-- a test is one or the other
pub both : (b : Bool) → (b ≡ true) ⊎ (b ≡ false)
both true = inl refl
both false = inr refl

-- what holds of each answer of a test holds of the test
pub test_elim {κ} : (P : Bool → Type κ) (t : Bool) → (t ≡ true → P true) → (t ≡ false → P false) → P t
test_elim P true f g = f refl
test_elim P false f g = g refl

pub pick_true {ℓ} : {A : Type ℓ} (a b : A) → pick true a b ≡ a
unfolding pick
pick_true a b = refl

pub pick_false {ℓ} : {A : Type ℓ} (a b : A) → pick false a b ≡ b
unfolding pick
pick_false a b = refl

pub pick_then {ℓ} : {A : Type ℓ} {t : Bool} (a b : A) → t ≡ true → pick t a b ≡ a
pick_then a b e = ap (λ (x : Bool). pick x a b) e ∙ pick_true a b

pub pick_else {ℓ} : {A : Type ℓ} {t : Bool} (a b : A) → t ≡ false → pick t a b ≡ b
pick_else a b e = ap (λ (x : Bool). pick x a b) e ∙ pick_false a b

-- what holds of each value under its test's answer holds of the choice
pub pick_elim {ℓ κ} : {A : Type ℓ} (P : A → Type κ) (t : Bool) (a b : A) → (t ≡ true → P a) → (t ≡ false → P b) → P (pick t a b)
unfolding pick
pick_elim P true a b f g = f refl
pick_elim P false a b f g = g refl

T_of : (b : Bool) → b ≡ true → T b
T_of b e = subst T (sym e) tt

of_T : (b : Bool) → T b → b ≡ true
of_T true t = refl
of_T false t = absurd t

T_not_of : (b : Bool) → b ≡ false → T (not b)
T_not_of b e = subst (λ (x : Bool). T (not x)) (sym e) tt

of_not : (b : Bool) → (T b → ⊥) → b ≡ false
of_not true f = absurd (f tt)
of_not false f = refl

pub same_equal : {m n : ℕ} → same m n ≡ true → m ≡ n
unfolding same
same_equal {m} {n} e = eqb→eq m n (T_of (eqb m n) e)

pub same_refl : (n : ℕ) → same n n ≡ true
unfolding same
same_refl n = of_T (eqb n n) (eqb_refl n)

pub equal_same : {m n : ℕ} → m ≡ n → same m n ≡ true
equal_same {m} {n} e = subst (λ (k : ℕ). same m k ≡ true) e (same_refl m)

pub same_unequal : {m n : ℕ} → same m n ≡ false → m ≢ n
same_unequal {m} {n} e q = true≢false (sym (equal_same q) ∙ e)

pub unequal_same : {m n : ℕ} → m ≢ n → same m n ≡ false
unfolding same
unequal_same {m} {n} f = of_not (eqb m n) (λ t. f (eqb→eq m n t))

-- two numbers are equal or not
pub split : (m n : ℕ) → (m ≡ n) ⊎ (m ≢ n)
split m n = go (both (same m n))
  where
    go : (same m n ≡ true) ⊎ (same m n ≡ false) → (m ≡ n) ⊎ (m ≢ n)
    go (inl e) = inl (same_equal e)
    go (inr e) = inr (same_unequal e)

pub less_lt : {m n : ℕ} → less m n ≡ true → m < n
unfolding less
less_lt {m} {n} e = ltb→lt m n (T_of (ltb m n) e)

pub less_le : {m n : ℕ} → less m n ≡ false → n ≤ m
unfolding less
less_le {m} {n} e = nltb→le m n (T_not_of (ltb m n) e)

pub lt_less : {m n : ℕ} → m < n → less m n ≡ true
unfolding less
lt_less {m} {n} h = of_T (ltb m n) (lt→ltb m n h)

pub le_less : {m n : ℕ} → n ≤ m → less m n ≡ false
unfolding less
le_less {m} {n} h = of_not (ltb m n) (λ t. let k : m < n = ltb→lt m n t in omega arith)

-- one number is at most another, or greater
pub compare : (m n : ℕ) → (m ≤ n) ⊎ (n < m)
compare m n = go (both (less n m))
  where
    go : (less n m ≡ true) ⊎ (less n m ≡ false) → (m ≤ n) ⊎ (n < m)
    go (inl t) = inr (less_lt t)
    go (inr e) = inl (less_le e)

-- a test of the code for at most is one for not greater
pub at_most : (m n : ℕ) → leb m n ≡ not (less n m)
at_most m n = go (compare m n)
  where
    go : (m ≤ n) ⊎ (n < m) → leb m n ≡ not (less n m)
    go (inl h) = le-leb m n h ∙ ap not (sym (le_less h))
    go (inr h) = lt-leb m n h ∙ ap not (sym (lt_less h))
