-- A quoted text as its bytes, and a number in decimal digits.
use Rattle.std.specs.Prelude.{◌≡◌, refl, ℕ, zero, suc, ◌+◌, ◌/◌, ◌%◌, ◌≤◌, ◌<◌, Bool, true, false, not, T, ltb, List, [], ◌∷◌, ◌++◌}
use Rattle.std.proofs.Common.{sym, ap, subst, not-suc-le-zero, arith, nltb→le, lt→ltb, ltb→lt}
use Prim.Native.Char.{code}
use Prim.Native.String.{String}
use Rattle.basics.specs.Choice.{pick, less}

-- the bytes of a text; every text here is ASCII, so a character is one byte
unfoldable pub text : String → List ℕ
text String.[] = []
text (String.◌∷◌ c s) = code c ∷ text s

-- the decimal digits of `n`, if `n` has at most as many as `count` says
unfoldable pub digits : ℕ → ℕ → List ℕ
digits zero n = []
digits (suc count) n =
    let front : List ℕ = digits count (n / 10) in
    pick (less n 10) ((48 + n) ∷ []) (front ++ ((48 + n % 10) ∷ []))

-- a number in decimal, without leading zeros; a number has fewer digits than its successor says
unfoldable pub decimal : ℕ → List ℕ
decimal n = digits (suc n) n

-- The equations of `decimal`; nothing after them looks at the count of digits.

-- the last digit of a number, behind the front
unfoldable pub last_digit : ℕ → List ℕ
last_digit n = (48 + n % 10) ∷ []

digits_step : (b : Bool) (n : ℕ) (front other : List ℕ) → (b ≡ false → front ≡ other) → pick b ((48 + n) ∷ []) (front ++ last_digit n) ≡ pick b ((48 + n) ∷ []) (other ++ last_digit n)
unfolding pick
digits_step true n front other same_front = refl
digits_step false n front other same_front = ap (λ (l : List ℕ). l ++ last_digit n) (same_front refl)

at_least_ten : {n : ℕ} → less n 10 ≡ false → 10 ≤ n
unfolding less
at_least_ten {n} e = nltb→le n 10 (subst (λ (b : Bool). T (not b)) (sym e) tt)

-- more digits than are needed change nothing
digits_enough : (c d n : ℕ) → n < c → n < d → digits c n ≡ digits d n
unfolding digits last_digit
digits_enough zero d n h g = absurd (not-suc-le-zero h)
digits_enough (suc c) zero n h g = absurd (not-suc-le-zero g)
digits_enough (suc c) (suc d) n h g =
    digits_step (less n 10) n (digits c (n / 10)) (digits d (n / 10))
    (λ e. let ten : 10 ≤ n = at_least_ten e in digits_enough c d (n / 10) (omega arith) (omega arith))

-- a number below ten is its digit
pub decimal_digit : (n : ℕ) → n < 10 → decimal n ≡ (48 + n) ∷ []
unfolding decimal digits pick less
decimal_digit n h = go (ltb n 10) (lt→ltb n 10 h)
  where
    go : (b : Bool) → T b → pick b ((48 + n) ∷ []) (digits n (n / 10) ++ ((48 + n % 10) ∷ [])) ≡ (48 + n) ∷ []
    go true t = refl
    go false t = absurd t

-- a larger one is the digits of its tenth, then its last digit
pub decimal_more : (n : ℕ) → 10 ≤ n → decimal n ≡ decimal (n / 10) ++ last_digit n
unfolding decimal digits pick less last_digit
decimal_more n h = go (ltb n 10) (λ t. let k : n < 10 = ltb→lt n 10 t in omega arith)
  where
    go : (b : Bool) → (T b → ⊥) → pick b ((48 + n) ∷ []) (digits n (n / 10) ++ ((48 + n % 10) ∷ [])) ≡ digits (suc (n / 10)) (n / 10) ++ ((48 + n % 10) ∷ [])
    go true f = absurd (f tt)
    go false f = ap (λ (l : List ℕ). l ++ ((48 + n % 10) ∷ [])) (digits_enough n (suc (n / 10)) (n / 10) (omega arith) (omega arith))
