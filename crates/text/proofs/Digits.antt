-- Laws of `decimal`: how many digits a number has, and laying its digits from the last to the first. Assumes nothing.
use mathlib.Core.Path.{◌≡◌, sym, ap, subst, ◌∙◌}
use mathlib.Core.Logic.{⊎_elim}
use Prim.Native.Nat.{ℕ, zero, suc, ◌+◌, ◌-◌, ◌/◌, ◌%◌, ◌^◌, ◌≤◌, ◌<◌}
use native.Mathlib.Nat.{pow-suc}
use native.Mathlib.Omega.{arith}
use lib.Dec.{lit≤}
use mathlib.Core.List.{List, [], ◌∷◌, ◌++◌, append_assoc, append-nil}
use lib.ListN.{length, set, length-append}
use Rattle.basics.specs.Choice.{less}
use Rattle.basics.specs.Text.{decimal, last_digit, decimal_digit, decimal_more}
use Rattle.basics.proofs.Choice.{both, less_lt, less_le}
use Rattle.text.specs.Laid.{laid}
use Rattle.text.proofs.Laid.{laid_nothing, set_before_laid}

pub one_digit : (n : ℕ) → n < 10 → length (decimal n) ≡ 1
one_digit n h = ap length (decimal_digit n h)

more_digits : (n : ℕ) → 10 ≤ n → length (decimal n) ≡ length (decimal (n / 10)) + 1
unfolding last_digit
more_digits n h = ap length (decimal_more n h) ∙ length-append (decimal (n / 10)) ((48 + n % 10) ∷ [])

ten_power : (k : ℕ) → 1 ≤ 10 ^ k
ten_power zero = lit≤ tt
ten_power (suc k) = omega (arith, pow-suc 10 k, ten_power k)

-- a number from a power of ten up to the next has one digit more than the power says
pub digits_by_power : (k n : ℕ) → 10 ^ k ≤ n → n < 10 ^ suc k → suc k ≡ length (decimal n)
digits_by_power zero n low high = sym (one_digit n high)
digits_by_power (suc k) n low high =
    let front : suc k ≡ length (decimal (n / 10)) = digits_by_power k (n / 10) (omega (arith, pow-suc 10 k)) (omega (arith, pow-suc 10 (suc k))) in
    omega (arith, more_digits n (omega (arith, pow-suc 10 k, ten_power k)))

some_digit : (n : ℕ) → 1 ≤ length (decimal n)
some_digit n =
    ⊎_elim (λ e. omega (arith, one_digit n (less_lt e))) (λ e. omega (arith, more_digits n (less_le e))) (both (less n 10))

-- the digits of `n` from place `i` on are laid, and those before it are the digits of `rest`
pub record Backward (before after : List ℕ) (at n i rest : ℕ) : Type 0 where
  pub written : List ℕ
  pub lays : after ≡ laid before i written
  pub front : at < i → decimal n ≡ decimal rest ++ written
  pub whole : i ≡ at → decimal n ≡ written
  pub places : i + length written ≡ at + length (decimal n)
  pub low : at ≤ i

pub backward_none : (out : List ℕ) (at : ℕ) {n size : ℕ} → size ≡ length (decimal n) → Backward out out at n (at + size) n
backward_none out at {n} {size} e =
    record {
      written = [];
      lays = sym (laid_nothing out (at + size));
      front = λ h. sym (append-nil (decimal n));
      whole = λ h. absurd (omega (arith, some_digit n));
      places = omega arith;
      low = omega arith;
    }

module _ {before after : List ℕ} {at n i rest : ℕ} (room : at + length (decimal n) ≤ length before) (w : Backward before after at n (suc i) rest) (h : at < suc i) where
  digits_left : suc i ≡ at + length (decimal rest)
  digits_left = omega (arith, w.places, ap length (w.front h), length-append (decimal rest) w.written)

  lays_more : set after i (48 + rest % 10) ≡ laid before i ((48 + rest % 10) ∷ w.written)
  lays_more =
      ap (λ (l : List ℕ). set l i (48 + rest % 10)) w.lays
      ∙ set_before_laid before i (48 + rest % 10) w.written (omega (arith, w.places))

  -- the first digit
  backward_first : rest < 10 → Backward before (set after i (48 + rest % 10)) at n i (rest / 10)
  backward_first small =
      let same : rest % 10 ≡ rest = omega arith in
      let one : length (decimal rest) ≡ 1 = one_digit rest small in
      record {
        written = (48 + rest % 10) ∷ w.written;
        lays = lays_more;
        front = λ more. absurd (omega (arith, digits_left));
        whole = λ e. w.front h ∙ ap (λ (l : List ℕ). l ++ w.written) (decimal_digit rest small) ∙ ap (λ (d : ℕ). (48 + d) ∷ w.written) (sym same);
        places = omega (arith, w.places);
        low = omega arith;
      }

  -- a digit behind others
  backward_later : 10 ≤ rest → Backward before (set after i (48 + rest % 10)) at n i (rest / 10)
  unfolding last_digit
  backward_later large =
      let more : length (decimal rest) ≡ length (decimal (rest / 10)) + 1 = more_digits rest large in
      record {
        written = (48 + rest % 10) ∷ w.written;
        lays = lays_more;
        front = λ m. w.front h ∙ ap (λ (l : List ℕ). l ++ w.written) (decimal_more rest large) ∙ append_assoc (decimal (rest / 10)) ((48 + rest % 10) ∷ []) w.written;
        whole = λ e. absurd (omega (arith, digits_left, some_digit (rest / 10)));
        places = omega (arith, w.places);
        low = omega arith;
      }

  backward_suc : Backward before (set after i (48 + rest % 10)) at n i (rest / 10)
  backward_suc = ⊎_elim (λ e. backward_first (less_lt e)) (λ e. backward_later (less_le e)) (both (less rest 10))

-- one digit more
pub backward_more : {before after : List ℕ} {at n i rest : ℕ} → at + length (decimal n) ≤ length before → Backward before after at n i rest → at < i → Backward before (set after (i - 1) (48 + rest % 10)) at n (i - 1) (rest / 10)
backward_more {before} {after} {at} {n} {i} {rest} room w h =
    let e : i ≡ suc (i - 1) = omega arith in
    backward_suc room (subst (λ (k : ℕ). Backward before after at n k rest) e w) (omega arith)

-- all digits
pub backward_all : {before after : List ℕ} {at n i rest : ℕ} → Backward before after at n i rest → i ≤ at → after ≡ laid before at (decimal n)
backward_all {before} {at = at} {i = i} w h =
    let e : i ≡ at = omega (arith, w.low) in
    w.lays ∙ ap (λ (k : ℕ). laid before k w.written) e ∙ ap (laid before at) (sym (w.whole e))
