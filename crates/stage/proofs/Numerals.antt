-- What is printed of a whole number is a numeral and says that number; no other numeral says it. Assumes nothing.
use mathlib.Core.Path.{◌≡◌, refl, sym, ap, ap₂, subst, ◌∙◌}
use Prim.Native.Nat.{ℕ, zero, suc, ◌+◌, ◌-◌, ◌*◌, ◌/◌, ◌%◌, ◌≤◌, ◌<◌}
use native.Mathlib.Omega.{arith}
use mathlib.Core.List.{List, [], ◌∷◌, ◌++◌, append_assoc, append-nil}
use lib.IntN.{ℤ, pos, negsuc, neg_ℤ}
use Rattle.basics.specs.Choice.{pick, same, less}
use Rattle.basics.specs.Text.{text, digits, decimal, last_digit, decimal_digit, decimal_more}
use Rattle.basics.proofs.Choice.{pick_elim, pick_then, pick_else, same_refl, unequal_same, less_lt, less_le}
use Rattle.stage.specs.Millimetres.{millimetres}
use Rattle.stage.specs.Centimetres.{centimetres}
use Rattle.stage.specs.Printed.{signed_decimal, stage_text}
use Rattle.stage.specs.Numerals.{digits_say, says, Digits, Positive, Numeral}
use Rattle.stage.specs.Numerals.Digits.{none, more}
use Rattle.stage.specs.Numerals.Positive.{leading}
use Rattle.stage.specs.Numerals.Numeral.{nought, above, below}

-- digits are read one after another
say_append : (n : ℕ) (a b : List ℕ) → digits_say n (a ++ b) ≡ digits_say (digits_say n a) b
unfolding digits_say
say_append n [] b = refl
say_append n (d ∷ a) b = say_append (10 * n + (d - 48)) a b

-- a number in decimal says that number
digits_back : (count n : ℕ) → n < count → digits_say 0 (digits count n) ≡ n
unfolding digits digits_say
digits_back zero n h = absurd (let b : ⊥ = omega arith in b)
digits_back (suc count) n h =
    let front : List ℕ = digits count (n / 10) in
    pick_elim (λ (l : List ℕ). digits_say 0 l ≡ n) (less n 10) ((48 + n) ∷ []) (front ++ ((48 + n % 10) ∷ []))
    (λ t. omega arith)
    (λ t.
    let ten : 10 ≤ n = less_le t in
    let back : digits_say 0 front ≡ n / 10 = digits_back count (n / 10) (omega arith) in
    say_append 0 front ((48 + n % 10) ∷ []) ∙ (let e : 10 * digits_say 0 front + (48 + n % 10 - 48) ≡ n = omega arith in e))

decimal_back : (n : ℕ) → digits_say 0 (decimal n) ≡ n
unfolding decimal
decimal_back n = digits_back (suc n) n (omega arith)

-- one digit more
digits_behind : {l : List ℕ} {d : ℕ} → Digits l → 48 ≤ d → d ≤ 57 → Digits (l ++ (d ∷ []))
digits_behind none low high = more low high none
digits_behind (more a b t) low high = more a b (digits_behind t low high)

positive_behind : {l : List ℕ} {d : ℕ} → Positive l → 48 ≤ d → d ≤ 57 → Positive (l ++ (d ∷ []))
positive_behind (leading a b t) low high = leading a b (digits_behind t low high)

-- a number in decimal is digits, and the first is not `0` but where the number is 0
positive_digits : (count n : ℕ) → 1 ≤ n → n < count → Positive (digits count n)
unfolding digits
positive_digits zero n low h = absurd (let b : ⊥ = omega arith in b)
positive_digits (suc count) n low h =
    pick_elim Positive (less n 10) ((48 + n) ∷ []) (digits count (n / 10) ++ ((48 + n % 10) ∷ []))
    (λ t. let small : n < 10 = less_lt t in leading (omega arith) (omega arith) none)
    (λ t. let ten : 10 ≤ n = less_le t in positive_behind (positive_digits count (n / 10) (omega arith) (omega arith)) (omega arith) (omega arith))

positive_decimal : (n : ℕ) → Positive (decimal (suc n))
unfolding decimal
positive_decimal n = positive_digits (suc (suc n)) (suc n) (omega arith) (omega arith)

nought_decimal : decimal 0 ≡ 48 ∷ []
nought_decimal = decimal_digit 0 (omega arith)

-- no `-0` and no leading zero
pub printed_numeral : (z : ℤ) → Numeral (signed_decimal z)
unfolding signed_decimal text
printed_numeral (pos zero) = subst Numeral (sym nought_decimal) nought
printed_numeral (pos (suc n)) = above (positive_decimal n)
printed_numeral (negsuc n) = below (positive_decimal n)

-- what digits without a sign say, and what they say behind one
says_positive : {l : List ℕ} → Positive l → says l ≡ pos (digits_say 0 l)
unfolding says
says_positive (leading {d = d} {l = l} low high t) =
    pick_else (neg_ℤ (pos (digits_say 0 l))) (pos (digits_say 0 (d ∷ l))) (unequal_same (λ e. omega arith))

says_nought : says (48 ∷ []) ≡ pos 0
unfolding says digits_say same pick
says_nought = refl

says_below : (l : List ℕ) → says (45 ∷ l) ≡ neg_ℤ (pos (digits_say 0 l))
unfolding says
says_below l = pick_then (neg_ℤ (pos (digits_say 0 l))) (pos (digits_say 0 (45 ∷ l))) (same_refl 45)

-- a printed number reads back
pub reads_back : (z : ℤ) → says (signed_decimal z) ≡ z
unfolding signed_decimal text
reads_back (pos zero) = ap says nought_decimal ∙ says_nought
reads_back (pos (suc n)) = says_positive (positive_decimal n) ∙ ap pos (decimal_back (suc n))
reads_back (negsuc n) = says_below (decimal (suc n)) ∙ ap (λ (m : ℕ). neg_ℤ (pos m)) (decimal_back (suc n))

-- one digit behind a number
digit_behind : (n k : ℕ) → 1 ≤ n → k < 10 → decimal (10 * n + k) ≡ decimal n ++ ((48 + k) ∷ [])
unfolding last_digit
digit_behind n k low small =
    decimal_more (10 * n + k) (omega arith)
    ∙ ap₂ (λ (m e : ℕ). decimal m ++ ((48 + e) ∷ [])) (let a : (10 * n + k) / 10 ≡ n = omega arith in a) (let b : (10 * n + k) % 10 ≡ k = omega arith in b)

-- digits behind a number are the digits of what they say
digits_of : (n : ℕ) {l : List ℕ} → 1 ≤ n → Digits l → decimal (digits_say n l) ≡ decimal n ++ l
unfolding digits_say
digits_of n low none = sym (append-nil (decimal n))
digits_of n low (more {d = d} {l = l} a b t) =
    let m : ℕ = 10 * n + (d - 48) in
    digits_of m (omega arith) t
    ∙ ap (λ (front : List ℕ). front ++ l) (digit_behind n (d - 48) low (omega arith) ∙ ap (λ (c : ℕ). decimal n ++ (c ∷ [])) (let e : 48 + (d - 48) ≡ d = omega arith in e))
    ∙ append_assoc (decimal n) (d ∷ []) l

positive_of : {l : List ℕ} → Positive l → l ≡ decimal (digits_say 0 l)
unfolding digits_say
positive_of (leading {d = d} {l = l} low high t) =
    let n : ℕ = 10 * 0 + (d - 48) in
    sym
    (digits_of n (omega arith) t
    ∙ ap (λ (front : List ℕ). front ++ l) (decimal_digit n (omega arith))
    ∙ ap (λ (c : ℕ). c ∷ l) (let e : 48 + (10 * 0 + (d - 48)) ≡ d = omega arith in e))

-- such digits say more than 0
grows : (n : ℕ) (l : List ℕ) → n ≤ digits_say n l
unfolding digits_say
grows n [] = omega arith
grows n (d ∷ l) = omega (arith, grows (10 * n + (d - 48)) l)

says_more : {l : List ℕ} → Positive l → 1 ≤ digits_say 0 l
unfolding digits_say
says_more (leading {d = d} {l = l} low high t) = omega (arith, grows (10 * 0 + (d - 48)) l)

signed_below : (n : ℕ) → 1 ≤ n → 45 ∷ decimal n ≡ signed_decimal (neg_ℤ (pos n))
unfolding signed_decimal text
signed_below zero low = absurd (let b : ⊥ = omega arith in b)
signed_below (suc n) low = refl

-- a numeral is what is printed of the number that it says
pub only_numeral : {l : List ℕ} → Numeral l → l ≡ signed_decimal (says l)
unfolding signed_decimal
only_numeral nought = sym nought_decimal ∙ ap signed_decimal (sym says_nought)
only_numeral (above p) = positive_of p ∙ ap signed_decimal (sym (says_positive p))
only_numeral (below {l = l} p) =
    ap (λ (digits : List ℕ). 45 ∷ digits) (positive_of p) ∙ signed_below (digits_say 0 l) (says_more p) ∙ ap signed_decimal (sym (says_below l))

-- so there is one text for one number
pub one_text : {l m : List ℕ} → Numeral l → Numeral m → says l ≡ says m → l ≡ m
one_text n k e = only_numeral n ∙ ap signed_decimal e ∙ sym (only_numeral k)

-- what a report prints of a stage says its whole centimetres
pub stage_back : (field : ℕ) → says (stage_text field) ≡ centimetres (millimetres field)
unfolding stage_text
stage_back field = reads_back (centimetres (millimetres field))
