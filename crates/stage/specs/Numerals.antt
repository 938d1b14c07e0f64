-- Whole numbers as a reader takes them: what a text says, and which texts are numerals. The printer is held against this.
use Rattle.std.specs.Prelude.{ℕ, ◌+◌, ◌-◌, ◌*◌, ◌≤◌, List, [], ◌∷◌, ℤ, pos, neg_ℤ}
use Rattle.basics.specs.Choice.{pick, same}

-- what digits say behind a number that was read before them; 48 is the byte of `0`
unfoldable pub digits_say : ℕ → List ℕ → ℕ
digits_say n [] = n
digits_say n (d ∷ l) = digits_say (10 * n + (d - 48)) l

-- what a text says: 45 is the byte of `-`
unfoldable pub says : List ℕ → ℤ
says [] = pos 0
says (c ∷ l) = pick (same c 45) (neg_ℤ (pos (digits_say 0 l))) (pos (digits_say 0 (c ∷ l)))

-- digits from `0` to `9`
pub data Digits : List ℕ → Type 0 where
  none : Digits []
  more : {d : ℕ} {l : List ℕ} → 48 ≤ d → d ≤ 57 → Digits l → Digits (d ∷ l)

-- digits of which the first is not `0`
pub data Positive : List ℕ → Type 0 where
  leading : {d : ℕ} {l : List ℕ} → 49 ≤ d → d ≤ 57 → Digits l → Positive (d ∷ l)

-- a numeral is `0`, such digits, or a `-` before such digits: no `-0` and no leading zero
pub data Numeral : List ℕ → Type 0 where
  nought : Numeral (48 ∷ [])
  above : {l : List ℕ} → Positive l → Numeral l
  below : {l : List ℕ} → Positive l → Numeral (45 ∷ l)
