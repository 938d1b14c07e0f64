-- How many digits a number has. Assumes nothing.
use Prim.Native.Nat.{ℕ, zero, suc, ◌+◌, ◌/◌, ◌%◌, ◌^◌, ◌≤◌, ◌<◌}
use mathlib.Core.List.{[], ◌∷◌, ◌++◌}
use native.Mathlib.Omega.{arith}
use lib.ListN.{length, length-append}
use Rattle.basics.specs.Choice.{less}
use Rattle.basics.specs.Text.{digits, decimal}
use Rattle.basics.proofs.Choice.{pick_elim, less_le}

-- a number below a power of ten has at most so many digits
digits_length : (most count n : ℕ) → n < 10 ^ suc most → length (digits count n) ≤ suc most
unfolding digits
digits_length most zero n h = omega arith
digits_length zero (suc count) n h =
    pick_elim (λ l. length l ≤ 1) (less n 10) ((48 + n) ∷ []) (digits count (n / 10) ++ ((48 + n % 10) ∷ [])) (λ t. omega arith) (λ t. let low : 10 ≤ n = less_le t in absurd (omega arith))
digits_length (suc most) (suc count) n h =
    let front : length (digits count (n / 10)) ≤ suc most = digits_length most count (n / 10) (omega arith) in
    pick_elim (λ l. length l ≤ suc (suc most)) (less n 10) ((48 + n) ∷ []) (digits count (n / 10) ++ ((48 + n % 10) ∷ [])) (λ t. omega arith) (λ t. omega (arith, length-append (digits count (n / 10)) ((48 + n % 10) ∷ [])))

pub decimal_length : (most n : ℕ) → n < 10 ^ suc most → length (decimal n) ≤ suc most
unfolding decimal
decimal_length most n h = digits_length most (suc n) n h
