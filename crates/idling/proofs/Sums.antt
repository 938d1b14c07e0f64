-- A choice between two numbers as a sum of products, where the test is 1 or 0. Assumes nothing.
use mathlib.Core.Path.{◌≡◌, sym, ◌∙◌}
use Prim.Native.Nat.{ℕ, ◌+◌, ◌-◌, ◌*◌, ◌≤◌}
use native.Mathlib.Omega.{arith}
use mathlib.Core.Bool.{Bool, true, false}
use mir.Val.{bool_byte}
use Rattle.basics.specs.Choice.{pick}
use Rattle.basics.proofs.Choice.{pick_true, pick_false}

pub one_or_none : (b : Bool) → bool_byte b ≤ 1
one_or_none true = omega arith
one_or_none false = omega arith

-- no more than the number itself
pub product : (n : ℕ) (b : Bool) → n * bool_byte b ≤ n
product n true = omega arith
product n false = omega arith

pub chosen : (n m : ℕ) (b : Bool) → n * bool_byte b + m * (1 - bool_byte b) ≡ pick b n m
chosen n m true = let e : n * 1 + m * (1 - 1) ≡ n = omega arith in e ∙ sym (pick_true n m)
chosen n m false = let e : n * 0 + m * (1 - 0) ≡ m = omega arith in e ∙ sym (pick_false n m)

-- the sum is one of the two
pub no_more : (n m : ℕ) (b : Bool) → n ≤ 255 → m ≤ 255 → n * bool_byte b + m * (1 - bool_byte b) ≤ 255
no_more n m true h k = let e : n * 1 + m * (1 - 1) ≡ n = omega arith in omega arith
no_more n m false h k = let e : n * 0 + m * (1 - 0) ≡ m = omega arith in omega arith
