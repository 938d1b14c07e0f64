-- A test over a stretch of numbers, or of bytes, as the library's `any` answers it. Assumes nothing.
use mathlib.Core.Path.{◌≡◌, refl, ap, ◌∙◌}
use Prim.Native.Nat.{ℕ, zero, suc, ◌+◌, ◌≤◌, ◌<◌}
use native.Mathlib.Omega.{arith}
use native.Mathlib.Numerals.{add-one}
use mathlib.Core.Bool.{Bool, ◌||◌}
use mathlib.Core.List.{List}
use lib.ListN.{length, get_or, take, drop}
use Rattle.std.specs.List.{list_any, range_with_len}
use Rattle.std.proofs.Common.{drop-cons}
use Rattle.basics.specs.Maps.{at}
use Rattle.job.specs.Refusals.{any}

pub any_numbers : (f : ℕ → Bool) (from n : ℕ) → list_any f (range_with_len from n) ≡ any f from n
unfolding any
any_numbers f from zero = refl
any_numbers f from (suc n) = ap (λ (rest : Bool). f from || rest) (ap (λ (next : ℕ). list_any f (range_with_len next n)) (add-one from) ∙ any_numbers f (suc from) n)

pub any_bytes : (f : ℕ → Bool) (b : List ℕ) (from n : ℕ) → from + n ≤ length b → list_any f (take n (drop from b)) ≡ any (λ i. f (at b i)) from n
unfolding any at
any_bytes f b from zero h = refl
any_bytes f b from (suc n) h =
    let later : list_any f (take n (drop (suc from) b)) ≡ any (λ i. f (at b i)) (suc from) n = any_bytes f b (suc from) n (omega arith) in
    let there : from < length b = omega arith in
    ap (λ (rest : List ℕ). list_any f (take (suc n) rest)) (drop-cons b from 0 there) ∙ ap (λ (rest : Bool). f (get_or b from 0) || rest) later
