-- A stream shortened in its place: the count of entries is stored, and what is behind the last one is left out. Assumes nothing.
use mathlib.Core.Path.{◌≡◌, ap, ◌∙◌}
use Prim.Native.Nat.{ℕ, ◌+◌, ◌-◌, ◌*◌, ◌≤◌}
use native.Mathlib.Omega.{arith}
use mathlib.Core.List.{List, ◌++◌}
use lib.ListN.{length, take, drop}
use lib.Seq.{length-take-le, take-append-add, drop-drop}
use Rattle.basics.specs.Words.{word_bytes}
use Rattle.memory.specs.Over.{over}
use Rattle.memory.proofs.Over.{part_over}
use Rattle.job.specs.Stream.{operations}
use Rattle.remains.specs.Kept.{records_end, entries_kept, shortened}

-- it ends within the memory
pub end_within : (s : List ℕ) → records_end s ≤ length s → records_end s + entries_kept s ≤ length s
unfolding entries_kept
end_within s there = omega arith

length_word : (n : ℕ) → length (word_bytes n) ≡ 2
unfolding word_bytes
length_word n = omega arith

pub in_place : (s part : List ℕ) (end count : ℕ) → records_end s ≤ length s → end ≡ records_end s + entries_kept s → count ≡ entries_kept s
    → part ≡ over (word_bytes count) (take (length s - 4) (drop 4 s)) → take end (take 4 s ++ (part ++ drop (length s - 4) (drop 4 s))) ≡ shortened s
unfolding records_end shortened
in_place s part end count there is counted e =
    let n : ℕ = entries_kept s in
    let k : ℕ = 4 * operations s + n in
    let rest : List ℕ = drop 6 s in
    let front : length (take 4 s) ≡ 4 = length-take-le 4 s (omega arith) in
    ap (take end) (part_over s (word_bytes count) part 4 (length s - 4) (omega (arith, length_word count)) e)
    ∙ ap (λ (c : ℕ). take end (take 4 s ++ over (word_bytes c) (drop 4 s))) counted
    ∙ ap (λ (x : List ℕ). take end (take 4 s ++ (word_bytes n ++ x))) (ap (λ (i : ℕ). drop i (drop 4 s)) (length_word n) ∙ drop-drop 2 4 s)
    ∙ ap (λ (i : ℕ). take i (take 4 s ++ (word_bytes n ++ rest))) (let q : end ≡ length (take 4 s) + (length (word_bytes n) + k) = omega (arith, front, length_word n) in q)
    ∙ take-append-add (take 4 s) (word_bytes n ++ rest) (length (word_bytes n) + k)
    ∙ ap (λ (x : List ℕ). take 4 s ++ x) (take-append-add (word_bytes n) rest k)
