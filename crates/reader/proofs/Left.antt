-- What a read gives and leaves, by the size of the work memory. Assumes nothing.
use mathlib.Core.Path.{◌≡◌, sym, ap, ap₂, ◌∙◌}
use Prim.Native.Nat.{ℕ, ◌+◌, ◌-◌, ◌≤◌, ◌<◌}
use native.Mathlib.Omega.{arith}
use mathlib.Core.Bool.{Bool, false}
use mathlib.Core.List.{List, [], ◌++◌, append_assoc}
use lib.ListN.{length, take, drop, replicate}
use lib.Seq.{drop-drop}
use Rattle.basics.specs.Choice.{pick, same}
use Rattle.basics.proofs.Choice.{pick_true, pick_false, pick_then, pick_else, pick_elim, lt_less, le_less, unequal_same}
use Rattle.memory.proofs.Over.{length_part}
use Rattle.job.specs.declared.Limits.{Limits}
use Rattle.job.specs.Limits.{most_stream}
use Rattle.job.specs.File.{zeros, file_refusal, stream_of, zeros_behind}
use Rattle.job.specs.Calls.{small_work, read_number, read_length, held, read_work}
use Rattle.std.specs.Prelude.{Result}
use Rattle.job.specs.declared.Refusal.{Refusal}
use Rattle.job.specs.Answer.{answer_number, answer_length}
use Rattle.reader.specs.Loaded.{kept, Loaded}

-- a choice's length is the choice of the lengths
length_pick : (b : Bool) (x y : List ℕ) → length (pick b x y) ≡ pick b (length x) (length y)
length_pick b x y =
    pick_elim (λ (l : List ℕ). length l ≡ pick b (length x) (length y)) b x y
    (λ e. sym (pick_then (length x) (length y) e))
    (λ e. sym (pick_else (length x) (length y) e))

-- the work memory is too small: number 1, and nothing is touched
module _ (l : Limits) (file work : List ℕ) (h : length work < most_stream l) where
  pub small_number : 1 ≡ read_number l file work
  unfolding read_number small_work
  small_number = simp (lt_less h, pick_true)

  pub small_length : 0 ≡ read_length l file work
  unfolding read_length
  small_length = simp (sym small_number, one_not_zero, pick_false)
    where
      one_not_zero : same 1 0 ≡ false
      one_not_zero = unequal_same (omega arith)

  pub small_left : work ≡ read_work l file work
  unfolding read_work small_work
  small_left = simp (lt_less h, pick_true)

-- else what the load leaves, with zeros behind it
module _ (l : Limits) (file start work : List ℕ) (r : Result ℕ Refusal) (loaded : Loaded l file start work r) (h : most_stream l ≤ length start) where
  pub large_number : answer_number r ≡ read_number l file start
  unfolding read_number small_work
  large_number = loaded.number ∙ sym (pick_else 1 (file_refusal l file) (le_less h))

  pub large_length : answer_length r ≡ read_length l file start
  unfolding read_length kept
  large_length =
      loaded.size ∙ length_pick (same (file_refusal l file) 0) (stream_of file) []
      ∙ ap (λ (n : ℕ). pick (same n 0) (length (stream_of file)) 0) (sym loaded.number ∙ large_number)

  pub large_left : {end n : ℕ} (part : List ℕ) → n ≡ answer_length r → end ≡ most_stream l → length work ≡ length start → part ≡ replicate (length (take (end - n) (drop n work))) 0
      → take n work ++ (part ++ drop (end - n) (drop n work)) ≡ read_work l file start
  unfolding read_work small_work held zeros_behind zeros kept
  large_left {end} {n} part same is size e =
      let k : ℕ = end - n in
      let room : n ≤ most_stream l = omega (arith, loaded.room) in
      let rest : k ≡ most_stream l - length (kept l file) = omega (arith, loaded.size) in
      let cleared : part ≡ zeros (most_stream l - length (kept l file)) =
      e ∙ ap (λ (i : ℕ). replicate i 0) (length_part work n k (omega arith) ∙ rest)
      in
      let behind : drop k (drop n work) ≡ drop (most_stream l) start =
      drop-drop k n work ∙ ap (λ (i : ℕ). drop i work) (let q : n + k ≡ most_stream l = omega arith in q) ∙ loaded.behind
      in
      ap₂ ◌++◌ (ap (λ (i : ℕ). take i work) same ∙ loaded.front) (ap₂ ◌++◌ cleared behind)
      ∙ sym (append_assoc (kept l file) (zeros (most_stream l - length (kept l file))) (drop (most_stream l) start))
      ∙ sym (pick_else start (held l (kept l file) start) (le_less h))
