-- The first bytes of a stream, at least as many as its header asks for: the same is kept of them as of all. Assumes nothing.
use mathlib.Core.Path.{◌≡◌, refl, sym, ap, ap₂, ◌∙◌}
use mathlib.Core.Logic.{◌⊎◌, inl, inr}
use Prim.Native.Nat.{ℕ, zero, suc, ◌+◌, ◌-◌, ◌*◌, ◌/◌, ◌≤◌, ◌<◌, min}
use native.Mathlib.Omega.{arith}
use mathlib.Core.List.{List, [], ◌∷◌, ◌++◌}
use lib.ListN.{length, take, drop, length-take}
use lib.Seq.{get_or-take, take-take}
use Rattle.basics.specs.Choice.{less}
use Rattle.basics.specs.Maps.{at}
use Rattle.basics.specs.Words.{word, word_bytes}
use Rattle.basics.proofs.Choice.{compare, lt_less, le_less}
use Rattle.block.specs.Block.{payload_size}
use Rattle.job.specs.declared.Limits.{Limits}
use Rattle.job.specs.Kind.{kind_of, is_missing}
use Rattle.job.specs.Stream.{kind, processes, operations, schedule_length, stream_length}
use Rattle.job.specs.Refusals.{first_met, outside, exact_count, bad_kind, bad_processes, bad_operations, bad_schedule_length, header_conditions, list_conditions}
use Rattle.remains.specs.Kept.{records_end, entries_kept, shortened}
use Rattle.remains.specs.Salvage.{cut_records, kept_conditions, kept_refusal}

-- two streams with the same six bytes of header
pub record SameHeader (s t : List ℕ) : Type 0 where
  pub byte : (i : ℕ) → i < 6 → at s i ≡ at t i

module _ {s t : List ℕ} (a : SameHeader s t) where
  word_same : (i : ℕ) → suc i < 6 → word s i ≡ word t i
  unfolding word
  word_same i h = ap₂ (λ (x y : ℕ). 256 * x + y) (a.byte i (omega arith)) (a.byte (suc i) h)

  pub operations_same : operations s ≡ operations t
  unfolding operations
  operations_same = word_same 2 (omega arith)

  pub steps_same : schedule_length s ≡ schedule_length t
  unfolding schedule_length
  steps_same = word_same 4 (omega arith)

  pub exact_same : exact_count s ≡ exact_count t
  unfolding exact_count stream_length
  exact_same = ap₂ (λ (n k : ℕ). (6 + 4 * n + k + (payload_size - 1)) / payload_size) operations_same steps_same

  pub header_same : (l : Limits) → header_conditions l s ≡ header_conditions l t
  unfolding header_conditions bad_kind bad_processes bad_operations bad_schedule_length kind processes
  header_same l =
      λ i.
      (5, is_missing (kind_of (a.byte 0 (omega arith) i)))
      ∷ (6, outside 1 l.processes (a.byte 1 (omega arith) i))
      ∷ (7, outside 1 l.operations (operations_same i))
      ∷ (8, less l.steps (steps_same i))
      ∷ []

pub header_of_front : (s : List ℕ) (k : ℕ) → 6 ≤ k → SameHeader s (take k s)
unfolding at
header_of_front s k h = record { byte = λ i b. sym (get_or-take k s i 0 (omega arith)) }

-- a part of the first bytes
front_part : (a n k : ℕ) (l : List ℕ) → a + n ≤ k → take n (drop a (take k l)) ≡ take n (drop a l)
front_part zero n k l h = take-take n k l (omega arith)
front_part (suc a) n zero l h = absurd (omega arith)
front_part (suc a) n (suc k) [] h = refl
front_part (suc a) n (suc k) (x ∷ l) h = front_part a n k l (omega arith)

-- a length under a bound within the first bytes
pub front_under : (s : List ℕ) (k e : ℕ) → e ≤ k → less (length (take k s)) e ≡ less (length s) e
front_under s k e h = go (compare e (length s))
  where
    size : length (take k s) ≡ min k (length s)
    size = length-take k s

    go : (e ≤ length s) ⊎ (length s < e) → less (length (take k s)) e ≡ less (length s) e
    go (inl q) = le_less (omega (arith, size)) ∙ sym (le_less q)
    go (inr q) = lt_less (omega (arith, size)) ∙ sym (lt_less q)

-- the first `k` bytes, with all that the header asks for
module _ (s : List ℕ) (k : ℕ) (enough : stream_length s ≤ k) where
  same_header : SameHeader s (take k s)
  unfolding stream_length
  same_header = header_of_front s k (omega arith)

  end_front : records_end (take k s) ≡ records_end s
  unfolding records_end
  end_front = ap (λ (n : ℕ). 6 + 4 * n) (sym (operations_same same_header))

  pub entries_front : entries_kept (take k s) ≡ entries_kept s
  unfolding entries_kept records_end stream_length
  entries_front =
      let size : length (take k s) ≡ min k (length s) = length-take k s in
      let steps : schedule_length s ≡ schedule_length (take k s) = steps_same same_header in
      let ops : operations s ≡ operations (take k s) = operations_same same_header in
      omega arith

  pub named_front : schedule_length (take k s) ≡ schedule_length s
  named_front = sym (steps_same same_header)

  cut_front : cut_records (take k s) ≡ cut_records s
  unfolding cut_records records_end stream_length
  cut_front = ap (less (length (take k s))) end_front ∙ front_under s k (records_end s) (omega arith)

  pub shortened_front : shortened (take k s) ≡ shortened s
  unfolding shortened stream_length entries_kept
  shortened_front =
      let few : min (schedule_length s) (length s - records_end s) ≤ schedule_length s = omega arith in
      ap₂ ◌++◌ (take-take 4 k s (omega arith))
      (ap₂ ◌++◌ (ap word_bytes entries_front)
      (ap₂ (λ (n e : ℕ). take (4 * n + e) (drop 6 (take k s))) (sym (operations_same same_header)) entries_front
      ∙ front_part 6 (4 * operations s + entries_kept s) k s (omega arith)))

  pub refusal_front : (l : Limits) → kept_refusal l (take k s) ≡ kept_refusal l s
  unfolding kept_refusal kept_conditions stream_length
  refusal_front l =
      let six : 6 ≤ k = omega arith in
      λ i. first_met ((14, front_under s k 6 six i) ∷ sym (header_same same_header l) i ++ (14, cut_front i) ∷ list_conditions (shortened_front i))
