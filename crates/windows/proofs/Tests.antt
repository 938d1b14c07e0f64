-- What the tests of the code say of a window block. Assumes nothing.
use mathlib.Core.Path.{◌≡◌, refl, sym, ap, ◌∙◌}
use mathlib.Core.Logic.{◌≢◌, ◌⊎◌, inl, inr}
use Prim.Native.Nat.{ℕ, ◌≤◌, ◌<◌}
use mathlib.Core.Bool.{Bool, true, false, not, ◌||◌, ◌&&◌, or-true}
use mathlib.Core.List.{List}
use native.Mathlib.Omega.{arith}
use lib.Dec.{leb, ltb}
use lib.ListN.{length}
use Rattle.basics.specs.Choice.{less}
use Rattle.basics.proofs.Choice.{lt_less, le_less, compare, equal_same, unequal_same, at_most}
use Rattle.block.specs.Block.{block_size, block_refusal}
use Rattle.job.specs.Refusals.{outside}
use Rattle.calendar.specs.Dates.{from_to, is_date, in_century}
use Rattle.windows.specs.declared.Entry.{Entry}
use Rattle.windows.specs.Entry.{entry_of}
use Rattle.windows.specs.Fields.{year, month, day, second, weekdays, opening, closing, day_minutes, day_seconds}
use Rattle.windows.specs.Refused.{bad_start, bad_window, bad_entries, bad_rest, bad_block, no_block, bad_windows}

-- tests one after another, and what they come to where the first ones are met or not
module _ {t a : Bool} where
  pub or_met : (b : Bool) → t ≡ a → t ≡ true → t ≡ a || b
  or_met b e met = met ∙ simp (sym e ∙ met)

  pub or_missed : {b : Bool} → t ≡ a → t ≡ false → b ≡ a || b
  or_missed e missed = simp (sym e ∙ missed)

-- the start, by whether its date is one of the century
two_tests : (a b c : Bool) → a || b || not c ≡ not (not a && not b && c)
two_tests true b c = refl
two_tests false true c = refl
two_tests false false c = refl

start_is : (b : List ℕ) → bad_start b ≡ not (in_century (year b) (month b) (day b)) || not (less (second b) day_seconds)
unfolding bad_start outside in_century from_to
start_is b =
    ap (λ (t : Bool). t || not (less (second b) day_seconds)) (two_tests (less (year b) 2000) (less 2099 (year b)) (is_date (year b) (month b) (day b)))

module _ (b : List ℕ) {dated : Bool} (e : dated ≡ in_century (year b) (month b) (day b)) where
  pub date_missing : dated ≡ false → true ≡ bad_start b
  date_missing missed = sym (start_is b ∙ simp (sym e ∙ missed))

  pub date_there : {s : ℕ} → dated ≡ true → s ≡ second b → leb day_seconds s ≡ bad_start b
  date_there {s} there is_second = at_most day_seconds s ∙ ap (λ (n : ℕ). not (less n day_seconds)) is_second ∙ sym (start_is b ∙ simp (sym e ∙ there))

-- the entry of a process: its weekdays or its opening are out of range, or its closing decides
past_bits : (w : ℕ) → less 127 w ≡ not (less w 128)
past_bits w = go (compare 128 w)
  where
    go : (128 ≤ w) ⊎ (w < 128) → less 127 w ≡ not (less w 128)
    go (inl h) = lt_less (omega arith) ∙ sym (ap not (le_less h))
    go (inr h) = le_less (omega arith) ∙ sym (ap not (lt_less h))

pub opening_past : {w from : ℕ} → w ≤ 127 → (127 < w) ⊎ ((w ≤ 127) × (day_minutes < from)) → ltb day_minutes from ≡ true
unfolding less
opening_past h (inl bits) = absurd (omega arith)
opening_past h (inr past) = lt_less past.1

pub bits_past : {w : ℕ} → 127 < w → ltb 127 w ≡ true
unfolding less
bits_past h = lt_less h

module _ (b : List ℕ) (p : ℕ) {entry : Entry} (e : entry ≡ entry_of b p) where
  window_is : less 127 entry.weekdays || less day_minutes entry.opening || less day_minutes entry.closing ≡ bad_window b p
  unfolding entry_of bad_window
  window_is =
      ap (λ (x : Entry). less 127 x.weekdays || less day_minutes x.opening || less day_minutes x.closing) e
      ∙ ap (λ (t : Bool). t || less day_minutes (opening b p) || less day_minutes (closing b p)) (past_bits (weekdays b p))

  pub window_past : (127 < entry.weekdays) ⊎ ((entry.weekdays ≤ 127) × (day_minutes < entry.opening)) → true ≡ bad_window b p
  window_past (inl bits) = sym (sym window_is ∙ simp (lt_less bits))
  window_past (inr past) = sym (sym window_is ∙ simp (lt_less past.1, or-true))

  pub window_last : (entry.weekdays ≤ 127) × (entry.opening ≤ day_minutes) → less day_minutes entry.closing ≡ bad_window b p
  window_last h = sym (sym window_is ∙ simp (le_less h.0, le_less h.1))

-- a block likewise: sums and number, start, entries, rest
module _ (b : List ℕ) {n : ℕ} (number : n ≡ block_refusal 0 b) where
  pub refused_block : n ≢ 0 → true ≡ bad_block b
  unfolding bad_block
  refused_block h = simp (← number, unequal_same h)

  pub tests_decide : n ≡ 0 → bad_start b || bad_entries b || bad_rest b ≡ bad_block b
  unfolding bad_block
  tests_decide given = simp (← number, equal_same given)

-- a second input: empty, of another length, of one block
module _ (b : List ℕ) where
  pub empty_passes : length b ≡ 0 → false ≡ bad_windows b
  unfolding bad_windows no_block
  empty_passes h = simp (equal_same h)

  module _ (some : length b ≢ 0) where
    pub other_length : length b ≢ block_size → true ≡ bad_windows b
    unfolding bad_windows no_block
    other_length h = simp (unequal_same some, unequal_same h)

    pub block_decides : {r : Bool} → length b ≡ block_size → r ≡ bad_block b → r ≡ bad_windows b
    unfolding bad_windows no_block
    block_decides h e = e ∙ simp (unequal_same some, equal_same h)
