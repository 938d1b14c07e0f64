-- A block that is there and not turned back is fine, field by field. Assumes nothing.
use mathlib.Core.Path.{◌≡◌, subst}
use Prim.Native.Nat.{ℕ, ◌≤◌, ◌<◌}
use native.Mathlib.Omega.{arith}
use mathlib.Core.Bool.{Bool, true, false, not, ◌||◌, ◌&&◌}
use mathlib.Core.List.{List}
use lib.ListN.{length}
use borrow.Author.Tests.{not-false}
use Rattle.basics.specs.Choice.{same, less}
use Rattle.basics.proofs.Choice.{same_equal, less_lt, less_le}
use Rattle.block.specs.Block.{block_size, block_refusal}
use Rattle.job.specs.Refusals.{outside}
use Rattle.job.proofs.Conditions.{or_both, any_each}
use Rattle.calendar.specs.Dates.{is_date}
use Rattle.windows.specs.Fields.{year, month, day, second, weekdays, opening, closing, booked_processes, day_minutes, day_seconds}
use Rattle.windows.specs.Refused.{bad_start, bad_window, bad_entries, bad_rest, bad_block, no_block, bad_windows}
use Rattle.windows.specs.Fine.{FineBlock}

inside : (low high n : ℕ) → outside low high n ≡ false → (low ≤ n) × (n ≤ high)
unfolding outside
inside low high n e =
    let tests = or_both (less n low) (less high n) e in
    (less_le tests.0, less_le tests.1)

-- the start of a block
record FineStart (b : List ℕ) : Type 0 where
  years : (2000 ≤ year b) × (year b ≤ 2099)
  date : is_date (year b) (month b) (day b) ≡ true
  seconds : second b < day_seconds

start_fine : (b : List ℕ) → bad_start b ≡ false → FineStart b
unfolding bad_start
start_fine b e =
    let there : Bool = is_date (year b) (month b) (day b) in
    let last = or_both (outside 2000 2099 (year b) || not there) (not (less (second b) day_seconds)) e in
    let first = or_both (outside 2000 2099 (year b)) (not there) last.0 in
    record {
      years = inside 2000 2099 (year b) first.0;
      date = not-false there first.1;
      seconds = less_lt (not-false (less (second b) day_seconds) last.1);
    }

-- the entry of a process
record FineWindow (b : List ℕ) (p : ℕ) : Type 0 where
  bits : weekdays b p < 128
  opens : opening b p ≤ day_minutes
  closes : closing b p ≤ day_minutes

window_fine : (b : List ℕ) (p : ℕ) → bad_window b p ≡ false → FineWindow b p
unfolding bad_window
window_fine b p e =
    let last = or_both (not (less (weekdays b p) 128) || less day_minutes (opening b p)) (less day_minutes (closing b p)) e in
    let first = or_both (not (less (weekdays b p) 128)) (less day_minutes (opening b p)) last.0 in
    record {
      bits = less_lt (not-false (less (weekdays b p) 128) first.0);
      opens = less_le first.1;
      closes = less_le last.1;
    }

entry_fine : (b : List ℕ) → bad_entries b ≡ false → (p : ℕ) → p < booked_processes → FineWindow b p
unfolding bad_entries
entry_fine b e p h = window_fine b p (any_each (bad_window b) 0 booked_processes e p (omega arith) (omega arith))

block_fine : (b : List ℕ) → length b ≡ block_size → bad_block b ≡ false → FineBlock b
unfolding bad_block
block_fine b size e =
    let rest = or_both (not (same (block_refusal 0 b) 0) || bad_start b || bad_entries b) (bad_rest b) e in
    let entries = or_both (not (same (block_refusal 0 b) 0) || bad_start b) (bad_entries b) rest.0 in
    let start = start_fine b (or_both (not (same (block_refusal 0 b) 0)) (bad_start b) entries.0).1 in
    record {
      size = size;
      first_year = start.years.0;
      last_year = start.years.1;
      date = start.date;
      seconds = start.seconds;
      bits = λ p h. (entry_fine b entries.1 p h).bits;
      opens = λ p h. (entry_fine b entries.1 p h).opens;
      closes = λ p h. (entry_fine b entries.1 p h).closes;
    }

pub fine : (b : List ℕ) → no_block b ≡ false → bad_windows b ≡ false → FineBlock b
unfolding bad_windows
fine b some e =
    let there : not (same (length b) block_size) || bad_block b ≡ false =
    subst (λ (none : Bool). not none && (not (same (length b) block_size) || bad_block b) ≡ false) some e
    in
    let tests = or_both (not (same (length b) block_size)) (bad_block b) there in
    block_fine b (same_equal (not-false (same (length b) block_size) tests.0)) tests.1
