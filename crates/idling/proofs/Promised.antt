-- A stream whose entries were kept by the minute is that of the windowed job. Assumes nothing.
use mathlib.Core.Path.{◌≡◌, sym, ap, ap₂, ◌∙◌}
use Prim.Native.Nat.{ℕ, ◌+◌, ◌-◌, ◌/◌, ◌≤◌, ◌<◌}
use native.Mathlib.Omega.{arith}
use mathlib.Core.Bool.{Bool, false, ◌||◌}
use mathlib.Core.List.{List}
use lib.ListN.{length}
use Rattle.basics.specs.Maps.{at}
use Rattle.basics.proofs.Choice.{equal_same, unequal_same}
use Rattle.job.specs.Slot.{slot_of, process_of}
use Rattle.job.specs.Stream.{schedule_length}
use Rattle.job.specs.Job.{job_of}
use Rattle.job.specs.Ready.{Ready, Named}
use Rattle.windows.specs.Fields.{second, opening, closing}
use Rattle.windows.specs.Fine.{FineBlock}
use Rattle.hours.specs.Open.{since_midnight, is_open}
use Rattle.windows.specs.Refused.{no_block, bad_windows}
use Rattle.hours.specs.Windowed.{windowed}
use Rattle.windows.proofs.Fine.{fine}
use Rattle.hours.proofs.Nothing.{without_block}
use Rattle.hours.proofs.Claimed.{closes_bound}
use Rattle.idling.specs.declared.Window.{Window}
use Rattle.idling.specs.Minutes.{window_of, no_window, open_at, InDays}
use Rattle.idling.specs.Eight.{Eight}
use Rattle.idling.specs.Rewritten.{Rewritten}
use Rattle.idling.specs.Entries.{first_entry, entries_kept, booked_at, may_act}
use Rattle.idling.proofs.Minutes.{open_in_minute}
use Rattle.idling.proofs.Rewritten.{rewritten_as}
use Rattle.idling.proofs.Entries.{kept_alike, entry_named, shut_ready, shut_job}

-- a block that is not there, and one that is
pub empty_shuts : (b s : List ℕ) → length b ≡ 0 → job_of s ≡ windowed b (job_of s)
unfolding no_block
empty_shuts b s e = sym (without_block b (job_of s) (equal_same e))

pub block_there : (b : List ℕ) → (length b ≡ 0 → ⊥) → no_block b ≡ false
unfolding no_block
block_there b some = unequal_same some

pub block_fine : (b : List ℕ) → (length b ≡ 0 → ⊥) → bad_windows b ≡ false → FineBlock b
block_fine b some good = fine b (block_there b some) good

-- its windows open within a day and close within two
pub in_days : {b : List ℕ} {windows : List Window} → FineBlock b → Eight no_window (window_of b) windows → InDays windows
unfolding window_of
in_days {b} {windows} f of =
    record {
      eight = of.eight;
      opens = λ p h. omega (arith, ap (λ (v : Window). v.opens) (of.each p h), f.opens p h);
      closes = λ p h. omega (arith, ap (λ (v : Window). v.closes) (of.each p h), closes_bound (opening b p) (closing b p) (f.closes p h));
    }

module _ {b s : List ℕ} {windows : List Window} {start : ℕ} (there : no_block b ≡ false) (f : FineBlock b) (of : Eight no_window (window_of b) windows) (from : start ≡ second b) (ready : Ready s) (named : Named s) where
  -- who may act at a step by the minute is who may by the definition
  may_as_booked : (i : ℕ) → first_entry s ≤ i → i < first_entry s + schedule_length s → entries_kept (may_act windows start) s i ≡ entries_kept (booked_at b) s i
  unfolding entries_kept may_act booked_at since_midnight
  may_as_booked i low high =
      let k : ℕ = 1 + (i - first_entry s) in
      let process : ℕ = process_of (slot_of (at s i)) in
      kept_alike (may_act windows start k) (booked_at b k) (at s i)
      (ap₂ (λ (v : Window) (t : ℕ). open_at v ((t + (k - 1)) / 60)) (of.each process (entry_named named i low high)) from
      ∙ sym (open_in_minute b process k f (entry_named named i low high) (omega (arith, f.seconds, ready.cells)))
      ∙ ap (λ (none : Bool). none || is_open b process k) (sym there))

  module _ {s' : List ℕ} (r : Rewritten (entries_kept (may_act windows start) s) (first_entry s) (first_entry s + schedule_length s) s s') where
    pub shut_promised : (job_of s' ≡ windowed b (job_of s)) × Ready s'
    shut_promised = let q = rewritten_as (entries_kept (booked_at b) s) r may_as_booked in (shut_job b q, shut_ready (booked_at b) q ready)
