-- The loop over the minutes of a run: which steps are done, and in which minute the next ones fall. Assumes nothing.
use mathlib.Core.Path.{◌≡◌, sym, ap, subst, ◌∙◌}
use mathlib.Core.Logic.{◌⊎◌, inl, inr}
use Prim.Native.Nat.{ℕ, ◌+◌, ◌-◌, ◌*◌, ◌/◌, ◌%◌, ◌≤◌, ◌<◌}
use native.Mathlib.Omega.{arith}
use mathlib.Core.Bool.{Bool, false}
use mathlib.Core.List.{List}
use lib.ListN.{length, get_or}
use Rattle.basics.specs.Maps.{at}
use Rattle.basics.proofs.Choice.{compare}
use Rattle.job.specs.Limits.{field}
use Rattle.job.specs.Slot.{slot_of, process_of}
use Rattle.job.specs.Stream.{operations, schedule_length, stream_length}
use Rattle.job.specs.Ready.{Ready, Named}
use Rattle.windows.specs.Fields.{day_minutes, day_seconds}
use Rattle.idling.specs.declared.Window.{Window}
use Rattle.idling.specs.Minutes.{no_window, open_at}
use Rattle.idling.specs.Eight.{Eight}
use Rattle.idling.specs.Rewritten.{Rewritten}
use Rattle.idling.specs.Entries.{entry_kept, first_entry, entries_kept, may_act}
use Rattle.idling.proofs.Rewritten.{rewritten_none, rewritten_join, rewritten_to}
use Rattle.idling.proofs.Entries.{kept_alike, entry_named}

-- of so many steps, whose entries begin at `first`, those up to `done` are done; the others up to `end` are of this minute
pub record Turning (windows : List Window) (second : ℕ) (s₀ : List ℕ) (first steps minute end done : ℕ) (s : List ℕ) : Type 0 where
  pub at_first : first ≡ first_entry s₀
  pub all_steps : steps ≡ schedule_length s₀
  pub within : done ≤ steps
  pub ahead : done < end
  pub ends : second + end ≡ 60 * minute + 60
  pub begun : done < steps → 60 * minute ≤ second + done
  pub written : Rewritten (entries_kept (may_act windows second) s₀) first (first + done) s₀ s

module _ (windows : List Window) (second : ℕ) (s₀ : List ℕ) {first steps : ℕ} where
  pub turning_start : {place count : ℕ} → place ≡ 5 + 4 * count → count ≡ operations s₀ → first ≡ place + 1 → steps ≡ schedule_length s₀
      → Turning windows second s₀ first steps (second / 60) (60 - second % 60) 0 s₀
  unfolding first_entry
  turning_start at count next all =
      record {
        at_first = omega (arith, at, count, next);
        all_steps = all;
        within = omega arith;
        ahead = omega arith;
        ends = omega arith;
        begun = λ h. omega arith;
        written = rewritten_to (rewritten_none _ first s₀) (let e : first ≡ first + 0 = omega arith in e);
      }

  module _ {minute end done : ℕ} {s : List ℕ} (t : Turning windows second s₀ first steps minute end done s) where
    -- the entries are in the stream, which is short
    pub turning_short : Ready s₀ → first + steps ≤ 6 + 4 * field.operations + field.steps
    unfolding first_entry
    turning_short ready = omega (arith, t.at_first, t.all_steps, ready.rows, ready.cells)

    pub turning_fits : Ready s₀ → first + steps ≤ length s
    unfolding first_entry stream_length
    turning_fits ready = omega (arith, t.at_first, t.all_steps, t.written.size, ready.whole)

    pub turning_done : steps ≤ done → Rewritten (entries_kept (may_act windows second) s₀) (first_entry s₀) (first_entry s₀ + schedule_length s₀) s₀ s
    turning_done past =
        subst (λ (n : ℕ). Rewritten (entries_kept (may_act windows second) s₀) n (n + schedule_length s₀) s₀ s) t.at_first
        (rewritten_to t.written (let e : first + done ≡ first + schedule_length s₀ = omega (arith, t.all_steps, t.within) in e))

    module _ (more : done < steps) where
      -- a run meets one midnight at most
      pub turning_minute : Ready s₀ → second < day_seconds → minute < day_minutes + day_minutes
      turning_minute ready h = let began : 60 * minute ≤ second + done = t.begun more in omega (arith, t.all_steps, ready.cells)

      -- each turn does a step or more
      pub turning_on : {last : ℕ} → (last < steps → last ≡ end) → done < last
      turning_on {last} whole = go (compare steps last)
        where
          go : (steps ≤ last) ⊎ (last < steps) → done < last
          go (inl h) = omega arith
          go (inr h) = let e : last ≡ end = whole h in omega (arith, t.ahead)

      module _ (named : Named s₀) {last : ℕ} (fits : last ≤ steps) where
        -- what is ahead names one of eight processes
        named_ahead : (i : ℕ) → first + done ≤ i → i < first + last → process_of (slot_of (at s₀ i)) < field.processes
        named_ahead i low high = entry_named named i (omega (arith, t.at_first)) (omega (arith, t.at_first, t.all_steps))

        pub turning_named : (i : ℕ) → first + done ≤ i → i < first + last → process_of (slot_of (at s i)) < field.processes
        turning_named i low high =
            subst (λ (n : ℕ). process_of (slot_of n) < field.processes) (sym (t.written.back i low)) (named_ahead i low high)

        module _ {allowed : List Bool} (of : Eight false (λ p. open_at (get_or windows p no_window) minute) allowed) (in_minute : last ≤ end) where
          -- the next entries become what the minute says
          turn_alike : (i : ℕ) → first + done ≤ i → i < first + last → entry_kept (λ p. get_or allowed p false) (at s i) ≡ entries_kept (may_act windows second) s₀ i
          unfolding entries_kept may_act
          turn_alike i low high =
              let began : 60 * minute ≤ second + done = t.begun more in
              let minute_is : minute ≡ (second + (1 + (i - first_entry s₀) - 1)) / 60 = omega (arith, t.ends, t.at_first) in
              let process : ℕ = process_of (slot_of (at s₀ i)) in
              ap (entry_kept (λ p. get_or allowed p false)) (t.written.back i low)
              ∙ kept_alike (λ p. get_or allowed p false) (λ p. open_at (get_or windows p no_window) ((second + (1 + (i - first_entry s₀) - 1)) / 60)) (at s₀ i)
              (of.each process (named_ahead i low high) ∙ ap (open_at (get_or windows process no_window)) minute_is)

          pub turning_next : (last < steps → last ≡ end) → {s' : List ℕ} → Rewritten (λ i. entry_kept (λ p. get_or allowed p false) (at s i)) (first + done) (first + last) s s'
              → Turning windows second s₀ first steps (minute + 1) (end + 60) last s'
          turning_next whole r =
              let on : done < last = turning_on whole in
              record {
                at_first = t.at_first;
                all_steps = t.all_steps;
                within = fits;
                ahead = omega arith;
                ends = omega (arith, t.ends);
                begun = λ h. let e : last ≡ end = whole h in omega (arith, t.ends);
                written = rewritten_join t.written r (omega arith) (omega arith) turn_alike;
              }
