-- A stream with its shut entries idle holds the job with its shut steps idle, and is ready for a run. Assumes nothing.
use mathlib.Core.Path.{◌≡◌, refl, sym, ap, ap₂, subst, fun_ext, ◌∙◌}
use mathlib.Core.Logic.{◌⊎◌, inl, inr}
use Prim.Native.Nat.{ℕ, suc, ◌+◌, ◌-◌, ◌*◌, ◌≤◌, ◌<◌}
use native.Mathlib.Omega.{arith}
use mathlib.Core.Bool.{Bool, true, false, not, ◌&&◌, ◌||◌}
use mathlib.Core.List.{List}
use Rattle.basics.specs.Choice.{pick, same, less}
use Rattle.basics.specs.Maps.{at}
use Rattle.basics.specs.Words.{word}
use Rattle.basics.proofs.Choice.{compare, pick_true, pick_false, pick_then, pick_elim, lt_less, le_less}
use Rattle.job.specs.declared.Slot.{Slot}
use Rattle.job.specs.Limits.{field}
use Rattle.job.specs.Kind.{kind_of, kind_found}
use Rattle.job.specs.Slot.{slot_of, process_of}
use Rattle.job.specs.Stream.{kind, operations, schedule_length, record_at, process, action, value, scheduled, stream_length}
use Rattle.job.specs.Refusals.{outside}
use Rattle.job.specs.Job.{recorded, job_of}
use Rattle.job.specs.Idle.{nobody, idle_slot, idle_at}
use Rattle.job.specs.Ready.{Ready, Named}
use Rattle.windows.specs.Refused.{no_block}
use Rattle.hours.specs.Open.{is_open}
use Rattle.hours.specs.Windowed.{is_shut, windowed}
use Rattle.idling.specs.Rewritten.{Rewritten}
use Rattle.idling.specs.Entries.{entry_kept, first_entry, entries_kept, booked_at}

-- the entry of an idle step names nobody
nobody_idle : slot_of nobody ≡ idle_slot
unfolding slot_of pick less
nobody_idle = refl

-- an entry that is kept, or not, as a slot
kept_slot : (may : ℕ → Bool) (entry : ℕ) → slot_of (entry_kept may entry) ≡ pick (not (may (process_of (slot_of entry)))) idle_slot (slot_of entry)
unfolding entry_kept
kept_slot may entry = go (may (process_of (slot_of entry)))
  where
    go : (b : Bool) → slot_of (pick b entry nobody) ≡ pick (not b) idle_slot (slot_of entry)
    go true = ap slot_of (pick_true entry nobody) ∙ sym (pick_false idle_slot (slot_of entry))
    go false = ap slot_of (pick_false entry nobody) ∙ nobody_idle ∙ sym (pick_true idle_slot (slot_of entry))

-- an entry is kept by whether its own process may act
pub kept_alike : (f g : ℕ → Bool) (entry : ℕ) → f (process_of (slot_of entry)) ≡ g (process_of (slot_of entry)) → entry_kept f entry ≡ entry_kept g entry
unfolding entry_kept
kept_alike f g entry e = ap (λ (may : Bool). pick may entry nobody) e

-- by what the code finds at the process that it names
pub entry_stays : (may : ℕ → Bool) (entry : ℕ) {p : ℕ} → p ≡ process_of (slot_of entry) → may p ≡ true → entry ≡ entry_kept may entry
unfolding entry_kept
entry_stays may entry named e = sym (pick_then entry nobody (ap may (sym named) ∙ e))

pub entry_chosen : (may : ℕ → Bool) (entry : ℕ) {p : ℕ} → p ≡ process_of (slot_of entry) → pick (may p) entry nobody ≡ entry_kept may entry
unfolding entry_kept
entry_chosen may entry named = ap (λ (p : ℕ). pick (may p) entry nobody) named

-- an entry of the schedule, where it stands, names one of eight processes
pub entry_named : {s : List ℕ} → Named s → (i : ℕ) → first_entry s ≤ i → i < first_entry s + schedule_length s → process_of (slot_of (at s i)) < field.processes
unfolding scheduled first_entry
entry_named {s} named i low high =
    let k : ℕ = i - (5 + 4 * operations s) in
    subst (λ (n : ℕ). process_of (slot_of (at s n)) < field.processes) (let e : 5 + 4 * operations s + k ≡ i = omega arith in e)
    (named.each k (omega arith) (omega arith))

-- tests of a step that is shut, in the order of the definition and of the code
shut_tests : (none past may : Bool) → not past && not (none || may) ≡ not none && not past && not may
shut_tests true true may = refl
shut_tests true false may = refl
shut_tests false past may = refl

module _ (may : ℕ → ℕ → Bool) {s s' : List ℕ} (r : Rewritten (entries_kept may s) (first_entry s) (first_entry s + schedule_length s) s s') where
  -- header and records stay
  front : (i : ℕ) → i < 6 + 4 * operations s → at s' i ≡ at s i
  unfolding first_entry
  front i h = r.front i h

  front_word : (i : ℕ) → suc i < 6 + 4 * operations s → word s' i ≡ word s i
  unfolding word
  front_word i h = ap₂ (λ (x y : ℕ). 256 * x + y) (front i (omega arith)) (front (suc i) h)

  kind_stays : kind s' ≡ kind s
  unfolding kind
  kind_stays = front 0 (omega arith)

  pub operations_stay : operations s' ≡ operations s
  unfolding operations
  operations_stay = front_word 2 (omega arith)

  pub steps_stay : schedule_length s' ≡ schedule_length s
  unfolding schedule_length
  steps_stay = front_word 4 (omega arith)

  pub process_stays : (o : ℕ) → o ≤ operations s → process s' o ≡ process s o
  unfolding process record_at
  process_stays o h = front (2 + 4 * o) (omega arith)

  pub action_stays : (o : ℕ) → o ≤ operations s → action s' o ≡ action s o
  unfolding action record_at
  action_stays o h = front (2 + 4 * o + 1) (omega arith)

  pub value_stays : (o : ℕ) → o ≤ operations s → value s' o ≡ value s o
  unfolding value record_at
  value_stays o h = front_word (2 + 4 * o + 2) (omega arith)

  -- what step k has now: what is kept of its entry, if it is one of the schedule's
  entry_is : (k : ℕ) → scheduled s' k ≡ at s' (5 + 4 * operations s + k)
  unfolding scheduled
  entry_is k = ap (λ (n : ℕ). at s' (5 + 4 * n + k)) operations_stay

  pub entry_shut : (k : ℕ) → 1 ≤ k → k ≤ schedule_length s → scheduled s' k ≡ entry_kept (may k) (scheduled s k)
  unfolding scheduled first_entry entries_kept
  entry_shut k low high =
      let i : ℕ = 5 + 4 * operations s + k in
      entry_is k
      ∙ r.inside i (omega arith) (omega arith)
      ∙ ap (λ (n : ℕ). entry_kept (may n) (at s i)) (let e : 1 + (i - (6 + 4 * operations s)) ≡ k = omega arith in e)

  entry_before : (k : ℕ) → k < 1 → scheduled s' k ≡ scheduled s k
  unfolding scheduled
  entry_before k h = entry_is k ∙ front (5 + 4 * operations s + k) (omega arith)

  entry_behind : (k : ℕ) → schedule_length s < k → scheduled s' k ≡ scheduled s k
  unfolding scheduled first_entry
  entry_behind k h = entry_is k ∙ r.back (5 + 4 * operations s + k) (omega arith)

  slot_is : (k : ℕ) → slot_of (scheduled s' k) ≡ pick (not (outside 1 (schedule_length s) k) && not (may k (process_of (slot_of (scheduled s k))))) idle_slot (slot_of (scheduled s k))
  unfolding outside
  slot_is k = by_range (compare 1 k) (compare k (schedule_length s))
    where
      shown : Bool → Bool → Slot
      shown early late = pick (not (early || late) && not (may k (process_of (slot_of (scheduled s k))))) idle_slot (slot_of (scheduled s k))

      by_range : (1 ≤ k) ⊎ (k < 1) → (k ≤ schedule_length s) ⊎ (schedule_length s < k) → slot_of (scheduled s' k) ≡ shown (less k 1) (less (schedule_length s) k)
      by_range (inr h) late =
          ap slot_of (entry_before k h) ∙ sym (pick_false idle_slot (slot_of (scheduled s k))) ∙ ap (λ (early : Bool). shown early (less (schedule_length s) k)) (sym (lt_less h))
      by_range (inl h) (inr g) =
          ap slot_of (entry_behind k g) ∙ sym (pick_false idle_slot (slot_of (scheduled s k))) ∙ ap₂ shown (sym (le_less h)) (sym (lt_less g))
      by_range (inl h) (inl g) =
          ap slot_of (entry_shut k h g) ∙ kept_slot (may k) (scheduled s k) ∙ ap₂ shown (sym (le_less h)) (sym (le_less g))

  -- ready for a run as before: nobody has a place too
  in_place : (k : ℕ) → Ready s → 1 ≤ k → k ≤ schedule_length s → process_of (slot_of (scheduled s' k)) ≤ field.processes
  unfolding entry_kept process_of
  in_place k ready low high =
      subst (λ (entry : ℕ). process_of (slot_of entry) ≤ field.processes) (sym (entry_shut k low high))
      (pick_elim (λ (entry : ℕ). process_of (slot_of entry) ≤ field.processes) (may k (process_of (slot_of (scheduled s k)))) (scheduled s k) nobody
      (λ e. ready.places k low high)
      (λ e. subst (λ (slot : Slot). process_of slot ≤ field.processes) (sym nobody_idle) (omega arith)))

  pub shut_ready : Ready s → Ready s'
  unfolding stream_length
  shut_ready ready =
      record {
        rows = omega (arith, operations_stay, ready.rows);
        cells = omega (arith, steps_stay, ready.cells);
        places = λ k low high. in_place k ready low (omega (arith, steps_stay));
        owners = λ o low high.
            let one : o ≤ operations s = omega (arith, operations_stay) in
            omega (arith, process_stays o one, ready.owners o low one);
        whole = omega (arith, operations_stay, steps_stay, r.size, ready.whole);
      }

-- with a block's windows the job is that of the definition
module _ (b : List ℕ) {s s' : List ℕ} (r : Rewritten (entries_kept (booked_at b) s) (first_entry s) (first_entry s + schedule_length s) s s') where
  slot_windowed : (k : ℕ) → slot_of (scheduled s' k) ≡ pick (is_shut b (job_of s) k) idle_slot (slot_of (scheduled s k))
  unfolding is_shut job_of booked_at
  slot_windowed k =
      slot_is (booked_at b) r k
      ∙ ap (λ (shut : Bool). pick shut idle_slot (slot_of (scheduled s k)))
      (shut_tests (no_block b) (outside 1 (schedule_length s) k) (is_open b (process_of (slot_of (scheduled s k))) k))

  -- what is said of an operation, where it has the same record
  recorded_stays : {A : Type 0} (none : A) (said said' : ℕ → A) → ((o : ℕ) → o ≤ operations s → said' o ≡ said o) → recorded s' none said' ≡ recorded s none said
  recorded_stays none said said' stays = fun_ext (λ o. go o (compare o (operations s)))
    where
      go : (o : ℕ) → (o ≤ operations s) ⊎ (operations s < o) → recorded s' none said' o ≡ recorded s none said o
      go o (inl h) = λ i. pick (less (operations_stay (booked_at b) r i) o) none (stays o h i)
      go o (inr h) =
          ap (λ (n : ℕ). pick (less n o) none (said' o)) (operations_stay (booked_at b) r) ∙ pick_then none (said' o) (lt_less h) ∙ sym (pick_then none (said o) (lt_less h))

  pub shut_job : job_of s' ≡ windowed b (job_of s)
  unfolding job_of windowed idle_at
  shut_job =
      let owners = recorded_stays 0 (process s) (process s') (process_stays (booked_at b) r) in
      let puts = recorded_stays false (λ o. same (action s o) 1) (λ o. same (action s' o) 1) (λ o h. ap (λ (n : ℕ). same n 1) (action_stays (booked_at b) r o h)) in
      let fields = recorded_stays 0 (value s) (value s') (value_stays (booked_at b) r) in
      λ i.
      record {
        object = kind_found (kind_of (kind_stays (booked_at b) r i));
        count = operations_stay (booked_at b) r i;
        owner = owners i;
        is_put = puts i;
        field = fields i;
        steps = steps_stay (booked_at b) r i;
        slot = λ k. slot_windowed k i;
      }
