-- What the run's loop keeps, and what each part of a turn needs from it. Assumes nothing.
use mathlib.Core.Path.{◌≡◌, sym, ap, subst, ◌∙◌}
use Prim.Native.Nat.{ℕ, suc, ◌+◌, ◌-◌, ◌≤◌, ◌<◌}
use native.Mathlib.Numerals.{add-one}
use native.Mathlib.Omega.{arith}
use mathlib.Core.Bool.{Bool, true, false, true≢false}
use mathlib.Core.List.{List}
use lib.ListN.{length, get_or, set}
use Rattle.basics.specs.Choice.{same}
use Rattle.basics.proofs.Choice.{pick_then, equal_same, lt_less, le_less}
use Rattle.rows.specs.Rows as Rows
use Rattle.rows.specs.Rows.{column}
use Rattle.rows.specs.Nodes.{node_width, nexts}
use Rattle.rows.specs.Operations.{cells, stored, dropped_mark}
use Rattle.rows.specs.declared.OpColumn.TheVariants.{First, Last}
use Rattle.rows.proofs.Operations.{by_column}
use Rattle.job.specs.declared.Heading.{Heading}
use Rattle.job.specs.declared.Process.{Process}
use Rattle.job.specs.declared.Slot.{Slot}
use Rattle.job.specs.declared.Slot.TheVariants.{Acts, Drops}
use Rattle.job.specs.Slot.{process_of, is_drop}
use Rattle.job.specs.Job.{Job, job_of}
use Rattle.job.proofs.Slots.{slot_acts, slot_drops}
use Rattle.machine.specs.declared.Object.{Object}
use Rattle.machine.specs.declared.Place.{Place}
use Rattle.machine.specs.Memory.{Memory, fresh_memory}
use Rattle.machine.specs.Table.{ended, is_return}
use Rattle.machine.specs.Run.{before, operation_after, resting, registers, state_after, fresh_state, reached}
use Rattle.machine.specs.Notes.{acted, note}
use Rattle.machine.specs.Journal.{item_of}
use Rattle.machine.specs.Explained.{IsOperation}
use Rattle.machine.proofs.Bounds.{MemoryWithin, PlaceWithin, within, reached_within, item_within}
use Rattle.machine.proofs.Tallies.{lost_zero, lost_le}
use Rattle.machine.proofs.Stamps.{drop_zero, first_zero, last_zero, start_zero, link_zero, join_zero, taken_none}
use Rattle.theory.proofs.Operations.{note_first}
use Rattle.theory.proofs.Operations.Hands.{Idling}
use Rattle.theory.proofs.TakesAt.{stands_zero}
use Rattle.access.specs.Nodes.{memory_of, object_memory}
use Rattle.step.specs.declared.Stepped.{Stepped}
use Rattle.step.specs.Promise.{IsStep, event_at}
use Rattle.journal.specs.Journal.{held}
use Rattle.journal.specs.Stored.{Stored}
use Rattle.run.specs.Promise.{Runnable, run_places, Room, AllBlank, Ran, InPlace, nowhere, still, working, TurnLeaves, Makes}
use Rattle.run.specs.Promise.DropLeaves.{waits, drops}
use Rattle.run.specs.Promise.TurnLeaves.{stepped, dropped}
use Rattle.run.proofs.Bounds.{its_count, few, short, entry_in_range}
use Rattle.run.proofs.Places.{still_has, working_has, working_set}
use Rattle.run.proofs.Turned.{made_from, followed, followed_ended, followed_going, followed_place, ran_idles, rest_idles, ran_acts, places_idle, places_stay, places_act}
use Rattle.run.proofs.Dropped.{holds_same, waits_idle, ran_drops, places_drop}

-- lists keep their lengths
pub record SameLengths (nodes ops by nodes' ops' by' : List ℕ) : Type 0 where
  pub of_nodes : length nodes' ≡ length nodes
  pub of_ops : length ops' ≡ length ops
  pub of_by : length by' ≡ length by

-- and their room
pub room_kept : {nodes ops by nodes' ops' by' : List ℕ} → SameLengths nodes ops by nodes' ops' by' → Room nodes ops by → Room nodes' ops' by'
room_kept l r =
    record {
      of_nodes = omega (arith, r.of_nodes, l.of_nodes);
      of_ops = omega (arith, r.of_ops, l.of_ops);
      of_steps = omega (arith, r.of_steps, l.of_by);
    }

-- at the start: fresh memory and an empty journal
pub ran_at_start : (j : Job) {object : Object} {nodes ops by : List ℕ} → object.head ≡ fresh_memory.head → object.tail ≡ fresh_memory.tail → object.top ≡ fresh_memory.top → AllBlank nodes ops by → Ran j 0 object nodes ops by
unfolding state_after fresh_state fresh_memory memory_of column
ran_at_start j {ops = ops} h t p b =
    record {
      memory = λ i. record { head = h i; tail = t i; top = p i; next = λ x. b.no_node (Rows.place node_width x 0) i; mark = λ x. b.no_node (Rows.place node_width x 1) i; upper = λ x. b.no_node (Rows.place node_width x 2) i };
      journal =
          record {
            agrees =
                by_column (λ f. (o : ℕ) → IsOperation j.count o → cells ops f o ≡ held j 0 f o)
                (λ o op. b.no_cell _ ∙ sym (first_zero (note j) o))
                (λ o op. b.no_cell _ ∙ sym (last_zero (note j) o) ∙ sym (pick_then _ _ (equal_same (drop_zero j o))))
                (λ o op. b.no_cell _ ∙ sym (start_zero (note j) o))
                (λ o op. b.no_cell _ ∙ sym (link_zero (note j) o))
                (λ o op. b.no_cell _ ∙ sym (taken_none (note j) o (note_first j) 0 (join_zero (note j) o)))
                (λ o op. b.no_cell _ ∙ sym (stands_zero (note j) j.count j.object o));
            by_at = λ s low high. absurd (let x : ⊥ = omega arith in x);
            by_later = λ s later. b.no_step s;
            rounds = b.no_cell _ ∙ sym (lost_zero (note j));
          };
    }

-- the loop's invariant: after k steps places, memory and journal are the definition's, so many processes still have operations, and
-- every list has the length that it was lent with
pub record Turning (stream : List ℕ) (job : Heading) (k : ℕ) (places : List Place) (total : ℕ) (object : Object) (nodes₀ ops₀ by₀ nodes ops by : List ℕ) : Type 0 where
  pub small : k ≤ job.steps
  pub in_place : InPlace (job_of stream) k places
  pub counted : total ≡ working job.count places
  pub ran : Ran (job_of stream) k object nodes ops by
  pub lengths : SameLengths nodes₀ ops₀ by₀ nodes ops by

-- at the end: all steps are made
pub finished : {stream : List ℕ} {job : Heading} {k : ℕ} {places : List Place} {total : ℕ} {object : Object} {nodes₀ ops₀ by₀ nodes ops by : List ℕ} → Turning stream job k places total object nodes₀ ops₀ by₀ nodes ops by → job.steps ≤ k → Ran (job_of stream) job.steps object nodes ops by
finished {stream} {job} {k} {object = object} {nodes = nodes} {ops = ops} {by = by} t over =
    let small : k ≤ job.steps = t.small in
    let e : k ≡ job.steps = omega arith in
    subst (λ x. Ran (job_of stream) x object nodes ops by) e t.ran

-- the place that the code takes out
place_within : {j : Job} {k p : ℕ} {places : List Place} → InPlace j k places → p < run_places → PlaceWithin j.count (get_or places p nowhere)
place_within {j} {k} {p} l h = subst (PlaceWithin j.count) (sym (l.each p h)) ((within j k).place p)

module _ {stream : List ℕ} {job : Heading} (r : Runnable stream job) {k : ℕ} {places : List Place} {total : ℕ} {object : Object} {nodes₀ ops₀ by₀ nodes ops by : List ℕ} (t : Turning stream job k places total object nodes₀ ops₀ by₀ nodes ops by) (more : k < job.steps) {slot : Slot} (slot_is : slot ≡ (job_of stream).slot (k + 1)) (p : ℕ) (process_is : p ≡ process_of slot) where
  -- the process that the schedule names
  abbrev process : ℕ
  process = process_of ((job_of stream).slot (suc k))

  abbrev place : Place
  place = get_or places p nowhere

  named : slot ≡ (job_of stream).slot (suc k)
  named = slot_is ∙ ap (job_of stream).slot (add-one k)

  p_is : p ≡ process
  p_is = process_is ∙ ap process_of named

  process_in_range : process < run_places
  process_in_range = entry_in_range r (suc k) (omega arith) more

  pub p_in_range : p < run_places
  p_in_range = subst (λ x. x < run_places) (sym p_is) process_in_range

  its_place : place ≡ (state_after (job_of stream) k).places process
  its_place = ap (λ x. get_or places x nowhere) p_is ∙ t.in_place.each process process_in_range

  rests : job.count < place.operation.0 → resting (job_of stream) ((state_after (job_of stream) k).places process) ≡ true
  unfolding resting
  rests h = lt_less (subst (λ (x : ℕ × Place). x.0 < x.1.operation.0) (λ i. (its_count r i, its_place i)) h)

  awake : place.operation.0 ≤ job.count → resting (job_of stream) ((state_after (job_of stream) k).places process) ≡ false
  unfolding resting
  awake h = le_less (subst (λ (x : ℕ × Place). x.1.operation.0 ≤ x.0) (λ i. (its_count r i, its_place i)) h)

  -- nothing happens
  turning_idles : Idling (job_of stream) k → Turning stream job (k + 1) places total object nodes₀ ops₀ by₀ nodes ops by
  turning_idles i =
      subst (λ x. Turning stream job x places total object nodes₀ ops₀ by₀ nodes ops by) (sym (add-one k))
      (record {
        small = more;
        in_place = places_idle (job_of stream) k i t.in_place;
        counted = t.counted;
        ran = ran_idles (job_of stream) k i t.ran;
        lengths = t.lengths;
      })

  pub turning_rests : job.count < place.operation.0 → Turning stream job (k + 1) places total object nodes₀ ops₀ by₀ nodes ops by
  turning_rests h = turning_idles (rest_idles (job_of stream) k (rests h))

  m : Memory
  m = object_memory object nodes

  m_within : MemoryWithin (job_of stream).count m
  unfolding m
  m_within = subst (MemoryWithin (job_of stream).count) (sym t.ran.memory) (within (job_of stream) k).memory

  -- the item of the step's event is a node
  item_in : place.operation.0 ≤ job.count → item_of (event_at place object nodes) ≤ job.count
  unfolding m event_at acted
  item_in acts =
      let j : Job = job_of stream in
      let small : place.operation.0 ≤ j.count = subst (λ n. place.operation.0 ≤ n) (its_count r) acts in
      let w = reached_within j m place small m_within (place_within t.in_place p_in_range) in
      subst (λ n. item_of (acted place (reached m place)).event ≤ n) (sym (its_count r))
      (item_within j.count (reached m place).registers w.own _ _)

  -- the next of t is a node
  next_in : nexts nodes place.t ≤ job.count
  unfolding m memory_of
  next_in = subst (λ n. nexts nodes place.t ≤ n) (sym (its_count r)) (m_within.next place.t)

  -- all that the step needs is there
  pub makes : Room nodes₀ ops₀ by₀ → place.operation.0 ≤ job.count → Makes place (k + 1) object nodes ops by
  unfolding registers
  makes lent h =
      let w : PlaceWithin job.count place = subst (λ n. PlaceWithin n place) (sym (its_count r)) (place_within t.in_place p_in_range) in
      let room : Room nodes ops by = room_kept t.lengths lent in
      let item : item_of (event_at place object nodes) ≤ job.count = item_in h in
      record {
        going = w.going;
        inside =
            record {
              own_row = omega (arith, few r, room.of_nodes);
              h_row = omega (arith, few r, w.own.h, room.of_nodes);
              t_row = omega (arith, few r, w.own.t, room.of_nodes);
              next_row = omega (arith, few r, next_in, room.of_nodes);
            };
        some = w.from_one;
        counting =
            record {
              count_row = omega (arith, room.of_ops);
              room = omega (arith, t.ran.journal.rounds, lost_le (note (job_of stream)) k, short r, t.small);
            };
        noting = record { own_row = omega (arith, few r, room.of_ops); item_row = omega (arith, few r, item, room.of_ops) };
        entering = omega (arith, short r, room.of_steps);
      }

  -- one that has operations is among those counted
  pub counted_in : place.operation.0 ≤ job.count → 1 ≤ total
  counted_in h =
      omega (arith, t.counted, working_has job.count places p (subst (λ n. p < n) (sym t.in_place.whole) p_in_range), still_has job.count place.operation.0 h)

  module _ (steps : is_drop slot ≡ false) {s : Stepped} {nodes' : List ℕ} (acts : place.operation.0 ≤ job.count) (is : IsStep place object nodes s nodes') where
    turning_acts : {ops' by' : List ℕ} (after : Place) {total' : ℕ} → Stored (event_at place object nodes) (ended s.row) (is_return s.row) place.operation.0 (k + 1) ops by ops' by' → after ≡ followed (job_of stream) p place.operation s → total' ≡ total - 1 + still job.count after.operation.0 → SameLengths nodes ops by nodes' ops' by' → Turning stream job (k + 1) (set places p after) total' s.left.object nodes₀ ops₀ by₀ nodes' ops' by'
    turning_acts {ops'} {by'} after {total'} stored f counts kept =
        subst (λ x. Turning stream job x (set places p after) total' s.left.object nodes₀ ops₀ by₀ nodes' ops' by') (sym (add-one k))
        (record {
          small = more;
          in_place =
              subst (λ x. InPlace j (suc k) (set places x after)) (sym p_is)
              (places_act j k own acts_named places after (awake acts) process_in_range t.in_place
              (followed_place j k own acts_named after (made_from t.ran.memory real)
              (subst (λ (x : ℕ × Place). after ≡ followed j x.0 x.1.operation s) (λ i. (p_is i, its_place i)) f)));
          counted =
              omega (arith, t.counted, counted_in acts, counts, working_set job.count places p after (subst (λ n. p < n) (sym t.in_place.whole) p_in_range), still_has job.count place.operation.0 acts);
          ran =
              ran_acts j k own acts_named (awake acts) t.ran real
              (subst (λ (x : ℕ × Place). Stored (event_at x.1 object nodes) (ended s.row) (is_return s.row) x.1.operation.0 x.0 ops by ops' by') (λ i. (add-one k i, its_place i)) stored);
          lengths =
              record {
                of_nodes = kept.of_nodes ∙ t.lengths.of_nodes;
                of_ops = kept.of_ops ∙ t.lengths.of_ops;
                of_by = kept.of_by ∙ t.lengths.of_by;
              };
        })
      where
        j : Job
        j = job_of stream

        own : Process
        own = record { 0 = process }

        acts_named : (job_of stream).slot (suc k) ≡ Acts own
        acts_named = slot_acts ((job_of stream).slot (suc k)) (ap is_drop (sym named) ∙ steps)

        real : IsStep ((state_after (job_of stream) k).places process) object nodes s nodes'
        real = subst (λ x. IsStep x object nodes s nodes') its_place is

    -- a step after which the operation goes on
    turning_goes : {ops' by' : List ℕ} (after : Place) → Stored (event_at place object nodes) (ended s.row) (is_return s.row) place.operation.0 (k + 1) ops by ops' by' → ended s.row ≡ false → after ≡ record { operation = place.operation; row = s.row; h = s.left.h; t = s.left.t; n = s.left.n } → SameLengths nodes ops by nodes' ops' by' → Turning stream job (k + 1) (set places p after) total s.left.object nodes₀ ops₀ by₀ nodes' ops' by'
    turning_goes after stored on f kept =
        turning_acts after stored (followed_going (job_of stream) p place.operation s on f)
        (let same : after.operation.0 ≡ place.operation.0 = ap (λ (q : Place). q.operation.0) f in
        omega (arith, counted_in acts, ap (still job.count) same, still_has job.count place.operation.0 acts))
        kept

    -- a step at which it ends
    turning_ends : {ops' by' : List ℕ} (after : Place) {total' : ℕ} → Stored (event_at place object nodes) (ended s.row) (is_return s.row) place.operation.0 (k + 1) ops by ops' by' → ended s.row ≡ true → after ≡ before (job_of stream) (operation_after (job_of stream) p place.operation.0) → total' ≡ total - 1 + still job.count after.operation.0 → SameLengths nodes ops by nodes' ops' by' → Turning stream job (k + 1) (set places p after) total' s.left.object nodes₀ ops₀ by₀ nodes' ops' by'
    turning_ends after stored over f = turning_acts after stored (followed_ended (job_of stream) p place.operation s over f)

  -- a drop
  module _ (drops : is_drop slot ≡ true) (has : place.operation.0 ≤ job.count) where
    abbrev own : Process
    own = record { 0 = process }

    drops_named : (job_of stream).slot (suc k) ≡ Drops own
    drops_named = slot_drops ((job_of stream).slot (suc k)) (ap is_drop (sym named) ∙ drops)

    held_in : ((state_after (job_of stream) k).places process).operation.0 ≤ (job_of stream).count
    held_in = subst (λ (x : ℕ × Place). x.1.operation.0 ≤ x.0) (λ i. (its_count r i, its_place i)) has

    -- whether it has begun, of the definition's place
    its_first : {waits : Bool} → same (cells ops First place.operation.0) 0 ≡ waits → same (cells ops First ((state_after (job_of stream) k).places process).operation.0) 0 ≡ waits
    its_first {waits} e = subst (λ (x : Place). same (cells ops First x.operation.0) 0 ≡ waits) its_place e

    -- with none begun
    turning_waits : same (cells ops First place.operation.0) 0 ≡ true → {ops' : List ℕ} (after : Place) → after ≡ place → cells ops' ≡ cells ops → length ops' ≡ length ops → Turning stream job (k + 1) (set places p after) total object nodes₀ ops₀ by₀ nodes ops' by
    turning_waits e {ops'} after stays rows kept =
        subst (λ x. Turning stream job x (set places p after) total object nodes₀ ops₀ by₀ nodes ops' by) (sym (add-one k))
        (record {
          small = more;
          in_place = subst (λ x. InPlace j (suc k) (set places x after)) (sym p_is) (places_stay j k idling places process after process_in_range t.in_place (stays ∙ its_place));
          counted =
              (let here : still job.count after.operation.0 ≡ still job.count place.operation.0 = ap (λ (x : Place). still job.count x.operation.0) stays in
              omega (arith, t.counted, working_set job.count places p after (subst (λ n. p < n) (sym t.in_place.whole) p_in_range)));
          ran = ran_idles j k idling (record { memory = t.ran.memory; journal = holds_same rows t.ran.journal });
          lengths = record { of_nodes = t.lengths.of_nodes; of_ops = kept ∙ t.lengths.of_ops; of_by = t.lengths.of_by };
        })
      where
        j : Job
        j = job_of stream

        idling : Idling (job_of stream) k
        idling = waits_idle (job_of stream) k own drops_named held_in t.ran (its_first e)

    -- with one begun
    turning_drops : same (cells ops First place.operation.0) 0 ≡ false → {ops' : List ℕ} (after : Place) {total' : ℕ} → after ≡ before (job_of stream) (operation_after (job_of stream) p place.operation.0) → cells ops' ≡ stored Last place.operation.0 dropped_mark (cells ops) → total' ≡ total - 1 + still job.count after.operation.0 → length ops' ≡ length ops → Turning stream job (k + 1) (set places p after) total' object nodes₀ ops₀ by₀ nodes ops' by
    turning_drops begun {ops'} after {total'} next stores counts kept =
        subst (λ x. Turning stream job x (set places p after) total' object nodes₀ ops₀ by₀ nodes ops' by) (sym (add-one k))
        (record {
          small = more;
          in_place =
              subst (λ x. InPlace j (suc k) (set places x after)) (sym p_is)
              (places_drop j k own drops_named held_in t.ran (its_first begun) places after process_in_range t.in_place
              (subst (λ (x : ℕ × Place). after ≡ before j (operation_after j x.0 x.1.operation.0)) (λ i. (p_is i, its_place i)) next));
          counted =
              omega (arith, t.counted, counted_in has, counts, working_set job.count places p after (subst (λ n. p < n) (sym t.in_place.whole) p_in_range), still_has job.count place.operation.0 has);
          ran = ran_drops j k own drops_named held_in t.ran (its_first begun) (subst (λ x. cells ops' ≡ stored Last x.operation.0 dropped_mark (cells ops)) its_place stores);
          lengths = record { of_nodes = t.lengths.of_nodes; of_ops = kept ∙ t.lengths.of_ops; of_by = t.lengths.of_by };
        })
      where
        j : Job
        j = job_of stream

  -- a turn that ends the operation in hand, by its last step or by a drop
  pub turning_over : {over : Bool} {s : Stepped} {nodes' ops' by' : List ℕ} (after : Place) {total' : ℕ} → TurnLeaves slot place (k + 1) object nodes ops by over s nodes' ops' by' → over ≡ true → place.operation.0 ≤ job.count → after ≡ before (job_of stream) (operation_after (job_of stream) p place.operation.0) → total' ≡ total - 1 + still job.count after.operation.0 → SameLengths nodes ops by nodes' ops' by' → Turning stream job (k + 1) (set places p after) total' s.left.object nodes₀ ops₀ by₀ nodes' ops' by'
  turning_over after (stepped acts over_is is stores) over has f counts kept = turning_ends acts has is after stores (sym over_is ∙ over) f counts kept
  turning_over after (dropped is_dropped (waits w e)) over has f counts kept = absurd (true≢false (sym over))
  turning_over after (dropped is_dropped (drops b e)) over has f counts kept = turning_drops is_dropped has b after f e counts kept.of_ops

  -- a turn after which it goes on, or has not begun
  pub turning_on : {over : Bool} {s : Stepped} {nodes' ops' by' : List ℕ} (after : Place) → TurnLeaves slot place (k + 1) object nodes ops by over s nodes' ops' by' → over ≡ false → place.operation.0 ≤ job.count → after ≡ record { operation = place.operation; row = s.row; h = s.left.h; t = s.left.t; n = s.left.n } → SameLengths nodes ops by nodes' ops' by' → Turning stream job (k + 1) (set places p after) total s.left.object nodes₀ ops₀ by₀ nodes' ops' by'
  turning_on after (stepped acts over_is is stores) over has f kept = turning_goes acts has is after stores (sym over_is ∙ over) f kept
  turning_on after (dropped is_dropped (waits w e)) over has f kept = turning_waits is_dropped has w after f e kept.of_ops
  turning_on after (dropped is_dropped (drops b e)) over has f kept = absurd (true≢false over)
