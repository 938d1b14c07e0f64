-- The bridge from processes to operations: the place of a process is the operation in its hand, which no other process has in its hand,
-- and the operations that it owns above that one have not begun. So each step is idle, a drop, or an operation's. Assumes nothing.
use mathlib.Core.Path.{◌≡◌, refl, sym, ap, subst, ◌∙◌}
use mathlib.Core.Logic.{◌≢◌, ◌⊎◌, inl, inr}
use Prim.Native.Nat.{ℕ, zero, suc, ◌-◌, ◌≤◌, ◌<◌}
use mathlib.Core.Bool.{Bool, true, false}
use native.Mathlib.Omega.{arith}
use Rattle.basics.specs.Choice.{pick, same, less}
use Rattle.basics.specs.Maps.{upd}
use Rattle.basics.proofs.Choice.{both, split, compare, pick_then, pick_else, pick_elim, same_equal, equal_same, unequal_same, less_le, lt_less, le_less}
use Rattle.basics.proofs.Maps.{upd_here, upd_there}
use Rattle.job.specs.declared.Process.{Process}
use Rattle.job.specs.declared.Slot.{Slot}
use Rattle.job.specs.declared.Slot.TheVariants.{Acts, Drops}
use Rattle.job.specs.Job.{Job}
use Rattle.machine.specs.declared.Place.{Place}
use Rattle.machine.specs.Table.{ended}
use Rattle.machine.specs.Run.{State, operation_after, before, fresh_state, registers, reached, row_after, place_after, resting, state_after}
use Rattle.machine.specs.Notes.{idle, acted, note_next, note}
use Rattle.machine.specs.Drops.{dropped}
use Rattle.machine.proofs.Searches.{seek_from, seek_to, seek_meets}
use Rattle.machine.proofs.Turns.Locals.{Local, reaches, local_after}
use Rattle.machine.proofs.ByKind.{begins_going}
use Rattle.machine.proofs.Bounds.{within}
use Rattle.machine.proofs.Slots.{acts_drops_none, state_rests, note_rests, state_acts, note_acts, note_drops, state_stays, drops_none, state_drops, drops_one}
use Rattle.theory.proofs.Listing.{initial}
use Rattle.theory.proofs.Operations.Locals.{memory, local}

-- the next operation of a process: after the one it had, its own or past them all
record NextOperation (j : Job) (p o q : ℕ) : Type 0 where
  after : o < q
  to_count : q ≤ suc j.count
  owned : q ≤ j.count → j.owner q ≡ p

next_operation : (j : Job) (p o : ℕ) → o ≤ j.count → NextOperation j p o (operation_after j p o)
unfolding operation_after
next_operation j p o h =
    let f : ℕ → Bool = λ i. same (j.owner i) p in
    record {
      after = seek_from f (suc o) (j.count - o);
      to_count = omega (arith, seek_to f (suc o) (j.count - o));
      owned = λ q. same_equal (seek_meets f (suc o) (j.count - o) (omega arith));
    }

pub next_after : (j : Job) (p o : ℕ) → o ≤ j.count → o < operation_after j p o
next_after j p o to_count = (next_operation j p o to_count).after

-- the place of a process that has operation o in its hand
unfoldable pub place_of : ℕ → Local → Place
place_of o l = record { operation = record { 0 = o }; row = l.row; h = l.registers.h; t = l.registers.t; n = l.registers.n }

before_is_initial : (j : Job) (o : ℕ) → before j o ≡ place_of o (initial j.object (j.is_put o))
unfolding before place_of initial
before_is_initial j o = refl

initial_going : (j : Job) (o : ℕ) → ended (initial j.object (j.is_put o)).row ≡ false
unfolding initial
initial_going j o = begins_going j.object (j.is_put o)

-- process p has operation o in its hand after k steps
pub record InHand (j : Job) (k p o : ℕ) : Type 0 where
  pub place_is : (state_after j k).places p ≡ place_of o (local j k o)
  pub from_one : 1 ≤ o
  pub owned : o ≤ j.count → j.owner o ≡ p
  pub going : ended (local j k o).row ≡ false
  -- its operations above are before their first step
  pub waiting : (q : ℕ) → o < q → q ≤ j.count → j.owner q ≡ p → local j k q ≡ initial j.object (j.is_put q)

-- the place after its step: the same operation further on, or the next one
unfoldable pub next_place : Job → ℕ → ℕ → Local → Place
next_place j p o l = pick (ended l.row) (before j (operation_after j p o)) (place_of o l)

-- process p makes step k + 1, one of the operation in its hand
pub record Acting (j : Job) (k p o : ℕ) : Type 0 where
  pub hand : InHand j k p o
  pub to_count : o ≤ j.count
  pub state : state_after j (suc k) ≡ record { memory = (reaches o (memory j k) (local j k o)).memory; places = upd (state_after j k).places p (next_place j p o (local_after o (memory j k) (local j k o))); begun = upd (state_after j k).begun o true }
  pub said : note j (suc k) ≡ acted (place_of o (local j k o)) (reaches o (memory j k) (local j k o))
  pub drops_none : dropped j (suc k) ≡ 0

-- at step k + 1 process p drops the operation in its hand
pub record Dropping (j : Job) (k p o : ℕ) : Type 0 where
  pub hand : InHand j k p o
  pub to_count : o ≤ j.count
  pub state : state_after j (suc k) ≡ record { memory = memory j k; places = upd (state_after j k).places p (before j (operation_after j p o)); begun = (state_after j k).begun }
  pub said : note j (suc k) ≡ idle
  pub begun : (state_after j k).begun o ≡ true
  pub drops : dropped j (suc k) ≡ o

-- nothing happens at step k + 1
pub record Idling (j : Job) (k : ℕ) : Type 0 where
  pub state : state_after j (suc k) ≡ state_after j k
  pub said : note j (suc k) ≡ idle
  pub drops_none : dropped j (suc k) ≡ 0

-- each step is one of these
pub data OneStep (j : Job) (k : ℕ) : Type 0 where
  idles : Idling j k → OneStep j k
  drops : {p o : ℕ} → Dropping j k p o → OneStep j k
  acts : {p o : ℕ} → Acting j k p o → OneStep j k

-- the schedule names process p, which has operation o in its hand
module _ (j : Job) (k : ℕ) (p : Process) (o : ℕ) (h : InHand j k p.0 o) where
  in_hand_is : ((state_after j k).places p.0).operation.0 ≡ o
  unfolding place_of
  in_hand_is = ap (λ x. x.operation.0) h.place_is

  acting : j.slot (suc k) ≡ Acts p → OneStep j k
  unfolding resting place_of reached registers reaches local_after place_after next_place row_after memory
  acting named = by_rest (compare o j.count)
    where
      by_rest : (o ≤ j.count) ⊎ (j.count < o) → OneStep j k
      by_rest (inl to_count) =
          let awake : resting j ((state_after j k).places p.0) ≡ false = ap (resting j) h.place_is ∙ le_less to_count in
          acts
          (record {
            hand = h;
            to_count = to_count;
            state =
                state_acts j k p named awake
                ∙ ap (λ x. record { memory = (reached (state_after j k).memory x).memory; places = upd (state_after j k).places p.0 (place_after j p.0 x (reached (state_after j k).memory x)); begun = upd (state_after j k).begun x.operation.0 true }) h.place_is;
            said = note_acts j k p named awake ∙ ap (λ x. acted x (reached (state_after j k).memory x)) h.place_is;
            drops_none = acts_drops_none j k p named;
          })
      by_rest (inr past) =
          let rests : resting j ((state_after j k).places p.0) ≡ true = ap (resting j) h.place_is ∙ lt_less past in
          idles (record { state = state_rests j k p named rests; said = note_rests j k p named rests; drops_none = acts_drops_none j k p named })

  dropping : j.slot (suc k) ≡ Drops p → OneStep j k
  unfolding memory
  dropping named = by_begun (both ((state_after j k).begun ((state_after j k).places p.0).operation.0))
    where
      by_begun : ((state_after j k).begun ((state_after j k).places p.0).operation.0 ≡ true) ⊎ ((state_after j k).begun ((state_after j k).places p.0).operation.0 ≡ false) → OneStep j k
      by_begun (inl b) =
          let its_own : (state_after j k).begun o ≡ true = ap (state_after j k).begun (sym in_hand_is) ∙ b in
          drops
          (record {
            hand = h;
            to_count = (within j k).begun o its_own;
            state = state_drops j k p named b ∙ ap (λ x. record { memory = (state_after j k).memory; places = upd (state_after j k).places p.0 (before j (operation_after j p.0 x)); begun = (state_after j k).begun }) in_hand_is;
            said = note_drops j k p named;
            begun = its_own;
            drops = drops_one j k p named b ∙ in_hand_is;
          })
      by_begun (inr b) = idles (record { state = state_stays j k p named b; said = note_drops j k p named; drops_none = drops_none j k p named b })

-- a step by what the schedule names, where every process has something in its hand
one_step_of : (j : Job) (k : ℕ) → ((p : ℕ) → (o : ℕ) × InHand j k p o) → OneStep j k
one_step_of j k held = by_slot (j.slot (suc k)) refl
  where
    by_slot : (s : Slot) → j.slot (suc k) ≡ s → OneStep j k
    by_slot (Acts p) named = acting j k p (held p.0).0 (held p.0).1 named
    by_slot (Drops p) named = dropping j k p (held p.0).0 (held p.0).1 named

-- an operation's row and registers over a step: its own, and another's
pub local_own : (j : Job) (k o : ℕ) → (note j (suc k)).by ≡ o → local j (suc k) o ≡ local_after o (memory j k) (local j k o)
unfolding local
local_own j k o e = pick_then _ _ (equal_same e)

pub local_other : (j : Job) (k o : ℕ) → (note j (suc k)).by ≢ o → local j (suc k) o ≡ local j k o
unfolding local
local_other j k o n = pick_else _ _ (unequal_same n)

-- who acts is an operation of the job, so what is past its operations never begins
next_to_count : (j : Job) (s : State) (slot : Slot) → (note_next j s slot).by ≤ j.count
unfolding note_next idle acted resting
next_to_count j s (Acts p) =
    let place : Place = s.places p.0 in
    pick_elim (λ x. x.by ≤ j.count) (less j.count place.operation.0) idle (acted place (reached s.memory place))
    (λ t. omega arith)
    (λ e. less_le e)
next_to_count j s (Drops p) = omega arith

actor_to_count : (j : Job) (k : ℕ) → (note j (suc k)).by ≤ j.count
unfolding note
actor_to_count j k = next_to_count j (state_after j k) (j.slot (suc k))

pub local_zero : (j : Job) (o : ℕ) → local j 0 o ≡ initial j.object (j.is_put o)
unfolding local
local_zero j o = refl

never_begun : (j : Job) (k o : ℕ) → j.count < o → local j k o ≡ initial j.object (j.is_put o)
never_begun j zero o past = local_zero j o
never_begun j (suc k) o past = local_other j k o (λ e. absurd (omega (arith, actor_to_count j k))) ∙ never_begun j k o past

-- a hand that a step does not touch
hand_kept : (j : Job) (k p o : ℕ) → InHand j k p o → (state_after j (suc k)).places p ≡ (state_after j k).places p → ((q : ℕ) → 1 ≤ q → (q ≤ j.count → j.owner q ≡ p) → (note j (suc k)).by ≢ q) → InHand j (suc k) p o
hand_kept j k p o h PlaceKept apart =
    let same_local : local j (suc k) o ≡ local j k o = local_other j k o (apart o h.from_one h.owned) in
    record {
      place_is = PlaceKept ∙ h.place_is ∙ ap (place_of o) (sym same_local);
      from_one = h.from_one;
      owned = h.owned;
      going = ap (λ l. ended l.row) same_local ∙ h.going;
      waiting = λ q above to_count own. local_other j k q (apart q (omega (arith, h.from_one)) (λ c. own)) ∙ h.waiting q above to_count own;
    }

-- an operation that goes on stays in the hand
module _ {j : Job} {k p o : ℕ} (a : Acting j k p o) where
  pub by_own : (note j (suc k)).by ≡ o
  unfolding acted place_of
  by_own = ap (λ x. x.by) a.said

  pub place_moved : (state_after j (suc k)).places p ≡ next_place j p o (local_after o (memory j k) (local j k o))
  place_moved = ap (λ s. s.places p) a.state ∙ upd_here _ _ _

  hand_goes_on : ended (local_after o (memory j k) (local j k o)).row ≡ false → InHand j (suc k) p o
  unfolding next_place
  hand_goes_on on =
      let after : local j (suc k) o ≡ local_after o (memory j k) (local j k o) = local_own j k o by_own in
      record {
        place_is = place_moved ∙ pick_else _ _ on ∙ ap (place_of o) (sym after);
        from_one = a.hand.from_one;
        owned = a.hand.owned;
        going = ap (λ l. ended l.row) after ∙ on;
        waiting = λ q above to_c own. local_other j k q (λ e. absurd (let z : o ≡ q = sym by_own ∙ e in omega arith)) ∙ a.hand.waiting q above to_c own;
      }

  -- one that ends gives way to the next
  pub place_ended : ended (local_after o (memory j k) (local j k o)).row ≡ true → (state_after j (suc k)).places p ≡ before j (operation_after j p o)
  unfolding next_place
  place_ended end = place_moved ∙ pick_then _ _ end

-- and so does one that is dropped: nobody makes the step
module _ {j : Job} {k p o : ℕ} (d : Dropping j k p o) where
  pub by_nobody : (note j (suc k)).by ≡ 0
  unfolding idle
  by_nobody = ap (λ x. x.by) d.said

  pub place_dropped : (state_after j (suc k)).places p ≡ before j (operation_after j p o)
  place_dropped = ap (λ s. s.places p) d.state ∙ upd_here _ _ _

-- when an operation gives way, the next one comes into the hand
hand_moves_on : (j : Job) (k p o : ℕ) → InHand j k p o → o ≤ j.count → (state_after j (suc k)).places p ≡ before j (operation_after j p o) → ((r : ℕ) → o < r → (note j (suc k)).by ≢ r) → InHand j (suc k) p (operation_after j p o)
hand_moves_on j k p o h to_count gives_way by_none_above =
    let q : ℕ = operation_after j p o in
    let next : NextOperation j p o q = next_operation j p o to_count in
    let unbegun : local j (suc k) q ≡ initial j.object (j.is_put q) = untouched q next.after (waits_or_past (compare q j.count) next) in
    record {
      place_is = gives_way ∙ before_is_initial j q ∙ ap (place_of q) (sym unbegun);
      from_one = omega (arith, next.after);
      owned = next.owned;
      going = ap (λ l. ended l.row) unbegun ∙ initial_going j q;
      waiting = λ r above to_c own. untouched r (omega (arith, next.after)) (h.waiting r (omega (arith, next.after)) to_c own);
    }
  where
    untouched : (r : ℕ) → o < r → local j k r ≡ initial j.object (j.is_put r) → local j (suc k) r ≡ initial j.object (j.is_put r)
    untouched r above e = local_other j k r (by_none_above r above) ∙ e

    waits_or_past : {r : ℕ} → (r ≤ j.count) ⊎ (j.count < r) → NextOperation j p o r → local j k r ≡ initial j.object (j.is_put r)
    waits_or_past {r} (inl c) next = h.waiting r next.after c (next.owned c)
    waits_or_past {r} (inr c) next = never_begun j k r c

-- a hand at the beginning
hand_at_first : (j : Job) (p : ℕ) → InHand j 0 p (operation_after j p 0)
unfolding state_after fresh_state
hand_at_first j p =
    let q : ℕ = operation_after j p 0 in
    let next : NextOperation j p 0 q = next_operation j p 0 (omega arith) in
    record {
      place_is = before_is_initial j q ∙ ap (place_of q) (sym (local_zero j q));
      from_one = next.after;
      owned = next.owned;
      going = ap (λ l. ended l.row) (local_zero j q) ∙ initial_going j q;
      waiting = λ r above to_c own. local_zero j r;
    }

-- the hand of a process over a step
module _ (j : Job) (k p : ℕ) (own : (o : ℕ) × InHand j k p o) where
  -- a step that nobody makes and that leaves its place
  hand_left : (state_after j (suc k)).places p ≡ (state_after j k).places p → (note j (suc k)).by ≡ 0 → (o : ℕ) × InHand j (suc k) p o
  hand_left PlaceKept nobody = (own.0, hand_kept j k p own.0 own.1 PlaceKept (λ q low mine c. absurd (let z : 0 ≡ q = sym nobody ∙ c in omega arith)))

  hand_idles : Idling j k → (o : ℕ) × InHand j (suc k) p o
  unfolding idle
  hand_idles i = hand_left (ap (λ s. s.places p) i.state) (ap (λ x. x.by) i.said)

  hand_drops : {r o : ℕ} → Dropping j k r o → (p ≡ r) ⊎ (p ≢ r) → (q : ℕ) × InHand j (suc k) p q
  hand_drops {r} {o} d (inl e) =
      subst (λ x. (q : ℕ) × InHand j (suc k) x q) (sym e)
      (operation_after j r o, hand_moves_on j k r o d.hand d.to_count (place_dropped d) (λ q above c. let z : 0 ≡ q = sym (by_nobody d) ∙ c in omega arith))
  hand_drops d (inr n) = hand_left (ap (λ s. s.places p) d.state ∙ upd_there _ _ _ n) (by_nobody d)

  hand_acts : {r o : ℕ} → Acting j k r o → (p ≡ r) ⊎ (p ≢ r) → (q : ℕ) × InHand j (suc k) p q
  hand_acts {r} {o} a (inl e) = subst (λ x. (q : ℕ) × InHand j (suc k) x q) (sym e) (by_end (both (ended (local_after o (memory j k) (local j k o)).row)))
    where
      by_end : (ended (local_after o (memory j k) (local j k o)).row ≡ true) ⊎ (ended (local_after o (memory j k) (local j k o)).row ≡ false) → (q : ℕ) × InHand j (suc k) r q
      by_end (inl end) = (operation_after j r o, hand_moves_on j k r o a.hand a.to_count (place_ended a end) (λ q above c. let z : o ≡ q = sym (by_own a) ∙ c in omega arith))
      by_end (inr on) = (o, hand_goes_on a on)
  hand_acts {r} {o} a (inr n) =
      (own.0, hand_kept j k p own.0 own.1 (ap (λ s. s.places p) a.state ∙ upd_there _ _ _ n) (λ q low mine c. apart q mine (sym (by_own a) ∙ c)))
    where
      -- the operation in the hand of another process is another
      apart : (q : ℕ) → (q ≤ j.count → j.owner q ≡ p) → o ≢ q
      apart q mine e = n (sym (mine (omega (arith, a.to_count))) ∙ ap j.owner (sym e) ∙ a.hand.owned a.to_count)

-- every process has an operation in its hand, or the number past them all
pub in_hand : (j : Job) (k p : ℕ) → (o : ℕ) × InHand j k p o
in_hand j zero p = (operation_after j p 0, hand_at_first j p)
in_hand j (suc k) p = by_step (in_hand j k p) (one_step_of j k (in_hand j k))
  where
    by_step : ((o : ℕ) × InHand j k p o) → OneStep j k → (q : ℕ) × InHand j (suc k) p q
    by_step own (idles i) = hand_idles j k p own i
    by_step own (drops {p = r} d) = hand_drops j k p own d (split p r)
    by_step own (acts {p = r} a) = hand_acts j k p own a (split p r)

-- so each step is idle, a drop, or an operation's
pub one_step : (j : Job) (k : ℕ) → OneStep j k
one_step j k = one_step_of j k (in_hand j k)
