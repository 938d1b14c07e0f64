-- Every register and every cell of a run holds a number of 0 to N, every operation in hand one of 1 to N + 1, and no place stands at an
-- end: all that the safety of code needs. Assumes nothing.
use mathlib.Core.Path.{◌≡◌, sym, subst}
use mathlib.Core.Logic.{◌⊎◌, inl, inr}
use Prim.Native.Nat.{ℕ, zero, suc, ◌-◌, ◌≤◌, zero-le}
use native.Mathlib.Omega.{arith}
use mathlib.Core.Bool.{Bool, true, false, true≢false}
use Rattle.basics.specs.Choice.{pick, same}
use Rattle.basics.specs.Maps.{upd}
use Rattle.basics.proofs.Choice.{both, pick_elim, less_le}
use Rattle.basics.proofs.Maps.{upd_elim}
use Rattle.job.specs.declared.Slot.{Slot}
use Rattle.job.specs.declared.Slot.TheVariants.{Acts, Drops}
use Rattle.job.specs.Job.{Job}
use Rattle.machine.specs.declared.Place.{Place}
use Rattle.machine.specs.declared.Access.{Access}
use Rattle.machine.specs.declared.Access.TheVariants.{ReadHead, ReadTail, ReadNextOfH, ReadNextOfT, Link, TailToOwn, TailToN, HeadToN, ReadTop, ReadTopToTake, ReadMark, Push, RaiseMark, TopToNext, ReadUpper, ReadUpperToTake, LinkAbove, TopToOwn, TopToN, Cut, ClearFlag}
use Rattle.machine.specs.declared.Outcome.{Outcome}
use Rattle.machine.specs.declared.Outcome.TheVariants.{Yes, No, Bare}
use Rattle.machine.specs.Memory.{Memory, fresh_memory, set_from_to, with_head, with_tail, with_top, with_next, with_mark, with_upper}
use Rattle.machine.specs.Table.{row_of, ended}
use Rattle.machine.specs.Access.{Registers, Reached, have_read, have_set, access}
use Rattle.machine.specs.Run.{State, operation_after, before, fresh_state, reach, registers, reached, row_after, place_after, resting, acting, dropping, step, state_after}
use Rattle.machine.specs.Notes.{event_of}
use Rattle.machine.specs.Journal.{item_of}
use Rattle.machine.proofs.Searches.{seek_from, seek_to}
use Rattle.machine.proofs.Slots.{dropping_stays, dropping_drops}
use Rattle.machine.proofs.ByKind.{begins_going}

-- every cell of shared memory holds at most N
pub record MemoryWithin (N : ℕ) (m : Memory) : Type 0 where
  pub head : m.head ≤ N
  pub tail : m.tail ≤ N
  pub top : m.top ≤ N
  pub next : (i : ℕ) → m.next i ≤ N
  pub upper : (i : ℕ) → m.upper i ≤ N

-- every register holds at most N
pub record RegistersWithin (N : ℕ) (r : Registers) : Type 0 where
  pub h : r.h ≤ N
  pub t : r.t ≤ N
  pub n : r.n ≤ N

pub record ReachedWithin (N : ℕ) (m : Memory) (r : Registers) : Type 0 where
  pub memory : MemoryWithin N m
  pub own : RegistersWithin N r

-- «Set A from b to c» stores c, or nothing
set_within : (N : ℕ) {a c : ℕ} (b : ℕ) → a ≤ N → c ≤ N → set_from_to a b c ≤ N
unfolding set_from_to
set_within N {a} {c} b old new = pick_elim (λ x. x ≤ N) (same a b) c a (λ t. new) (λ t. old)

-- a map with one cell stored, or as it was
map_within : (N : ℕ) (f : ℕ → ℕ) (i v : ℕ) (stores : Bool) → ((x : ℕ) → f x ≤ N) → v ≤ N → (x : ℕ) → pick stores (upd f i v) f x ≤ N
map_within N f i v stores old new = pick_elim (λ g. (x : ℕ) → g x ≤ N) stores (upd f i v) f (λ t x. upd_elim (λ y. y ≤ N) f i v x (λ e. new) (λ e. old x)) (λ t. old)

-- every access keeps them so
access_within : (N : ℕ) (a : Access) {own : ℕ} {m : Memory} {r : Registers} → own ≤ N → MemoryWithin N m → RegistersWithin N r → ReachedWithin N (access a own m r).memory (access a own m r).registers
unfolding access have_read have_set with_head with_tail with_top with_next with_mark with_upper
access_within N ReadHead own m r = record { memory = m; own = record { h = m.head; t = r.t; n = r.n } }
access_within N ReadTail own m r = record { memory = m; own = record { h = r.h; t = m.tail; n = r.n } }
access_within N ReadNextOfH own m r = record { memory = m; own = record { h = r.h; t = r.t; n = m.next _ } }
access_within N ReadNextOfT own m r = record { memory = m; own = record { h = r.h; t = r.t; n = m.next _ } }
access_within N Link own m r = record { memory = record { head = m.head; tail = m.tail; top = m.top; next = map_within N _ _ _ _ m.next own; upper = m.upper }; own = r }
access_within N TailToOwn own m r = record { memory = record { head = m.head; tail = set_within N _ m.tail own; top = m.top; next = m.next; upper = m.upper }; own = r }
access_within N TailToN own m r = record { memory = record { head = m.head; tail = set_within N _ m.tail r.n; top = m.top; next = m.next; upper = m.upper }; own = r }
access_within N HeadToN own m r = record { memory = record { head = set_within N _ m.head r.n; tail = m.tail; top = m.top; next = m.next; upper = m.upper }; own = r }
access_within N ReadTop own m r = record { memory = m; own = record { h = r.h; t = m.top; n = r.n } }
access_within N ReadTopToTake own m r = record { memory = m; own = record { h = r.h; t = m.top; n = r.n } }
access_within N ReadMark own m r = record { memory = m; own = r }
access_within N Push own m r = record { memory = record { head = m.head; tail = m.tail; top = set_within N _ m.top own; next = map_within N _ _ _ _ m.next r.t; upper = m.upper }; own = r }
access_within N RaiseMark own m r = record { memory = record { head = m.head; tail = m.tail; top = m.top; next = m.next; upper = m.upper }; own = r }
access_within N TopToNext own m r = record { memory = record { head = m.head; tail = m.tail; top = set_within N _ m.top (m.next _); next = m.next; upper = m.upper }; own = r }
access_within N ReadUpper own m r = record { memory = m; own = record { h = r.h; t = r.t; n = m.upper _ } }
access_within N ReadUpperToTake own m r = record { memory = m; own = record { h = r.h; t = r.t; n = m.upper _ } }
access_within N LinkAbove own m r = record { memory = record { head = m.head; tail = m.tail; top = m.top; next = map_within N _ _ _ _ m.next r.t; upper = map_within N _ _ _ _ m.upper own }; own = r }
access_within N TopToOwn own m r = record { memory = record { head = m.head; tail = m.tail; top = set_within N _ m.top own; next = m.next; upper = m.upper }; own = r }
access_within N TopToN own m r = record { memory = record { head = m.head; tail = m.tail; top = set_within N _ m.top r.n; next = m.next; upper = m.upper }; own = r }
access_within N Cut own m r = record { memory = record { head = m.head; tail = m.tail; top = m.top; next = m.next; upper = map_within N _ _ _ _ m.upper zero-le }; own = r }
access_within N ClearFlag own m r = record { memory = record { head = m.head; tail = m.tail; top = m.top; next = m.next; upper = m.upper }; own = r }

-- the item of an event is one of the registers, or 0
pub item_within : (N : ℕ) (r : Registers) → RegistersWithin N r → (a : Access) (o : Outcome) → item_of (event_of a o r) ≤ N
unfolding item_of event_of
item_within N r w ReadHead o = zero-le
item_within N r w ReadTail o = zero-le
item_within N r w ReadNextOfH o = zero-le
item_within N r w ReadNextOfT o = zero-le
item_within N r w Link Yes = zero-le
item_within N r w Link No = zero-le
item_within N r w Link Bare = zero-le
item_within N r w TailToOwn o = zero-le
item_within N r w TailToN o = zero-le
item_within N r w HeadToN Yes = w.n
item_within N r w HeadToN No = w.n
item_within N r w HeadToN Bare = zero-le
item_within N r w ReadTop o = zero-le
item_within N r w ReadTopToTake o = zero-le
item_within N r w ReadMark o = zero-le
item_within N r w Push Yes = zero-le
item_within N r w Push No = zero-le
item_within N r w Push Bare = zero-le
item_within N r w RaiseMark o = w.t
item_within N r w TopToNext o = zero-le
item_within N r w ReadUpper o = zero-le
item_within N r w ReadUpperToTake o = zero-le
item_within N r w LinkAbove Yes = zero-le
item_within N r w LinkAbove No = zero-le
item_within N r w LinkAbove Bare = zero-le
item_within N r w TopToOwn o = zero-le
item_within N r w TopToN o = zero-le
item_within N r w Cut o = zero-le
item_within N r w ClearFlag Yes = w.t
item_within N r w ClearFlag No = zero-le
item_within N r w ClearFlag Bare = zero-le

-- a place: its operation, its registers, and a row that is no end
pub record PlaceWithin (N : ℕ) (p : Place) : Type 0 where
  pub from_one : 1 ≤ p.operation.0
  pub to_next : p.operation.0 ≤ suc N
  pub own : RegistersWithin N (registers p)
  pub going : ended p.row ≡ false

pub record Within (j : Job) (s : State) : Type 0 where
  pub memory : MemoryWithin j.count s.memory
  pub place : (p : ℕ) → PlaceWithin j.count (s.places p)
  -- what has begun is an operation
  pub begun : (o : ℕ) → s.begun o ≡ true → o ≤ j.count

module _ (j : Job) where
  before_within : (p o : ℕ) → o ≤ j.count → PlaceWithin j.count (before j (operation_after j p o))
  unfolding before operation_after registers
  before_within p o h =
      record {
        from_one = omega (arith, seek_from (λ i. same (j.owner i) p) (suc o) (j.count - o));
        to_next = omega (arith, seek_to (λ i. same (j.owner i) p) (suc o) (j.count - o));
        own = record { h = omega arith; t = omega arith; n = omega arith };
        going = begins_going j.object (j.is_put (operation_after j p o));
      }

  pub reached_within : (m : Memory) (p : Place) → p.operation.0 ≤ j.count → MemoryWithin j.count m → PlaceWithin j.count p → ReachedWithin j.count (reached m p).memory (reached m p).registers
  unfolding reached reach
  reached_within m p small memory place = access_within j.count (row_of p.row).access small memory place.own

  place_after_within : (process : ℕ) (p : Place) (a : Reached) → p.operation.0 ≤ j.count → PlaceWithin j.count p → RegistersWithin j.count a.registers → PlaceWithin j.count (place_after j process p a)
  unfolding place_after registers
  place_after_within process p a small place own =
      pick_elim (PlaceWithin j.count) (ended (row_after p a))
      (before j (operation_after j process p.operation.0))
      (record {
        operation = p.operation;
        row = row_after p a;
        h = a.registers.h;
        t = a.registers.t;
        n = a.registers.n;
      })
      (λ e. before_within process p.operation.0 small)
      (λ e. record { from_one = place.from_one; to_next = place.to_next; own = own; going = e })

  acting_within : (process : ℕ) (s : State) → Within j s → Within j (acting j process s)
  unfolding acting resting
  acting_within process s w =
      let p : Place = s.places process in
      let a : Reached = reached s.memory p in
      pick_elim (Within j) (resting j p) s (record { memory = a.memory; places = upd s.places process (place_after j process p a); begun = upd s.begun p.operation.0 true })
      (λ rests. w)
      (λ acts.
      let small : p.operation.0 ≤ j.count = less_le acts in
      let t : ReachedWithin j.count a.memory a.registers = reached_within s.memory p small w.memory (w.place process) in
      record {
        memory = t.memory;
        place = λ q.
            upd_elim (PlaceWithin j.count) s.places process (place_after j process p a) q
            (λ here. place_after_within process p a small (w.place process) t.own)
            (λ there. w.place q);
        begun = λ o.
            upd_elim (λ b. b ≡ true → o ≤ j.count) s.begun p.operation.0 true o
            (λ here b. omega arith)
            (λ there b. w.begun o b);
      })

  dropping_within : (process : ℕ) (s : State) → Within j s → Within j (dropping j process s)
  dropping_within process s w = by_begun (both (s.begun (s.places process).operation.0))
    where
      o : ℕ
      o = (s.places process).operation.0

      left : s.begun o ≡ true → Within j (record { memory = s.memory; places = upd s.places process (before j (operation_after j process o)); begun = s.begun })
      left drops =
          record {
            memory = w.memory;
            place = λ q.
                upd_elim (PlaceWithin j.count) s.places process (before j (operation_after j process o)) q
                (λ here. before_within process o (w.begun o drops))
                (λ there. w.place q);
            begun = w.begun;
          }

      by_begun : (s.begun o ≡ true) ⊎ (s.begun o ≡ false) → Within j (dropping j process s)
      by_begun (inl drops) = subst (Within j) (sym (dropping_drops j process s drops)) (left drops)
      by_begun (inr stays) = subst (Within j) (sym (dropping_stays j process s stays)) w

  step_within : (slot : Slot) (s : State) → Within j s → Within j (step j slot s)
  unfolding step
  step_within (Acts p) s w = acting_within p.0 s w
  step_within (Drops p) s w = dropping_within p.0 s w

  -- everything is within its bounds after any number of steps
  pub within : (k : ℕ) → Within j (state_after j k)
  unfolding state_after fresh_state fresh_memory
  within zero =
      record {
        memory = record { head = omega arith; tail = omega arith; top = omega arith; next = λ i. omega arith; upper = λ i. omega arith };
        place = λ p. before_within p 0 (omega arith);
        begun = λ o b. absurd (true≢false (sym b));
      }
  within (suc k) = step_within (j.slot (suc k)) (state_after j k) (within k)
