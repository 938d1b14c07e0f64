-- An access that was done and then noted, in the arm of `step::perform` that knows which access it is. Assumes nothing.
use mathlib.Core.Path.{◌≡◌, sym, ap, subst, ◌∙◌}
use Prim.Native.Nat.{ℕ, suc, ◌<◌}
use native.Mathlib.Omega.{arith}
use mathlib.Core.Bool.{Bool, false}
use mathlib.Core.List.{List}
use lib.ListN.{length}
use Rattle.machine.specs.declared.Access.{Access}
use Rattle.machine.specs.declared.Event.{Event}
use Rattle.machine.specs.declared.Outcome.{Outcome}
use Rattle.machine.specs.Access.{Reached}
use Rattle.machine.specs.Lost.{goes_back}
use Rattle.machine.specs.Notes.{event_of}
use Rattle.access.specs.declared.Scalars as Access
use Rattle.access.specs.declared.Accessed.{Accessed}
use Rattle.access.specs.View.{reached_from, reached_by, Does}
use Rattle.basics.proofs.Choice.{pick_else}
use Rattle.rows.specs.Operations.{Cells, cells, stored}
use Rattle.rows.specs.declared.OpColumn.TheVariants.{First}
use Rattle.journal.specs.Stored.{noted, counted, Countable, HasCells}
use Rattle.journal.proofs.Whole.{first_noted}
use Rattle.step.specs.Promise.{heard}

-- what does not go back is not counted
pub counts_none : (back : Bool) (c : Cells) → back ≡ false → c ≡ counted back c
unfolding counted
counts_none back c e = sym (pick_else (stored First 0 (suc (c First 0)) c) c e)

-- by how the access came out
pub counts_if : (a : Access) {outcome o : Outcome} (c : Cells) {after : Cells} → outcome ≡ o → after ≡ counted (goes_back a o) c → after ≡ counted (goes_back a outcome) c
counts_if a c told e = e ∙ ap (λ o. counted (goes_back a o) c) (sym told)

-- a note leaves the count of lost rounds
pub countable_noted : (e : Event) (o k : ℕ) {ops ops' : List ℕ} → Countable ops → length ops' ≡ length ops → cells ops' ≡ noted e o k (cells ops) → Countable ops'
countable_noted e o k {ops} n kept stores =
    record {
      count_row = omega (arith, n.count_row);
      room = subst (λ x. x < 65535) (sym (ap (λ (c : Cells). c First 0) stores ∙ ap (λ (f : ℕ → ℕ). f 0) (first_noted e o k (cells ops)))) n.room;
    }

-- what holds of an event holds of the same event
pub room_as : {e f : Event} {o : ℕ} {ops : List ℕ} → e ≡ f → HasCells f o ops → HasCells e o ops
room_as {o = o} {ops} same = subst (λ x. HasCells x o ops) (sym same)

noted_as : {e f : Event} (o k : ℕ) (before : Cells) {after : Cells} → e ≡ f → after ≡ noted e o k before → after ≡ noted f o k before
noted_as o k before same entered = entered ∙ ap (λ x. noted x o k before) same

module _ {a b : Access} {own : ℕ} {c : Access.Scalars} {nodes nodes' : List ℕ} {d : Accessed} (arm : a ≡ b) (did : Does b own c nodes d nodes') where
  -- what the code says of the access is what it is for the record
  event_is : d.event ≡ heard a own c nodes
  unfolding heard reached_by
  event_is =
      did.tells
      ∙ ap (λ (x : Reached). event_of b x.outcome x.registers) did.reaches
      ∙ ap (λ x. event_of x (reached_from x own c nodes).outcome (reached_from x own c nodes).registers) (sym arm)

  -- so the cells that it needs are there
  pub room : {ops : List ℕ} → HasCells (heard a own c nodes) own ops → HasCells d.event own ops
  room = room_as event_is

  -- and, noted, it is done and entered; `count` says what was counted then
  done_and_counted : {r : Accessed} {after : Cells} (k : ℕ) (before : Cells) {noted_cells : Cells} → r ≡ d → noted_cells ≡ noted d.event own k before → after ≡ counted (goes_back b d.outcome) noted_cells → record { does : Does a own c nodes r nodes'; ops_after : after ≡ counted (goes_back a r.outcome) (noted (heard a own c nodes) own k before) }
  done_and_counted k before same entered count = record {
    does = subst (λ (x : Access × Accessed). Does x.0 own c nodes x.1 nodes') (λ i. (sym arm i, sym same i)) did;
    ops_after = count ∙ (λ i. counted (goes_back (sym arm i) (sym same i).outcome) (noted_as own k before event_is entered i));
  }

  -- one that may go back is counted behind that
  pub done_noted_counted : {d₁ r : Accessed} {noted_cells after : Cells} (k : ℕ) (before : Cells) → (d₁ ≡ d) × (noted_cells ≡ noted d.event own k before) → (r ≡ d₁) × (after ≡ counted (goes_back b d₁.outcome) noted_cells) → record { does : Does a own c nodes r nodes'; ops_after : after ≡ counted (goes_back a r.outcome) (noted (heard a own c nodes) own k before) }
  done_noted_counted {noted_cells = noted_cells} k before (same, entered) (again, count) =
      done_and_counted k before (again ∙ same) entered (count ∙ ap (λ (x : Accessed). counted (goes_back b x.outcome) noted_cells) same)

  -- an access that never goes back counts nothing
  pub done_and_noted : ((o : Outcome) → goes_back b o ≡ false) → {r : Accessed} {after : Cells} (k : ℕ) (before : Cells) → (r ≡ d) × (after ≡ noted d.event own k before) → record { does : Does a own c nodes r nodes'; ops_after : after ≡ counted (goes_back a r.outcome) (noted (heard a own c nodes) own k before) }
  done_and_noted onward {after = after} k before (same, entered) = done_and_counted k before same entered (counts_none (goes_back b d.outcome) after (onward d.outcome))
