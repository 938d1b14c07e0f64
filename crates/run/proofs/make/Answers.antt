-- `run::make` meets its contract: what is entered, the step with its event, and the end. Assumes nothing.
use mathlib.Core.Path.{◌≡◌, sym, ap, subst, ◌∙◌}
use Prim.Native.Nat.{ℕ, ◌≤◌, ◌<◌}
use native.Mathlib.Omega.{arith}
use mathlib.Core.List.{List}
use lib.ListN.{length}
use Rattle.basics.specs.Choice.{pick, same}
use Rattle.basics.proofs.Maps.{upd_there}
use mathlib.Core.Bool.{Bool}
use Rattle.rows.specs.Rows.{stored_in}
use Rattle.rows.specs.Operations.{Cells, cells}
use Rattle.rows.specs.declared.OpColumn.TheVariants.{First}
use Rattle.machine.specs.declared.Event.{Event}
use Rattle.journal.specs.Stored.{entered, noted, counted, closed, Countable, HasCells}
use Rattle.run.proofs.make.Goals as goal

-- the three stores, one after the other
in_turn : (e : Event) (back : Bool) (o k : ℕ) (c : Cells) {c₁ c₂ c₃ : Cells} {b ends : Bool} → c₁ ≡ entered o k c → c₂ ≡ counted back (noted e o k c₁) → c₃ ≡ closed b o k c₂ → b ≡ ends → c₃ ≡ closed ends o k (counted back (noted e o k (entered o k c)))
in_turn e back o k c first then last same = last ∙ (λ i. closed (same i) o k ((then ∙ ap (λ x. counted back (noted e o k x)) first) i))

-- a first step that is entered leaves what the step needs
step_there : {e : Event} {o : ℕ} (k : ℕ) {ops ops' : List ℕ} → 1 ≤ o → HasCells e o ops → Countable ops → length ops' ≡ length ops → cells ops' ≡ entered o k (cells ops) → HasCells e o ops' × Countable ops'
unfolding entered stored_in pick same
step_there {o = o} k {ops = ops} some there n kept first = (
  record { own_row = omega (arith, there.own_row); item_row = omega (arith, there.item_row) },
  record {
    count_row = omega (arith, n.count_row);
    room = subst (λ x. x < 65535) (sym (ap (λ (c : Cells). c First 0) first ∙ upd_there (cells ops First) o _ (λ z. omega arith))) n.room;
  },
)

pub step-s-requires : goal.step-s-requires
step-s-requires c = let start = c.requires in
    record { row_value = (start.going, start.inside); has_cells = step_there _ start.some start.noting start.counting c.enter.auto.ops c.enter.ensures.ops_after }

pub returns : goal.returns
returns c = let enter = c.enter.ensures in record {
  step = c.step-s.ensures.step;
  stored = record {
    cells_stored = in_turn _ _ _ _ _ enter.ops_after c.step-s.ensures.ops_after c.enter_end.ensures c.has_ended.ensures;
    by_stored = enter.by_after;
  };
}
