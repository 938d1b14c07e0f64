-- `step::step` meets its contract: the access of the row's entry was done and noted, so what it reached is what the definition's step
-- reaches, and the successor and the event follow from that. Assumes nothing.
use mathlib.Core.Path.{◌≡◌, sym, ap, ◌∙◌}
use Prim.Native.Nat.{ℕ}
use mathlib.Core.Bool.{false}
use mathlib.Core.List.{List}
use Rattle.machine.specs.declared.Row.{Row}
use Rattle.machine.specs.declared.Object.{Object}
use Rattle.machine.specs.declared.Place.{Place}
use Rattle.machine.specs.declared.Entry.{Entry}
use Rattle.machine.specs.declared.Event.{Event}
use Rattle.machine.specs.declared.Outcome.{Outcome}
use Rattle.machine.specs.Access.{Reached}
use Rattle.machine.specs.Table.{row_of, successor, ended, is_return}
use Rattle.machine.specs.Run.{reach, registers, reached, row_after}
use Rattle.machine.specs.Lost.{goes_back}
use Rattle.machine.specs.Notes.{acted}
use Rattle.access.specs.declared.Scalars.{Scalars}
use Rattle.access.specs.declared.Accessed.{Accessed}
use Rattle.access.specs.Nodes.{object_memory}
use Rattle.access.specs.View.{reached_from, reached_by, Does}
use Rattle.rows.specs.Operations.{Cells}
use Rattle.journal.specs.Stored.{noted, counted}
use Rattle.step.specs.declared.Stepped.{Stepped}
use Rattle.step.proofs.Arms.{room_as}
use Rattle.machine.proofs.Returns.{returns_is}
use Rattle.step.specs.Promise.{heard, IsStep, event_at}
use Rattle.step.proofs.step.Goals as goal

-- the cells that the code makes of a place
abbrev cells_of : Place → Object → Scalars
cells_of p object = record { h = p.h; t = p.t; n = p.n; object = object }

-- what the code gives, from what the access left and the row after it
abbrev stepped : Accessed → Row → Stepped
stepped d w =
    record { row = w; left = d.left }

-- an entry that was looked up, its access done, and the row after it
access_and_successor_are_the_step :
    {p : Place} {object : Object} {nodes nodes' : List ℕ} {e : Entry} {d : Accessed} {w : Row} →
    e ≡ row_of p.row →
    Does e.access p.operation.0 (cells_of p object) nodes d nodes' →
    w ≡ successor e d.outcome →
    IsStep p object nodes (stepped d w) nodes'
unfolding reached_from reached_by reached reach registers row_after
access_and_successor_are_the_step {p} {object} {nodes} {nodes'} {e} {d} looked did after =
    let there : reached_by d nodes' ≡ reached (object_memory object nodes) p =
    did.reaches
    ∙ ap (λ (x : Entry). reached_from x.access p.operation.0 (cells_of p object) nodes) looked in
    record {
      memory = ap (λ (x : Reached). x.memory) there;
      registers = ap (λ (x : Reached). x.registers) there;
      row =
          after
          ∙ ap (λ (x : Entry). successor x d.outcome) looked
          ∙ ap (λ (x : Reached). successor (row_of p.row) x.outcome) there;
    }

-- the event of that access is the step's
event_is : (p : Place) (object : Object) (nodes : List ℕ) {e : Entry} → e ≡ row_of p.row → heard e.access p.operation.0 (cells_of p object) nodes ≡ event_at p object nodes
unfolding heard event_at acted reached_from reached reach registers
event_is p object nodes looked = ap (λ (x : Entry). heard x.access p.operation.0 (cells_of p object) nodes) looked

-- and what was counted is whether the row after it is Q1 or T1
counted_as : (row : Row) (o k : ℕ) (before : Cells) (outcome : Outcome) {e : Entry} {w : Row} {event event' : Event} {after : Cells} → e ≡ row_of row → ended row ≡ false → w ≡ successor e outcome → event ≡ event' → after ≡ counted (goes_back e.access outcome) (noted event o k before) → after ≡ counted (is_return w) (noted event' o k before)
counted_as row o k before outcome looked going next same count =
    let back =
    ap (λ (x : Entry). goes_back x.access outcome) looked
    ∙ sym (returns_is row going outcome)
    ∙ ap (λ (x : Entry). is_return (successor x outcome)) (sym looked)
    ∙ ap is_return (sym next)
    in
    count ∙ (λ i. counted (back i) (noted (same i) o k before))

pub perform-d-requires : goal.perform-d-requires
perform-d-requires c = (c.requires.row_value.1, room_as (event_is _ _ _ c.row_of-e.ensures) c.requires.has_cells.0, c.requires.has_cells.1)

pub returns : goal.returns
returns c = let looked = c.row_of-e.ensures in record { step = access_and_successor_are_the_step looked c.perform-d.ensures.does c.successor.ensures; ops_after = counted_as _ _ _ _ _ looked c.requires.row_value.0 c.successor.ensures (event_is _ _ _ looked) c.perform-d.ensures.ops_after }
