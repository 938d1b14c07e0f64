-- `lines::Takers::put_takers` meets its contract. Assumes nothing.
use mathlib.Core.Path.{refl}
use native.Mathlib.Omega.{arith}
use Rattle.lines.specs.declared.BoundColumn.TheVariants.{Skip}
use Rattle.text.proofs.Pages.{room_of, wrote_as}
use Rattle.text.proofs.Each.{written_none, written_room, written_more, written_same, written_all}
use Rattle.lines.proofs.Bounds.{skipped, past_bound}
use Rattle.lines.proofs.Spaced.{taker_in, taker_out, takers_each}
use Rattle.lines.proofs.Takers.put_takers.Goals.{then-cell-item, else-cell-item}
use Rattle.lines.proofs.Takers.put_takers.Goals as goal

pub loop-before-init : goal.loop-before-init
loop-before-init c = skipped c.args.self.now.bounded c.args.item.0 (written_none _ _ (room_of (takers_each c.args.self.now.ops.now c.args.self.now.count c.args.item.0) c.requires.1)) c.cell-skip.ensures (omega (arith, c.args.self.now.bounded.small Skip c.args.item.0, c.cell-skip.ensures)) refl

pub put_spaced-requires : goal.put_spaced-requires
put_spaced-requires c = room_of (taker_in _ _ c.cell-in-loop-before.ensures c.if-cell-item.true) (written_room c.loop-before.invariant (omega arith))

pub loop-before-preserved : goal.loop-before-preserved
loop-before-preserved c =
    elim c.if-cell-item.branch [
      | then-cell-item w ↦ rw w.page-is (written_more c.loop-before.invariant (omega arith) (wrote_as (taker_in _ _ c.cell-in-loop-before.ensures w.if-cell-item.true) w.put_spaced.ensures))
      | else-cell-item w ↦ rw w.page-is (written_same c.loop-before.invariant (omega arith) (taker_out _ _ c.cell-in-loop-before.ensures w.if-cell-item.false))
    ]

pub returns : goal.returns
returns c = wrote_as (takers_each _ _ _) (written_all (past_bound c.args.self.now.bounded c.args.item.0 c.loop-before.invariant c.cell.ensures (omega arith)) (omega arith))
