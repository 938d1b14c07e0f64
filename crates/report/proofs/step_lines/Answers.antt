-- `report::step_lines` meets its contract. Assumes nothing.
use mathlib.Core.Path.{sym, ◌∙◌}
use Rattle.basics.specs.Maps as Maps
use Rattle.rows.specs.Operations.{cells}
use Prim.Native.Nat.{◌+◌}
use native.Mathlib.Omega.{arith}
use Rattle.text.proofs.Pages.{room_of, wrote_as}
use Rattle.text.proofs.Each.{written_none, written_room, written_more, written_same, written_all}
use Rattle.report.proofs.Found.{row_there, member_found, line_found, nothing_found, lines_are_each}
use Rattle.report.proofs.step_lines.Goals.{in-Some, in_default}
use Rattle.report.proofs.step_lines.Goals as goal

pub loop-before-init : goal.loop-before-init
loop-before-init c = written_none _ _ (room_of (lines_are_each (cells c.args.ops.now) (Maps.at c.args.by.now) c.args.takers.now.count c.args.reach.0) c.requires.2)

pub found_at-requires : goal.found_at-requires
unfolding Maps.at
found_at-requires c = row_there c.requires.0 (c.loop-before.before + 1) (omega arith) (omega arith)

pub lay-requires : goal.lay-requires
unfolding Maps.at
lay-requires c =
    let found = sym c.in-Some.is ∙ c.found_at.ensures in
    (member_found c.requires.0 (c.loop-before.before + 1) (omega arith) (omega arith) found, room_of (line_found c.requires.0 (c.loop-before.before + 1) c.requires.1.same_ops found) (written_room c.loop-before.invariant c.loop-before-test.true))

pub loop-before-preserved : goal.loop-before-preserved
unfolding Maps.at
loop-before-preserved c =
    elim c.match-found_at.branch [
      | in-Some w ↦ rw w.page-is (written_more c.loop-before.invariant c.loop-before-test.true (wrote_as (line_found c.requires.0 (c.loop-before.before + 1) c.requires.1.same_ops (sym w.in-Some.is ∙ c.found_at.ensures)) w.lay.ensures))
      | in_default w ↦ rw w.page-is (written_same c.loop-before.invariant c.loop-before-test.true (nothing_found c.requires.0 (c.loop-before.before + 1) (sym w.in_default.is ∙ c.found_at.ensures)))
    ]

pub returns : goal.returns
returns c = wrote_as (lines_are_each _ _ _ _) (written_all c.loop-before.invariant (omega arith))
