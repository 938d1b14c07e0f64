-- `report::write_report` meets its contract. Assumes nothing.
use mathlib.Core.Path.{ap, sym, ◌∙◌}
use mathlib.Core.List.{List, ◌++◌}
use Prim.Native.Nat.{ℕ}
use Rattle.wording.specs.Report.{lost_line, left_line}
use Rattle.text.proofs.Pages.{room_first, room_then, room_of, within, wrote_then, wrote_as}
use Rattle.report.proofs.Whole.{head_there, uppers_there, parts, room_there, reported}
use Rattle.std.proofs.Common.{rules}
use Rattle.report.proofs.write_report.Goals as goal

pub first_node-node-requires : goal.first_node-node-requires
first_node-node-requires c = (head_there c.requires.2, uppers_there c.requires.2)

pub new-left-requires : goal.new-left-requires
new-left-requires c = (parts c.requires.2 c.first_node-node.ensures).nodes_there

pub object_line-requires : goal.object_line-requires
object_line-requires c = room_first _ (room_first _ (room_first _ (room_there (parts c.requires.2 c.first_node-node.ensures) c.new-page.ensures c.requires.1)))

pub operation_lines-requires-clause-count_in_bounds : goal.operation_lines-requires-clause-count_in_bounds
operation_lines-requires-clause-count_in_bounds c = room_then (room_first _ (room_first _ (room_there (parts c.requires.2 c.first_node-node.ensures) c.new-page.ensures c.requires.1))) c.object_line.ensures

pub record_lines-requires : goal.record_lines-requires
record_lines-requires c = (search rules, (parts c.requires.2 c.first_node-node.ensures).within, room_then (room_first _ (room_there (parts c.requires.2 c.first_node-node.ensures) c.new-page.ensures c.requires.1)) (wrote_then c.object_line.ensures c.operation_lines.ensures))

pub last_lines-requires : goal.last_lines-requires
last_lines-requires c = room_of (ap (λ (l : List ℕ). lost_line c.args.h.object c.args.end.lost ++ left_line l) c.new-left.ensures) (room_then (room_there (parts c.requires.2 c.first_node-node.ensures) c.new-page.ensures c.requires.1) (wrote_then (wrote_then c.object_line.ensures c.operation_lines.ensures) c.record_lines.ensures))

pub written-requires : goal.written-requires
written-requires c = within c.last_lines.ensures

pub returns : goal.returns
returns c =
    let last = wrote_as (ap (λ (l : List ℕ). lost_line c.args.h.object c.args.end.lost ++ left_line l) c.new-left.ensures) c.last_lines.ensures in
    let w = wrote_then (wrote_then (wrote_then c.object_line.ensures c.operation_lines.ensures) c.record_lines.ensures) last in
    let same = sym (w.same_memory ∙ c.new-page.ensures.lent) in
    reported c.new-page.ensures w (parts c.requires.2 c.first_node-node.ensures).whole (search rules) c.written.ensures
