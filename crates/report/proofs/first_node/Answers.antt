-- `report::first_node` meets its contract. Assumes nothing.
use mathlib.Core.Path.{sym, ap, ◌∙◌}
use Rattle.lines.specs.Members.{first_node}
use Rattle.report.proofs.first_node.Goals as goal

pub returns-in-Queue : goal.returns-in-Queue
unfolding first_node
returns-in-Queue c = c.cell.ensures ∙ sym (ap (λ object. first_node object c.args.nodes.now c.args.head c.args.top c.args.count) c.in-Queue.is)

pub returns-in-Stack : goal.returns-in-Stack
unfolding first_node
returns-in-Stack c = sym (ap (λ object. first_node object c.args.nodes.now c.args.head c.args.top c.args.count) c.in-Stack.is)

pub returns-in-TwoWay : goal.returns-in-TwoWay
unfolding first_node
returns-in-TwoWay c = c.uppermost.ensures ∙ sym (ap (λ object. first_node object c.args.nodes.now c.args.head c.args.top c.args.count) c.in-TwoWay.is)
