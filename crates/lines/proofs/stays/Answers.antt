-- `lines::stays` meets its contract. Assumes nothing.
use mathlib.Core.Path.{sym, ap, ◌∙◌}
use mathlib.Core.Logic.{⊎_elim}
use Rattle.basics.specs.Choice.{same}
use Rattle.rows.specs.Nodes.{marks}
use Rattle.lines.specs.Members as Members
use Rattle.lines.proofs.stays.Goals as goal

pub returns-in-Queue : goal.returns-in-Queue
unfolding Members.stays
returns-in-Queue c = sym (ap (λ object. Members.stays object (marks c.args.nodes.now c.args.node)) c.in-Queue.is)

pub returns-in-Stack : goal.returns-in-Stack
unfolding Members.stays same
returns-in-Stack c = ap (λ n. same n 0) c.cell.ensures ∙ ⊎_elim (λ is. sym (ap (λ object. Members.stays object (marks c.args.nodes.now c.args.node)) is)) (λ is. sym (ap (λ object. Members.stays object (marks c.args.nodes.now c.args.node)) is)) c.in-Stack.is
