-- `run::drop_at` meets its contract. Assumes nothing.
use mathlib.Core.Path.{refl, sym, ◌∙◌}
use Rattle.run.specs.Promise.DropLeaves.{waits, drops}
use Rattle.run.proofs.drop_at.Goals as goal

pub returns-then-is_waiting : goal.returns-then-is_waiting
returns-then-is_waiting c = waits (sym c.is_waiting.ensures ∙ c.if-is_waiting.true) refl

pub returns : goal.returns
returns c = drops (sym c.is_waiting.ensures ∙ c.if-is_waiting.false) c.enter_drop.ensures
