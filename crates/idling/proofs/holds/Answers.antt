-- `idling::holds` meets its contract. Assumes nothing.
use mathlib.Core.Path.{sym, ◌∙◌}
use Rattle.idling.proofs.Minutes.{unbooked, by_range}
use Rattle.idling.proofs.holds.Goals as goal

pub returns-then-booked : goal.returns-then-booked
returns-then-booked c = c.contains.ensures.value ∙ by_range _ _ _ c.if-booked.true

pub returns-else-booked : goal.returns-else-booked
returns-else-booked c = c.if-booked.false ∙ sym (unbooked _ _ _ c.if-booked.false)
