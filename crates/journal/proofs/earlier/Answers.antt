-- `journal::earlier` meets its contract. Assumes nothing.
use Rattle.journal.proofs.Stores.{earlier_none, earlier_some}
use Rattle.journal.proofs.earlier.Goals as goal

pub returns-then-old-eq0 : goal.returns-then-old-eq0
returns-then-old-eq0 c = earlier_none _ _ c.if-old-eq0.true

pub returns : goal.returns
returns c = earlier_some _ _ c.if-old-eq0.false
