-- `idling::kept` meets its contract: the sum is the entry, or nobody's. Assumes nothing.
use mathlib.Core.Path.{ap, ◌∙◌}
use mathlib.Core.Bool.{false}
use lib.ListN.{get_or}
use Rattle.job.specs.Slot.{process_of}
use Rattle.idling.proofs.Entries.{entry_chosen}
use Rattle.idling.proofs.Sums.{chosen}
use Rattle.idling.proofs.kept.Goals as goal

pub returns : goal.returns
returns c = chosen c.args.entry 8 (get_or c.args.allowed.now c.process-p.result.0 false) ∙ entry_chosen _ _ (c.process-p.ensures ∙ ap process_of c.from.ensures)
