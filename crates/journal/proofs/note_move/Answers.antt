-- `journal::note_move` meets its contract: the item is stored, and then where its line stands. Assumes nothing.
use mathlib.Core.Path.{ap, ◌∙◌}
use Rattle.basics.specs.Choice.{pick, same}
use Rattle.rows.specs.Rows.{stored_in}
use Rattle.rows.specs.Operations.{Cells, stored}
use Rattle.rows.specs.declared.OpColumn.TheVariants.{Stands}
use Rattle.journal.specs.Stored.{earlier}
use Rattle.journal.proofs.note_move.Goals as goal

pub returns : goal.returns
unfolding stored_in pick same
returns c = c.store_first.ensures ∙ ap (λ (m : Cells). stored Stands c.args.n (earlier (m Stands c.args.n) c.args.k.0) m) c.store.ensures.columns
