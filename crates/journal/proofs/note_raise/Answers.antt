-- `journal::note_raise` meets its contract: the item is stored, and then where its line stands. Assumes nothing.
use mathlib.Core.Path.{ap, ◌∙◌}
use Prim.Native.Nat.{max}
use Rattle.basics.specs.Choice.{pick, same}
use Rattle.rows.specs.Rows.{stored_in}
use Rattle.rows.specs.Operations.{Cells, stored}
use Rattle.rows.specs.declared.OpColumn.TheVariants.{Stands}
use Rattle.journal.proofs.note_raise.Goals as goal

pub returns : goal.returns
unfolding stored_in pick same
returns c = c.store_later.ensures ∙ ap (λ (m : Cells). stored Stands c.args.t (max (m Stands c.args.t) c.args.round.0) m) c.store.ensures.columns
