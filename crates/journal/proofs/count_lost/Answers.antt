-- `journal::count_lost` meets its contract: one more than row 0 had. Assumes nothing.
use mathlib.Core.Path.{ap, ◌∙◌}
use Prim.Native.Nat.{suc}
use native.Mathlib.Numerals.{add-one}
use Rattle.basics.specs.Choice.{pick}
use Rattle.rows.specs.Operations.{cells, stored}
use Rattle.rows.specs.declared.OpColumn.TheVariants.{First}
use Rattle.journal.specs.Stored.{counted}
use Rattle.journal.proofs.count_lost.Goals as goal

pub returns : goal.returns
unfolding counted pick
returns c = c.store.ensures.columns ∙ ap (λ n. stored First 0 n (cells c.args.ops.now)) (add-one _ ∙ ap suc c.cell-lost.ensures)
