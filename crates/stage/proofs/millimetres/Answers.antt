-- `stage::millimetres` meets its contract. Assumes nothing.
use mathlib.Core.Path.{◌∙◌}
use Rattle.stage.proofs.Fields.{as_i16, held}
use Rattle.stage.proofs.millimetres.Goals as goal

pub returns : goal.returns
returns c = held c.cast_signed.type_inv ∙ c.cast_signed.ensures ∙ as_i16 c.args.field c.ranges.field.fits
