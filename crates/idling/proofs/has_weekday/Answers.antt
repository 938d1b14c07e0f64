-- `idling::has_weekday` meets its contract. Assumes nothing.
use mathlib.Core.Path.{ap}
use Rattle.basics.specs.Choice.{same}
use Rattle.hours.specs.Open.{has_weekday}
use Rattle.idling.proofs.has_weekday.Goals as goal

pub returns : goal.returns
unfolding has_weekday same
returns c = ap (has_weekday c.args.days) c.from.ensures
