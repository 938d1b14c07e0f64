-- `replay::main` meets its contract: the limits that it lends are the field's, which are sound. Assumes nothing.
use Rattle.job.proofs.Field.{given_field}
use Rattle.replay.proofs.main.Goals as goal

pub replay-requires : goal.replay-requires
replay-requires c = given_field c.field.ensures
