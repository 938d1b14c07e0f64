-- `salvage::main` meets its contract: the limits that it lends are the field's, which are sound. Assumes nothing.
use Rattle.job.proofs.Field.{given_field}
use Rattle.salvage.proofs.main.Goals as goal

pub salvage-requires : goal.salvage-requires
salvage-requires c = given_field c.field.ensures
