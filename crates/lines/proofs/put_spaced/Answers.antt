-- `lines::put_spaced` meets its contract. Assumes nothing.
use Rattle.basics.specs.Text.{text}
use Rattle.lines.proofs.put_spaced.Goals as goal

pub put_labelled-requires : goal.put_labelled-requires
unfolding text
put_labelled-requires c = c.requires

pub returns : goal.returns
unfolding text
returns c = c.put_labelled.ensures
