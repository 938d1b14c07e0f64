-- `lines::end_line` meets its contract. Assumes nothing.
use Rattle.basics.specs.Text.{text}
use Rattle.lines.proofs.end_line.Goals as goal

pub put_bytes-requires : goal.put_bytes-requires
unfolding text
put_bytes-requires c = c.requires

pub returns : goal.returns
unfolding text
returns c = c.put_bytes.ensures
