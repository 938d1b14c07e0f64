-- `windows::bad_windows` meets its contract: empty, of another length, or one block. Assumes nothing.
use mathlib.Core.Path.{sym, ap, ◌∙◌}
use mathlib.Core.Bool.{not}
use Rattle.basics.specs.Choice.{same}
use Rattle.basics.proofs.Choice.{same_equal, same_unequal, unequal_same}
use Rattle.block.specs.Block.{block_size}
use Rattle.windows.proofs.Tests.{empty_passes, other_length, block_decides}
use Rattle.windows.proofs.bad_windows.Goals as goal

pub bad_block-requires : goal.bad_block-requires
unfolding block_size
bad_block-requires c = c.if-b-ne-BLOCK.false

pub returns-then-b-ne-BLOCK : goal.returns-then-b-ne-BLOCK
unfolding block_size same
returns-then-b-ne-BLOCK c =
    ap not (unequal_same c.if-b-ne-BLOCK.true) ∙ other_length _ (same_unequal (sym c.is_empty.ensures ∙ c.if-is_empty.false)) c.if-b-ne-BLOCK.true

pub returns-else-b-ne-BLOCK : goal.returns-else-b-ne-BLOCK
unfolding block_size same
returns-else-b-ne-BLOCK c = block_decides _ (same_unequal (sym c.is_empty.ensures ∙ c.if-is_empty.false)) c.if-b-ne-BLOCK.false c.bad_block.ensures

pub returns-then-is_empty : goal.returns-then-is_empty
unfolding same
returns-then-is_empty c = empty_passes _ (same_equal (sym c.is_empty.ensures ∙ c.if-is_empty.true))
