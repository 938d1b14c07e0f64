-- `job::Limits::most_file` meets its contract. Assumes nothing.
use mathlib.Core.Path.{refl}
use native.Mathlib.Omega.{arith}
use Rattle.block.specs.Block.{block_size}
use Rattle.job.specs.Limits.{most_file}
use Rattle.job.proofs.Limits.most_file.Goals as goal

pub returns : goal.returns
unfolding most_file block_size
returns c = refl

pub overflow_mul-result : goal.overflow_mul-result
overflow_mul-result c = omega (arith, c.requires.blocks_fit)
