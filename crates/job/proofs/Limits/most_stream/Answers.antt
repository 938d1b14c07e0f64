-- `job::Limits::most_stream` meets its contract. Assumes nothing.
use mathlib.Core.Path.{refl}
use native.Mathlib.Omega.{arith}
use Rattle.block.specs.Block.{payload_size}
use Rattle.job.specs.Limits.{most_stream}
use Rattle.job.proofs.Limits.most_stream.Goals as goal

pub returns : goal.returns
unfolding most_stream payload_size
returns c = refl

pub overflow_mul-result : goal.overflow_mul-result
overflow_mul-result c = omega (arith, c.requires.blocks_fit)
