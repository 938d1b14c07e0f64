-- `memory::copy` meets its contract: the bytes that are left are to come. Assumes nothing.
use Rattle.std.proofs.Common.{arith}
use Rattle.basics.proofs.Laid.{laid_none, laid_copied, laid_copy}
use Rattle.memory.proofs.copy.Goals as goal

pub loop-i-init : goal.loop-i-init
loop-i-init c = laid_none _ _

pub loop-i-preserved : goal.loop-i-preserved
loop-i-preserved c = laid_copied c.loop-i.invariant (omega arith) (omega arith)

pub returns : goal.returns
returns c = laid_copy c.loop-i.invariant (omega arith) c.loop-i-test.false
