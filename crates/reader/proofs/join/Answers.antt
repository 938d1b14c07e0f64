-- `reader::join` meets its contract: the blocks passed are joined, and those that are left decide. Assumes nothing.
use Rattle.std.proofs.Common.{◌*◌, drop, refl, ap, ◌∙◌, arith}
use Rattle.block.specs.Block.{payload_size}
use Rattle.block.proofs.Given.{error_counts}
use Rattle.job.proofs.Answered.{block_passed_on}
use Rattle.reader.proofs.Joining.{joining_next, joining_behind, refused_decides, refused_keeps, all_joined}
use Rattle.reader.proofs.join.Goals as goal

pub returns-in_err-take_block-clause-number : goal.returns-in_err-take_block-clause-number
returns-in_err-take_block-clause-number c = let t = c.in_err-take_block.ensures in
    block_passed_on _ _ c.from_residual.ensures.1 ∙ refused_decides c.loop-i.invariant c.loop-i-test.true _ (t.number, t.payload) (error_counts _)

pub returns-in_err-take_block-clause-behind : goal.returns-in_err-take_block-clause-behind
returns-in_err-take_block-clause-behind c = let t = c.in_err-take_block.ensures in
    ap (drop (payload_size * c.args.count)) (refused_keeps c.args.file.now _ _ c.loop-i.i _ (t.number, t.payload) (error_counts _)) ∙ joining_behind c.loop-i.invariant

pub loop-i-preserved : goal.loop-i-preserved
unfolding payload_size
loop-i-preserved c = let t = c.in_ok-take_block.ensures in
    joining_next c.loop-i.invariant c.loop-i-test.true _ (t.number, t.payload) c.requires.1 (omega arith) refl

pub returns-clause-joined : goal.returns-clause-joined
unfolding payload_size
returns-clause-joined c = all_joined c.loop-i.invariant c.loop-i-test.false (omega arith)
