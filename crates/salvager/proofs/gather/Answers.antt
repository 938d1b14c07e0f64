-- `salvager::gather` meets its contract: the blocks passed are taken, and none of them would be refused. Assumes nothing.
use Rattle.std.proofs.Common.{◌≡◌, ℕ, refl, sym, ap, ◌∙◌, arith}
use Rattle.memory.specs.Over.{over}
use Rattle.job.specs.File.{payloads}
use Rattle.block.specs.Block.{payload_size}
use Rattle.block.proofs.Given.{error_counts}
use Rattle.salvager.proofs.Gathering.{gathering_none, gathering_next, refused_ends, refused_left, all_counted, all_left}
use Rattle.salvager.proofs.gather.Goals as goal

pub loop-i-init : goal.loop-i-init
loop-i-init c = gathering_none c.args.file.now c.args.work.now c.args.count

pub returns-in_default : goal.returns-in_default
unfolding payload_size
returns-in_default c = let g = c.loop-i.invariant in
    let t = c.in_default.ensures in
    let refused = error_counts c.in_default.field-0 in
    let more = c.loop-i-test.true in
    record { count = refused_ends g more _ (t.number, t.payload) refused; payloads = refused_left g more _ (t.number, t.payload) refused (omega (arith, g.laid.size)) }

pub loop-i-preserved : goal.loop-i-preserved
unfolding payload_size
loop-i-preserved c = let t = c.in-Ok.ensures in
    gathering_next c.loop-i.invariant c.loop-i-test.true _ (t.number, t.payload) c.requires.1 (omega arith) refl

pub returns : goal.returns
unfolding payload_size
returns c = let p = c.args in
    let g = c.loop-i.invariant in
    let done = c.loop-i-test.false in
    let all : c.loop-i.i ≡ p.count = omega arith in
    record { count = sym all ∙ all_counted g done; payloads = all_left g done (omega arith) ∙ ap (λ (n : ℕ). over (payloads p.file.now 0 n) p.work.now) all }
