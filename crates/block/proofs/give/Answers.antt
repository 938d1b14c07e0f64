-- `block::give` meets its contract: a good block's payload is copied, and under a refusal nothing is. Assumes nothing.
use Rattle.std.proofs.Common.{List, ℕ, length, refl, ap, ◌∙◌, arith}
use Rattle.std.proofs.lemmas.Result.{err_from_is_err_and}
use Rattle.memory.specs.Over.{over}
use Rattle.block.specs.Checked.{bytes_of}
use Rattle.block.proofs.Accepted.{length_payload}
use Rattle.block.proofs.give.Goals as goal

pub returns-in_err-payload-clause-payload : goal.returns-in_err-payload-clause-payload
unfolding bytes_of
returns-in_err-payload-clause-payload c =
    let p = err_from_is_err_and c.from_residual.result c.from_residual.ensures.1 in
    rw p.1 refl

pub copy-requires : goal.copy-requires
copy-requires c = omega (arith, ap length c.in_ok-payload.ensures.payload, length_payload c.args.b.now c.requires.0)

pub returns-clause-payload : goal.returns-clause-payload
unfolding bytes_of
returns-clause-payload c = c.copy.ensures ∙ ap (λ (p : List ℕ). over p c.args.to.now) c.in_ok-payload.ensures.payload
