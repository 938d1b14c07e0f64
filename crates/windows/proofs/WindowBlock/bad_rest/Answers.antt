-- `windows::WindowBlock::bad_rest` meets its contract: the bytes from the entries up to the sums. Assumes nothing.
use mathlib.Core.Bool.{Bool, not}
use Rattle.std.proofs.Common.{ℕ, ap, ◌∙◌, nat_eq, rules, tests, arith}
use Rattle.std.proofs.lemmas.Iterator.{YieldsList-from_slice}
use Rattle.std.proofs.lemmas.Iterator.Search.{any_from_yields_List}
use Rattle.basics.specs.Choice.{same}
use Rattle.block.specs.Block.{block_size, payload_size, summed_size}
use Rattle.windows.specs.Fields.{entry_at}
use Rattle.windows.specs.Refused.{bad_rest}
use Rattle.windows.proofs.Any.{any_bytes}
use Rattle.windows.proofs.WindowBlock.bad_rest.Goals as goal

pub slice_bounds-iter-end : goal.slice_bounds-iter-end
unfolding block_size
slice_bounds-iter-end c = omega arith

pub returns : goal.returns
unfolding bad_rest summed_size payload_size entry_at block_size same
returns c =
    let test : ℕ → Bool = λ x. not (nat_eq x 0) in
    any_from_yields_List test _ _ c.any.result c.any.ensures.ran (YieldsList-from_slice _ c.iter.ensures.rest) (λ x b q k. search (rules, tests))
    ∙ any_bytes test _ 50 458 (omega (arith, c.self.invariant))
    ∙ ap bad_rest c.self.view_is
