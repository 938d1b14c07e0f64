-- `windows::WindowBlock::bad_entries` meets its contract. Assumes nothing.
use Rattle.std.proofs.Common.{ℕ, Bool, ◌∙◌, refl, rules, tests}
use Rattle.std.proofs.lemmas.Iterator.{YieldsList-from_range}
use Rattle.std.proofs.lemmas.Iterator.Search.{any_from_yields_List}
use Rattle.windows.specs.Refused.{bad_window, bad_entries}
use Rattle.windows.proofs.Any.{any_numbers}
use Rattle.windows.proofs.WindowBlock.bad_entries.Goals as goal

pub returns : goal.returns
unfolding bad_entries
returns c =
    let test : ℕ → Bool = bad_window c.args.self.now in
    any_from_yields_List test _ _ c.any.result c.any.ensures.ran (YieldsList-from_range 0 8 8 refl refl) (λ x b q k. search (rules, tests))
    ∙ any_numbers test 0 8
