-- `Source::begin` meets its contract. Assumes nothing.
use mathlib.Core.Path.{◌∙◌}
use Rattle.machine.specs.Table.{first_row}
use Rattle.machine.specs.Run.{before}
use Rattle.hands.proofs.Source.begin.Goals as goal

pub returns : goal.returns
unfolding before
returns c =
    let row = c.first_row.ensures ∙ (λ i. first_row (c.args.self.kind i) (c.puts.ensures i)) in
    λ i. record { operation = c.args.o; row = row i; h = 0; t = 0; n = 0 }
