-- `lines::Left::len` meets its contract. Assumes nothing.
use mathlib.Core.Logic.{inl}
use Prim.Native.Nat.{◌≤◌}
use native.Mathlib.Omega.{arith}
use lib.ListN.{length}
use Rattle.lines.specs.Walks.{items}
use Rattle.lines.proofs.Nodes.{left_few}
use Rattle.lines.proofs.Left.len.Goals as goal

pub count-requires-clause-fits : goal.count-requires-clause-fits
count-requires-clause-fits c =
    let few : length (items c.args.self) ≤ c.args.self.more = left_few _ _ _ _ in
    inl (omega arith)

pub overflow_cast-result : goal.overflow_cast-result
overflow_cast-result c =
    let few : length (items c.args.self) ≤ c.args.self.more = left_few _ _ _ _ in
    record { fits = omega arith }
