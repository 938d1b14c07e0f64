-- `table::entry` meets its contract: the two constants are the definition's table, one after the other. Assumes nothing.
use native.Mathlib.Omega.{arith}
use mathlib.Core.Path.{◌≡◌, sym, ap, ◌∙◌}
use Prim.Native.Nat.{◌+◌, ◌-◌}
use lib.ListN.{take, drop, get_or-append}
use lib.Seq.{get_or-drop}
use Rattle.machine.specs.declared.Row.TheVariants.{Q1}
use Rattle.machine.specs.declared.Access.TheVariants.{ReadHead}
use Rattle.machine.specs.Table.{row, table}
use Rattle.table.specs.Position.{entry_at}
use Rattle.table.proofs.entry.Goals as goal

pub returns-then-i-lt-COUNT : goal.returns-then-i-lt-COUNT
unfolding entry_at table row
returns-then-i-lt-COUNT c = sym (get_or-append (take 19 table) (drop 19 table) (row ReadHead Q1 Q1) _ c.if-i-lt-COUNT.true)

pub returns-else-i-lt-COUNT : goal.returns-else-i-lt-COUNT
unfolding entry_at table row
returns-else-i-lt-COUNT c =
    let at : 19 + (c.args.i - 19) ≡ c.args.i = omega arith in
    get_or-drop 19 table (c.args.i - 19) (row ReadHead Q1 Q1) ∙ ap entry_at at
