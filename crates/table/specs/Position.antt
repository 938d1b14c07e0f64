-- The step table by position. Document 01, "The steps": "The two listings are one table of nineteen rows." Document 02, request 3, adds
-- the seventeen of the two-way linked stack.
use Rattle.std.specs.Prelude.{ℕ, get_or}
use Rattle.machine.specs.declared.Row.TheVariants.{Q1}
use Rattle.machine.specs.declared.Access.TheVariants.{ReadHead}
use Rattle.machine.specs.declared.Entry.{Entry}
use Rattle.machine.specs.Table.{row, table}

-- the row at a position; there is none past the table, and what stands there does not matter
unfoldable pub entry_at : ℕ → Entry
entry_at i = get_or table i (row ReadHead Q1 Q1)
