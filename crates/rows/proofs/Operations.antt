-- The columns of an operation's row, one after the other. Assumes nothing.
use Rattle.rows.specs.declared.OpColumn.{OpColumn}
use Rattle.rows.specs.declared.OpColumn.TheVariants.{First, Last, Start, Link, Taken, Stands}

-- what holds of each column holds of every column
pub by_column {κ} : (P : OpColumn → Type κ) → P First → P Last → P Start → P Link → P Taken → P Stands → (f : OpColumn) → P f
by_column P a b c d e g First = a
by_column P a b c d e g Last = b
by_column P a b c d e g Start = c
by_column P a b c d e g Link = d
by_column P a b c d e g Taken = e
by_column P a b c d e g Stands = g
