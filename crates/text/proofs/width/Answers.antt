-- `text::width` meets its contract: a number of two digits or more has one digit more than its tenth. Assumes nothing.
use native.Mathlib.Omega.{arith}
use mathlib.Core.Path.{sym}
use Rattle.text.proofs.Digits.{one_digit, digits_by_power}
use Rattle.text.proofs.width.Goals as goal

pub returns-then-n-lt10 : goal.returns-then-n-lt10
returns-then-n-lt10 c = sym (one_digit c.args.n c.if-n-lt10.true)

pub returns-then-n-lt100 : goal.returns-then-n-lt100
returns-then-n-lt100 c = digits_by_power 1 c.args.n (omega arith) (omega arith)

pub returns-then-n-lt1000 : goal.returns-then-n-lt1000
returns-then-n-lt1000 c = digits_by_power 2 c.args.n (omega arith) (omega arith)

pub returns-then-n-lt10000 : goal.returns-then-n-lt10000
returns-then-n-lt10000 c = digits_by_power 3 c.args.n (omega arith) (omega arith)

pub returns : goal.returns
returns c = digits_by_power 4 c.args.n (omega arith) (omega arith)
