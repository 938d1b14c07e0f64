-- `calendar::Date::new` meets its contract: what is no date of the century fails a test. Assumes nothing.
use mathlib.Core.Path.{◌≡◌, sym, ◌∙◌}
use mathlib.Core.Bool.{and-false}
use Rattle.calendar.specs.Dates.{from_to, in_century}
use Rattle.calendar.proofs.Dates.{contained}
use Rattle.calendar.proofs.Date.new.Goals as goal
use Rattle.calendar.proofs.Date.new.Goals.{else-contains-via-then-contains+else-is_date, else-contains-via-else-contains}

pub returns-else-contains : goal.returns-else-contains
unfolding in_century
returns-else-contains c =
    let years : c.contains.result ≡ from_to 2000 2099 c.args.year =
    c.contains.ensures.value ∙ contained _ c.args.year c.new.ensures.start c.new.ensures.end c.new.ensures.exhausted
    in
    elim c.else-contains.branch [
      | else-contains-via-then-contains+else-is_date w ↦ simp (sym w.is_date.ensures ∙ w.if-is_date.false, and-false)
      | else-contains-via-else-contains w ↦ simp (sym years ∙ w.if-contains.false)
    ]
