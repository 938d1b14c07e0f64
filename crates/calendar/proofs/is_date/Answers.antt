-- `calendar::is_date` meets its contract: each range is one of the definition's. Assumes nothing.
use mathlib.Core.Path.{sym, ◌∙◌}
use Rattle.calendar.specs.Dates.{is_date}
use Rattle.calendar.proofs.Dates.{contained}
use Rattle.calendar.proofs.is_date.Goals as goal

pub returns-then-contains : goal.returns-then-contains
unfolding is_date
returns-then-contains c =
    let month = contained _ c.args.month c.new.ensures.start c.new.ensures.end c.new.ensures.exhausted in
    let day = contained _ c.args.day c.new-then-contains.ensures.start c.new-then-contains.ensures.end c.new-then-contains.ensures.exhausted in
    c.contains-then-contains.ensures.value ∙ day ∙ simp (sym month ∙ sym c.contains.ensures.value ∙ c.if-contains.true, c.month_length.ensures)

pub returns-else-contains : goal.returns-else-contains
unfolding is_date
returns-else-contains c =
    let month = contained _ c.args.month c.new.ensures.start c.new.ensures.end c.new.ensures.exhausted in
    c.if-contains.false ∙ simp (sym month ∙ sym c.contains.ensures.value ∙ c.if-contains.false)
