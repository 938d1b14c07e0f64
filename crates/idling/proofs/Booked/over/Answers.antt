-- `idling::Booked::over` meets its contract: a block that is not turned back has a date. Assumes nothing.
use mathlib.Core.Path.{◌∙◌}
use Rattle.std.proofs.lemmas.Option.{MatchOption-at_some}
use Rattle.calendar.specs.Dates.{day_number}
use Rattle.calendar.specs.Weekdays.{weekday}
use Rattle.idling.specs.Minutes.{start_weekday}
use Rattle.idling.proofs.Weekdays.{date_there}
use Rattle.idling.proofs.Booked.over.Goals as goal

pub unwrap-requires : goal.unwrap-requires
unwrap-requires c = date_there (rw c.over-block.ensures c.requires) c.start_date.result c.start_date.ensures

pub invariant_of-result : goal.invariant_of-result
unfolding start_weekday
invariant_of-result c =
    let date = MatchOption-at_some _ _ _ c.unwrap.ensures c.start_date.ensures in
    (rw c.over-block.ensures c.requires, c.weekday-weekday.ensures ∙ (λ i. weekday (day_number (date.0 i) (date.1 i) (date.2 i))))
