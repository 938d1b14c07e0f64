-- `idling::Booked::window_of` meets its contract. Assumes nothing.
use mathlib.Core.Path.{ap, ap₂, ◌∙◌}
use native.Mathlib.Omega.{arith}
use Rattle.calendar.specs.Weekdays.{weekday_before, weekday_after}
use Rattle.hours.specs.Open.{closes, has_weekday}
use Rattle.windows.specs.declared.Entry.{Entry}
use Rattle.windows.specs.Entry.{entry_of}
use Rattle.idling.specs.Minutes.{window_of}
use Rattle.idling.proofs.Booked.window_of.Goals as goal

pub closes-requires : goal.closes-requires
unfolding entry_of
closes-requires c = omega (arith, ap (λ (e : Entry). e.closing) c.entry-entry.ensures, c.self.invariant.0.closes _ c.requires)

pub returns : goal.returns
unfolding window_of entry_of
returns c =
    let days = ap (λ (e : Entry). e.weekdays) c.entry-entry.ensures in
    let from = ap (λ (e : Entry). e.opening) c.entry-entry.ensures in
    let to = ap (λ (e : Entry). e.closing) c.entry-entry.ensures in
    let w = c.self.invariant.1 in
    let yesterday = c.has_weekday.ensures ∙ ap₂ has_weekday days (c.previous.ensures ∙ ap weekday_before w) in
    let today = c.has_weekday-2.ensures ∙ ap₂ has_weekday days w in
    let tomorrow = c.has_weekday-3.ensures ∙ ap₂ has_weekday days (c.next.ensures ∙ ap weekday_after w) in
    let shuts = c.closes.ensures ∙ ap₂ closes from to in
    (λ i. record { yesterday = yesterday i; today = today i; tomorrow = tomorrow i; opens = from i; closes = shuts i })
    ∙ ap (λ b. window_of b c.args.p.0) c.self.view_is
