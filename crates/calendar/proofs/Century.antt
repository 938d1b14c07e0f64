-- Whether a checked date came out is whether there is one. Assumes nothing.
use Rattle.std.proofs.Common.{◌≡◌, ℕ, true, false, Option, Some, None, MatchOption, sym, ◌∙◌}
use Rattle.std.specs.Option.{is_some}
use Rattle.basics.proofs.Choice.{le_less}
use Rattle.calendar.specs.declared.Date.{Date}
use Rattle.calendar.specs.Dates.{from_to, in_century}

-- each date that there is is one
date_is : (d : Date) → in_century d.year d.month d.day ≡ true
unfolding in_century from_to
date_is d = simp (le_less d.from, le_less d.to, d.there)

pub century_of : (year month day : ℕ) (r : Option Date) → MatchOption r (in_century year month day ≡ false) (λ d. (d.year ≡ year) × (d.month ≡ month) × (d.day ≡ day))
    → is_some r ≡ in_century year month day
century_of year month day None h = sym h
century_of year month day (Some d) h = sym (date_is d) ∙ (λ i. in_century (h.0 i) (h.1 i) (h.2 i))
