-- A block that is not turned back has a date. Assumes nothing.
use mathlib.Core.Path.{◌≡◌, refl, sym, ◌∙◌}
use Prim.Native.Nat.{ℕ}
use mathlib.Core.Bool.{true, false, true≢false}
use mathlib.Core.List.{List}
use Rattle.std.specs.Prelude.{Option, Some, None, MatchOption}
use Rattle.std.specs.Option.{IsSome}
use Rattle.basics.proofs.Choice.{le_less}
use Rattle.calendar.specs.declared.Date.{Date}
use Rattle.calendar.specs.Dates.{from_to, in_century}
use Rattle.windows.specs.Fields.{year, month, day}
use Rattle.windows.specs.Fine.{FineBlock}

fine_century : {b : List ℕ} → FineBlock b → in_century (year b) (month b) (day b) ≡ true
unfolding in_century from_to
fine_century f = simp (le_less f.first_year, le_less f.last_year, f.date)

pub date_there : {b : List ℕ} → FineBlock b → (r : Option Date)
    → MatchOption r (in_century (year b) (month b) (day b) ≡ false) (λ d. (d.year ≡ year b) × (d.month ≡ month b) × (d.day ≡ day b)) → IsSome r
date_there f None h = absurd (true≢false (sym (fine_century f) ∙ h))
date_there f (Some d) h = refl
