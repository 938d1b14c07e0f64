-- The steps that go back, by the step table, are a Q3 that fails, a Q5 and a T4, and no other. Assumes nothing.
use mathlib.Core.Path.{◌≡◌, refl}
use mathlib.Core.Bool.{false, true≢false}
use Rattle.basics.specs.Choice.{same}
use Rattle.machine.specs.declared.Row.{Row}
use Rattle.machine.specs.declared.Row.TheVariants.{Q1, Q2, Q3, Q4, Q5, T1, T2, T3, T4, T5, P1, P2, P3, P4, R1, R2, R3, R4, R5, V1, V2, V3, V4, V5, V6, V7, V8, W1, W2, W3, W4, W5, W6, W7, W8, W9, Done, ItemN, ItemT, Empty}
use Rattle.machine.specs.declared.Entry.{Entry}
use Rattle.machine.specs.declared.Outcome.{Outcome}
use Rattle.machine.specs.declared.Outcome.TheVariants.{Yes, No, Bare}
use Rattle.machine.specs.Table.{row, table, position, row_of, successor, end_of, is_end, ended, is_return}
use Rattle.machine.specs.Lost.{goes_back}

-- by how the access came out; one that found the object empty ends
by_outcome : (e : Entry) → is_return e.yes ≡ goes_back e.access Yes → is_return e.no ≡ goes_back e.access No → false ≡ goes_back e.access Bare → (o : Outcome) → is_return (successor e o) ≡ goes_back e.access o
unfolding successor is_return position same
by_outcome e then else bare Yes = then
by_outcome e then else bare No = else
by_outcome e then else bare Bare = bare

pub returns_is : (r : Row) → ended r ≡ false → (o : Outcome) → is_return (successor (row_of r) o) ≡ goes_back (row_of r).access o
unfolding row table position row_of end_of is_end ended is_return same
returns_is Q1 going = by_outcome (row_of Q1) refl refl refl
returns_is Q2 going = by_outcome (row_of Q2) refl refl refl
returns_is Q3 going = by_outcome (row_of Q3) refl refl refl
returns_is Q4 going = by_outcome (row_of Q4) refl refl refl
returns_is Q5 going = by_outcome (row_of Q5) refl refl refl
returns_is T1 going = by_outcome (row_of T1) refl refl refl
returns_is T2 going = by_outcome (row_of T2) refl refl refl
returns_is T3 going = by_outcome (row_of T3) refl refl refl
returns_is T4 going = by_outcome (row_of T4) refl refl refl
returns_is T5 going = by_outcome (row_of T5) refl refl refl
returns_is P1 going = by_outcome (row_of P1) refl refl refl
returns_is P2 going = by_outcome (row_of P2) refl refl refl
returns_is P3 going = by_outcome (row_of P3) refl refl refl
returns_is P4 going = by_outcome (row_of P4) refl refl refl
returns_is R1 going = by_outcome (row_of R1) refl refl refl
returns_is R2 going = by_outcome (row_of R2) refl refl refl
returns_is R3 going = by_outcome (row_of R3) refl refl refl
returns_is R4 going = by_outcome (row_of R4) refl refl refl
returns_is R5 going = by_outcome (row_of R5) refl refl refl
returns_is V1 going = by_outcome (row_of V1) refl refl refl
returns_is V2 going = by_outcome (row_of V2) refl refl refl
returns_is V3 going = by_outcome (row_of V3) refl refl refl
returns_is V4 going = by_outcome (row_of V4) refl refl refl
returns_is V5 going = by_outcome (row_of V5) refl refl refl
returns_is V6 going = by_outcome (row_of V6) refl refl refl
returns_is V7 going = by_outcome (row_of V7) refl refl refl
returns_is V8 going = by_outcome (row_of V8) refl refl refl
returns_is W1 going = by_outcome (row_of W1) refl refl refl
returns_is W2 going = by_outcome (row_of W2) refl refl refl
returns_is W3 going = by_outcome (row_of W3) refl refl refl
returns_is W4 going = by_outcome (row_of W4) refl refl refl
returns_is W5 going = by_outcome (row_of W5) refl refl refl
returns_is W6 going = by_outcome (row_of W6) refl refl refl
returns_is W7 going = by_outcome (row_of W7) refl refl refl
returns_is W8 going = by_outcome (row_of W8) refl refl refl
returns_is W9 going = by_outcome (row_of W9) refl refl refl
returns_is Done going = absurd (true≢false going)
returns_is ItemN going = absurd (true≢false going)
returns_is ItemT going = absurd (true≢false going)
returns_is Empty going = absurd (true≢false going)
