-- The line at a step turns contents into others, from what the line and the contents are said to be. Every object uses it. Assumes nothing.
use mathlib.Core.Path.{◌≡◌, sym, subst₂, subst₃}
use Prim.Native.Nat.{ℕ}
use mathlib.Core.List.{List, [], ◌∷◌, Memᴰ}
use Rattle.job.specs.declared.Kind.{Kind}
use Rattle.machine.specs.Multiplicity.{add}
use Rattle.machine.specs.Multiplicity.Line.{put, takes, empty}
use Rattle.machine.specs.Record.{Recorded}
use Rattle.theory.proofs.Laws.{Applies}

module _ {kind : Kind} {line : List Recorded} {c d : List ℕ} where
  pub applies_none : line ≡ [] → d ≡ c → Applies kind line c d
  applies_none e f = subst₂ (λ l x. Applies kind l c x) (sym e) (sym f) Applies.no_line

  pub applies_put : {s o : ℕ} → line ≡ record { step = s; line = put o } ∷ [] → d ≡ add kind o c → Applies kind line c d
  applies_put e f = subst₂ (λ l x. Applies kind l c x) (sym e) (sym f) Applies.puts

  pub applies_empty : {s o : ℕ} → line ≡ record { step = s; line = empty o } ∷ [] → c ≡ [] → d ≡ [] → Applies kind line c d
  applies_empty e f g = subst₃ (λ l x y. Applies kind l x y) (sym e) (sym f) (sym g) Applies.finds_none

  -- a takers' line has a member
  pub applies_takes : {s item o : ℕ} {takers : List ℕ} → line ≡ record { step = s; line = takes item takers } ∷ [] → Memᴰ o takers → c ≡ item ∷ d → Applies kind line c d
  applies_takes e (Memᴰ.head m) f = subst₂ (λ l x. Applies kind l x d) (sym e) (sym f) Applies.removes
  applies_takes e (Memᴰ.tail m) f = subst₂ (λ l x. Applies kind l x d) (sym e) (sym f) Applies.removes
