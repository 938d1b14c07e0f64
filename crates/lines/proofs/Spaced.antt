-- Numbers of a list that meet a test, each behind a space: one after another. Assumes nothing.
use mathlib.Core.Path.{◌≡◌, refl, sym, ap, subst, ◌∙◌}
use mathlib.Core.Logic.{◌≢◌}
use Prim.Native.Nat.{ℕ, zero, suc}
use mathlib.Core.Bool.{Bool, true, false}
use mathlib.Core.List.{List, [], ◌∷◌, ◌++◌, append_assoc, append-nil}
use Rattle.basics.specs.Choice.{same}
use Rattle.basics.specs.Text.{text, decimal}
use Rattle.basics.proofs.Choice.{pick_then, pick_else, equal_same, unequal_same}
use Rattle.rows.specs.Operations.{cells}
use Rattle.rows.specs.declared.OpColumn.TheVariants.{Taken}
use Rattle.machine.specs.Effects.{numbers, sift}
use Rattle.wording.specs.Report.{spaced}
use Rattle.machine.proofs.Lists.{sift_append}
use Rattle.text.specs.declared.Page.{Page}
use Rattle.text.specs.Pages.{Wrote}
use Rattle.text.proofs.Rest.{Rest, rest_none}
use Rattle.text.proofs.Each.{each_to}
use Rattle.lines.specs.Members.{takers_of}

spaced_append : (a b : List ℕ) → spaced (a ++ b) ≡ spaced a ++ spaced b
unfolding spaced
spaced_append [] b = refl
spaced_append (x ∷ a) b =
    ap (λ (l : List ℕ). text " " ++ decimal x ++ l) (spaced_append a b) ∙ sym (append_assoc (text " " ++ decimal x) (spaced a) (spaced b))

-- one number, if it meets the test
abbrev pub member : (ℕ → Bool) → ℕ → List ℕ
member f x = spaced (sift f (x ∷ []))

member_in : (f : ℕ → Bool) (x : ℕ) → f x ≡ true → text " " ++ decimal x ≡ member f x
unfolding spaced sift
member_in f x t =
    sym (append-nil (text " " ++ decimal x)) ∙ ap spaced (sym (pick_then (x ∷ []) [] t))

pub member_out : (f : ℕ → Bool) (x : ℕ) → f x ≡ false → member f x ≡ []
unfolding spaced sift
member_out f x t = ap spaced (pick_else (x ∷ []) [] t)

members_to : (f : ℕ → Bool) (n : ℕ) → each_to (member f) n ≡ spaced (sift f (numbers n))
unfolding each_to numbers sift spaced
members_to f zero = refl
members_to f (suc n) =
    ap (λ (l : List ℕ). l ++ member f (suc n)) (members_to f n)
    ∙ sym (spaced_append (sift f (numbers n)) (sift f (suc n ∷ [])))
    ∙ ap spaced (sym (sift_append f (numbers n) (suc n ∷ [])))

-- so the takers of an item are the operations that took it, one after another
abbrev pub took : List ℕ → ℕ → ℕ → Bool
took ops item o = same (cells ops Taken o) item

pub takers_each : (ops : List ℕ) (count item : ℕ) → each_to (member (took ops item)) count ≡ spaced (takers_of (cells ops Taken) count item)
unfolding takers_of
takers_each ops count item = members_to (took ops item) count

-- an operation, by the item that was read in its row
pub taker_in : (ops : List ℕ) (o : ℕ) {n item : ℕ} → n ≡ cells ops Taken o → n ≡ item → text " " ++ decimal o ≡ member (took ops item) o
taker_in ops o {item} e h = member_in (took ops item) o (equal_same (sym e ∙ h))

pub taker_out : (ops : List ℕ) (o : ℕ) {n item : ℕ} → n ≡ cells ops Taken o → n ≢ item → member (took ops item) o ≡ []
taker_out ops o {item} e h = member_out (took ops item) o (unequal_same (λ z. h (e ∙ z)))

-- a list of which the first number is to be written next
pub spaced_first : {p q : Page} {whole l : List ℕ} {x : ℕ} {rest : List ℕ} → l ≡ x ∷ rest → Rest p q (spaced l) whole → Rest p q (text " " ++ decimal x ++ spaced rest) whole
unfolding spaced
spaced_first {p} {q} {whole} e r = subst (λ (m : List ℕ). Rest p q (spaced m) whole) e r

-- one of which nothing is left to write
pub spaced_none : {p q : Page} {whole l : List ℕ} → l ≡ [] → Rest p q (spaced l) whole → Wrote p q whole
unfolding spaced
spaced_none {p} {q} {whole} e r = rest_none (subst (λ (m : List ℕ). Rest p q (spaced m) whole) e r)
