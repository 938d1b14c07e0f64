-- Laws of the definitions that go by the kind, a clause for each object: what general proofs take from a kind. Assumes nothing.
use mathlib.Core.Path.{◌≡◌, refl, ◌∙◌}
use mathlib.Core.Logic.{◌⊎◌, inl, inr}
use Prim.Native.Nat.{ℕ, suc}
use mathlib.Core.Bool.{Bool, true, false}
use mathlib.Core.List.Memᴰ
use mathlib.Core.List.{List, [], ◌∷◌, Memᴰ}
use native.Mathlib.Omega.{arith}
use lib.ListN.{length, length-append}
use Rattle.job.specs.declared.Kind.{Kind}
use Rattle.job.specs.declared.Kind.TheVariants.{Queue, Stack, TwoWay}
use Rattle.machine.specs.Multiplicity.{add}
use Rattle.machine.specs.Table.{end_of, is_end, ended, first_row}

-- an operation does not begin at an end
pub begins_going : (kind : Kind) (put : Bool) → ended (first_row kind put) ≡ false
unfolding ended end_of is_end first_row
begins_going Queue true = refl
begins_going Queue false = refl
begins_going Stack true = refl
begins_going Stack false = refl
begins_going TwoWay true = refl
begins_going TwoWay false = refl

-- a put adds its item
pub add_length : (kind : Kind) (item : ℕ) (c : List ℕ) → length (add kind item c) ≡ suc (length c)
unfolding add
add_length Queue item c = length-append c (item ∷ []) ∙ omega arith
add_length Stack item c = refl
add_length TwoWay item c = refl

pub add_member : (kind : Kind) (item : ℕ) (c : List ℕ) {x : ℕ} → Memᴰ x (add kind item c) → (x ≡ item) ⊎ Memᴰ x c
unfolding add
add_member Queue item c m = elim (Memᴰ.append_cases c m) [ inl h ↦ inr h | inr h ↦ inl (Memᴰ.eq_of_singleton h) ]
add_member Stack item c m = Memᴰ.cases_cons m
add_member TwoWay item c m = Memᴰ.cases_cons m
