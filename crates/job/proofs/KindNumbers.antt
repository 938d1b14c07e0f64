-- A kind and its number. Every kind is found by its number, so no two have the same; and a stream that is not refused for its kind has the
-- number of its object. Assumes nothing.
use mathlib.Core.Path.{◌≡◌, refl, sym, ap, ◌∙◌}
use mathlib.Core.Logic.{◌≢◌, ◌⊎◌, inl, inr}
use Prim.Native.Nat.{ℕ}
use mathlib.Core.Bool.{false, true≢false}
use mathlib.Core.List.{List, [], ◌∷◌}
use native.Mathlib.Omega.{arith}
use Rattle.basics.specs.Choice.{pick, same}
use Rattle.basics.proofs.Choice.{pick_then, pick_else, equal_same, unequal_same, split}
use Rattle.job.specs.declared.Kind.{Kind}
use Rattle.job.specs.declared.Kind.TheVariants.{Queue, Stack, TwoWay}
use Rattle.std.specs.Prelude.{Option, Some, None}
use Rattle.job.specs.Kind.{kind_number, kinds, look_up, kind_of, is_missing, kind_found}
use Rattle.job.specs.Stream.{kind}
use Rattle.job.specs.Refusals.{bad_kind}
use Rattle.job.specs.Job.{job_of}

pub found_by_number : (k : Kind) → kind_of (kind_number k) ≡ Some k
unfolding kind_of kinds look_up kind_number pick same
found_by_number Queue = refl
found_by_number Stack = refl
found_by_number TwoWay = refl

pub numbers_differ : (k l : Kind) → kind_number k ≡ kind_number l → k ≡ l
numbers_differ k l e =
    let p : Some k ≡ Some l = sym (found_by_number k) ∙ ap kind_of e ∙ found_by_number l in
    cc

-- a kind that is found has the number
found_in : (l : List Kind) (n : ℕ) {k : Kind} → look_up l n ≡ Some k → kind_number k ≡ n
unfolding look_up
found_in [] n f = let z : ◌≡◌ {A = ℕ} 0 1 = cc in absurd (omega arith)
found_in (x ∷ l) n {k} f = by_number (split (kind_number x) n) (found_in l n)
  where
    by_number : (kind_number x ≡ n) ⊎ (kind_number x ≢ n) → (look_up l n ≡ Some k → kind_number k ≡ n) → kind_number k ≡ n
    by_number (inl e) later =
        let p : Some x ≡ Some k = sym (pick_then _ _ (equal_same e)) ∙ f in
        let q : x ≡ k = cc in
        ap kind_number (sym q) ∙ e
    by_number (inr e) later = later (sym (pick_else _ _ (unequal_same e)) ∙ f)

found_has_number : {n : ℕ} {k : Kind} → kind_of n ≡ Some k → kind_number k ≡ n
unfolding kind_of
found_has_number {n} f = found_in kinds n f

-- a stream is refused for its kind exactly where no kind has its number; where it is not, the number is that of its object
pub kind_not_bad : (s : List ℕ) (k : Kind) → kind_number k ≡ kind s → bad_kind s ≡ false
unfolding bad_kind is_missing
kind_not_bad s k e = ap is_missing (ap kind_of (sym e) ∙ found_by_number k)

pub object_number : (s : List ℕ) → bad_kind s ≡ false → kind_number (job_of s).object ≡ kind s
unfolding bad_kind is_missing job_of kind_found
object_number s fine = go (kind_of (kind s)) refl
  where
    go : (found : Option Kind) → kind_of (kind s) ≡ found → kind_number (kind_found (kind_of (kind s))) ≡ kind s
    go (Some k) f = ap (λ l. kind_number (kind_found l)) f ∙ found_has_number f
    go None f = absurd (true≢false (sym (ap is_missing f) ∙ fine))
