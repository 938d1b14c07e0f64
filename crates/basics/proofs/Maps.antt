-- Laws of `at` and `upd`: a list after a store, read as a function, is the function after an update. Assumes nothing.
use mathlib.Core.Path.{◌≡◌, refl, sym, ap, subst, fun_ext, ◌∙◌}
use mathlib.Core.Logic.{◌≢◌}
use Prim.Native.Nat.{ℕ, ◌<◌}
use mathlib.Core.List.{List}
use lib.ListN.{length, get_or, set}
use lib.Seq.{get_or-set_same, get_or-set_other}
use Rattle.basics.specs.Choice.{pick, same}
use Rattle.basics.specs.Maps.{at, upd}
use Rattle.basics.proofs.Choice.{pick_true, pick_false, pick_elim, same_refl, same_equal, same_unequal, unequal_same}

pub upd_here : {A : Type 0} (f : ℕ → A) (i : ℕ) (v : A) → upd f i v i ≡ v
unfolding upd
upd_here f i v = ap (λ b. pick b v (f i)) (same_refl i) ∙ pick_true v (f i)

pub upd_there : {A : Type 0} (f : ℕ → A) (i : ℕ) (v : A) {j : ℕ} → j ≢ i → upd f i v j ≡ f j
unfolding upd
upd_there f i v {j} h = ap (λ b. pick b v (f j)) (unequal_same h) ∙ pick_false v (f j)

-- what holds of the new value at the index, and of the old ones elsewhere, holds everywhere
pub upd_elim {κ} : {A : Type 0} (P : A → Type κ) (f : ℕ → A) (i : ℕ) (v : A) (j : ℕ) → (j ≡ i → P v) → (j ≢ i → P (f j)) → P (upd f i v j)
unfolding upd
upd_elim P f i v j here there =
    pick_elim P (same j i) v (f j) (λ e. here (same_equal e)) (λ e. there (same_unequal e))

-- storing what is there changes nothing
pub upd_id : {A : Type 0} (f : ℕ → A) (i : ℕ) → upd f i (f i) ≡ f
upd_id f i = fun_ext (λ j. upd_elim (λ x. x ≡ f j) f i (f i) j (λ e. ap f (sym e)) (λ n. refl))

pub at_set : (l : List ℕ) (i v : ℕ) → i < length l → at (set l i v) ≡ upd (at l) i v
unfolding at
at_set l i v h = fun_ext (λ j. upd_elim (λ x. get_or (set l i v) j 0 ≡ x) (λ k. get_or l k 0) i v j (λ e. subst (λ k. get_or (set l i v) k 0 ≡ v) (sym e) (get_or-set_same l i v 0 h)) (λ n. get_or-set_other l i j v 0 n))
