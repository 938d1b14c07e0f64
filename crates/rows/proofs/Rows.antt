-- A store in a row: its own column is updated there, and every other column stays. For rows of any width and columns. Assumes nothing.
use mathlib.Core.Path.{◌≡◌, sym, ap, fun_ext, ◌∙◌}
use mathlib.Core.Logic.{◌≢◌}
use Prim.Native.Nat.{ℕ, suc, ◌+◌, ◌*◌, ◌≤◌, ◌<◌, ◌/◌}
use native.Mathlib.Nat.{mul-le-mul_left, mul-suc}
use Rattle.std.proofs.lemmas.Nat.{div-mul-add}
use native.Mathlib.Omega.{arith}
use mathlib.Core.List.{List}
use Rattle.basics.specs.Choice.{same}
use Rattle.basics.specs.Maps.{at, upd}
use Rattle.basics.proofs.Choice.{pick_elim, same_equal, same_unequal}
use Rattle.basics.proofs.Maps.{upd_here, upd_there, upd_elim}
use Rattle.rows.specs.Rows.{place, column, cells_of, stored_in}

-- a row ends before a later one begins
before_next : (width i j : ℕ) → i < j → width * i + width ≤ width * j
before_next width i j less =
    let step : width * suc i ≤ width * j = mul-le-mul_left width less in
    omega (arith, mul-suc width i)

module _ {width : ℕ} where
  -- two cells at one place are of one row
  same_row : {f g : ℕ} → f < width → g < width → (i j : ℕ) → place width i f ≡ place width j g → i ≡ j
  same_row {f} {g} small_f small_g i j e =
      let turned : i * width + f ≡ j * width + g = omega arith in
      sym (div-mul-add i width f small_f) ∙ ap (λ x. x / width) turned ∙ div-mul-add j width g small_g

  pub own_column : (m : ℕ → ℕ) (i v : ℕ) {f : ℕ} → f < width → column width f (upd m (place width i f) v) ≡ upd (column width f m) i v
  unfolding column
  own_column m i v {f} small =
      fun_ext (λ j.
      upd_elim (λ x. x ≡ upd (column width f m) i v j) m (place width i f) v (place width j f)
      (λ here. sym (upd_here (column width f m) i v) ∙ ap (upd (column width f m) i v) (sym (same_row small small j i here)))
      (λ there. sym (upd_there (column width f m) i v (λ e. there (ap (λ x. place width x f) e)))))

  pub other_column : (m : ℕ → ℕ) (i v : ℕ) {f g : ℕ} → f < width → g < width → g ≢ f → column width g (upd m (place width i f) v) ≡ column width g m
  unfolding column
  other_column m i v {f} {g} small_f small_g apart =
      fun_ext (λ j.
      upd_there m (place width i f) v (λ (e : place width j g ≡ place width i f).
      apart (let row : width * j ≡ width * i = ap (λ x. width * x) (same_row small_g small_f j i e) in omega arith)))

-- all columns at once
module _ {C : Type 0} {number : C → ℕ} {width : ℕ} (in_row : (f : C) → number f < width) where
  pub cells_stored : (f : C) (l l' : List ℕ) (i v : ℕ) → at l' ≡ upd (at l) (place width i (number f)) v → cells_of number width l' ≡ stored_in number f i v (cells_of number width l)
  unfolding stored_in
  cells_stored f l l' i v e = fun_ext (λ g. ap (column width (number g)) e ∙ go g)
    where
      go : (g : C) → column width (number g) (upd (at l) (place width i (number f)) v) ≡ stored_in number f i v (cells_of number width l) g
      go g =
          pick_elim (λ (x : ℕ → ℕ). column width (number g) (upd (at l) (place width i (number f)) v) ≡ x) (same (number g) (number f)) (upd (cells_of number width l g) i v) (cells_of number width l g)
          (λ here. ap (λ n. column width (number g) (upd (at l) (place width i n) v)) (sym (same_equal here)) ∙ own_column (at l) i v (in_row g))
          (λ there. other_column (at l) i v (in_row f) (in_row g) (same_unequal there))
