-- What a column keeps, by what it held. Assumes nothing.
use mathlib.Core.Path.{◌≡◌, refl, sym, ap, fun_ext, ◌∙◌}
use mathlib.Core.Logic.{◌≢◌}
use Prim.Native.Nat.{ℕ}
use Rattle.basics.specs.Choice.{pick, same}
use Rattle.basics.specs.Maps.{upd}
use Rattle.basics.proofs.Choice.{pick_then, pick_else, equal_same, unequal_same}
use Rattle.basics.proofs.Maps.{upd_id}
use Rattle.rows.specs.Rows.{stored_in}
use Rattle.rows.specs.declared.OpColumn.TheVariants.{Last}
use Rattle.rows.specs.Operations.{Cells, stored}
use Rattle.rows.proofs.Operations.{by_column}
use Rattle.journal.specs.Stored.{earlier}

-- the value stored is the one meant
pub stored_as : (m m' : ℕ → ℕ) (p : ℕ) {v w : ℕ} → m' ≡ upd m p v → v ≡ w → m' ≡ upd m p w
stored_as m m' p e same = e ∙ ap (upd m p) same

-- nothing is stored, and the value meant is there
pub kept_as : (m : ℕ → ℕ) (p : ℕ) {w : ℕ} → m p ≡ w → m ≡ upd m p w
kept_as m p e = sym (upd_id m p) ∙ ap (upd m p) e

pub earlier_none : (old k : ℕ) → old ≡ 0 → k ≡ earlier old k
unfolding earlier
earlier_none old k e = sym (pick_then k old (equal_same e))

pub earlier_some : (old k : ℕ) → old ≢ 0 → old ≡ earlier old k
unfolding earlier
earlier_some old k e = sym (pick_else k old (unequal_same e))

-- a last step that is stored again
pub last_kept : (o : ℕ) (c : Cells) → c ≡ stored Last o (c Last o) c
unfolding stored_in pick same
last_kept o c = fun_ext (by_column (λ g. c g ≡ stored Last o (c Last o) c g) refl (sym (upd_id (c Last) o)) refl refl refl refl)
