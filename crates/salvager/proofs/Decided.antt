-- Past the records, a write of the shortened stream decides: none of the conditions that a write looks at before the lists is met. Assumes nothing.
use mathlib.Core.Path.{◌≡◌, refl, sym, ap, ◌∙◌}
use Prim.Native.Nat.{ℕ, ◌≤◌}
use native.Mathlib.Omega.{arith}
use mathlib.Core.Bool.{Bool, not}
use mathlib.Core.List.{List, ◌∷◌, ◌++◌}
use lib.ListN.{length}
use Rattle.basics.specs.Choice.{same, less}
use Rattle.basics.proofs.Choice.{le_less, equal_same}
use Rattle.job.specs.declared.Limits.{Limits}
use Rattle.job.specs.Limits.{most_file, Sound}
use Rattle.job.specs.Stream.{stream_length}
use Rattle.job.specs.Refusals.{first_met, header_conditions, list_conditions}
use Rattle.job.specs.Calls.{write_number}
use Rattle.job.proofs.Conditions.{met_later, met_back, unmet_zero}
use Rattle.job.proofs.Table.{header_numbered}
use Rattle.remains.specs.Kept.{records_end, shortened}
use Rattle.remains.specs.Salvage.{kept_refusal}
use Rattle.remains.proofs.Unmet.{InRange, header_unmet}
use Rattle.remains.proofs.Conditions.{lists_decide}
use Rattle.remains.proofs.Proper.{shortened_range, shortened_size}

module _ (l : Limits) (s : List ℕ) {h : ℕ} (e : h ≡ first_met (header_conditions l s)) (fine : h ≡ 0) where
  pub in_range : InRange l s
  in_range = header_unmet l s (sym e ∙ fine)

  pub write_decides : Sound l → 6 ≤ length s → records_end s ≤ length s → (out : List ℕ) → most_file l ≤ length out → write_number l (shortened s) out ≡ kept_refusal l s
  unfolding write_number header_conditions stream_length
  write_decides sound there whole out room =
      let t : List ℕ = shortened s in
      let size : length t ≡ stream_length t = shortened_size sound s in_range whole in
      let r = shortened_range sound s in_range whole in
      let none : first_met (header_conditions l t) ≡ 0 = unmet_zero (header_conditions l t) (r.kinds, (r.process_count, (r.operation_count, (r.step_count, tt)))) in
      let behind : List (ℕ × Bool) = (9, not (same (length t) (stream_length t))) ∷ list_conditions t in
      let lists : first_met (list_conditions t) ≡ write_number l t out =
      met_later 1 ((2, less (length t) 6) ∷ header_conditions l t ++ behind) (le_less room)
      (met_later 2 (header_conditions l t ++ behind) (le_less (omega (arith, size)))
      (met_later 9 (list_conditions t) (ap not (equal_same size)) refl
      ∙ met_back (header_conditions l t) behind (header_numbered l t) none))
      in
      sym lists ∙ lists_decide l s there e fine whole refl
