-- In which order the conditions of what is kept decide: "the header part before 5, the records part before 10". Past each one that is not met, those behind it
-- do. Assumes nothing.
use mathlib.Core.Path.{◌≡◌, sym, ◌∙◌}
use mathlib.Core.Logic.{◌≢◌}
use Prim.Native.Nat.{ℕ, ◌≤◌, ◌<◌}
use mathlib.Core.Bool.{Bool}
use mathlib.Core.List.{List, ◌∷◌, ◌++◌}
use lib.ListN.{length}
use Rattle.basics.proofs.Choice.{lt_less, le_less}
use Rattle.job.specs.declared.Limits.{Limits}
use Rattle.job.specs.Refusals.{first_met, header_conditions, list_conditions}
use Rattle.job.proofs.Conditions.{met_here, met_later, met_front, met_back}
use Rattle.job.proofs.Table.{header_numbered}
use Rattle.remains.specs.Kept.{records_end, shortened}
use Rattle.remains.specs.Salvage.{cut_records, kept_conditions, kept_refusal}

-- the conditions from the records on, and from the header on
abbrev from_records : List ℕ → List (ℕ × Bool)
from_records s = (14, cut_records s) ∷ list_conditions (shortened s)

abbrev from_header : Limits → List ℕ → List (ℕ × Bool)
from_header l s = header_conditions l s ++ from_records s

module _ (l : Limits) (s : List ℕ) where
  -- 14 of the header, before all others
  pub short_decides : length s < 6 → 14 ≡ kept_refusal l s
  unfolding kept_refusal kept_conditions
  short_decides h = met_here 14 _ (lt_less h)

  past_short : {r : ℕ} → 6 ≤ length s → r ≡ first_met (from_header l s) → r ≡ kept_refusal l s
  unfolding kept_refusal kept_conditions
  past_short h later = met_later 14 (from_header l s) (le_less h) later

  module _ (there : 6 ≤ length s) {h : ℕ} (e : h ≡ first_met (header_conditions l s)) where
    -- then 5 to 8
    pub header_decides : h ≢ 0 → h ≡ kept_refusal l s
    header_decides refused = past_short there (e ∙ met_front (header_conditions l s) (from_records s) (λ z. refused (e ∙ z)))

    module _ (fine : h ≡ 0) where
      past_header : {r : ℕ} → r ≡ first_met (from_records s) → r ≡ kept_refusal l s
      past_header later = past_short there (later ∙ met_back (header_conditions l s) (from_records s) (header_numbered l s) (sym e ∙ fine))

      -- then 14 of the records
      pub records_decide : length s < records_end s → 14 ≡ kept_refusal l s
      unfolding cut_records
      records_decide cut = past_header (met_here 14 (list_conditions (shortened s)) (lt_less cut))

      -- and last 10 and 11
      pub lists_decide : {r : ℕ} → records_end s ≤ length s → r ≡ first_met (list_conditions (shortened s)) → r ≡ kept_refusal l s
      unfolding cut_records
      lists_decide whole later = past_header (met_later 14 (list_conditions (shortened s)) (le_less whole) later)
