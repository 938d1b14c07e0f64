-- Which condition of a write decides: past each one that is not met, those behind it do. Assumes nothing.
use mathlib.Core.Path.{◌≡◌, sym, ap, ◌∙◌}
use mathlib.Core.Logic.{◌≢◌}
use Prim.Native.Nat.{ℕ, ◌≤◌, ◌<◌}
use mathlib.Core.Bool.{Bool, not}
use mathlib.Core.List.{List, ◌∷◌, ◌++◌}
use lib.ListN.{length}
use Rattle.basics.specs.Choice.{same, less}
use Rattle.basics.proofs.Choice.{equal_same, unequal_same, lt_less, le_less}
use Rattle.job.specs.declared.Limits.{Limits}
use Rattle.job.specs.Limits.{most_file}
use Rattle.job.specs.Stream.{stream_length}
use Rattle.job.specs.Refusals.{first_met, header_conditions, list_conditions}
use Rattle.job.specs.Calls.{write_number}
use Rattle.job.proofs.Conditions.{met_here, met_later, met_front, met_back}
use Rattle.job.proofs.Table.{header_numbered}

-- the conditions from the stream's length on, from its header on, and from its first six bytes on
abbrev from_length : List ℕ → List (ℕ × Bool)
from_length s = (9, not (same (length s) (stream_length s))) ∷ list_conditions s

abbrev from_header : Limits → List ℕ → List (ℕ × Bool)
from_header l s = header_conditions l s ++ from_length s

abbrev from_short : Limits → List ℕ → List (ℕ × Bool)
from_short l s = (2, less (length s) 6) ∷ from_header l s

module _ (l : Limits) (s : List ℕ) where
  pub room_decides : (out : List ℕ) → length out < most_file l → 1 ≡ write_number l s out
  unfolding write_number
  room_decides out h = met_here 1 (from_short l s) (lt_less h)

  pub past_room : (out : List ℕ) {r : ℕ} → most_file l ≤ length out → r ≡ first_met (from_short l s) → r ≡ write_number l s out
  unfolding write_number
  past_room out h later = met_later 1 (from_short l s) (le_less h) later

  pub short_decides : length s < 6 → 2 ≡ first_met (from_short l s)
  short_decides h = met_here 2 (from_header l s) (lt_less h)

  pub past_short : {r : ℕ} → 6 ≤ length s → r ≡ first_met (from_header l s) → r ≡ first_met (from_short l s)
  past_short h later = met_later 2 (from_header l s) (le_less h) later

  pub header_decides : {r : ℕ} → r ≡ first_met (header_conditions l s) → r ≢ 0 → r ≡ first_met (from_header l s)
  header_decides e h = e ∙ met_front (header_conditions l s) (from_length s) (λ z. h (e ∙ z))

  pub past_header : {h r : ℕ} → h ≡ first_met (header_conditions l s) → h ≡ 0 → r ≡ first_met (from_length s) → r ≡ first_met (from_header l s)
  past_header e z later = later ∙ met_back (header_conditions l s) (from_length s) (header_numbered l s) (sym e ∙ z)

module _ (s : List ℕ) where
  pub length_decides : {k : ℕ} → k ≡ stream_length s → length s ≢ k → 9 ≡ first_met (from_length s)
  length_decides e h = met_here 9 (list_conditions s) (ap not (unequal_same (λ q. h (q ∙ sym e))))

  pub past_length : {k r : ℕ} → k ≡ stream_length s → length s ≡ k → r ≡ first_met (list_conditions s) → r ≡ first_met (from_length s)
  past_length e h later = met_later 9 (list_conditions s) (ap not (equal_same (h ∙ e))) later
