-- Which condition of a joined stream decides: past each one that is not met, those behind it do. Assumes nothing.
use mathlib.Core.Path.{◌≡◌, sym, ap, ◌∙◌}
use mathlib.Core.Logic.{◌≢◌}
use Prim.Native.Nat.{ℕ, ◌*◌, ◌≤◌}
use native.Mathlib.Omega.{arith}
use mathlib.Core.Bool.{Bool, not}
use mathlib.Core.List.{List, [], ◌∷◌, ◌++◌, append_assoc}
use lib.ListN.{length}
use Rattle.basics.specs.Choice.{same}
use Rattle.basics.proofs.Choice.{equal_same, unequal_same}
use Rattle.block.specs.Block.{payload_size}
use Rattle.job.specs.declared.Limits.{Limits}
use Rattle.job.specs.Stream.{stream_length}
use Rattle.job.specs.Refusals.{first_met, exact_count, bad_padding, header_conditions, list_conditions}
use Rattle.job.proofs.Conditions.{met_here, met_later, met_front, met_back}
use Rattle.job.proofs.Table.{header_numbered, lists_numbered, exact_room}
use Rattle.reader.specs.Loaded.{joined_refusal}

-- the conditions from the block count on, and from the lists on
abbrev from_lists : List ℕ → List (ℕ × Bool)
from_lists s = list_conditions s ++ (12, bad_padding s) ∷ []

abbrev from_count : List ℕ → ℕ → List (ℕ × Bool)
from_count s n = (9, not (same n (exact_count s))) ∷ from_lists s

module _ (l : Limits) (s : List ℕ) (n : ℕ) where
  all_conditions : first_met (header_conditions l s ++ from_count s n) ≡ joined_refusal l s n
  unfolding joined_refusal
  all_conditions =
      ap first_met (sym (append_assoc (header_conditions l s) ((9, not (same n (exact_count s))) ∷ list_conditions s) ((12, bad_padding s) ∷ [])))

  pub header_decides : {r : ℕ} → r ≡ first_met (header_conditions l s) → r ≢ 0 → r ≡ joined_refusal l s n
  header_decides e h = e ∙ met_front (header_conditions l s) (from_count s n) (λ z. h (e ∙ z)) ∙ all_conditions

  pub past_header : {h r : ℕ} → h ≡ first_met (header_conditions l s) → h ≡ 0 → r ≡ first_met (from_count s n) → r ≡ joined_refusal l s n
  past_header e z later = later ∙ met_back (header_conditions l s) (from_count s n) (header_numbered l s) (sym e ∙ z) ∙ all_conditions

module _ (s : List ℕ) (n : ℕ) where
  pub count_decides : {k : ℕ} → k ≡ exact_count s → k ≢ n → 9 ≡ first_met (from_count s n)
  count_decides e h = met_here 9 (from_lists s) (ap not (unequal_same (λ q. h (e ∙ sym q))))

  pub past_count : {k r : ℕ} → k ≡ exact_count s → k ≡ n → r ≡ first_met (from_lists s) → r ≡ first_met (from_count s n)
  past_count e h later = met_later 9 (from_lists s) (ap not (equal_same (sym h ∙ e))) later

module _ (s : List ℕ) where
  pub lists_decide : {r : ℕ} → r ≡ first_met (list_conditions s) → r ≢ 0 → r ≡ first_met (from_lists s)
  lists_decide e h = e ∙ met_front (list_conditions s) ((12, bad_padding s) ∷ []) (λ z. h (e ∙ z))

  pub past_lists : {k r : ℕ} → k ≡ first_met (list_conditions s) → k ≡ 0 → r ≡ first_met ((12, bad_padding s) ∷ []) → r ≡ first_met (from_lists s)
  past_lists e z later = later ∙ met_back (list_conditions s) ((12, bad_padding s) ∷ []) (lists_numbered s) (sym e ∙ z)

-- so many blocks as the stream wants have room for it
pub count_has_room : (s : List ℕ) (n : ℕ) {k : ℕ} → k ≡ exact_count s → k ≡ n → length s ≡ payload_size * n → stream_length s ≤ length s
unfolding payload_size
count_has_room s n e h size =
    let room : stream_length s ≤ payload_size * exact_count s = exact_room s in
    omega arith
