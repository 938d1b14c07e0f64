-- What stands in the work memory before its rest is cleared: the stream of an accepted file, and nothing of a refused one.
use Rattle.std.specs.Prelude.{◌≡◌, ℕ, ◌≤◌, not, List, [], ◌∷◌, ◌++◌, length, take, drop, Result}
use Rattle.basics.specs.Choice.{pick, same}
use Rattle.job.specs.declared.Limits.{Limits}
use Rattle.job.specs.Limits.{most_stream}
use Rattle.job.specs.Refusals.{first_met, exact_count, bad_padding, header_conditions, list_conditions}
use Rattle.job.specs.File.{file_refusal, stream_of}
use Rattle.job.specs.declared.Refusal.{Refusal}
use Rattle.job.specs.Answer.{answer_number, answer_length}

-- the stream that a read gives
unfoldable pub kept : Limits → List ℕ → List ℕ
kept l file = pick (same (file_refusal l file) 0) (stream_of file) []

-- the numbers 5 to 12 of a joined stream of so many blocks
unfoldable pub joined_refusal : Limits → List ℕ → ℕ → ℕ
joined_refusal l s count =
    first_met (header_conditions l s ++ (9, not (same count (exact_count s))) ∷ list_conditions s ++ (12, bad_padding s) ∷ [])

pub record Loaded (l : Limits) (file start work : List ℕ) (r : Result ℕ Refusal) : Type 0 where
  pub number : answer_number r ≡ file_refusal l file
  pub size : answer_length r ≡ length (kept l file)
  pub room : answer_length r ≤ most_stream l
  pub front : take (answer_length r) work ≡ kept l file
  pub behind : drop (most_stream l) work ≡ drop (most_stream l) start
