-- A list with one value for each of the eight processes.
use Rattle.std.specs.Prelude.{◌≡◌, ℕ, ◌<◌, List, length, get_or}
use Rattle.job.specs.Limits.{field}

-- that of process p is `f p`; `none` stands past the end
pub record Eight {A : Type 0} (none : A) (f : ℕ → A) (l : List A) : Type 0 where
  pub eight : length l ≡ field.processes
  pub each : (p : ℕ) → p < field.processes → get_or l p none ≡ f p
