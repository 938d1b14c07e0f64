-- What is true of every salvage. Document 02, request 7: "An undamaged file comes out the same."; "writes a proper file"; "Where the kept blocks are those
-- of the undamaged file, operations that ended in the kept steps have the answers of the undamaged job" (what that says of two jobs: `Short.antt` of theory).
use Rattle.std.specs.Prelude.{◌≡◌, ℕ, ◌≤◌, ◌<◌, List}
use Rattle.job.specs.declared.Limits.{Limits}
use Rattle.job.specs.Stream.{kind, processes, operations, schedule_length, process, action, value, scheduled}
use Rattle.job.specs.File.{block_at, file_refusal, stream_of}
use Rattle.remains.specs.Kept.{kept_blocks, kept}
use Rattle.remains.specs.Salvage.{salvage_refusal, salvaged, kept_entries, named_entries}

-- "An undamaged file comes out the same", with all its entries
pub record Undamaged (l : Limits) (file : List ℕ) : Type 0 where
  pub number : salvage_refusal l file ≡ 0
  pub unchanged : salvaged file ≡ file
  pub all_entries : kept_entries file ≡ named_entries file

-- a stream with the header and the records of another, whose schedule is the first `n` entries of the other's
pub record FirstEntries (n : ℕ) (s t : List ℕ) : Type 0 where
  pub kinds : kind t ≡ kind s
  pub process_counts : processes t ≡ processes s
  pub operation_counts : operations t ≡ operations s
  pub step_count : schedule_length t ≡ n
  pub no_more : n ≤ schedule_length s
  pub owners : (o : ℕ) → 1 ≤ o → o ≤ operations s → process t o ≡ process s o
  pub actions : (o : ℕ) → 1 ≤ o → o ≤ operations s → action t o ≡ action s o
  pub values : (o : ℕ) → 1 ≤ o → o ≤ operations s → value t o ≡ value s o
  pub entries : (k : ℕ) → 1 ≤ k → k ≤ n → scheduled t k ≡ scheduled s k

-- "writes a proper file": it is accepted, and its job is that of the header and the records, "the schedule [shortened] to the entries kept"
pub record Proper (l : Limits) (file : List ℕ) : Type 0 where
  pub accepted : file_refusal l (salvaged file) ≡ 0
  pub its_job : FirstEntries (kept_entries file) (kept file) (stream_of (salvaged file))

-- "the kept blocks are those of the undamaged file"
pub record BlocksOf (whole file : List ℕ) : Type 0 where
  pub each : (i : ℕ) → i < kept_blocks file → block_at file i ≡ block_at whole i
