-- What the theorems about job files say: a read gives back what was written, a write what was read, and a job has one file.
use Rattle.std.specs.Prelude.{◌≡◌, ℕ, ◌≤◌, List, ◌++◌, length, drop}
use Rattle.job.specs.declared.Limits.{Limits}
use Rattle.job.specs.Stream.{kind, processes, operations, schedule_length, process, action, value, scheduled}
use Rattle.job.specs.File.{file_of, stream_of}
use Rattle.job.specs.Calls.{read_number, read_length, held, read_work, write_number, write_length, write_out}

-- a read of a stream's file is accepted, gives the stream's length, and leaves the stream and zeros
pub record ReadBack (l : Limits) (s work : List ℕ) : Type 0 where
  pub number : read_number l (file_of s) work ≡ 0
  pub size : read_length l (file_of s) work ≡ length s
  pub left : read_work l (file_of s) work ≡ held l s work

-- a write of a file's stream is done, gives the file's length, and leaves that very file
pub record WrittenBack (l : Limits) (file out : List ℕ) : Type 0 where
  pub number : write_number l (stream_of file) out ≡ 0
  pub size : write_length l (stream_of file) out ≡ length file
  pub left : write_out l (stream_of file) out ≡ file ++ drop (length file) out

-- two streams whose kind, P, N, S, operations and schedule agree field by field
pub record SameJob (s t : List ℕ) : Type 0 where
  pub kinds : kind s ≡ kind t
  pub process_counts : processes s ≡ processes t
  pub operation_counts : operations s ≡ operations t
  pub step_counts : schedule_length s ≡ schedule_length t
  pub owners : (o : ℕ) → 1 ≤ o → o ≤ operations s → process s o ≡ process t o
  pub actions : (o : ℕ) → 1 ≤ o → o ≤ operations s → action s o ≡ action t o
  pub values : (o : ℕ) → 1 ≤ o → o ≤ operations s → value s o ≡ value t o
  pub entries : (k : ℕ) → 1 ≤ k → k ≤ schedule_length s → scheduled s k ≡ scheduled t k
