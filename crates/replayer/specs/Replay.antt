-- A replay: its number, its length, and the lent memories afterwards, for all arguments. Document 01, "Where a job is turned back".
use Rattle.std.specs.Prelude.{ℕ, Bool, ◌||◌, List, [], ◌++◌, length, drop}
use Rattle.basics.specs.Choice.{pick, same, less}
use Rattle.job.specs.declared.Limits.{Limits}
use Rattle.job.specs.Stream.{processes}
use Rattle.job.specs.File.{file_refusal, stream_of}
use Rattle.job.specs.Calls.{small_work, held}
use Rattle.job.specs.Job.{Job, job_of}
use Rattle.windows.specs.Refused.{bad_windows}
use Rattle.hours.specs.Windowed.{is_shut, windowed}
use Rattle.wording.specs.Report.{report}

-- number 1: "report under 32,768 bytes, or work under 17,710"
unfoldable pub small_memory : Limits → List ℕ → List ℕ → Bool
small_memory l work out = less (length out) l.report || small_work l work

-- the numbers 2 to 12, of the file, and behind them 13, of the window block. Document 02, request 6: "checked after 12"
unfoldable pub input_refusal : Limits → List ℕ → List ℕ → ℕ
input_refusal l file windows = pick (same (file_refusal l file) 0) (pick (bad_windows windows) 13 0) (file_refusal l file)

-- "The first condition met in this order decides; a job meeting none is accepted. An accepted call of any kind gives number 0."
unfoldable pub replay_number : Limits → List ℕ → List ℕ → List ℕ → List ℕ → ℕ
replay_number l file windows work out = pick (small_memory l work out) 1 (input_refusal l file windows)

-- the job in an accepted file
unfoldable pub job_in : List ℕ → Job
job_in file = job_of (stream_of file)

-- the number of its processes, P
unfoldable pub processes_in : List ℕ → ℕ
processes_in file = processes (stream_of file)

-- the job that is run: that of the file, its steps idle where their windows are shut
unfoldable pub job_run : List ℕ → List ℕ → Job
job_run file windows = windowed windows (job_in file)

-- which entries of its schedule are shut
unfoldable pub shut_in : List ℕ → List ℕ → ℕ → Bool
shut_in file windows = is_shut windows (job_in file)

-- the report of an accepted file with its windows
unfoldable pub report_of : List ℕ → List ℕ → List ℕ
report_of file windows = report (job_run file windows)

-- "A refusal gives its number and length 0"
unfoldable pub replay_length : Limits → List ℕ → List ℕ → List ℕ → List ℕ → ℕ
replay_length l file windows work out = pick (same (replay_number l file windows work out) 0) (length (report_of file windows)) 0

-- "the report memory is unchanged" by a refusal; "An accepted job leaves report bytes past the report's length unchanged."
unfoldable pub replay_report : Limits → List ℕ → List ℕ → List ℕ → List ℕ → List ℕ
replay_report l file windows work out =
    pick (same (replay_number l file windows work out) 0) (report_of file windows ++ drop (length (report_of file windows)) out) out

-- "After number 1 nothing is touched. After every other replay […] the first 17,710 work bytes are zero; work bytes past them never
-- change."
unfoldable pub replay_work : Limits → List ℕ → List ℕ → List ℕ
replay_work l work out = pick (small_memory l work out) work (held l [] work)
