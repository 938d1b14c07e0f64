-- What is told of an operation with its row and its stream.
use Rattle.std.specs.Prelude.{ℕ, List}
use Rattle.rows.specs.Operations.{cells}
use Rattle.job.specs.Job.{job_of}
use Rattle.wording.specs.Report.{action_text}
use Rattle.lines.specs.declared.Row.{Row}
use Rattle.lines.specs.Told.{front_text, answer_told, end_told, progress_told, line_told}

abbrev pub action_of : Row → List ℕ
action_of r = action_text (job_of r.stream.now) r.o.0

abbrev pub answer_of : Row → List ℕ
answer_of r = answer_told (job_of r.stream.now) (cells r.ops.now) r.o.0

abbrev pub end_of : Row → List ℕ
end_of r = end_told (job_of r.stream.now) (cells r.ops.now) r.o.0

abbrev pub progress_of : Row → List ℕ
progress_of r = progress_told (job_of r.stream.now) (cells r.ops.now) r.o.0

abbrev pub front_of : Row → List ℕ
front_of r = front_text (job_of r.stream.now) r.o.0

abbrev pub line_of : Row → List ℕ
line_of r = line_told (job_of r.stream.now) (cells r.ops.now) r.o.0
