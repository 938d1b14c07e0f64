-- `report::operation_lines` meets its contract. The loop's invariant: the lines of operations up to `o` are written. Assumes nothing.
use Rattle.job.specs.Job.{job_of}
use Rattle.wording.specs.Report.{operation_line}
use Rattle.text.proofs.Each.{Written}
use Rattle.report.proofs.operation_lines.Given as goal

abbrev pub invariant-loop-o : goal.invariant-loop-o
invariant-loop-o l = Written (operation_line (job_of l.stream) (job_of l.stream).steps) l.count l.o l.initial.page l.page
