-- `Source::next_operation` meets its contract: the search from i on finds what the search from its beginning finds. Assumes nothing.
use mathlib.Core.Path.{◌≡◌}
use Rattle.job.specs.Job.{job_of}
use Rattle.machine.specs.Run.{operation_after}
use Rattle.hands.proofs.Hands.{search_from}
use Rattle.hands.proofs.Source.next_operation.Given as goal

abbrev pub invariant-loop-i : goal.invariant-loop-i
invariant-loop-i l = operation_after (job_of l.fn.self.stream.now) l.fn.p.0 l.fn.o.0 ≡ search_from (job_of l.fn.self.stream.now) l.fn.p.0 l.i
