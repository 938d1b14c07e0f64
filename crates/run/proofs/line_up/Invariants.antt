-- `run::line_up` meets its contract: the places before p are lined up. Assumes nothing.
use Rattle.job.specs.Job.{job_of}
use Rattle.run.proofs.Places.{LinedUp}
use Rattle.run.proofs.line_up.Given as goal

abbrev pub invariant-loop-p : goal.invariant-loop-p
invariant-loop-p l = LinedUp (job_of l.fn.source.stream.now) l.p l.run.places
