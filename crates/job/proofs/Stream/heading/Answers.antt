-- `job::Stream::heading` meets its contract. Assumes nothing.
use Rattle.job.specs.Job.{job_of}
use Rattle.job.proofs.Stream.heading.Goals as goal

pub returns : goal.returns
unfolding job_of
returns c = λ i.
    record {
      object = c.object-object.ensures i;
      count = c.operations.ensures i;
      steps = c.schedule_length.ensures i;
    }
