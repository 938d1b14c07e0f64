-- Demand 3, whole: the record explains the run of every job, for any number of steps. Assumes nothing.
use Prim.Native.Nat.{ℕ}
use Rattle.job.specs.declared.Kind.{Kind}
use Rattle.job.specs.declared.Kind.TheVariants.{Queue, Stack, TwoWay}
use Rattle.job.specs.Job.{Job}
use Rattle.machine.specs.Explained.{Explained}
use Rattle.theory.proofs.Course.{Course}
use Rattle.theory.proofs.Laws.{Laws}
use Rattle.theory.proofs.Operations.{course}
use Rattle.theory.proofs.Explains.{explains}
use Rattle.theory.proofs.Queue.{queue_laws}
use Rattle.theory.proofs.Stack.{stack_laws}
use Rattle.theory.proofs.TwoWay.{two_way_laws}

-- every object meets the laws, whatever course it takes
pub laws : (kind : Kind) (c : Course kind) (k : ℕ) → Laws c k
laws Queue c k = queue_laws c k
laws Stack c k = stack_laws c k
laws TwoWay c k = two_way_laws c k

pub explained : (j : Job) (k : ℕ) → Explained j k
explained j k = explains j k (laws j.object (course j) k)
