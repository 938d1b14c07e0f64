-- Every operation of an accepted file is done by one of its job's processes, and none is nobody's. Assumes nothing.
use Prim.Native.Nat.{ℕ}
use native.Mathlib.Omega.{arith}
use mathlib.Core.List.{List}
use Rattle.job.specs.declared.Limits.{Limits}
use Rattle.job.specs.Limits.{Sound}
use Rattle.job.specs.File.{stream_of}
use Rattle.job.specs.Job.{job_of}
use Rattle.job.specs.Idle.{idle_at}
use Rattle.job.proofs.Accepted.{GoodFile}
use Rattle.job.proofs.Recorded.{owner_said}
use Rattle.job.proofs.View.{fine_processes, fine_owner, stream_good}
use Rattle.hours.specs.Windowed.{windowed}
use Rattle.theory.proofs.Lost.{Owned}
use Rattle.theory.proofs.Nobody.{Free}
use Rattle.replayer.specs.Replay.{job_in, processes_in, job_run}

-- whatever its windows
pub owned : {l : Limits} (file : List ℕ) → GoodFile l file → (windows : List ℕ) → Owned (job_run file windows) (processes_in file)
unfolding job_run windowed idle_at job_in processes_in job_of
owned file g windows o op =
    omega (arith, owner_said (stream_of file) op.to_count, fine_owner (stream_good file g).fine o op.from_one op.to_count)

pub free : {l : Limits} → Sound l → (file : List ℕ) → GoodFile l file → Free (job_in file)
unfolding job_in job_of
free sound file g o op e =
    let fine = (stream_good file g).fine in
    omega (arith, e, owner_said (stream_of file) op.to_count, fine_owner fine o op.from_one op.to_count, fine_processes fine, sound.places)
