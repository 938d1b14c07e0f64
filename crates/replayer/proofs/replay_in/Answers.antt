-- `replayer::replay_in` meets its contract: the run leaves what the report is written from. Assumes nothing.
use mathlib.Core.Path.{◌≡◌}
use mathlib.Core.List.{List}
use Prim.Native.Nat.{ℕ}
use native.Mathlib.Omega.{arith}
use Rattle.job.specs.declared.Heading.{Heading}
use Rattle.job.specs.Job.{job_of}
use Rattle.machine.specs.declared.Finish.{Finish}
use Rattle.machine.specs.Notes.{note}
use Rattle.machine.specs.Lost.{lost}
use Rattle.machine.specs.Idle.{IdleBehind}
use Rattle.run.specs.Promise.{Runnable, Room, Ran}
use Rattle.run.proofs.Bounds.{few, short}
use Rattle.run.proofs.Loop.{SameLengths, room_kept}
use Rattle.report.specs.Reported.{Leaves}
use Rattle.replayer.proofs.replay_in.Goals as goal

left_by_run : {stream : List ℕ} {job : Heading} {end : Finish} {nodes ops by nodes' ops' by' : List ℕ} → Runnable stream job → Room nodes ops by → SameLengths nodes ops by nodes' ops' by' → Ran (job_of stream) job.steps end.object nodes' ops' by' → IdleBehind (job_of stream) end.reach.0 job.steps → end.lost ≡ lost (note (job_of stream)) job.steps → Leaves (job_of stream) job ops' by' nodes' end
left_by_run {nodes' = nodes'} {ops'} {by'} r lent kept ran behind rounds =
    let room : Room nodes' ops' by' = room_kept kept lent in
    record {
      heading = r.told;
      few = few r;
      short = omega (arith, short r);
      has_ops = omega (arith, few r, room.of_ops);
      has_nodes = omega (arith, few r, room.of_nodes);
      has_steps = omega (arith, short r, room.of_steps);
      journal = ran.journal;
      memory = ran.memory;
      behind = behind;
      lost = rounds;
    }

pub run_all-end-requires : goal.run_all-end-requires
run_all-end-requires c = record { runnable = record { ready = c.requires.ready.0; told = c.heading-job.ensures }; room = c.requires.room }

pub write_report-requires : goal.write_report-requires
write_report-requires c =
    let kept = c.run_all-end.auto in (
      c.requires.ready.0.whole,
      c.requires.ready.1,
      left_by_run (record { ready = c.requires.ready.0; told = c.heading-job.ensures }) c.requires.room.0
          (record { of_nodes = kept.nodes; of_ops = kept.ops; of_by = kept.by }) c.run_all-end.ensures.ran c.run_all-end.ensures.idle_behind c.run_all-end.ensures.lost_value,
    )
