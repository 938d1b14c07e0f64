-- `replayer::replay_stream` meets its contract: fresh memory is blank and large enough. Assumes nothing.
use Rattle.std.proofs.Common.{ℕ, ◌≤◌, List, length, sym, subst}
use Rattle.wording.specs.Report.{report}
use Rattle.job.specs.Job.{job_of}
use Rattle.job.specs.Ready.{Ready}
use Rattle.job.proofs.Ready.{header_there}
use Rattle.report.specs.Reported.{Reported}
use Rattle.replayer.proofs.Fresh.{fresh_room, fresh_blank}
use Rattle.replayer.proofs.replay_stream.Goals as goal

pub over-requires : goal.over-requires
over-requires c = header_there c.requires.0

pub replay_in-requires : goal.replay_in-requires
replay_in-requires c =
    record { ready = subst (λ (s : List ℕ). Ready s × (length (report (job_of s)) ≤ length c.args.out.now)) (sym c.over.ensures) c.requires; room = (fresh_room, fresh_blank) }

pub returns : goal.returns
returns c = subst (λ (s : List ℕ). Reported c.args.out.now c.replay_in.new.out c.replay_in.result (report (job_of s))) c.over.ensures c.replay_in.ensures
