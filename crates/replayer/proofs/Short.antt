-- The report of an accepted file of bytes, whatever its windows, is at most as long as the least report memory. Assumes nothing.
use mathlib.Core.Path.{◌≡◌}
use Prim.Native.Nat.{ℕ, suc, ◌+◌, ◌*◌, ◌≤◌}
use native.Mathlib.Omega.{arith}
use mathlib.Core.List.{List}
use lib.ListN.{length}
use Rattle.basics.specs.Bytes.{Bytes}
use Rattle.basics.specs.Words.{word}
use Rattle.job.specs.declared.Limits.{Limits}
use Rattle.job.specs.Limits.{field, Sound}
use Rattle.job.specs.Stream.{operations, schedule_length, process, record_at, value}
use Rattle.job.specs.File.{stream_of, file_refusal}
use Rattle.job.specs.Job.{job_of}
use Rattle.job.specs.Idle.{idle_at}
use Rattle.job.proofs.Accepted.{GoodFile, accepted_good}
use Rattle.job.proofs.Padded.{fine_counts}
use Rattle.job.proofs.Recorded.{owner_said, field_said}
use Rattle.job.proofs.View.{stream_good, stream_bytes}
use Rattle.hours.specs.Windowed.{windowed}
use Rattle.wording.specs.Report.{report}
use Rattle.wording.proofs.Sizes.{Fits, report_bounded}
use Rattle.replayer.specs.Replay.{job_in, job_run}

-- bytes make numbers of their size
fits : (s windows : List ℕ) → Bytes s → operations s ≤ field.operations → schedule_length s ≤ field.steps → Fits (windowed windows (job_of s))
unfolding windowed idle_at job_of process record_at value word
fits s windows b few short =
    record {
      operations = omega (arith, few);
      steps = omega (arith, short);
      owners = λ o op. omega (arith, owner_said s op.to_count, b.byte (2 + 4 * o));
      values = λ o op. omega (arith, field_said s op.to_count, b.byte (2 + 4 * o + 2), b.byte (suc (2 + 4 * o + 2)));
    }

pub report_short : {l : Limits} → Sound l → (file windows : List ℕ) → file_refusal l file ≡ 0 → Bytes file → length (report (job_run file windows)) ≤ l.report
unfolding job_run windowed idle_at job_in job_of
report_short {l} sound file windows accepted b =
    let g : GoodFile l file = accepted_good l file accepted in
    let counts = fine_counts (stream_good file g).fine in
    let few : operations (stream_of file) ≤ l.operations = counts.0 in
    let short : schedule_length (stream_of file) ≤ l.steps = counts.1 in
    let bound : length (report (windowed windows (job_of (stream_of file)))) ≤ 34 + 102 * operations (stream_of file) =
    report_bounded (windowed windows (job_of (stream_of file))) (fits (stream_of file) windows (stream_bytes file b) (omega (arith, sound.rows)) (omega (arith, sound.cells))) in
    omega (arith, sound.report_fits)
