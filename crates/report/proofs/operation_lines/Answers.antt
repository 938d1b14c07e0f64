-- `report::operation_lines` meets its contract. Assumes nothing.
use Prim.Native.Nat.{◌+◌}
use native.Mathlib.Omega.{arith}
use Rattle.job.specs.Job.{job_of}
use Rattle.text.proofs.Pages.{room_of, wrote_as}
use Rattle.text.proofs.Each.{written_none, written_room, written_more, written_all}
use Rattle.report.proofs.Operations.{line_is, in_stream, lines_are_each}
use Rattle.report.proofs.operation_lines.Goals as goal

pub loop-o-init : goal.loop-o-init
loop-o-init c = written_none _ _ (room_of (lines_are_each (job_of c.args.stream.now) (job_of c.args.stream.now).steps c.args.count) c.requires.count_in_bounds)

pub operation_line-requires : goal.operation_line-requires
operation_line-requires c =
    let pre = c.requires.stream_in_bounds in
    (in_stream _ _ pre.0 pre.1 pre.3 pre.4 _ (omega arith) (omega arith), room_of (line_is (job_of c.args.stream.now) (job_of c.args.stream.now).steps pre.4 (c.loop-o.o + 1) (record { from_one = omega arith; to_count = omega arith }) pre.2) (written_room c.loop-o.invariant c.loop-o-test.true))

pub loop-o-preserved : goal.loop-o-preserved
loop-o-preserved c =
    let pre = c.requires.stream_in_bounds in
    written_more c.loop-o.invariant c.loop-o-test.true (wrote_as (line_is (job_of c.args.stream.now) (job_of c.args.stream.now).steps pre.4 (c.loop-o.o + 1) (record { from_one = omega arith; to_count = omega arith }) pre.2) c.operation_line.ensures)

pub returns : goal.returns
returns c = wrote_as (lines_are_each _ _ _) (written_all c.loop-o.invariant (omega arith))
