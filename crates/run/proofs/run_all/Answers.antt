-- `run::run_all` meets its contract: the loop's invariant is `Turning`: places, memory and journal are those of the definition after k
-- steps; the measure is how many steps are left. Where no process has operations left, the steps that are left change nothing. Assumes
-- nothing.
use native.Mathlib.Omega.{arith}
use mathlib.Core.Path.{◌≡◌, refl, ap, ◌∙◌}
use Prim.Native.Nat.{ℕ}
use mathlib.Core.List.{List}
use lib.ListN.{length}
use Rattle.rows.specs.Operations.{HasOps}
use Rattle.job.specs.declared.Heading.{Heading}
use Rattle.job.specs.Job.{job_of}
use Rattle.run.specs.Promise.{Room}
use Rattle.run.proofs.Bounds.{its_count, few, short, record_read, entry_read}
use Rattle.run.proofs.Loop.{ran_at_start, p_in_range, turning_rests, makes, counted_in, turning_over, turning_on}
use Rattle.run.proofs.Settled.{Over, all_made, none_left}
use Rattle.run.proofs.run_all.Goals as goal
use Rattle.run.proofs.run_all.Goals.{else-loop-made-test, then-loop-made-test+else-job-o+then-turned+then-total-eq0}

-- row 0 is there as long as its list keeps its length
count_there : {nodes ops by : List ℕ} (ops' : List ℕ) → Room nodes ops by → length ops' ≡ length ops → HasOps 0 ops'
count_there ops' room kept = omega (arith, room.of_ops)

pub loop-made-init : goal.loop-made-init
loop-made-init c = (
  record {
    small = omega arith;
    in_place = c.line_up-run.ensures;
    counted = c.working-total.ensures;
    ran = ran_at_start _ c.fresh-object.ensures.0 c.fresh-object.ensures.1 c.fresh-object.ensures.2 c.requires.room.1;
    lengths = record { of_nodes = refl; of_ops = refl; of_by = refl };
  },
  refl,
)

pub overflow_add-k : goal.overflow_add-k
overflow_add-k c = omega (arith, short c.requires.runnable, c.loop-made-test.true)

pub scheduled-slot-requires : goal.scheduled-slot-requires
unfolding job_of
scheduled-slot-requires c = let r = c.requires.runnable in
    (its_count r, entry_read r _ (omega (arith, c.loop-made-test.true)))

pub overflow_cast-i : goal.overflow_cast-i
overflow_cast-i c = omega (arith, p_in_range c.requires.runnable c.loop-made.invariant.0 c.loop-made-test.true c.scheduled-slot.ensures _ c.process-p.ensures)

pub offset_bounds-run-i : goal.offset_bounds-run-i
offset_bounds-run-i c = omega (arith, p_in_range c.requires.runnable c.loop-made.invariant.0 c.loop-made-test.true c.scheduled-slot.ensures _ c.process-p.ensures)

pub bounds-run-i : goal.bounds-run-i
bounds-run-i c = p_in_range c.requires.runnable c.loop-made.invariant.0 c.loop-made-test.true c.scheduled-slot.ensures _ c.process-p.ensures

pub loop-made-preserved-then-job-o : goal.loop-made-preserved-then-job-o
loop-made-preserved-then-job-o c = (turning_rests c.requires.runnable c.loop-made.invariant.0 c.loop-made-test.true c.scheduled-slot.ensures _ c.process-p.ensures c.if-job-o.true, c.loop-made.invariant.1)

pub take_turn-turned-requires : goal.take_turn-turned-requires
take_turn-turned-requires c = makes c.requires.runnable c.loop-made.invariant.0 c.loop-made-test.true c.scheduled-slot.ensures _ c.process-p.ensures c.requires.room.0 c.if-job-o.false

pub offset_bounds-run-i-then-turned : goal.offset_bounds-run-i-then-turned
offset_bounds-run-i-then-turned c = omega (arith, p_in_range c.requires.runnable c.loop-made.invariant.0 c.loop-made-test.true c.scheduled-slot.ensures _ c.process-p.ensures)

pub offset_bounds-run-i-in-loop-made : goal.offset_bounds-run-i-in-loop-made
offset_bounds-run-i-in-loop-made c = omega (arith, p_in_range c.requires.runnable c.loop-made.invariant.0 c.loop-made-test.true c.scheduled-slot.ensures _ c.process-p.ensures)

pub bounds-run-i-then-turned : goal.bounds-run-i-then-turned
bounds-run-i-then-turned c = p_in_range c.requires.runnable c.loop-made.invariant.0 c.loop-made-test.true c.scheduled-slot.ensures _ c.process-p.ensures

pub bounds-run-i-in-loop-made : goal.bounds-run-i-in-loop-made
bounds-run-i-in-loop-made c = p_in_range c.requires.runnable c.loop-made.invariant.0 c.loop-made-test.true c.scheduled-slot.ensures _ c.process-p.ensures

pub working_on-total-requires : goal.working_on-total-requires
working_on-total-requires c = counted_in c.requires.runnable c.loop-made.invariant.0 c.loop-made-test.true c.scheduled-slot.ensures _ c.process-p.ensures c.if-job-o.false

pub loop-made-preserved-then-turned : goal.loop-made-preserved-then-turned
loop-made-preserved-then-turned c = (
  turning_over c.requires.runnable c.loop-made.invariant.0 c.loop-made-test.true c.scheduled-slot.ensures _ c.process-p.ensures c.place_after-after.result c.take_turn-turned.ensures c.if-turned.true c.if-job-o.false
      c.place_after-after.ensures c.working_on-total.ensures (record { of_nodes = c.take_turn-turned.auto.nodes; of_ops = c.take_turn-turned.auto.ops; of_by = c.take_turn-turned.auto.by }),
  c.loop-made.invariant.1,
)

pub loop-made-preserved : goal.loop-made-preserved
loop-made-preserved c = (
  turning_on c.requires.runnable c.loop-made.invariant.0 c.loop-made-test.true c.scheduled-slot.ensures _ c.process-p.ensures _ c.take_turn-turned.ensures c.if-turned.false c.if-job-o.false
      c.advance.ensures (record { of_nodes = c.take_turn-turned.auto.nodes; of_ops = c.take_turn-turned.auto.ops; of_by = c.take_turn-turned.auto.by }),
  c.loop-made.invariant.1,
)

pub working-total-requires : goal.working-total-requires
working-total-requires c = c.line_up-run.ensures.whole

pub loop-made-smaller-then-job-o : goal.loop-made-smaller-then-job-o
loop-made-smaller-then-job-o c = omega (arith, c.loop-made-test.true)

pub loop-made-smaller-then-turned : goal.loop-made-smaller-then-turned
loop-made-smaller-then-turned c = omega (arith, c.loop-made-test.true)

pub loop-made-smaller : goal.loop-made-smaller
loop-made-smaller c = omega (arith, c.loop-made-test.true)

pub place_after-after-requires : goal.place_after-after-requires
place_after-after-requires c = (omega (arith, few c.requires.runnable), c.if-job-o.false)

pub line_up-run-requires : goal.line_up-run-requires
line_up-run-requires c = c.requires.runnable

pub invariant_of-source : goal.invariant_of-source
invariant_of-source c = let r = c.requires.runnable in
    record { counted = its_count r; kind = ap (λ (h : Heading). h.object) r.told; whole = record_read r _ (omega arith) }

pub lost_rounds-requires : goal.lost_rounds-requires
lost_rounds-requires c = count_there _ c.requires.room.0 (c.loop-made-test.auto.ops ∙ c.loop-made.auto.ops)

-- what the loop leaves, after the last step, or where no process has operations left
pub returns : goal.returns
returns c =
    let over : Over c.args.stream.now c.args.job c.loop-made-test.reach.0 c.loop-made-test.object c.loop-made-test.nodes c.loop-made-test.ops c.loop-made-test.by =
    elim c.loop-made-test.branch [
      | else-loop-made-test w ↦ rw (w.reach-is, w.object-is, w.nodes-is, w.ops-is, w.by-is) (all_made c.loop-made.invariant.0 w.loop-made-test.false c.loop-made.invariant.1)
      | then-loop-made-test+else-job-o+then-turned+then-total-eq0 w ↦
          rw (w.reach-is, w.object-is, w.nodes-is, w.ops-is, w.by-is)
          (none_left c.requires.runnable
          (turning_over c.requires.runnable c.loop-made.invariant.0 w.loop-made-test.true w.scheduled-slot.ensures _ w.process-p.ensures w.place_after-after.result w.take_turn-turned.ensures w.if-turned.true w.if-job-o.false
          w.place_after-after.ensures w.working_on-total.ensures (record { of_nodes = w.take_turn-turned.auto.nodes; of_ops = w.take_turn-turned.auto.ops; of_by = w.take_turn-turned.auto.by }))
          w.if-total-eq0.true)
    ] in
    record { ran = over.ran; idle_behind = over.behind; lost_value = c.lost_rounds.ensures ∙ over.ran.journal.rounds }
