-- `run::run_all` meets its contract: the loop's invariant is `Turning`: places, memory and journal are those of the definition after so
-- many steps; and that the run is not over before its last step, so far. Assumes nothing.
use mathlib.Core.Path.{◌≡◌}
use Rattle.run.proofs.Loop.{Turning}
use Rattle.run.proofs.run_all.Given as goal

abbrev pub invariant-loop-made : goal.invariant-loop-made
invariant-loop-made l =
    Turning l.fn.stream l.fn.job l.made l.run.places l.total l.object l.initial.nodes l.initial.ops l.initial.by l.nodes l.ops l.by
    × (l.reach.0 ≡ l.fn.job.steps)
