-- `run::line_up` meets its contract: the places before p are lined up. Assumes nothing.
use mathlib.Core.Path.{◌≡◌, ap, ◌∙◌}
use native.Mathlib.Omega.{arith}
use Prim.Native.Nat.{ℕ}
use lib.ListN.{replicate}
use Rattle.job.specs.Job.{job_of}
use Rattle.job.specs.Idle.{nobody}
use Rattle.machine.specs.declared.Place.{Place}
use Rattle.machine.specs.Run.{before, operation_after}
use Rattle.hands.specs.declared.Source.{Source}
use Rattle.hands.proofs.Hands.{counts}
use Rattle.run.specs.Promise.{Runnable, run_places}
use Rattle.run.proofs.Bounds.{few, free}
use Rattle.run.proofs.Places.{LinedUp, lined_first, lined_all}
use Rattle.run.proofs.line_up.Goals as goal

-- nobody's place, in all cells at first
first_is : (s : Source) {r : Place} → Runnable s.stream.now s.heading → r ≡ before (job_of s.stream.now) (operation_after (job_of s.stream.now) nobody s.heading.count) → LinedUp (job_of s.stream.now) 0 (replicate run_places r)
first_is s run e =
    let j = job_of s.stream.now in
    lined_first _ (free run) _ (e ∙ ap (λ (n : ℕ). before j (operation_after j nobody n)) (counts s))

pub loop-p-init : goal.loop-p-init
loop-p-init c = first_is c.args.source c.requires c.place_after-nobody.ensures

pub returns : goal.returns
returns c = lined_all _ _ (omega arith) c.loop-p.invariant

pub place_after-nobody-requires : goal.place_after-nobody-requires
place_after-nobody-requires c = (omega (arith, few c.requires), omega arith)

pub place_after-requires : goal.place_after-requires
place_after-requires c = (omega (arith, few c.requires), omega arith)
