-- `run::working` meets its contract: those counted and those among the places that are left make the whole. Assumes nothing.
use mathlib.Core.Path.{◌≡◌}
use Prim.Native.Nat.{◌+◌, ◌≤◌}
use lib.ListN.{drop}
use Rattle.run.specs.Promise as Promise
use Rattle.run.proofs.working.Given as goal

abbrev pub invariant-loop-place : goal.invariant-loop-place
invariant-loop-place l = (l.total ≤ l.place-index) × (l.total + Promise.working l.fn.count (drop l.place-index l.fn.run.places) ≡ Promise.working l.fn.count l.fn.run.places)
