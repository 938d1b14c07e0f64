-- Drops. Document 02, request 4: "process p drops its begun operation, then stands before its next; with none begun it is idle". Each is
-- a numbered step, and nobody's: it is no operation's first or last, and it has no line. Step number 0 stands for none.
use Rattle.std.specs.Prelude.{ℕ, zero, suc}
use Rattle.basics.specs.Choice.{pick, same}
use Rattle.job.specs.declared.Slot.{Slot}
use Rattle.job.specs.declared.Slot.TheVariants.{Acts, Drops}
use Rattle.job.specs.Job.{Job}
use Rattle.machine.specs.Run.{State, state_after}
use Rattle.machine.specs.Journal.{earliest}

-- the operation that the next step drops, 0 if it drops none
unfoldable pub dropped_next : State → Slot → ℕ
dropped_next s (Acts p) = 0
dropped_next s (Drops p) =
    let o : ℕ = (s.places p.0).operation.0 in
    pick (s.begun o) o 0

-- the operation that step k drops, 0 if it drops none
unfoldable pub dropped : Job → ℕ → ℕ
dropped j zero = 0
dropped j (suc k) = dropped_next (state_after j k) (j.slot (suc k))

-- the step among the first k that drops operation o, 0 if none does
unfoldable pub drop : Job → ℕ → ℕ → ℕ
drop j k o = earliest (λ s. same (dropped j s) o) k
