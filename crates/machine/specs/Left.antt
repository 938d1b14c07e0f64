-- What is left after a run. Document 01, "The report, whole": "`left` is read from the shared memory after the last step, not from the
-- record: for a queue the nodes linked behind Head, in link order; for a stack the unmarked nodes from Top down through the nexts."
-- Document 02, request 3: "Contents are the live nodes upward from the sentinel, listed top first."
use Rattle.std.specs.Prelude.{ℕ, zero, suc, List, [], ◌∷◌, reverse}
use Rattle.basics.specs.Choice.{pick, same}
use Rattle.job.specs.declared.Kind.{Kind}
use Rattle.job.specs.declared.Kind.TheVariants.{Queue, Stack, TwoWay}
use Rattle.job.specs.Job.{Job}
use Rattle.machine.specs.Memory.{Memory}
use Rattle.machine.specs.Run.{state_after}
use Rattle.machine.specs.Effects.{sift}

-- the nodes from `i` on through the nexts, or the uppers, until none; at most `count`, and no walk is longer than the number of operations
unfoldable pub walk : (ℕ → ℕ) → ℕ → ℕ → List ℕ
walk next i zero = []
walk next i (suc count) =
    let later : List ℕ = walk next (next i) count in
    pick (same i 0) [] (i ∷ later)

unfoldable pub left_in : Kind → ℕ → Memory → List ℕ
left_in Queue count m = walk m.next (m.next m.head) count
left_in Stack count m = sift (λ i. same (m.mark i) 0) (walk m.next m.top count)
left_in TwoWay count m = sift (λ i. same (m.mark i) 0) (reverse (walk m.upper (m.upper 0) count))

-- the items left after k steps, front or top first
unfoldable pub left : Job → ℕ → List ℕ
left j k = left_in j.object j.count (state_after j k).memory
