-- `idling::shut` meets its contract. Assumes nothing.
use mathlib.Core.Path.{sym, ap, subst, ◌∙◌}
use native.Mathlib.Omega.{arith}
use Rattle.basics.specs.Choice.{same}
use Rattle.basics.proofs.Choice.{same_equal, same_unequal}
use Rattle.windows.specs.Fields.{second}
use Rattle.windows.specs.Fine.{FineBlock}
use Rattle.idling.specs.Minutes.{window_of, no_window}
use Rattle.idling.specs.Eight.{Eight}
use Rattle.idling.proofs.Promised.{empty_shuts, block_there, block_fine, in_days, shut_promised}
use Rattle.idling.proofs.shut.Goals as goal

pub returns-then-is_empty-clause-job : goal.returns-then-is_empty-clause-job
unfolding same
returns-then-is_empty-clause-job c = empty_shuts _ _ (same_equal (sym c.is_empty.ensures ∙ c.if-is_empty.true))

pub over-booked-requires : goal.over-booked-requires
unfolding same
over-booked-requires c = block_fine _ (same_unequal (sym c.is_empty.ensures ∙ c.if-is_empty.false)) c.requires.0

pub shut_steps-requires : goal.shut_steps-requires
unfolding same
shut_steps-requires c =
    let pre = c.requires in
    let b = c.over-booked in
    let fine : FineBlock b.result = rw b.ensures (block_fine _ (same_unequal (sym c.is_empty.ensures ∙ c.if-is_empty.false)) pre.0) in
    (in_days fine c.windows.ensures, omega (arith, c.second.ensures, fine.seconds), pre.1, pre.2)

pub returns : goal.returns
unfolding same
returns c =
    let pre = c.requires in
    let some = same_unequal (sym c.is_empty.ensures ∙ c.if-is_empty.false) in
    let e = c.over-booked.ensures in
    let both = shut_promised (block_there _ some) (block_fine _ some pre.0) (subst (λ b. Eight no_window (window_of b) c.windows.result) e c.windows.ensures) (c.second.ensures ∙ ap second e) pre.1 pre.2 c.shut_steps.ensures in
    record { job = both.0; ready = both.1 }
