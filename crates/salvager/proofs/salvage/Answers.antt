-- `salvager::salvage` meets its contract: nothing is touched before both memories are known to be large enough, and the work memory is cleared. What is true
-- of every salvage is proved of the definitions (`remains`). Assumes nothing.
use mathlib.Core.Path.{ap, ◌∙◌}
use Prim.Native.Nat.{ℕ, ◌≤◌}
use mathlib.Core.List.{List, ◌++◌}
use lib.ListN.{length}
use Rattle.basics.specs.Maps.{at}
use Rattle.job.specs.File.{zeros}
use Rattle.job.specs.Limits.{most_stream}
use Rattle.job.proofs.Cleared.{front_length, cleared}
use Rattle.salvager.proofs.Answered.{claimed, small_told, small_work_room, small_out_room, large_told}
use native.Mathlib.Omega.{arith}
use Rattle.salvager.proofs.salvage.Goals as goal

pub returns-then-work-end : goal.returns-then-work-end
unfolding at
returns-then-work-end c = let p = c.args in
    let bytes = c.type_inv.file in
    small_told p.limits p.file.now p.work.now p.out.now (small_work_room p.limits p.work.now p.out.now (omega (arith, c.if-work-end.true, c.most_stream-end.ensures)))
    (claimed c.requires p.file.now (record { byte = λ i. (bytes i).fits }))

pub returns-then-out-most_file : goal.returns-then-out-most_file
unfolding at
returns-then-out-most_file c = let p = c.args in
    let bytes = c.type_inv.file in
    small_told p.limits p.file.now p.work.now p.out.now (small_out_room p.limits p.work.now p.out.now (omega (arith, c.if-out-most_file.true, c.most_file.ensures)))
    (claimed c.requires p.file.now (record { byte = λ i. (bytes i).fits }))

pub slice_bounds-clear-end-2 : goal.slice_bounds-clear-end-2
slice_bounds-clear-end-2 c = let s = c.save_file-answer in
    let end = c.most_stream-end.ensures in
    front_length s.new.work end (omega (arith, c.if-work-end.false, end, s.auto.work))

pub returns : goal.returns
unfolding at zeros
returns c = let p = c.args in
    let bytes = c.type_inv.file in
    let s = c.save_file-answer in
    let end = c.most_stream-end.ensures in
    let room : most_stream p.limits ≤ length p.work.now = omega (arith, c.if-work-end.false, end) in
    let cleared_front = cleared s.new.work end (omega (arith, room, s.auto.work)) c.clear.new.to c.clear.ensures in
    large_told c.requires p.file.now p.work.now p.out.now _ s.new.out s.result room (omega (arith, c.if-out-most_file.false, c.most_file.ensures))
    (cleared_front ∙ ap (λ (x : List ℕ). zeros (most_stream p.limits) ++ x) s.ensures.behind)
    s.ensures.saved
    (claimed c.requires p.file.now (record { byte = λ i. (bytes i).fits }))
