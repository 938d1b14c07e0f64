-- `replayer::replay` meets its contract: by the four ways in which a replay ends. Assumes nothing.
use mathlib.Core.Path.{refl, sym, ◌∙◌}
use Rattle.replayer.proofs.Replied.{small_refused, read_refused, read_room, windows_refused, held_ready, accepted_replied}
use Rattle.basics.specs.Maps.{at}
use Rattle.job.specs.File.{zeros}
use Rattle.job.proofs.Answered.{refusal_counts, passed_on, none_passed_on}
use Rattle.job.proofs.Cleared.{front_length, cleared}
use native.Mathlib.Omega.{arith}
use Rattle.replayer.proofs.replay.Goals as goal

pub returns-then-report-limits : goal.returns-then-report-limits
returns-then-report-limits c = let p = c.args in
    small_refused p.limits p.file.now p.windows.now p.work.now p.report.now c.if-report-limits.true refl refl

pub returns-in_err-read : goal.returns-in_err-read
returns-in_err-read c = let p = c.args in
    let e = c.in_err-read.ensures in
    let exit = c.from_residual.ensures.1 in
    read_refused p.limits p.file.now p.windows.now p.work.now p.report.now c.if-report-limits.false (passed_on _ _ exit ∙ e.number) (λ z. refusal_counts _ (sym (passed_on _ _ exit) ∙ z)) (none_passed_on _ _ exit ∙ e.size) e.work

pub slice_bounds-clear-end : goal.slice_bounds-clear-end
slice_bounds-clear-end c = let e = c.in_ok-read.ensures in
    let p = c.args in
    omega (arith, c.most_stream-end.ensures, read_room p.limits p.file.now p.windows.now p.work.now p.report.now c.if-report-limits.false (sym e.number) c.read.new.work c.read.auto.work)

pub slice_bounds-clear-end-then-bad_windows : goal.slice_bounds-clear-end-then-bad_windows
slice_bounds-clear-end-then-bad_windows c = let e = c.in_ok-read.ensures in
    let p = c.args in
    front_length _ c.most_stream-end.ensures (read_room p.limits p.file.now p.windows.now p.work.now p.report.now c.if-report-limits.false (sym e.number) c.read.new.work c.read.auto.work)

pub returns-then-bad_windows : goal.returns-then-bad_windows
unfolding zeros
returns-then-bad_windows c = let e = c.in_ok-read.ensures in
    let p = c.args in
    let room = read_room p.limits p.file.now p.windows.now p.work.now p.report.now c.if-report-limits.false (sym e.number) c.read.new.work c.read.auto.work in
    windows_refused p.limits p.file.now p.windows.now p.work.now p.report.now c.if-report-limits.false (sym e.number) c.read.new.work e.work (sym c.bad_windows.ensures ∙ c.if-bad_windows.true) refl refl
    (cleared c.read.new.work c.most_stream-end.ensures room c.clear.new.to c.clear.ensures)

pub replay_held-length-requires : goal.replay_held-length-requires
unfolding at
replay_held-length-requires c = let e = c.in_ok-read.ensures in
    let p = c.args in
    record {
      sound = (c.requires, sym c.bad_windows.ensures ∙ c.if-bad_windows.false);
      limits_in_bounds = held_ready p.limits p.file.now p.windows.now p.work.now p.report.now c.if-report-limits.false (sym e.number) c.requires (record { byte = λ i. omega (arith, c.type_inv.file i) }) c.read.new.work e.work c.read.auto.work;
    }

pub returns : goal.returns
returns c = let e = c.in_ok-read.ensures in
    let p = c.args in
    accepted_replied p.limits p.file.now p.windows.now p.work.now p.report.now c.if-report-limits.false (sym e.number) c.requires c.read.new.work e.work (sym c.bad_windows.ensures ∙ c.if-bad_windows.false) refl c.replay_held-length.ensures.told c.replay_held-length.ensures.cleared
