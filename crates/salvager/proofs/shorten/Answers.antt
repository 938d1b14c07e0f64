-- `salvager::shorten` meets its contract: the count is stored in its place. Assumes nothing.
use mathlib.Core.Path.{◌≡◌, ap, ◌∙◌}
use Prim.Native.Nat.{◌+◌}
use Rattle.job.specs.Stream.{schedule_length}
use Rattle.remains.specs.Kept.{records_end, entries_kept}
use Rattle.salvager.proofs.InPlace.{in_place}
use native.Mathlib.Omega.{arith}
use Rattle.salvager.proofs.shorten.Goals as goal

pub returns : goal.returns
unfolding entries_kept
returns c = let p = c.args in
    let start = c.records_end-start.result in
    let begins : start ≡ records_end p.s.now = c.records_end-start.ensures ∙ ap records_end c.over-stream.ensures in
    let named : c.schedule_length.result ≡ schedule_length p.s.now = c.schedule_length.ensures ∙ ap schedule_length c.over-stream.ensures in
    let count : c.min-kept.result ≡ entries_kept p.s.now = omega (arith, c.min-kept.ensures, c.from.ensures, named, begins) in
    record { end = omega (arith, begins); stream = in_place p.s.now c.put_word.new.to (start + c.min-kept.result) c.min-kept.result c.requires.1 (omega (arith, begins)) count c.put_word.ensures }
