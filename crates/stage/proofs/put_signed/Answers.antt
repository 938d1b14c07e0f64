-- `stage::put_signed` meets its contract. Assumes nothing.
use mathlib.Core.Path.{◌≡◌, ap, sym}
use mathlib.Core.List.{List, ◌++◌}
use Prim.Native.Nat.{ℕ}
use Rattle.basics.specs.Text.{text}
use Rattle.text.proofs.Pages.{room_same, room_then, wrote_as, wrote_then}
use Rattle.std.specs.Int.{is_negative}
use mir.Syntax.{w16}
use mir.Val.{to_z, of_z}
use Rattle.stage.proofs.Fields.{held}
use Rattle.stage.proofs.Printing.{printed_below, printed_above}
use Rattle.stage.proofs.put_signed.Goals as goal

pub put_labelled-requires : goal.put_labelled-requires
unfolding text
put_labelled-requires c =
    let sign : c.is_negative.result ≡ is_negative (to_z w16 (of_z w16 c.args.n)) = c.is_negative.ensures in
    room_same (sym (printed_below (held c.ranges.n.sfits) sign c.unsigned_abs-digits.ensures.value c.if-is_negative.true)) (room_then c.requires c.put_bytes.ensures)

pub returns-then-is_negative : goal.returns-then-is_negative
unfolding text
returns-then-is_negative c =
    wrote_then c.put_bytes.ensures (wrote_as (printed_below (held c.ranges.n.sfits) c.is_negative.ensures c.unsigned_abs-digits.ensures.value c.if-is_negative.true) c.put_labelled.ensures)

pub put_labelled-requires-else-is_negative : goal.put_labelled-requires-else-is_negative
put_labelled-requires-else-is_negative c =
    room_same (ap (λ (l : List ℕ). c.args.label.now ++ l) (sym (printed_above (held c.ranges.n.sfits) c.is_negative.ensures c.unsigned_abs-digits.ensures.value c.if-is_negative.false))) c.requires

pub returns-else-is_negative : goal.returns-else-is_negative
returns-else-is_negative c =
    wrote_as (ap (λ (l : List ℕ). c.args.label.now ++ l) (printed_above (held c.ranges.n.sfits) c.is_negative.ensures c.unsigned_abs-digits.ensures.value c.if-is_negative.false)) c.put_labelled-else-is_negative.ensures
