-- `report::lost_line` meets its contract. Assumes nothing.
use mathlib.Core.Path.{◌≡◌, sym, ap}
use Prim.Native.Nat.{ℕ}
use native.Mathlib.Omega.{arith}
use Rattle.basics.specs.Text.{text}
use Rattle.job.specs.declared.Kind.{Kind}
use Rattle.wording.specs.Report.{lost_line}
use Rattle.text.proofs.Pages.{room_front, room_rest, wrote_nothing, wrote_as, wrote_both}
use Rattle.report.proofs.lost_line.Goals as goal

-- the line of an object that is known
known : {object kind : Kind} (n : ℕ) → object ≡ kind → lost_line kind n ≡ lost_line object n
known n is = sym (ap (λ k. lost_line k n) is)

pub put_labelled-requires : goal.put_labelled-requires
unfolding text lost_line
put_labelled-requires c = room_front _ (known c.args.lost c.in-Queue.is) c.requires

pub put_bytes-requires : goal.put_bytes-requires
unfolding text lost_line
put_bytes-requires c = room_rest (known c.args.lost c.in-Queue.is) c.requires c.put_labelled.ensures

pub returns-in-Queue : goal.returns-in-Queue
unfolding text lost_line
returns-in-Queue c = wrote_both (known c.args.lost c.in-Queue.is) c.put_labelled.ensures c.put_bytes.ensures

pub returns-in-Stack : goal.returns-in-Stack
unfolding text lost_line
returns-in-Stack c = wrote_as (known c.args.lost c.in-Stack.is) (wrote_nothing (omega (arith, c.requires.room)))

pub returns-in-TwoWay : goal.returns-in-TwoWay
unfolding text lost_line
returns-in-TwoWay c = wrote_as (known c.args.lost c.in-TwoWay.is) (wrote_nothing (omega (arith, c.requires.room)))
