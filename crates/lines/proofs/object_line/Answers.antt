-- `lines::object_line` meets its contract. Assumes nothing.
use mathlib.Core.Path.{sym, ap}
use Rattle.basics.specs.Text.{text}
use Rattle.wording.specs.Report.{object_line}
use Rattle.text.proofs.Pages.{room_of, wrote_as}
use Rattle.lines.proofs.object_line.Goals as goal

pub put_bytes-requires : goal.put_bytes-requires
unfolding text object_line
put_bytes-requires c = room_of (sym (ap object_line c.in-Queue.is)) c.requires

pub put_bytes-requires-in-Stack : goal.put_bytes-requires-in-Stack
unfolding text object_line
put_bytes-requires-in-Stack c = room_of (sym (ap object_line c.in-Stack.is)) c.requires

pub put_bytes-requires-in-TwoWay : goal.put_bytes-requires-in-TwoWay
unfolding text object_line
put_bytes-requires-in-TwoWay c = room_of (sym (ap object_line c.in-TwoWay.is)) c.requires

pub returns-in-Queue : goal.returns-in-Queue
unfolding text object_line
returns-in-Queue c = wrote_as (sym (ap object_line c.in-Queue.is)) c.put_bytes.ensures

pub returns-in-Stack : goal.returns-in-Stack
unfolding text object_line
returns-in-Stack c = wrote_as (sym (ap object_line c.in-Stack.is)) c.put_bytes-in-Stack.ensures

pub returns-in-TwoWay : goal.returns-in-TwoWay
unfolding text object_line
returns-in-TwoWay c = wrote_as (sym (ap object_line c.in-TwoWay.is)) c.put_bytes-in-TwoWay.ensures
