-- `lines::Left::put_items` meets its contract. Assumes nothing.
use mathlib.Core.Path.{sym, ap}
use Rattle.text.proofs.Pages.{room_same, wrote_as}
use Rattle.text.proofs.Rest.{rest_all, rest_room, rest_less}
use Rattle.wording.specs.Report.{spaced}
use Rattle.lines.specs.Walks.{items}
use Rattle.lines.proofs.Spaced.{spaced_first, spaced_none}
use Rattle.lines.proofs.Left.put_items.Goals as goal

pub loop-item-init : goal.loop-item-init
loop-item-init c = (tt, tt, rest_all (room_same (ap (λ l. spaced (items l)) (sym c.into_iter-item-iterator.ensures.into_iter_gives)) c.requires))

pub put_spaced-requires : goal.put_spaced-requires
put_spaced-requires c = rest_room _ (spaced_first c.in-Some.ensures.steps c.loop-item.invariant.2)

pub loop-item-preserved : goal.loop-item-preserved
loop-item-preserved c = (tt, tt, rest_less _ (spaced_first c.in-Some.ensures.steps c.loop-item.invariant.2) c.put_spaced.ensures)

pub returns : goal.returns
returns c = wrote_as (ap (λ l. spaced (items l)) c.into_iter-item-iterator.ensures.into_iter_gives) (spaced_none c.in-None.ensures.steps.0 c.loop-item.invariant.2)
