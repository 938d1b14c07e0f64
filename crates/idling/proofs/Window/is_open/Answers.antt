-- `idling::Window::is_open` meets its contract: each window is a part of the condition. Assumes nothing.
use mathlib.Core.Path.{◌≡◌, ◌∙◌}
use Prim.Native.Nat.{◌+◌}
use Rattle.windows.proofs.Tests.{or_met, or_missed}
use Rattle.windows.specs.Fields.{day_minutes}
use Rattle.idling.specs.Minutes.{holds, open_at}
use Rattle.idling.proofs.Window.is_open.Goals as goal
use Rattle.idling.proofs.Window.is_open.Goals.{then-holds, else-holds}

pub returns-then-holds-2 : goal.returns-then-holds-2
unfolding open_at
returns-then-holds-2 c =
    or_met _
    (elim c.if-holds.branch [
      | then-holds w ↦ or_met _ (w.value-is ∙ c.holds.ensures) (w.value-is ∙ w.if-holds.true)
      | else-holds w ↦ w.value-is ∙ w.holds-else-holds.ensures ∙ or_missed c.holds.ensures w.if-holds.false
    ])
    c.if-holds-2.true

pub returns-else-holds-2 : goal.returns-else-holds-2
unfolding open_at
returns-else-holds-2 c =
    let later : c.holds-else-holds-2.result ≡ holds c.args.self.tomorrow (c.args.self.opens + day_minutes) (c.args.self.closes + day_minutes) c.args.minute =
    c.holds-else-holds-2.ensures
    in
    later
    ∙ or_missed
    (elim c.if-holds.branch [
      | then-holds w ↦ or_met _ (w.value-is ∙ c.holds.ensures) (w.value-is ∙ w.if-holds.true)
      | else-holds w ↦ w.value-is ∙ w.holds-else-holds.ensures ∙ or_missed c.holds.ensures w.if-holds.false
    ])
    c.if-holds-2.false
