-- `stage::put_stage` meets its contract. Assumes nothing.
use mathlib.Core.Path.{ap, sym, ◌∙◌}
use mathlib.Core.List.{List, ◌++◌}
use Prim.Native.Nat.{ℕ}
use Rattle.text.proofs.Pages.{room_same, wrote_as}
use Rattle.stage.proofs.Fields.{held}
use Rattle.stage.proofs.Printing.{stage_printed}
use Rattle.stage.proofs.put_stage.Goals as goal

pub put_signed-requires : goal.put_signed-requires
put_signed-requires c =
    room_same (ap (λ (l : List ℕ). c.args.label.now ++ l) (sym (stage_printed c.args.field (held c.millimetres.type_inv ∙ c.millimetres.ensures) (held c.centimetres.type_inv ∙ c.centimetres.ensures)))) c.requires

pub returns : goal.returns
returns c =
    wrote_as (ap (λ (l : List ℕ). c.args.label.now ++ l) (stage_printed c.args.field (held c.millimetres.type_inv ∙ c.millimetres.ensures) (held c.centimetres.type_inv ∙ c.centimetres.ensures))) c.put_signed.ensures
