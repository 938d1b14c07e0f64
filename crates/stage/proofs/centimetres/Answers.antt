-- `stage::centimetres` meets its contract. Assumes nothing.
use mathlib.Core.Path.{sym, ap, ◌∙◌}
use Prim.Native.Nat.{ℕ, ◌≤◌}
use native.Mathlib.Omega.{arith}
use lib.IntN.{neg_ℤ, pos}
use Rattle.std.proofs.lemmas.Int.{ints}
use Rattle.std.proofs.Common.{rules}
use Rattle.stage.specs.Centimetres.{nearest, centimetres}
use Rattle.stage.proofs.Fields.{held}
use Rattle.stage.proofs.Printing.{few_centimetres, centimetres_below, centimetres_above}
use Rattle.stage.proofs.centimetres.Goals as goal

pub overflow_cast-cm : goal.overflow_cast-cm
overflow_cast-cm c =
    let few : c.nearest-cm.result ≤ 3277 = few_centimetres c.unsigned_abs.ensures.bound c.nearest-cm.ensures in
    search rules

pub overflow_sub-result : goal.overflow_sub-result
overflow_sub-result c =
    let few : c.nearest-cm.result ≤ 3277 = few_centimetres c.unsigned_abs.ensures.bound c.nearest-cm.ensures in
    search rules

pub returns-then-is_negative : goal.returns-then-is_negative
returns-then-is_negative c =
    let few : c.nearest-cm.result ≤ 3277 = few_centimetres c.unsigned_abs.ensures.bound c.nearest-cm.ensures in
    omega (arith, ints) ∙ ap (λ (n : ℕ). neg_ℤ (pos n)) (c.nearest-cm.ensures ∙ ap nearest c.unsigned_abs.ensures.value) ∙ centimetres_below _ (sym c.is_negative.ensures ∙ c.if-is_negative.true) ∙ ap centimetres (held c.ranges.mm.sfits)

pub returns-else-is_negative : goal.returns-else-is_negative
returns-else-is_negative c =
    let few : c.nearest-cm.result ≤ 3277 = few_centimetres c.unsigned_abs.ensures.bound c.nearest-cm.ensures in
    omega (arith, ints) ∙ ap pos (c.nearest-cm.ensures ∙ ap nearest c.unsigned_abs.ensures.value) ∙ centimetres_above _ (sym c.is_negative.ensures ∙ c.if-is_negative.false) ∙ ap centimetres (held c.ranges.mm.sfits)
