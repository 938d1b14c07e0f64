-- `text::Page::put_decimal` meets its contract. Assumes nothing.
use mathlib.Core.Path.{refl, ap}
use Prim.Native.Nat.{◌+◌}
use lib.ListN.{length-set}
use Rattle.text.proofs.Digits.{backward_none, backward_more, backward_all}
use Rattle.text.proofs.Page.put_decimal.Goals as goal

pub loop-i-init : goal.loop-i-init
loop-i-init c = record { same_place = refl; same_memory = refl; as_long = refl; digits = backward_none _ _ c.width.ensures }

pub loop-i-preserved : goal.loop-i-preserved
loop-i-preserved c =
    let kept = c.loop-i.invariant in
    record { same_place = kept.same_place; same_memory = kept.same_memory; as_long = simp length-set kept.as_long; digits = backward_more c.requires.room kept.digits c.loop-i-test.true }

pub returns : goal.returns
returns c =
    record { fits = c.requires; lays = backward_all c.loop-i.invariant.digits c.loop-i-test.false; behind = ap (λ k. c.args.self.now.at + k) c.width.ensures; same_memory = c.loop-i.invariant.same_memory }
