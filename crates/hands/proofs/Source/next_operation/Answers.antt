-- `Source::next_operation` meets its contract: the search from i on finds what the search from its beginning finds. Assumes nothing.
use native.Mathlib.Omega.{arith}
use mathlib.Core.Path.{◌≡◌, sym, ap, ◌∙◌}
use Prim.Native.Nat.{◌+◌}
use Rattle.basics.specs.Choice.{same}
use Rattle.job.proofs.Recorded.{has_record}
use Rattle.hands.proofs.Hands.{counts, search_begins, search_finds, search_passes, search_ends}
use Rattle.hands.proofs.Source.next_operation.Goals as goal

pub loop-i-init : goal.loop-i-init
loop-i-init c = search_begins _ _ _ (omega (arith, counts c.args.self))

pub owner-requires : goal.owner-requires
owner-requires c = has_record _ (counts c.args.self) c.args.self.whole (omega arith)

pub returns-then-eq : goal.returns-then-eq
unfolding same
returns-then-eq c = sym (c.loop-i.invariant ∙ search_finds _ _ _ (omega (arith, counts c.args.self)) (ap (λ q. same q c.args.p.0) (sym c.owner.ensures) ∙ sym c.eq.ensures ∙ c.if-eq.true))

pub loop-i-preserved : goal.loop-i-preserved
unfolding same
loop-i-preserved c = c.loop-i.invariant ∙ search_passes _ _ _ (omega (arith, counts c.args.self)) (ap (λ q. same q c.args.p.0) (sym c.owner.ensures) ∙ sym c.eq.ensures ∙ c.if-eq.false)

pub returns : goal.returns
returns c =
    let end : c.loop-i.i ≡ c.args.self.heading.count + 1 = omega arith in
    let past = search_ends _ _ _ (omega (arith, counts c.args.self)) in
    sym (c.loop-i.invariant ∙ past ∙ end)
