-- `job::Stream::owner` meets its contract. Assumes nothing.
use mathlib.Core.Path.{sym, ap, ◌∙◌}
use Prim.Native.Nat.{ℕ}
use Rattle.basics.specs.Maps.{at}
use Rattle.job.specs.Stream.{process}
use Rattle.job.proofs.Recorded.{owner_said}
use Rattle.job.proofs.Stream.owner.Goals as goal

pub returns : goal.returns
unfolding process at
returns c = ap (λ s. at s c.record_at-place.result) c.self.view_is ∙ ap (λ (i : ℕ). at c.args.self.now i) c.record_at-place.ensures ∙ sym (owner_said _ c.requires.one)
