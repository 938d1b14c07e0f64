-- `job::Stream::value` meets its contract. Assumes nothing.
use mathlib.Core.Path.{sym, ap, ◌∙◌}
use Prim.Native.Nat.{ℕ, ◌+◌}
use Rattle.basics.specs.Words.{word}
use Rattle.job.specs.Stream.{value}
use Rattle.job.proofs.Recorded.{field_said}
use Rattle.job.proofs.Stream.value.Goals as goal

pub returns : goal.returns
unfolding value
returns c = c.word_at.ensures ∙ ap (λ s. word s (c.record_at-place.result + 2)) c.self.view_is ∙ ap (λ (i : ℕ). word c.args.self.now (i + 2)) c.record_at-place.ensures ∙ sym (field_said _ c.requires.one)
