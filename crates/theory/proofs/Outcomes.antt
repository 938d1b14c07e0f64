-- What an object knows of an operation by its phase, where the operation took an item or found none, is known of whoever took an item and of whoever
-- answers empty. Assumes nothing.
use mathlib.Core.Path.{◌≡◌, sym, subst}
use mathlib.Core.Logic.{◌≢◌}
use Prim.Native.Nat.{ℕ}
use Rattle.job.specs.declared.Kind.{Kind}
use Rattle.machine.specs.Notes.{Answer}
use Rattle.theory.proofs.Phases.{Phase}
use Rattle.theory.proofs.Phases.Phase.{going, in_round, linked, joined, done, got, bare}
use Rattle.theory.proofs.Deeds.{Deeds, Did, empty_phase, item_phase}

-- what is known of an item that was taken, and where none was found
abbrev pub Known : (ℕ → Type 0) → Type 0 → Phase → Type 0
Known Took Bare (going is_put) = Unit {0}
Known Took Bare in_round = Unit {0}
Known Took Bare linked = Unit {0}
Known Took Bare (joined n) = Took n × (n ≢ 0)
Known Took Bare done = Unit {0}
Known Took Bare (got n) = Took n × (n ≢ 0)
Known Took Bare bare = Bare

module _ (Took : ℕ → Type 0) (Bare : Type 0) (kind : Kind) (d : Deeds) where
  -- whoever took an item began a round
  pub taker_knows : (p : Phase) → Did kind p d → Known Took Bare p → d.taken ≢ 0 → Took d.taken × (d.start ≢ 0)
  taker_knows (going is_put) g w t = absurd (t g.not_taken)
  taker_knows in_round g w t = absurd (t g.going.not_taken)
  taker_knows linked g w t = absurd (t g.0.not_taken)
  taker_knows (joined n) g w t = (subst Took (sym g.1.took) w.0, g.1.started)
  taker_knows done g w t = absurd (t g.0.not_taken)
  taker_knows (got n) g w t = (subst Took (sym g.0.took) w.0, g.0.started)
  taker_knows bare g w t = absurd (t g.0.not_taken)

  pub empty_knows : (p : Phase) → Did kind p d → Known Took Bare p → d.answer ≡ Answer.empty → Bare
  empty_knows p g w a = subst (Known Took Bare) (empty_phase kind d p g a) w

  -- an item that was handed out is a node
  pub item_known : (p : Phase) → Did kind p d → Known Took Bare p → (n : ℕ) → d.answer ≡ Answer.item n → n ≢ 0
  item_known p g w n a = (subst (Known Took Bare) (item_phase kind d p g n a) w).1
