-- An operation with an effect is in the record once, and one without is not in it. Assumes nothing.
use mathlib.Core.Path.{◌≡◌, refl, sym, ap, subst, ◌∙◌}
use mathlib.Core.Logic.{◌≢◌, ◌⊎◌, inl, inr}
use Prim.Native.Nat.{ℕ, zero, suc, ◌+◌, ◌≤◌}
use mathlib.Core.List.Memᴰ
use mathlib.Core.List.{List, [], ◌∷◌, ◌++◌}
use native.Mathlib.Omega.{arith}
use Rattle.basics.specs.Choice.{same}
use Rattle.basics.proofs.Choice.{split}
use Rattle.job.specs.declared.Kind.{Kind}
use Rattle.machine.specs.Multiplicity.{Line}
use Rattle.machine.specs.Multiplicity.Line.{put, takes, empty}
use Rattle.machine.specs.Journal.{taken}
use Rattle.machine.specs.Effects.{takers, effect}
use Rattle.machine.specs.Effects.Effect.{none, stands}
use Rattle.machine.specs.Record.{Recorded, line_at, lines_to}
use Rattle.machine.specs.Explained.{members, occurrences, times}
use Rattle.machine.proofs.Lists.{Distinct, numbers_distinct, sift_distinct, occurs_never, occurs_once}
use Rattle.machine.proofs.Effected.{Effected, effected, line_of_effect}
use Rattle.machine.proofs.Effected.Effected.{by_put, by_take, by_empty, by_none}
use Rattle.machine.proofs.Placed.{AtStep, at_step}
use Rattle.machine.proofs.Placed.AtStep.{no_line, a_line}
use Rattle.theory.proofs.Course.{Course}
use Rattle.theory.proofs.Explains.Owns.{member, Own}

times_append : (o : ℕ) (a b : List Recorded) → times o (a ++ b) ≡ times o a + times o b
unfolding times
times_append o [] b = omega arith
times_append o (r ∷ a) b = omega (arith, times_append o a b)

alone_distinct : (o : ℕ) → Distinct (o ∷ [])
alone_distinct o = Distinct.more Memᴰ.not-nil Distinct.none

-- a line has each of its members once
members_distinct : {kind : Kind} (c : Course kind) (k o s : ℕ) (line : Line) → effect kind c.log c.count k o ≡ stands s line → Distinct (members line)
unfolding members takers
members_distinct {kind} c k o s line e = go (effected kind c.log c.count k o)
  where
    go : Effected kind c.log c.count k o → Distinct (members line)
    go (by_put l h) = let is : put o ≡ line = cc in subst (λ x. Distinct (members x)) is (alone_distinct o)
    go (by_take l t h) =
        let is : takes (taken c.log k o) (takers c.log c.count k (taken c.log k o)) ≡ line = cc in
        subst (λ x. Distinct (members x)) is (sift_distinct (λ q. same (taken c.log k q) (taken c.log k o)) (numbers_distinct c.count))
    go (by_empty l t a h) = let is : empty o ≡ line = cc in subst (λ x. Distinct (members x)) is (alone_distinct o)
    go (by_none l t a h) = let z : ◌≡◌ {A = ℕ} 0 1 = cc in absurd (omega arith)

-- a sum over steps that is nothing at each, and one that is one at a single step
module _ {kind : Kind} (c : Course kind) (k o : ℕ) where
  never_to : (n : ℕ) → ((s : ℕ) → 1 ≤ s → s ≤ n → times o (line_at kind c.log c.count k s) ≡ 0) → times o (lines_to kind c.log c.count k n) ≡ 0
  unfolding lines_to times
  never_to zero h = refl
  never_to (suc n) h = omega (arith, times_append o (lines_to kind c.log c.count k n) (line_at kind c.log c.count k (suc n)), never_to n (λ s low high. h s low (omega arith)), h (suc n) (omega arith) (omega arith))

  once_to : (n t : ℕ) → 1 ≤ t → t ≤ n → times o (line_at kind c.log c.count k t) ≡ 1 → ((s : ℕ) → 1 ≤ s → s ≤ n → s ≢ t → times o (line_at kind c.log c.count k s) ≡ 0) → times o (lines_to kind c.log c.count k n) ≡ 1
  unfolding lines_to
  once_to zero t low high here h = absurd (omega arith)
  once_to (suc n) t low high here h =
      let below : t ≤ n → times o (lines_to kind c.log c.count k n) ≡ 1 = λ b. once_to n t low b here (λ s l b n. h s l (omega arith) n) in
      go below (split t (suc n))
    where
      go : (t ≤ n → times o (lines_to kind c.log c.count k n) ≡ 1) → (t ≡ suc n) ⊎ (t ≢ suc n) → times o (lines_to kind c.log c.count k n ++ line_at kind c.log c.count k (suc n)) ≡ 1
      go below (inl e) =
          let none_before : times o (lines_to kind c.log c.count k n) ≡ 0 = never_to n (λ s l b. h s l (omega arith) (λ p. omega arith)) in
          let one_here : times o (line_at kind c.log c.count k (suc n)) ≡ 1 = subst (λ s. times o (line_at kind c.log c.count k s) ≡ 1) e here in
          omega (arith, times_append o (lines_to kind c.log c.count k n) (line_at kind c.log c.count k (suc n)))
      go below (inr d) =
          let none_here : times o (line_at kind c.log c.count k (suc n)) ≡ 0 = h (suc n) (omega arith) (omega arith) (λ p. d (sym p)) in
          omega (arith, times_append o (lines_to kind c.log c.count k n) (line_at kind c.log c.count k (suc n)), below (omega arith))

  -- the line at a step does not have an operation whose effect stands elsewhere
  not_elsewhere : (s : ℕ) → 1 ≤ s → ((line : Line) → effect kind c.log c.count k o ≡ stands s line → ⊥) → times o (line_at kind c.log c.count k s) ≡ 0
  unfolding times
  not_elsewhere s low h = go (at_step kind c.log c.count k s)
    where
      go : AtStep kind c.log c.count k s → times o (line_at kind c.log c.count k s) ≡ 0
      go (no_line n e) = ap (times o) e
      go (a_line line f e) =
          let absent : occurrences o (members line) ≡ 0 = occurs_never o (members line) (λ m. h line (member c k s line o low f m).its_effect) in
          ap (times o) e ∙ omega arith

  pub without_effect : effect kind c.log c.count k o ≡ none → times o (lines_to kind c.log c.count k k) ≡ 0
  without_effect e = never_to k (λ s low high. not_elsewhere s low (λ line h. let z : ◌≡◌ {A = ℕ} 0 1 = cc in omega arith))

  pub with_effect : (s : ℕ) (line : Line) → effect kind c.log c.count k o ≡ stands s line → Own c k o s line → times o (lines_to kind c.log c.count k k) ≡ 1
  unfolding times
  with_effect s line e w =
      let there : occurrences o (members line) ≡ 1 = occurs_once o (members_distinct c k o s line e) w.its_line in
      let here : times o (line_at kind c.log c.count k s) ≡ 1 = ap (times o) (line_of_effect kind c.log c.count k s line w.of_maker) ∙ omega arith in
      once_to k s w.from_one w.to_end here (λ t low high d. not_elsewhere t low (λ other h. d (cc)))
