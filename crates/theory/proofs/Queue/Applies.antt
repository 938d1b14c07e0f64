-- The line at each step of a queue's course turns the contents before the step into those after it. Assumes nothing.
use mathlib.Core.Path.{◌≡◌, refl, sym, ap, subst, subst₂, ◌∙◌}
use mathlib.Core.Logic.{◌≢◌, ◌⊎◌, inl, inr}
use Prim.Native.Nat.{ℕ, suc, ◌<◌}
use mathlib.Core.Bool.{false}
use mathlib.Core.List.{List, [], ◌∷◌, ◌++◌}
use native.Mathlib.Omega.{arith}
use Rattle.basics.proofs.Choice.{split}
use Rattle.job.specs.declared.Kind.TheVariants.{Queue}
use Rattle.machine.specs.declared.Event.{Event}
use Rattle.machine.specs.declared.Event.TheVariants.{Round, Linked, Moved}
use Rattle.machine.specs.Multiplicity.{add}
use Rattle.machine.specs.Notes.{Answer}
use Rattle.machine.specs.Journal.{answer, start}
use Rattle.machine.specs.Effects.{is_empty, first_move, takes_at}
use Rattle.machine.specs.Record.{line_at}
use Rattle.machine.specs.Left.{left_in}
use Rattle.machine.proofs.Stamps.{first_move_stays}
use Rattle.machine.proofs.Effected.{Lineless, Lineless.quiet, Lineless.late, found_empty, taker_in, line_of_none}
use Rattle.theory.proofs.Course.{Course, PassesIn, ActsIn, passes_event}
use Rattle.theory.proofs.Lines.{line_of_link, line_of_takers, line_of_empty, line_of_round, mover_took}
use Rattle.theory.proofs.Laws.{Applies}
use Rattle.theory.proofs.Applies.{applies_none, applies_put, applies_empty, applies_takes}
use Rattle.theory.proofs.Nodes.{Nodes.end, nodes_walk}
use Rattle.theory.proofs.Queue.Memory.{Sound, Still, Change, change_stamps}
use Rattle.theory.proofs.Queue.Keeps.{Turns, Turns.keeps, Turns.adds, Turns.removes, change_keeps}
use Rattle.theory.proofs.Queue.Contents.{walk_contents}
use Rattle.theory.proofs.Queue.Now.{moved, moved_is, now, front}
use Rattle.theory.proofs.Queue.Always.{always, step_changes}
use Rattle.theory.proofs.Queue.Results.{empty_found_none}

module _ (c : Course Queue) where
  -- the nodes behind Head after s steps
  abbrev pub contents : ℕ → List ℕ
  contents s = left_in Queue c.count (c.memory s)

  pub contents_none : (s : ℕ) → front c s ≡ 0 → contents s ≡ []
  unfolding left_in front
  contents_none s z = nodes_walk c.count (end z) (omega arith)

  module _ (s : ℕ) {o : ℕ} (a : ActsIn c s o) where
    changes : Change c.count s o (now c s) (c.log (suc s)).event (now c (suc s))
    changes = step_changes c (always c s) a

    step_turns : Turns o (contents s) (contents (suc s)) (c.log (suc s)).event
    unfolding left_in
    step_turns =
        let d : Sound c.count s (now c s) = (always c s).sound in
        let kept : (f : Sound c.count (suc s) (now c (suc s))) × Turns o d.contents f.contents (c.log (suc s)).event = change_keeps changes d in
        subst₂ (λ l r. Turns o l r (c.log (suc s)).event) (sym (walk_contents d)) (sym (walk_contents kept.0)) kept.1

  module _ (k s : ℕ) (early : s < k) where
    -- the line at step s + 1 turns the contents
    abbrev Turned : Type 0
    Turned = Applies Queue (line_at Queue c.log c.count k (suc s)) (contents s) (contents (suc s))

    at_none : Lineless (c.log (suc s)).event → contents (suc s) ≡ contents s → Turned
    at_none e same = applies_none (line_of_none Queue c.log c.count k (suc s) (omega arith) e) same

    module _ {o : ℕ} (a : ActsIn c s o) where
      at_link : (c.log (suc s)).event ≡ Linked → contents (suc s) ≡ contents s ++ (o ∷ []) → Turned
      unfolding add
      at_link e more = applies_put (line_of_link c k (suc s) (omega arith) early o a.operation a.by e) more

      at_move : {n : ℕ} → (c.log (suc s)).event ≡ Moved n → contents s ≡ n ∷ contents (suc s) → Turned
      unfolding takes_at
      at_move {n} e less =
          let stamps : (n ≢ 0) × (moved c.log (suc s) n ≡ suc s) = change_stamps (subst (λ x. Change c.count s o (now c s) x (now c (suc s))) e (changes s a)) in
          let at_once : first_move c.log (suc s) n ≡ suc s = sym (moved_is c.log (suc s) stamps.0) ∙ stamps.1 in
          let first : first_move c.log k n ≡ suc s = first_move_stays c.log n (suc s) k early (λ z. (omega arith)) ∙ at_once in
          let took = mover_took c k s a e stamps.0 early in
          applies_takes (line_of_takers c k (suc s) (omega arith) early o a.operation a.by n took stamps.0 first) (taker_in c.log c.count k o n a.operation took) less

      at_round : (c.log (suc s)).event ≡ Round → contents (suc s) ≡ contents s → Turned
      at_round e same = go (found_empty (answer c.log k o)) (split (start c.log k o) (suc s))
        where
          no_line : (answer c.log k o ≢ Answer.empty) ⊎ (start c.log k o ≢ suc s) → Turned
          no_line n = applies_none (line_of_round c k (suc s) (omega arith) early o a.operation a.by e n (λ r. let z : ◌≡◌ {A = ℕ} 0 1 = cc in absurd (omega arith))) same

          go : (answer c.log k o ≡ Answer.empty) ⊎ ((answer c.log k o ≢ Answer.empty) × (is_empty (answer c.log k o) ≡ false)) → (start c.log k o ≡ suc s) ⊎ (start c.log k o ≢ suc s) → Turned
          go (inr n) b = no_line (inl n.0)
          go (inl f) (inr n) = no_line (inr n)
          go (inl f) (inl b) =
              let bare : contents (suc s) ≡ [] = contents_none (suc s) (ap (front c) (sym b) ∙ empty_found_none c k o a.operation f) in
              applies_empty (line_of_empty c k (suc s) (omega arith) early o a.operation a.by f b) (sym same ∙ bare) bare

      by_turn : {e : Event} → (c.log (suc s)).event ≡ e → Turns o (contents s) (contents (suc s)) e → Turned
      by_turn e (keeps Still.quiet same) = at_none (subst Lineless (sym e) quiet) same
      by_turn e (keeps Still.round same) = at_round e same
      by_turn e (keeps Still.late same) = at_none (subst Lineless (sym e) late) same
      by_turn e (adds more) = at_link e more
      by_turn e (removes less) = at_move e less

    at_pass : PassesIn c s → Turned
    at_pass a = at_none (subst Lineless (sym (passes_event a)) quiet) (ap (left_in Queue c.count) a.memory_kept)

    pub step_applies : Applies Queue (line_at Queue c.log c.count k (suc s)) (contents s) (contents (suc s))
    step_applies = go (c.step s)
      where
        go : PassesIn c s ⊎ ((o : ℕ) × ActsIn c s o) → Turned
        go (inl a) = at_pass a
        go (inr a) = by_turn a.1 refl (step_turns s a.1)
