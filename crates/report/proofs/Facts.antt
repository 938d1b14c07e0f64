-- Facts of every run that let a report be written from rows: answers by link and item, items that are operations, who makes a step,
-- what an operation without link and item did, and that idle steps have no line. Assumes nothing.
use mathlib.Core.Path.{◌≡◌, sym, ap, subst, ◌∙◌}
use mathlib.Core.Logic.{◌≢◌, ◌⊎◌, inl, inr, ⊎_elim}
use Prim.Native.Nat.{ℕ, zero, suc, ◌≤◌, ◌<◌}
use native.Mathlib.Omega.{arith}
use mathlib.Core.List.{List, [], ◌++◌, append-nil}
use Rattle.basics.proofs.Choice.{pick_then, pick_else, equal_same, unequal_same, compare}
use Rattle.job.specs.Job.{Job}
use Rattle.machine.specs.Notes.{Answer, note, idle}
use Rattle.machine.specs.Journal.{last, answer, link, taken}
use Rattle.machine.specs.Idle.{IdleBehind}
use Rattle.machine.specs.Effects.{effect}
use Rattle.machine.specs.Effects.Effect.{none}
use Rattle.machine.specs.Record.{Recorded, run_line, lines_to, run_lines}
use Rattle.machine.specs.Explained.{IsOperation}
use Rattle.machine.proofs.Effected.{Effected, effected, Lineless, line_of_none}
use Rattle.machine.proofs.Effected.Effected.{by_put, by_take, by_empty, by_none}
use Rattle.machine.proofs.Effected.Lineless.{quiet}
use Rattle.machine.proofs.Placed.{recorded}
use Rattle.theory.proofs.Phases.{Phase}
use Rattle.theory.proofs.Phases.Phase.{going, in_round, linked, joined, done, got, bare}
use Rattle.theory.proofs.Course.{listing, PassesIn, ActsIn, passes_by, passes_event}
use Rattle.theory.proofs.Deeds.{deeds, Did}
use Rattle.theory.proofs.Life.{life}
use Rattle.theory.proofs.Lines.{effect_of_taker}
use Rattle.theory.proofs.Operations.{course}
use Rattle.theory.proofs.Explains.Owns.{own}
use Rattle.theory.proofs.Theorem.{laws, explained}
use Rattle.wording.proofs.Sizes.Items.{handed_out}
use Rattle.wording.proofs.Sizes.Members.{line_from_puts}
use Rattle.lines.specs.Told.{said}

module _ (j : Job) (k : ℕ) where
  -- an item that was taken is an operation's
  pub item_operation : (o : ℕ) → IsOperation j.count o → taken (note j) k o ≢ 0 → IsOperation j.count (taken (note j) k o)
  item_operation o op t =
      let e = effect_of_taker (course j) k o op t in
      let w = own (course j) k (laws j.object (course j) k) o op _ _ e in
      handed_out (IsOperation j.count) (line_from_puts j k (explained j k) _ (recorded j k _ _ w.from_one w.to_end w.of_maker))

  -- the answer of an ended operation, by its link and its item
  pub answer_said : (o : ℕ) → IsOperation j.count o → last (note j) k o ≢ 0 → answer (note j) k o ≡ said (link (note j) k o) (taken (note j) k o)
  unfolding said deeds
  answer_said o op z = go ((listing j.object).phase (life (course j) k o op).on) (life (course j) k o op).did
    where
      go : (p : Phase) → Did j.object p (deeds (note j) k o) → answer (note j) k o ≡ said (link (note j) k o) (taken (note j) k o)
      go (going is_put) g = absurd (z g.no_last)
      go in_round g = absurd (z g.going.no_last)
      go linked (l, e) = absurd (z e.no_last)
      go (joined item) (is, h, e) = absurd (z e.no_last)
      go done (l, e) = e.answered ∙ sym (pick_else _ Answer.done (unequal_same l.linked))
      go (got item) (h, e) =
          let some : item ≢ 0 = (laws j.object (course j) k).some_item o item op e.answered in
          e.answered
          ∙ sym (pick_then _ Answer.done (equal_same h.no_link) ∙ pick_else Answer.empty _ (unequal_same (λ none_taken. some (sym h.took ∙ none_taken))) ∙ ap Answer.item h.took)
      go bare (h, e) =
          e.answered ∙ sym (pick_then _ Answer.done (equal_same h.no_link) ∙ pick_then Answer.empty _ (equal_same h.not_taken))

  -- an operation that neither linked nor took and has not ended has no effect
  pub no_effect : (o : ℕ) → link (note j) k o ≡ 0 → taken (note j) k o ≡ 0 → last (note j) k o ≡ 0 → effect j.object (note j) j.count k o ≡ none
  unfolding answer note idle
  no_effect o l t z = go (effected j.object (note j) j.count k o)
    where
      go : Effected j.object (note j) j.count k o → effect j.object (note j) j.count k o ≡ none
      go (by_put m h) = absurd (m l)
      go (by_take m n h) = absurd (n t)
      go (by_empty m n a h) =
          let unanswered : answer (note j) k o ≡ Answer.none = ap (λ s. (note j s).answer) z in
          let clash : ◌≡◌ {A = ℕ} 0 1 = cc in
          absurd (omega arith)
      go (by_none m n a h) = h

  -- one that ended has answered empty
  pub ended_empty : (o : ℕ) → IsOperation j.count o → link (note j) k o ≡ 0 → taken (note j) k o ≡ 0 → last (note j) k o ≢ 0 → answer (note j) k o ≡ Answer.empty
  unfolding said
  ended_empty o op l t z = answer_said o op z ∙ pick_then _ Answer.done (equal_same l) ∙ pick_then Answer.empty _ (equal_same t)

-- who makes a step is an operation
pub maker_operation : (j : Job) (s : ℕ) → 1 ≤ s → (note j s).by ≢ 0 → IsOperation j.count (note j s).by
maker_operation j zero low some = absurd (omega arith)
maker_operation j (suc s) low some = go ((course j).step s)
  where
    go : PassesIn (course j) s ⊎ ((o : ℕ) × ActsIn (course j) s o) → IsOperation j.count (note j (suc s)).by
    go (inl i) = absurd (some (passes_by i))
    go (inr a) = subst (IsOperation j.count) (sym a.1.by) a.1.operation

-- no line stands at an idle step
pub idle_line : (j : Job) (k s : ℕ) → 1 ≤ s → s ≤ k → (note j s).by ≡ 0 → run_line j k s ≡ []
idle_line j k zero low high e = absurd (omega arith)
idle_line j k (suc s) low high e = go ((course j).step s)
  where
    go : PassesIn (course j) s ⊎ ((o : ℕ) × ActsIn (course j) s o) → run_line j k (suc s) ≡ []
    go (inl i) = line_of_none j.object (note j) j.count k (suc s) low (subst Lineless (sym (passes_event i)) quiet)
    go (inr a) = absurd (omega (arith, a.1.operation.from_one, sym a.1.by ∙ e))

-- a run that is idle behind `reach` has all its lines up to there
pub all_lines_to_reach : (j : Job) {reach k : ℕ} → IdleBehind j reach k → run_lines j k reach ≡ run_lines j k k
unfolding lines_to
all_lines_to_reach j {reach} {k} behind = go k behind.within (omega arith)
  where
    go : (n : ℕ) → reach ≤ n → n ≤ k → run_lines j k reach ≡ run_lines j k n
    go zero low high = ap (run_lines j k) (let e : reach ≡ 0 = omega arith in e)
    go (suc n) low high =
        let no_line : reach ≤ n → run_line j k (suc n) ≡ [] = λ less. idle_line j k (suc n) (omega arith) high (behind.idle_step (suc n) (omega arith) high) in
        ⊎_elim
        (λ (less : reach ≤ n). go n less (omega arith) ∙ sym (append-nil _) ∙ ap (λ (l : List Recorded). run_lines j k n ++ l) (sym (no_line less)))
        (λ (all : n < reach). ap (run_lines j k) (let e : reach ≡ suc n = omega arith in e))
        (compare reach n)
