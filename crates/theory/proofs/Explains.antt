-- From the laws of the course that a job's run is to Explained, once, for every object. Assumes nothing.
use mathlib.Core.Path.{◌≡◌, refl, sym, ap, subst, ◌∙◌}
use mathlib.Core.Logic.{◌≢◌}
use Prim.Native.Nat.{ℕ, ◌<◌}
use mathlib.Core.Bool.{true, false, not, ◌&&◌, ◌||◌, true≢false, or-true, and-false}
use mathlib.Core.List.{List, Memᴰ}
use native.Mathlib.Omega.{arith}
use Rattle.basics.specs.Choice.{same}
use Rattle.basics.proofs.Choice.{same_equal, equal_same, unequal_same}
use Rattle.job.specs.declared.Kind.{Kind}
use Rattle.job.specs.Job.{Job}
use Rattle.machine.specs.Multiplicity.{Line}
use Rattle.machine.specs.Multiplicity.Line.{put, takes, empty}
use Rattle.machine.specs.Notes.{Answer, Note, note}
use Rattle.machine.specs.Journal.{made, first, last, answer, start, link, join, taken}
use Rattle.machine.specs.Effects.{takers, takes_at, effect, is_stack, took_effect, Precedes, Overlap}
use Rattle.machine.specs.Effects.Effect.{none, stands}
use Rattle.machine.specs.Drops.{drop}
use Rattle.machine.specs.Record.{Recorded, the_record}
use Rattle.machine.specs.Left.{left}
use Rattle.machine.specs.Explained.{members, times, Says, OpenLine, Answered, InEffect, Dropped, IsOperation, Explained}
use Rattle.machine.specs.Explained.OpenLine.{its_put, its_takes}
use Rattle.machine.proofs.Effected.{Effected, effected, effect_of_put, taker_in}
use Rattle.machine.proofs.Effected.Effected.{by_put, by_take, by_empty, by_none}
use Rattle.machine.proofs.Placed.{Placed, placed, recorded, ascends_to}
use Rattle.theory.proofs.Phases.{Phase}
use Rattle.theory.proofs.Phases.Phase.{going, in_round, linked, joined, done, got, bare}
use Rattle.theory.proofs.Course.{listing}
use Rattle.theory.proofs.Deeds.{deeds, Did, Going}
use Rattle.theory.proofs.Life.{operation_some, life, linked_is_put, joined_is_take}
use Rattle.theory.proofs.Lines.{effect_of_taker, effect_of_empty}
use Rattle.theory.proofs.Laws.{Laws}
use Rattle.theory.proofs.Operations.{course}
use Rattle.theory.proofs.Operations.Locals.{memory}
use Rattle.theory.proofs.Operations.Drops.{by_nobody_at, no_step_behind, no_last, dropped_begun}
use Rattle.theory.proofs.Explains.Plays.{plays, conserves}
use Rattle.theory.proofs.Explains.Owns.{nobody_no_line, Member, member, Own, own, own_to_last}
use Rattle.theory.proofs.Explains.Once.{with_effect, without_effect}
pub mod Plays
pub mod Owns
pub mod Once

-- whether an unanswered operation took effect, by its link and its joining step
linked_took_effect : (kind : Kind) (log : ℕ → Note) (k o : ℕ) → link log k o ≢ 0 → took_effect kind log k o ≡ true
unfolding took_effect
linked_took_effect kind log k o l = ap (λ t. not t || is_stack kind && not (same (join log k o) 0)) (unequal_same l)

joined_took_effect : (kind : Kind) (log : ℕ → Note) (k o : ℕ) → is_stack kind ≡ true → join log k o ≢ 0 → took_effect kind log k o ≡ true
unfolding took_effect
joined_took_effect kind log k o q l =
    ap (λ b. not (same (link log k o) 0) || b && not (same (join log k o) 0)) q
    ∙ ap (λ t. not (same (link log k o) 0) || not t) (unequal_same l)
    ∙ or-true (not (same (link log k o) 0))

none_took_effect : (kind : Kind) (log : ℕ → Note) (k o : ℕ) → link log k o ≡ 0 → join log k o ≡ 0 → took_effect kind log k o ≡ false
unfolding took_effect
none_took_effect kind log k o l h =
    ap (λ t. not t || is_stack kind && not (same (join log k o) 0)) (equal_same l)
    ∙ ap (λ t. is_stack kind && not t) (equal_same h)
    ∙ and-false (is_stack kind)

module _ (j : Job) (k : ℕ) (laws : Laws (course j) k) where
  -- an operation in a recorded line, and its own effect
  owned : (r : Recorded) → Memᴰ r (the_record j k) → (o : ℕ) → Memᴰ o (members r.line) → IsOperation j.count o × Own (course j) k o r.step r.line
  owned r h o m =
      let p : Placed j.object (note j) j.count k k r = placed j k r h in
      let w : Member (course j) k r.step r.line o = member (course j) k r.step r.line o p.from_one p.of_maker m in
      (w.operation, own (course j) k laws o w.operation r.step r.line w.its_effect)

  answered_by : (o : ℕ) → IsOperation j.count o → last (note j) k o ≢ 0 → (s : ℕ) (line : Line) → effect j.object (note j) j.count k o ≡ stands s line → Says line o (answer (note j) k o) → Answered j k o
  unfolding the_record
  answered_by o op ended s line e says =
      let w : Own (course j) k o s line = own (course j) k laws o op s line e in
      record {
        place = record { step = s; line = line };
        recorded = recorded j k s line w.from_one w.to_end w.of_maker;
        once = with_effect (course j) k o s line e w;
        its_answer = says;
        from_first = w.from_first;
        to_last = own_to_last op w ended;
      }

  in_effect_by : (o : ℕ) → IsOperation j.count o → (s : ℕ) (line : Line) → effect j.object (note j) j.count k o ≡ stands s line → OpenLine j k o (record { step = s; line = line }) → InEffect j k o
  unfolding the_record
  in_effect_by o op s line e its_line =
      let w : Own (course j) k o s line = own (course j) k laws o op s line e in
      record {
        place = record { step = s; line = line };
        recorded = recorded j k s line w.from_one w.to_end w.of_maker;
        its_line = its_line;
        once = with_effect (course j) k o s line e w;
        begun = w.begun;
        from_first = w.from_first;
      }

  -- the effect of an operation that ended is the line of its answer
  answers : (o : ℕ) → IsOperation j.count o → last (note j) k o ≢ 0 → Answered j k o
  unfolding deeds
  answers o op ended = go ((listing j.object).phase (life (course j) k o op).on) (life (course j) k o op).did
    where
      go : (p : Phase) → Did j.object p (deeds (note j) k o) → Answered j k o
      go (going is_put) g = absurd (ended g.no_last)
      go in_round g = absurd (ended g.going.no_last)
      go linked (l, e) = absurd (ended e.no_last)
      go (joined item) (q, h, e) = absurd (ended e.no_last)
      go done (l, e) = answered_by o op ended (link (note j) k o) (put o) (effect_of_put j.object (note j) j.count k o l.linked) (subst (Says (put o) o) (sym e.answered) Says.says_done)
      go (got item) (h, e) =
          let some : item ≢ 0 = laws.some_item o item op e.answered in
          let says : Says (takes (taken (note j) k o) (takers (note j) j.count k (taken (note j) k o))) o (Answer.item (taken (note j) k o)) = Says.says_item (taker_in (note j) j.count k o (taken (note j) k o) op refl) in
          answered_by o op ended (takes_at j.object (note j) j.count k (taken (note j) k o)) (takes (taken (note j) k o) (takers (note j) j.count k (taken (note j) k o))) (effect_of_taker (course j) k o op (λ z. some (sym h.took ∙ z))) (subst (Says (takes (taken (note j) k o) (takers (note j) j.count k (taken (note j) k o))) o) (ap Answer.item h.took ∙ sym e.answered) says)
      go bare (h, e) = answered_by o op ended (start (note j) k o) (empty o) (effect_of_empty (course j) k o op e.answered) (subst (Says (empty o) o) (sym e.answered) Says.says_empty)

  -- an unanswered operation: its effect is its link, or the line of the item that it joined, or nothing
  data Unanswered (o : ℕ) : Type 0 where
    effective : (s : ℕ) (line : Line) → effect j.object (note j) j.count k o ≡ stands s line → OpenLine j k o (record { step = s; line = line }) → took_effect j.object (note j) k o ≡ true → Unanswered o
    ineffective : effect j.object (note j) j.count k o ≡ none → took_effect j.object (note j) k o ≡ false → Unanswered o

  unanswered : (o : ℕ) → IsOperation j.count o → last (note j) k o ≡ 0 → Unanswered o
  unfolding deeds
  unanswered o op ongoing = go ((listing j.object).phase (life (course j) k o op).on) (life (course j) k o op).did
    where
      nothing : Going (deeds (note j) k o) → Effected j.object (note j) j.count k o → Unanswered o
      nothing g (by_put l h) = absurd (l g.no_link)
      nothing g (by_take l t h) = absurd (t g.not_taken)
      nothing g (by_empty l t a h) = let n : answer (note j) k o ≡ Answer.none = g.no_answer in let z : ◌≡◌ {A = ℕ} 0 1 = cc in absurd (omega arith)
      nothing g (by_none l t a h) = ineffective h (none_took_effect j.object (note j) k o l g.no_join)

      go : (p : Phase) → Did j.object p (deeds (note j) k o) → Unanswered o
      go (going is_put) g = nothing g (effected j.object (note j) j.count k o)
      go in_round g = nothing g.going (effected j.object (note j) j.count k o)
      go linked (l, e) = effective (link (note j) k o) (put o) (effect_of_put j.object (note j) j.count k o l.linked) (its_put (linked_is_put (course j) k o op l.linked) l.linked) (linked_took_effect j.object (note j) k o l.linked)
      go done (l, e) = absurd (e.has_ended ongoing)
      go (joined item) (is, h, e) =
          let some : taken (note j) k o ≢ 0 = λ z. h.some_item (sym h.took ∙ z) in
          effective (takes_at j.object (note j) j.count k (taken (note j) k o)) (takes (taken (note j) k o) (takers (note j) j.count k (taken (note j) k o))) (effect_of_taker (course j) k o op some) (its_takes (joined_is_take (course j) k o op h.joined) is some (taker_in (note j) j.count k o (taken (note j) k o) op refl)) (joined_took_effect j.object (note j) k o is h.joined)
      go (got item) (h, e) = absurd (e.has_ended ongoing)
      go bare (h, e) = absurd (e.has_ended ongoing)

  takes_effect : (o : ℕ) → IsOperation j.count o → last (note j) k o ≡ 0 → took_effect j.object (note j) k o ≡ true → InEffect j k o
  unfolding the_record
  takes_effect o op ongoing t = go (unanswered o op ongoing)
    where
      go : Unanswered o → InEffect j k o
      go (effective s line e its_line h) = in_effect_by o op s line e its_line
      go (ineffective e h) = absurd (true≢false (sym t ∙ h))

  takes_no_effect : (o : ℕ) → IsOperation j.count o → last (note j) k o ≡ 0 → took_effect j.object (note j) k o ≡ false → times o (the_record j k) ≡ 0
  unfolding the_record
  takes_no_effect o op ongoing t = go (unanswered o op ongoing)
    where
      go : Unanswered o → times o (the_record j k) ≡ 0
      go (effective s line e its_line h) = absurd (true≢false (sym h ∙ t))
      go (ineffective e h) = without_effect (course j) k o e

  -- one that ended before the other began stands in an earlier line
  orders : (r s : Recorded) → Memᴰ r (the_record j k) → Memᴰ s (the_record j k) → (o q : ℕ) → Memᴰ o (members r.line) → Memᴰ q (members s.line) → Precedes (note j) k o q → r.step < s.step
  orders r s hr hs o q mo mq p =
      let a : IsOperation j.count o × Own (course j) k o r.step r.line = owned r hr o mo in
      let b : Own (course j) k q s.step s.line = (owned s hs q mq).1 in
      omega (arith, own_to_last a.0 a.1 p.ended, b.from_first)

  -- both are begun and not ended at their line's step
  overlaps : (s item : ℕ) (takers : List ℕ) → Memᴰ (record { step = s; line = takes item takers }) (the_record j k) → (o q : ℕ) → Memᴰ o takers → Memᴰ q takers → Overlap (note j) k o q
  unfolding members
  overlaps s item takers h o q mo mq =
      let a : IsOperation j.count o × Own (course j) k o s (takes item takers) = owned (record { step = s; line = takes item takers }) h o mo in
      let b : IsOperation j.count q × Own (course j) k q s (takes item takers) = owned (record { step = s; line = takes item takers }) h q mq in
      record {
        not_before = λ p. omega (arith, own_to_last a.0 a.1 p.ended, b.1.from_first);
        not_after = λ p. omega (arith, own_to_last b.0 b.1 p.ended, a.1.from_first);
      }

  -- the line of a dropped operation is not after some step of its own, and it makes none behind its drop
  drops_before : (o : ℕ) → IsOperation j.count o → drop j k o ≢ 0 → Dropped j k o
  unfolding made
  drops_before o op found =
      let some : o ≢ 0 = operation_some op in
      let begun : (first (note j) k o ≢ 0) × (first (note j) k o < drop j k o) = dropped_begun j k o some found in
      record {
        begun = begun.0;
        from_first = begun.1;
        no_last = no_last j k o some found;
        no_step_behind = λ s upto by. no_step_behind j k o s some found by;
        by_nobody = by_nobody_at j k o some found;
        no_line = nobody_no_line (course j) k (drop j k o) (omega arith) (by_nobody_at j k o some found);
        no_later = λ r h m.
            (let w : Own (course j) k o r.step r.line = (owned r h o m).1 in
            omega (arith, w.to_own, no_step_behind j k o w.own_step some found (same_equal w.is_own)));
      }

  pub explains : Explained j k
  unfolding the_record left memory
  explains =
      record {
        allowed = plays (course j) k laws;
        ascending = ascends_to j.object (note j) j.count k k;
        answered = answers;
        in_effect = takes_effect;
        without_effect = takes_no_effect;
        dropped = drops_before;
        operations = λ r h o m. (owned r h o m).0;
        ordered = orders;
        overlapping = overlaps;
        conserved = conserves (course j) k laws;
      }
