-- What a job's record keeps as more steps are made: its lines, but for takers that come later. Assumes nothing.
use mathlib.Core.Path.{◌≡◌, refl, sym, ap, subst, ◌∙◌}
use mathlib.Core.Logic.{◌≢◌}
use Prim.Native.Nat.{ℕ, ◌≤◌}
use mathlib.Core.List.{List, Memᴰ}
use native.Mathlib.Omega.{arith}
use Rattle.job.specs.Job.{Job}
use Rattle.machine.specs.Multiplicity.{Line}
use Rattle.machine.specs.Multiplicity.Line.{put, takes, empty}
use Rattle.machine.specs.Notes.{Answer, note}
use Rattle.machine.specs.Journal.{last, answer, start, link, taken}
use Rattle.machine.specs.Effects.{takers, rule, stands_by, takes_at, effect}
use Rattle.machine.specs.Effects.Rule.{by_move}
use Rattle.machine.specs.Effects.Effect.{stands}
use Rattle.machine.specs.Record.{the_record}
use Rattle.machine.specs.Explained.{members, IsOperation}
use Rattle.machine.proofs.Stamps.{link_stays, last_le, answer_none}
use Rattle.machine.proofs.Effected.{Effected, effected, effect_of_put}
use Rattle.machine.proofs.Effected.Effected.{by_put, by_take, by_empty, by_none}
use Rattle.machine.proofs.Placed.{Placed, placed, recorded}
use Rattle.theory.specs.Short.{TakesStand}
use Rattle.theory.proofs.Lines.{effect_of_taker, effect_of_empty}
use Rattle.theory.proofs.Operations.{course, note_first}
use Rattle.theory.proofs.Explains.Owns.{maker_of_effect, Member, member, Own, own, own_to_last}
use Rattle.theory.proofs.Theorem.{laws}
use Rattle.theory.proofs.Short.Stays.{last_stays, answer_stays, start_settled, taken_stays, takers_stay, moves_stand, stands_up}

module _ (j : Job) (k l : ℕ) (later : k ≤ l) where
  -- an operation's effect is in the record
  in_record : (o : ℕ) → IsOperation j.count o → (s : ℕ) (line : Line) → effect j.object (note j) j.count l o ≡ stands s line → Memᴰ (record { step = s; line = line }) (the_record j l)
  in_record o op s line e =
      let w : Own (course j) l o s line = own (course j) l (laws j.object (course j) l) o op s line e in
      recorded j l s line w.from_one w.to_end w.of_maker

  -- the effect of the one operation in a line
  alone : (s o : ℕ) (line : Line) → Memᴰ o (members line) → Memᴰ (record { step = s; line = line }) (the_record j k) → Member (course j) k s line o
  alone s o line own_line m =
      let p : Placed j.object (note j) j.count k k (record { step = s; line = line }) = placed j k (record { step = s; line = line }) m in
      member (course j) k s line o p.from_one p.of_maker own_line

  pub put_stands : (s o : ℕ) → Memᴰ (record { step = s; line = put o }) (the_record j k) → Memᴰ (record { step = s; line = put o }) (the_record j l)
  unfolding members
  put_stands s o m = go (alone s o (put o) (Memᴰ.head refl) m) (effected j.object (note j) j.count k o)
    where
      go : Member (course j) k s (put o) o → Effected j.object (note j) j.count k o → Memᴰ (record { step = s; line = put o }) (the_record j l)
      go w (by_put some h) =
          let e : stands (link (note j) k o) (put o) ≡ stands s (put o) = sym h ∙ w.its_effect in
          let at : link (note j) k o ≡ s = cc in
          let stays : link (note j) l o ≡ link (note j) k o = link_stays (note j) k o l later some in
          in_record o w.operation s (put o) (effect_of_put j.object (note j) j.count l o (λ z. some (sym stays ∙ z)) ∙ ap (λ (a : ℕ). stands a (put o)) (stays ∙ at))
      go w (by_take n t h) = let e = w.its_effect in let z : ◌≡◌ {A = ℕ} 0 1 = cc in absurd (omega arith)
      go w (by_empty n t a h) = let e = w.its_effect in let z : ◌≡◌ {A = ℕ} 0 1 = cc in absurd (omega arith)
      go w (by_none n t a h) = let e = w.its_effect in let z : ◌≡◌ {A = ℕ} 0 1 = cc in absurd (omega arith)

  -- whoever answered empty makes no further round
  empty_settled : (o : ℕ) → IsOperation j.count o → answer (note j) k o ≡ Answer.empty → (answer (note j) l o ≡ Answer.empty) × (start (note j) l o ≡ start (note j) k o)
  empty_settled o op a =
      let ended : last (note j) k o ≢ 0 = (λ z. (let none : answer (note j) k o ≡ Answer.none = answer_none (note j) o (note_first j) k z in let z : ◌≡◌ {A = ℕ} 0 1 = cc in omega arith)) in
      let stays : last (note j) l o ≡ last (note j) k o = last_stays (note j) k l later o ended in
      let still : answer (note j) l o ≡ Answer.empty = answer_stays (note j) k l later o ended ∙ a in
      let w : Own (course j) l o (start (note j) l o) (empty o) = own (course j) l (laws j.object (course j) l) o op (start (note j) l o) (empty o) (effect_of_empty (course j) l o op still) in
      let to : start (note j) l o ≤ last (note j) l o = own_to_last op w (λ z. ended (sym stays ∙ z)) in
      (still, start_settled (note j) k l later o (omega (arith, last_le (note j) k o)))

  pub empty_stands : (s o : ℕ) → Memᴰ (record { step = s; line = empty o }) (the_record j k) → Memᴰ (record { step = s; line = empty o }) (the_record j l)
  unfolding members
  empty_stands s o m = go (alone s o (empty o) (Memᴰ.head refl) m) (effected j.object (note j) j.count k o)
    where
      go : Member (course j) k s (empty o) o → Effected j.object (note j) j.count k o → Memᴰ (record { step = s; line = empty o }) (the_record j l)
      go w (by_put some h) = let e = w.its_effect in let z : ◌≡◌ {A = ℕ} 0 1 = cc in absurd (omega arith)
      go w (by_take n t h) = let e = w.its_effect in let z : ◌≡◌ {A = ℕ} 0 1 = cc in absurd (omega arith)
      go w (by_empty n t a h) =
          let e : stands (start (note j) k o) (empty o) ≡ stands s (empty o) = sym h ∙ w.its_effect in
          let at : start (note j) k o ≡ s = cc in
          let (still, settled) = empty_settled o w.operation a in
          in_record o w.operation s (empty o) (effect_of_empty (course j) l o w.operation still ∙ ap (λ (a : ℕ). stands a (empty o)) (settled ∙ at))
      go w (by_none n t a h) = let e = w.its_effect in let z : ◌≡◌ {A = ℕ} 0 1 = cc in absurd (omega arith)

  -- where the line of an item's takers stands, if there is one
  abbrev line : ℕ → ℕ → ℕ
  line n item = takes_at j.object (note j) j.count n item

  line_up : (item : ℕ) → item ≢ 0 → line k item ≢ 0 → line k item ≤ line l item
  unfolding takes_at
  line_up item some found = stands_up (note j) k l later (note_first j) (rule j.object) j.count item some found

  line_at_move : (item : ℕ) → line k item ≢ 0 → rule j.object ≡ by_move → line l item ≡ line k item
  unfolding takes_at
  line_at_move item found e =
      ap (λ r. stands_by r (note j) j.count l item) e
      ∙ moves_stand (note j) k l later j.count item (λ z. found (ap (λ r. stands_by r (note j) j.count k item) e ∙ z))
      ∙ sym (ap (λ r. stands_by r (note j) j.count k item) e)

  -- the line of what an operation took
  line_of_taken : (q : ℕ) → IsOperation j.count q → taken (note j) k q ≢ 0 → line k (taken (note j) k q) ≢ 0 → TakesStand j.object (the_record j l) (line k (taken (note j) k q)) (taken (note j) k q) (takers (note j) j.count k (taken (note j) k q))
  line_of_taken q op some found =
      let item : ℕ = taken (note j) k q in
      let still : taken (note j) l q ≡ item = taken_stays (note j) k l later (note_first j) q some in
      record {
        at = line l item;
        no_earlier = line_up item some found;
        at_a_move = line_at_move item found;
        takers = takers (note j) j.count l item;
        among = takers_stay (note j) k l later (note_first j) j.count item some;
        stands = in_record q op (line l item) (takes item (takers (note j) j.count l item)) (effect_of_taker (course j) l q op (λ z. some (sym still ∙ z)) ∙ ap (λ n. stands (line l n) (takes n (takers (note j) j.count l n))) still);
      }

  pub takes_stand : (s item : ℕ) (few : List ℕ) → Memᴰ (record { step = s; line = takes item few }) (the_record j k) → TakesStand j.object (the_record j l) s item few
  takes_stand s item few m = go (placed j k (record { step = s; line = takes item few }) m) (effected j.object (note j) j.count k (note j s).by)
    where
      q : ℕ
      q = (note j s).by

      go : Placed j.object (note j) j.count k k (record { step = s; line = takes item few }) → Effected j.object (note j) j.count k q → TakesStand j.object (the_record j l) s item few
      go p (by_put some h) = let e = p.of_maker in let z : ◌≡◌ {A = ℕ} 0 1 = cc in absurd (omega arith)
      go p (by_take n t h) =
          let e : stands (line k (taken (note j) k q)) (takes (taken (note j) k q) (takers (note j) j.count k (taken (note j) k q))) ≡ stands s (takes item few) = sym h ∙ p.of_maker in
          let at : line k (taken (note j) k q) ≡ s = cc in
          let of_item : taken (note j) k q ≡ item = cc in
          let its_takers : takers (note j) j.count k (taken (note j) k q) ≡ few = cc in
          let op : IsOperation j.count q = maker_of_effect (course j) k s q (takes item few) p.from_one p.of_maker in
          let found : line k (taken (note j) k q) ≢ 0 = (λ z. omega (arith, p.from_one, at)) in
          subst (λ x. x) (λ i. TakesStand j.object (the_record j l) (at i) (of_item i) (its_takers i)) (line_of_taken q op t found)
      go p (by_empty n t a h) = let e = p.of_maker in let z : ◌≡◌ {A = ℕ} 0 1 = cc in absurd (omega arith)
      go p (by_none n t a h) = let e = p.of_maker in let z : ◌≡◌ {A = ℕ} 0 1 = cc in absurd (omega arith)
