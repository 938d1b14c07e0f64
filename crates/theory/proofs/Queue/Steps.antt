-- A turn of a queue operation is one of the changes of memory, and the operation knows afterwards what its next row says. Assumes nothing.
use mathlib.Core.Path.{◌≡◌, refl, sym, ap, subst, ◌∙◌}
use mathlib.Core.Logic.{◌≢◌, ◌⊎◌, inl, inr}
use Prim.Native.Nat.{ℕ, suc, ◌≤◌, ◌<◌}
use native.Mathlib.Omega.{arith}
use Rattle.basics.specs.Maps.{upd}
use Rattle.basics.proofs.Maps.{upd_here}
use Rattle.machine.specs.declared.Event.{Event}
use Rattle.machine.specs.Memory.{Memory, with_head, with_tail, with_next}
use Rattle.machine.specs.Notes.{Answer}
use Rattle.machine.specs.Journal.{is_round, is_linked, item_of}
use Rattle.machine.specs.Explained.{IsOperation}
use Rattle.machine.proofs.Turns.Locals.{Local}
use Rattle.machine.proofs.Turns.Queue.{Turn}
use Rattle.machine.proofs.Turns.Queue.Turn.{q1, q2_last, q2_more, q3_links, q3_fails, q4_moves, q4_stays, q5_moves, q5_stays, t1, t2, t3_empty, t3_helps, t3_goes, t4_moves, t4_stays, t5_moves, t5_late}
use Rattle.theory.proofs.Deeds.{Deeds, After, New}
use Rattle.theory.proofs.Life.{operation_some}
use Rattle.theory.proofs.Queue.Memory.{Now, Sound, Still.quiet, Still.round, Still.late, Change, Change.stays, Change.links, Change.tail_moves, Change.head_moves}
use Rattle.theory.proofs.Queue.Rows.{Leads, SawHead, Between, Served, Knows}
use Rattle.theory.proofs.Queue.Rows.Knows.{in_q1, in_q2, in_q3, in_q4, in_q5, in_t1, in_t2, in_t3, in_t4, in_t5, in_done, in_item, in_empty}

-- memory with its stamps
abbrev pub now_of : Memory → (ℕ → ℕ) → (ℕ → ℕ) → Now
now_of m born moved = record { head = m.head; tail = m.tail; next = m.next; born = born; moved = moved }

module _ {count k : ℕ} {v : Now} (d : Sound count k v) where
  -- T1: no move of Head past Head was made yet
  round_begins : (front : ℕ → ℕ) → front (suc k) ≡ v.next v.head → SawHead front v.head (suc k) v
  round_begins front f =
      record {
        h_linked = d.ends.head_linked;
        h_reached = omega arith;
        moved_since = λ i m later. absurd (omega (arith, d.ends.moved_behind i m));
        bare_then = λ z. f ∙ z;
      }

  module _ {front : ℕ → ℕ} {h start : ℕ} (p : SawHead front h start v) where
    -- T2: Tail is not before h
    tail_between : Between h v.tail v
    tail_between =
        record {
          t_linked = d.ends.tail_linked;
          h_to_t = omega (arith, p.h_reached, d.ends.head_to_tail);
          t_reached = omega arith;
        }

    -- T3: if h is not t, it is born before t and so has a next, which Tail has reached
    has_next : {t : ℕ} → Between h t v → h ≢ t → v.next h ≢ 0
    has_next {t} b n z =
        n (d.order.born_apart h t p.h_linked b.t_linked (omega (arith, b.h_to_t, d.order.last h p.h_linked z t)))

    next_to_tail : {t : ℕ} → Between h t v → h ≢ t → v.born (v.next h) ≤ v.born v.tail
    next_to_tail {t} b n = go (d.order.adjacent h (has_next b n) t)
      where
        go : (v.born t ≤ v.born h) ⊎ (v.born (v.next h) ≤ v.born t) → v.born (v.next h) ≤ v.born v.tail
        go (inl e) = absurd (n (d.order.born_apart h t p.h_linked b.t_linked (omega (arith, b.h_to_t))))
        go (inr e) = omega (arith, b.t_reached)

    -- T5 that finds Head moved: Head has moved to n since the round began
    late_taken : {n join : ℕ} → Leads h n v → v.head ≢ h → join ≡ suc k → Served n start join v
    late_taken {n} {join} q away j =
        record {
          some_item = q.some_node;
          has_moved = passed;
          after_start = p.moved_since n passed later;
          to_join = omega (arith, d.ends.moved_by_now n);
        }
      where
        next_of_h : v.next h ≢ 0
        next_of_h z = q.some_node (sym q.next_is ∙ z)

        later : v.born h < v.born n
        later = subst (λ x. v.born h < v.born x) q.next_is (d.order.ascends h next_of_h)

        n_born : v.born n ≢ 0
        n_born = subst (λ x. v.born x ≢ 0) q.next_is (d.order.to_linked h next_of_h)

        go : (v.born v.head ≤ v.born h) ⊎ (v.born (v.next h) ≤ v.born v.head) → v.moved n ≢ 0
        go (inl e) = absurd (away (d.order.born_apart v.head h d.ends.head_linked p.h_linked (omega (arith, p.h_reached))))
        go (inr e) = d.ends.behind_moved n n_born (subst (λ x. v.born x ≤ v.born v.head) q.next_is e)

        passed : v.moved n ≢ 0
        passed = go (d.order.adjacent h next_of_h v.head)

-- T5 that moves Head to n
move_taken : {n start join k : ℕ} {v : Now} → n ≢ 0 → v.moved n ≡ suc k → start ≤ k → join ≡ suc k → Served n start join v
move_taken some e early j =
    record {
      some_item = some;
      has_moved = omega arith;
      after_start = omega arith;
      to_join = omega arith;
    }

-- step k + 1 of operation o, with its event and answer: what holds of memory before it, and what the operation did before and after it
pub record BeforeTurn (count k o : ℕ) (front : ℕ → ℕ) (v : Now) (m' : Memory) (e : Event) (a : Answer) (d d' : Deeds) : Type 0 where
  pub operation : IsOperation count o
  pub sound : Sound count k v
  pub born_is : v.born o ≡ d.link
  pub started : d.start ≤ k
  pub new : New e d
  pub after : After k e a d d'
  pub front_is : front (suc k) ≡ m'.next m'.head

-- the stamps after it, which change it is, and what the operation then knows
pub record AfterTurn (count k o : ℕ) (front : ℕ → ℕ) (v : Now) (m' : Memory) (l' : Local) (e : Event) (d' : Deeds) : Type 0 where
  pub born : ℕ → ℕ
  pub moved : ℕ → ℕ
  pub change : Change count k o v e (now_of m' born moved)
  pub knows : Knows front o d'.start d'.join (now_of m' born moved) l'

module _ {count k o : ℕ} {front born moved : ℕ → ℕ} where
  -- a step that stamps nothing
  no_stamp : {v : Now} {m' : Memory} {l' : Local} {e : Event} {d' : Deeds} → Change count k o v e (now_of m' born moved) → Knows front o d'.start d'.join (now_of m' born moved) l' → AfterTurn count k o front v m' l' e d'
  no_stamp c p = record { born = born; moved = moved; change = c; knows = p }

  pub turn_goes : {m m' : Memory} {l l' : Local} {e : Event} {a : Answer} {d d' : Deeds} → Turn o m l m' l' e a → Knows front o d.start d.join (now_of m born moved) l → BeforeTurn count k o front (now_of m born moved) m' e a d d' → AfterTurn count k o front (now_of m born moved) m' l' e d'
  unfolding with_head with_tail with_next is_linked is_round item_of
  turn_goes q1 in_q1 b = no_stamp (stays quiet) (in_q2 b.sound.ends.tail_linked)
  turn_goes (q2_last z) (in_q2 p) b = no_stamp (stays quiet) (in_q3 p)
  turn_goes (q2_more z) (in_q2 p) b = no_stamp (stays quiet) (in_q5 (record { next_is = refl; some_node = z }))
  turn_goes {m} (q3_links {t = t} z) (in_q3 p) b =
      let some : o ≢ 0 = operation_some b.operation in
      record {
        born = upd born o (suc k);
        moved = moved;
        change = links (record { t_linked = p; t_last = z; some = some; known = b.operation.to_count; unborn = b.born_is ∙ b.new.link_first refl });
        knows = in_q4 (record { next_is = upd_here m.next t o; some_node = some });
      }
  turn_goes (q3_fails z) (in_q3 p) b = no_stamp (stays quiet) in_q1
  turn_goes {m} (q4_moves z) (in_q4 p) b = no_stamp (tail_moves (ap m.next z ∙ p.next_is) p.some_node) in_done
  turn_goes (q4_stays z) (in_q4 p) b = no_stamp (stays quiet) in_done
  turn_goes {m} (q5_moves z) (in_q5 p) b = no_stamp (tail_moves (ap m.next z ∙ p.next_is) p.some_node) in_q1
  turn_goes (q5_stays z) (in_q5 p) b = no_stamp (stays quiet) in_q1
  turn_goes {m} t1 in_t1 b =
      no_stamp (stays round) (in_t2 (subst (λ x. SawHead front m.head x (now_of m born moved)) (sym (b.after.start_made refl)) (round_begins b.sound front b.front_is)))
  turn_goes {m} (t2 {h = h}) (in_t2 p) b =
      no_stamp (stays quiet) (in_t3 (subst (λ x. SawHead front h x (now_of m born moved)) (sym (b.after.start_kept refl)) p) (tail_between b.sound p))
  turn_goes (t3_empty y z) (in_t3 p q) b = no_stamp (stays quiet) (in_empty (ap front (b.after.start_kept refl) ∙ p.bare_then z))
  turn_goes {m} (t3_helps y z) (in_t3 p q) b = no_stamp (stays quiet) (in_t4 (record { next_is = ap m.next (sym y); some_node = z }))
  turn_goes {m} (t3_goes {h = h} z) (in_t3 p q) b =
      no_stamp (stays quiet)
      (in_t5 (subst (λ x. SawHead front h x (now_of m born moved)) (sym (b.after.start_kept refl)) p)
      (record { next_is = refl; some_node = has_next b.sound p q z })
      (next_to_tail b.sound p q z))
  turn_goes {m} (t4_moves z) (in_t4 p) b = no_stamp (tail_moves (ap m.next z ∙ p.next_is) p.some_node) in_t1
  turn_goes (t4_stays z) (in_t4 p) b = no_stamp (stays quiet) in_t1
  turn_goes {m} (t5_moves {n = n} z) (in_t5 p q h) b =
      let some : n ≢ 0 = q.some_node in
      record {
        born = born;
        moved = upd moved n (suc k);
        change = head_moves (ap m.next z ∙ q.next_is) some h;
        knows = in_item (move_taken some (upd_here moved n (suc k)) (omega (arith, b.after.start_kept refl, b.started)) (b.after.join_made some (b.new.join_first some)));
      }
  turn_goes {m} {d'} (t5_late {n = n} z) (in_t5 p q h) b =
      let joined : d'.join ≡ suc k = b.after.join_made q.some_node (b.new.join_first q.some_node) in
      no_stamp (stays late) (in_item (subst (λ x. Served n x d'.join (now_of m born moved)) (sym (b.after.start_kept refl)) (late_taken b.sound p q z joined)))
