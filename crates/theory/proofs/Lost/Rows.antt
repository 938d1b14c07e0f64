-- By its row, what a process of a queue may have to pay with next: the node behind the t that it read, if there is one, was linked after every node that it has paid
-- with; and that the steps of others leave it so. Assumes nothing.
use mathlib.Core.Path.{◌≡◌, sym, ap, subst, ◌∙◌}
use mathlib.Core.Logic.{◌≢◌, ◌⊎◌, inl, inr}
use Prim.Native.Nat.{ℕ, ◌≤◌, ◌<◌}
use native.Mathlib.Omega.{arith}
use Rattle.basics.proofs.Choice.{split}
use Rattle.machine.specs.declared.Row.TheVariants.{Q1, Q2, Q3, Q4, Q5, T1, T2, T3, T4, T5, Done, ItemN, Empty}
use Rattle.machine.proofs.Turns.Locals.{Local, at_row}
use Rattle.theory.proofs.Nodes.{IsLinked}
use Rattle.theory.proofs.Queue.Memory.{Now, Sound}
use Rattle.theory.proofs.Queue.Grows.{Grows}

-- t was Tail
pub record Reached (v : Now) (t : ℕ) : Type 0 where
  pub t_linked : IsLinked v.born t
  pub t_reached : v.born t ≤ v.born v.tail

-- and the node behind it is one to pay with, linked after step `mark`
pub record Ahead (mark : ℕ) (Pays : ℕ → Type 0) (v : Now) (t : ℕ) : Type 0 where
  pub was_tail : Reached v t
  pub later : v.next t ≢ 0 → mark < v.born (v.next t)
  pub pays : v.next t ≢ 0 → Pays (v.next t)

-- at a row: the last node paid with for a failed Q3 was linked at step a, and the last for a help at step b
pub data Stands (a b : ℕ) (Other Pays : ℕ → Type 0) (v : Now) : Local → Type 0 where
  in_q1 : {h t n : ℕ} → Stands a b Other Pays v (at_row Q1 h t n)
  in_q2 : {h t n : ℕ} → Ahead b Pays v t → Stands a b Other Pays v (at_row Q2 h t n)
  in_q3 : {h t n : ℕ} → Ahead a Other v t → Stands a b Other Pays v (at_row Q3 h t n)
  in_q4 : {h t n : ℕ} → Reached v t → Stands a b Other Pays v (at_row Q4 h t n)
  in_q5 : {h t n : ℕ} → Ahead b Pays v t → Stands a b Other Pays v (at_row Q5 h t n)
  in_t1 : {h t n : ℕ} → Stands a b Other Pays v (at_row T1 h t n)
  in_t2 : {h t n : ℕ} → Stands a b Other Pays v (at_row T2 h t n)
  in_t3 : {h t n : ℕ} → Ahead b Pays v t → Stands a b Other Pays v (at_row T3 h t n)
  in_t4 : {h t n : ℕ} → Ahead b Pays v t → Stands a b Other Pays v (at_row T4 h t n)
  in_t5 : {h t n : ℕ} → Stands a b Other Pays v (at_row T5 h t n)
  in_done : {h t n : ℕ} → Stands a b Other Pays v (at_row Done h t n)
  in_item : {h t n : ℕ} → Stands a b Other Pays v (at_row ItemN h t n)
  in_empty : {h t n : ℕ} → Stands a b Other Pays v (at_row Empty h t n)

-- a step leaves memory v as w
module _ {count k : ℕ} {v w : Now} (d : Sound count k v) (g : Grows k v w) where
  pub reached_grows : {t : ℕ} → Reached v t → Reached w t
  reached_grows {t} r =
      record { t_linked = g.stays_linked t r.t_linked; t_reached = omega (arith, g.born_kept t r.t_linked, r.t_reached, g.tail_goes_on) }

  -- a node behind t is the one that was there, or a new one
  pub ahead_grows : {mark : ℕ} {Pays Pays' : ℕ → Type 0} {t : ℕ} → ((x : ℕ) → Pays x → Pays' x) → (v.next t ≡ 0 → w.next t ≢ 0 → (mark < w.born (w.next t)) × Pays' (w.next t)) → Ahead mark Pays v t → Ahead mark Pays' w t
  ahead_grows {mark} {Pays} {Pays'} {t} kept new r =
      record { was_tail = reached_grows r.was_tail; later = λ n. (by_next (split (v.next t) 0) n).0; pays = λ n. (by_next (split (v.next t) 0) n).1 }
    where
      by_next : (v.next t ≡ 0) ⊎ (v.next t ≢ 0) → w.next t ≢ 0 → (mark < w.born (w.next t)) × Pays' (w.next t)
      by_next (inl z) n = new z n
      by_next (inr f) n =
          let same_next : w.next t ≡ v.next t = g.next_kept t f in
          let same_born : w.born (w.next t) ≡ v.born (v.next t) = ap w.born same_next ∙ g.born_kept (v.next t) (λ m. d.order.to_linked t f) in
          (omega (arith, r.later f), subst Pays' (sym same_next) (kept (v.next t) (r.pays f)))

  -- Tail goes to the node behind t, or has gone there before
  pub tail_comes : {t n : ℕ} → v.next t ≡ n → n ≢ 0 → w.tail ≡ n → v.born n ≤ w.born w.tail
  tail_comes {t} {n} e some to = omega (arith, ap w.born to, g.born_kept n (λ m. subst (λ x. v.born x ≢ 0) e (d.order.to_linked t (λ z. some (sym e ∙ z)))))

  pub tail_came : {t n : ℕ} → Reached v t → v.next t ≡ n → n ≢ 0 → v.tail ≢ t → v.born n ≤ w.born w.tail
  tail_came {t} {n} r e some away = by_order (d.order.adjacent t next_there v.tail)
    where
      next_there : v.next t ≢ 0
      next_there z = some (sym e ∙ z)

      by_order : (v.born v.tail ≤ v.born t) ⊎ (v.born (v.next t) ≤ v.born v.tail) → v.born n ≤ w.born w.tail
      by_order (inl h) = absurd (away (d.order.born_apart v.tail t d.ends.tail_linked r.t_linked (omega (arith, r.t_reached))))
      by_order (inr h) = omega (arith, ap v.born e, g.tail_goes_on)

  -- whoever makes no step stands as before, if a new node is one to pay with
  module _ {a b : ℕ} {Other Pays Pays' : ℕ → Type 0} (kept : (x : ℕ) → Pays x → Pays' x) (fails : (t : ℕ) → v.next t ≡ 0 → w.next t ≢ 0 → (a < w.born (w.next t)) × Other (w.next t)) (helps : (t : ℕ) → v.next t ≡ 0 → w.next t ≢ 0 → (b < w.born (w.next t)) × Pays' (w.next t)) where
    pub stands_grows : {l : Local} → Stands a b Other Pays v l → Stands a b Other Pays' w l
    stands_grows in_q1 = in_q1
    stands_grows (in_q2 {t = t} r) = in_q2 (ahead_grows kept (helps t) r)
    stands_grows (in_q3 {t = t} r) = in_q3 (ahead_grows (λ x o. o) (fails t) r)
    stands_grows (in_q4 r) = in_q4 (reached_grows r)
    stands_grows (in_q5 {t = t} r) = in_q5 (ahead_grows kept (helps t) r)
    stands_grows in_t1 = in_t1
    stands_grows in_t2 = in_t2
    stands_grows (in_t3 {t = t} r) = in_t3 (ahead_grows kept (helps t) r)
    stands_grows (in_t4 {t = t} r) = in_t4 (ahead_grows kept (helps t) r)
    stands_grows in_t5 = in_t5
    stands_grows in_done = in_done
    stands_grows in_item = in_item
    stands_grows in_empty = in_empty
