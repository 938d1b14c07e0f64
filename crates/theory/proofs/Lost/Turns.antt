-- What a turn of a queue operation costs its process: nothing, a failed Q3, or a help of Tail; and where it then stands. Assumes nothing.
use mathlib.Core.Path.{◌≡◌, refl, sym, ap, ◌∙◌}
use mathlib.Core.Logic.{◌≢◌}
use Prim.Native.Nat.{ℕ, ◌≤◌, ◌<◌}
use mathlib.Core.Bool.{true, false}
use native.Mathlib.Omega.{arith}
use Rattle.basics.specs.Choice.{same}
use Rattle.machine.specs.declared.Row.TheVariants.{Q4}
use Rattle.machine.specs.declared.Event.{Event}
use Rattle.machine.specs.declared.Event.TheVariants.{Linked}
use Rattle.machine.specs.Memory.{Memory, with_head, with_tail, with_next}
use Rattle.machine.specs.Notes.{Answer}
use Rattle.machine.specs.Table.{position, is_return}
use Rattle.machine.proofs.Turns.Locals.{Local, at_row}
use Rattle.machine.proofs.Turns.Queue.{Turn}
use Rattle.machine.proofs.Turns.Queue.Turn.{q1, q2_last, q2_more, q3_links, q3_fails, q4_moves, q4_stays, q5_moves, q5_stays, t1, t2, t3_empty, t3_helps, t3_goes, t4_moves, t4_stays, t5_moves, t5_late}
use Rattle.theory.proofs.Queue.Memory.{Now, Sound}
use Rattle.theory.proofs.Queue.Grows.{Grows}
use Rattle.theory.proofs.Queue.Rows as Queues
use Rattle.theory.proofs.Queue.Steps.{now_of}
use Rattle.theory.proofs.Lost.Rows.{Ahead, Stands, reached_grows, ahead_grows, tail_comes, tail_came}
use Rattle.theory.proofs.Lost.Rows.Stands.{in_q1, in_q2, in_q3, in_q4, in_q5, in_t1, in_t2, in_t3, in_t4, in_t5, in_done, in_item, in_empty}

-- an operation that has linked its node, before its Q4
pub data AtQ4 : Local → Type 0 where
  at_q4 : {h t n : ℕ} → AtQ4 (at_row Q4 h t n)

-- a turn from v to w that leaves the operation at l'
pub data Costs (a b : ℕ) (Other Pays Pays' : ℕ → Type 0) (v w : Now) (l' : Local) : Type 0 where
  nothing : is_return l'.row ≡ false → Stands a b Other Pays' w l' → Costs a b Other Pays Pays' v w l'
  -- it failed its Q3, and pays with node x
  a_failure : (x : ℕ) → is_return l'.row ≡ true → a < v.born x → Other x → Stands (v.born x) b Other Pays' w l' → Costs a b Other Pays Pays' v w l'
  -- it helped Tail to node x, and pays with that
  a_help : (x : ℕ) → is_return l'.row ≡ true → b < v.born x → Pays x → v.born x ≤ w.born w.tail → Stands a (v.born x) Other Pays' w l' → Costs a b Other Pays Pays' v w l'

-- whoever reads Tail may have to help it on
reads_tail : {count k b : ℕ} {Pays : ℕ → Type 0} {v : Now} → Sound count k v → b ≤ v.born v.tail → (v.next v.tail ≢ 0 → Pays (v.next v.tail)) → Ahead b Pays v v.tail
reads_tail {v = v} d low pays =
    record {
      was_tail = record { t_linked = d.ends.tail_linked; t_reached = omega arith };
      later = λ n. omega (arith, d.order.ascends v.tail n);
      pays = pays;
    }

-- the node behind t is one to pay with, and Tail is there now
helps : {a b t n : ℕ} {Other Pays Pays' : ℕ → Type 0} {v w : Now} {l' : Local} → Queues.Leads t n v → Ahead b Pays v t → is_return l'.row ≡ true → v.born n ≤ w.born w.tail → Stands a (v.born (v.next t)) Other Pays' w l' → Costs a b Other Pays Pays' v w l'
helps {t = t} {v = v} leads r back there stands =
    let some : v.next t ≢ 0 = λ z. leads.some_node (sym leads.next_is ∙ z) in
    a_help (v.next t) back (r.later some) (r.pays some) (omega (arith, ap v.born leads.next_is)) stands

-- a turn that leaves the nexts alone
still : {count k mark t : ℕ} {Pays Pays' : ℕ → Type 0} {v w : Now} → w.next ≡ v.next → Sound count k v → Grows k v w → ((x : ℕ) → Pays x → Pays' x) → Ahead mark Pays v t → Ahead mark Pays' w t
still {t = t} e d g kept r = ahead_grows d g kept (λ z n. absurd (n (ap (λ (f : ℕ → ℕ). f t) e ∙ z))) r

pub turn_costs : {count k o a b start join : ℕ} {front : ℕ → ℕ} {Other Pays Pays' : ℕ → Type 0} {m m' : Memory} {born moved born' moved' : ℕ → ℕ} {l l' : Local} {e : Event} {ans : Answer} → Turn o m l m' l' e ans → Stands a b Other Pays (now_of m born moved) l → Queues.Knows front o start join (now_of m born moved) l → Sound count k (now_of m born moved) → Grows k (now_of m born moved) (now_of m' born' moved') → ((x : ℕ) → Pays x → Pays' x) → b ≤ born m.tail → ((AtQ4 l → ⊥) → m.next m.tail ≢ 0 → Pays (m.next m.tail)) → Costs a b Other Pays Pays' (now_of m born moved) (now_of m' born' moved') l'
unfolding with_head with_tail with_next is_return position same
turn_costs q1 in_q1 x d g kept low pays = nothing refl (in_q2 (still refl d g kept (reads_tail d low (pays (λ q. elim q [ ])))))
turn_costs (q2_last {t = t} z) (in_q2 r) x d g kept low pays =
    nothing refl (in_q3 (record { was_tail = reached_grows d g r.was_tail; later = λ n. absurd (n z); pays = λ n. absurd (n z) }))
turn_costs (q2_more z) (in_q2 r) x d g kept low pays = nothing refl (in_q5 (still refl d g kept r))
turn_costs (q3_links z) (in_q3 r) x d g kept low pays = nothing refl (in_q4 (reached_grows d g r.was_tail))
turn_costs {m = m} (q3_fails {t = t} z) (in_q3 r) x d g kept low pays = a_failure (m.next t) refl (r.later z) (r.pays z) in_q1
turn_costs (q4_moves z) (in_q4 r) x d g kept low pays = nothing refl in_done
turn_costs (q4_stays z) (in_q4 r) x d g kept low pays = nothing refl in_done
turn_costs (q5_moves z) (in_q5 r) (Queues.Knows.in_q5 y) d g kept low pays = helps y r refl (tail_comes d g y.next_is y.some_node refl) in_q1
turn_costs (q5_stays z) (in_q5 r) (Queues.Knows.in_q5 y) d g kept low pays = helps y r refl (tail_came d g r.was_tail y.next_is y.some_node z) in_q1
turn_costs t1 in_t1 x d g kept low pays = nothing refl in_t2
turn_costs t2 in_t2 x d g kept low pays = nothing refl (in_t3 (still refl d g kept (reads_tail d low (pays (λ q. elim q [ ])))))
turn_costs (t3_empty y z) (in_t3 r) x d g kept low pays = nothing refl in_empty
turn_costs (t3_helps y z) (in_t3 r) x d g kept low pays = nothing refl (in_t4 (still refl d g kept r))
turn_costs (t3_goes z) (in_t3 r) x d g kept low pays = nothing refl in_t5
turn_costs (t4_moves z) (in_t4 r) (Queues.Knows.in_t4 y) d g kept low pays = helps y r refl (tail_comes d g y.next_is y.some_node refl) in_t1
turn_costs (t4_stays z) (in_t4 r) (Queues.Knows.in_t4 y) d g kept low pays = helps y r refl (tail_came d g r.was_tail y.next_is y.some_node z) in_t1
turn_costs (t5_moves z) in_t5 x d g kept low pays = nothing refl in_item
turn_costs (t5_late z) in_t5 x d g kept low pays = nothing refl in_item

-- behind its Q4 an operation's node has been reached by Tail
pub q4_settles : {count k o a b start join : ℕ} {front : ℕ → ℕ} {Other Pays : ℕ → Type 0} {m m' : Memory} {born moved born' moved' : ℕ → ℕ} {l l' : Local} {e : Event} {ans : Answer} → Turn o m l m' l' e ans → AtQ4 l → Stands a b Other Pays (now_of m born moved) l → Queues.Knows front o start join (now_of m born moved) l → Sound count k (now_of m born moved) → Grows k (now_of m born moved) (now_of m' born' moved') → born o ≤ born' m'.tail
unfolding with_tail
q4_settles (q4_moves z) at_q4 (in_q4 r) (Queues.Knows.in_q4 y) d g = tail_comes d g y.next_is y.some_node refl
q4_settles (q4_stays z) at_q4 (in_q4 r) (Queues.Knows.in_q4 y) d g = tail_came d g r y.next_is y.some_node z
q4_settles turn here stands knows d g = elim here [ ]

-- an operation that links its node is before its Q4
pub links_to_q4 : {o : ℕ} {m m' : Memory} {l l' : Local} {ans : Answer} → Turn o m l m' l' Linked ans → AtQ4 l'
links_to_q4 (q3_links z) = at_q4
