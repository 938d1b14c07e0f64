-- The queue's memory with the steps that linked its nodes and moved Head to them: what always holds of it, the four changes that a step
-- makes to it, and that they keep it. Assumes nothing.
use mathlib.Core.Path.{◌≡◌, refl, sym, ◌∙◌}
use mathlib.Core.Logic.{◌≢◌, ◌⊎◌, inl, inr}
use Prim.Native.Nat.{ℕ, suc, ◌≤◌}
use mathlib.Core.List.{List, []}
use native.Mathlib.Omega.{arith}
use Rattle.basics.specs.Maps.{upd}
use Rattle.basics.proofs.Choice.{split}
use Rattle.basics.proofs.Maps.{upd_here}
use Rattle.machine.specs.declared.Event.{Event}
use Rattle.machine.specs.declared.Event.TheVariants.{Quiet, Round, Linked, Moved, Late}
use Rattle.theory.proofs.Nodes.{IsLinked, Nodes, Nodes.end}
use Rattle.theory.proofs.Queue.Order.{Order, CanLink}

-- Head, Tail and the nexts; the step that linked a node, and the first that moved Head to it (0: none)
pub record Now : Type 0 where
  pub head : ℕ
  pub tail : ℕ
  pub next : ℕ → ℕ
  pub born : ℕ → ℕ
  pub moved : ℕ → ℕ

-- where Head and Tail stand among the nodes
pub record Ends (k : ℕ) (v : Now) : Type 0 where
  pub head_linked : IsLinked v.born v.head
  pub tail_linked : IsLinked v.born v.tail
  pub head_to_tail : v.born v.head ≤ v.born v.tail
  -- Head has moved to the nodes born up to it, and to no others
  pub moved_linked : (i : ℕ) → v.moved i ≢ 0 → v.born i ≢ 0
  pub moved_behind : (i : ℕ) → v.moved i ≢ 0 → v.born i ≤ v.born v.head
  pub behind_moved : (i : ℕ) → v.born i ≢ 0 → v.born i ≤ v.born v.head → v.moved i ≢ 0
  pub moved_by_now : (i : ℕ) → v.moved i ≤ k

-- after k steps on `count` operations
pub record Sound (count k : ℕ) (v : Now) : Type 0 where
  pub order : Order count k v.next v.born
  pub ends : Ends k v
  -- the nodes behind Head
  pub contents : List ℕ
  pub nodes : Nodes v.next (v.next v.head) contents

-- a fresh queue: the sentinel alone is linked
pub fresh_sound : (count : ℕ) → Sound count 0 (record { head = 0; tail = 0; next = λ i. 0; born = λ i. 0; moved = λ i. 0 })
fresh_sound count =
    record {
      order =
          record {
            sentinel_unborn = refl;
            born_by_now = λ i. omega arith;
            born_operation = λ i n. absurd (n refl);
            born_apart = λ i x li lx e. sentinel li (split i 0) ∙ sym (sentinel lx (split x 0));
            from_linked = λ i n. absurd (n refl);
            to_linked = λ i n. absurd (n refl);
            ascends = λ i n. absurd (n refl);
            adjacent = λ i n. absurd (n refl);
            last = λ i l z x. omega arith;
          };
      ends =
          record {
            head_linked = λ n. absurd (n refl);
            tail_linked = λ n. absurd (n refl);
            head_to_tail = omega arith;
            moved_linked = λ i n. absurd (n refl);
            moved_behind = λ i n. absurd (n refl);
            behind_moved = λ i n. absurd (n refl);
            moved_by_now = λ i. omega arith;
          };
      contents = [];
      nodes = end refl;
    }
  where
    sentinel : {i : ℕ} → (i ≢ 0 → ◌≡◌ {A = ℕ} 0 0 → ⊥) → (i ≡ 0) ⊎ (i ≢ 0) → i ≡ 0
    sentinel l (inl z) = z
    sentinel l (inr n) = absurd (l n refl)

-- an event of a step that leaves memory and its stamps as they are
pub data Still : Event → Type 0 where
  quiet : Still Quiet
  round : Still Round
  late : {n : ℕ} → Still (Late n)

-- step k + 1, by operation o, with its event
pub data Change (count k o : ℕ) (v : Now) : Event → Now → Type 0 where
  stays : {e : Event} → Still e → Change count k o v e v
  -- Q3 links o's node behind the last one
  links : {t : ℕ} → CanLink count v.next v.born t o → Change count k o v Linked (record { head = v.head; tail = v.tail; next = upd v.next t o; born = upd v.born o (suc k); moved = v.moved })
  -- Q4, Q5 and T4 move Tail to its next
  tail_moves : {n : ℕ} → v.next v.tail ≡ n → n ≢ 0 → Change count k o v Quiet (record { head = v.head; tail = n; next = v.next; born = v.born; moved = v.moved })
  -- T5 moves Head to its next
  head_moves : {n : ℕ} → v.next v.head ≡ n → n ≢ 0 → v.born n ≤ v.born v.tail → Change count k o v (Moved n) (record { head = n; tail = v.tail; next = v.next; born = v.born; moved = upd v.moved n (suc k) })

-- a step that moves Head to n stamps n, a node
pub change_stamps : {count k o n : ℕ} {v w : Now} → Change count k o v (Moved n) w → (n ≢ 0) × (w.moved n ≡ suc k)
change_stamps (stays s) = elim s [ ]
change_stamps {k} {v} (head_moves {n = n} e m h) = (m, upd_here v.moved n (suc k))
