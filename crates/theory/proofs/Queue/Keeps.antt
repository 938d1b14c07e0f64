-- Every change keeps what always holds of the queue's memory, and turns its contents as the step's event says. Assumes nothing.
use mathlib.Core.Path.{◌≡◌, refl, sym, ap, subst, ◌∙◌}
use mathlib.Core.Logic.{◌≢◌, ◌⊎◌, inl, inr}
use Prim.Native.Nat.{ℕ, suc, ◌≤◌}
use mathlib.Core.List.{List, [], ◌∷◌, ◌++◌}
use native.Mathlib.Omega.{arith}
use Rattle.basics.specs.Maps.{upd}
use Rattle.basics.proofs.Choice.{split}
use Rattle.basics.proofs.Maps.{upd_here, upd_there, upd_elim}
use Rattle.machine.specs.declared.Event.{Event}
use Rattle.machine.specs.declared.Event.TheVariants.{Linked, Moved}
use Rattle.theory.proofs.Nodes.{IsLinked, Nodes, nodes_first}
use Rattle.theory.proofs.Queue.Order.{CanLink, order_later, link_keeps_order, link_keeps_born, link_keeps_linked, link_lengthens}
use Rattle.theory.proofs.Queue.Memory.{Now, Ends, Sound, Still, Still.quiet, Change, Change.stays, Change.links, Change.tail_moves, Change.head_moves}

-- the contents after a step, by its event: a link adds at the back, a move of Head removes the front, nothing else changes them
pub data Turns (o : ℕ) (l r : List ℕ) : Event → Type 0 where
  keeps : {e : Event} → Still e → r ≡ l → Turns o l r e
  adds : r ≡ l ++ (o ∷ []) → Turns o l r Linked
  removes : {n : ℕ} → l ≡ n ∷ r → Turns o l r (Moved n)

ends_later : {k : ℕ} {v : Now} → Ends k v → Ends (suc k) v
ends_later {k} {v} d =
    record {
      head_linked = d.head_linked;
      tail_linked = d.tail_linked;
      head_to_tail = d.head_to_tail;
      moved_linked = d.moved_linked;
      moved_behind = d.moved_behind;
      behind_moved = d.behind_moved;
      moved_by_now = λ i. let h : v.moved i ≤ k = d.moved_by_now i in omega arith;
    }

module _ {count k : ℕ} {v : Now} (d : Sound count k v) where
  module _ {t o : ℕ} (b : CanLink count v.next v.born t o) where
    kept : {i : ℕ} → IsLinked v.born i → upd v.born o (suc k) i ≡ v.born i
    kept = link_keeps_born d.order b

    link_keeps_ends : Ends (suc k) (record { head = v.head; tail = v.tail; next = upd v.next t o; born = upd v.born o (suc k); moved = v.moved })
    link_keeps_ends =
        record {
          head_linked = link_keeps_linked d.order b d.ends.head_linked;
          tail_linked = link_keeps_linked d.order b d.ends.tail_linked;
          head_to_tail = omega (arith, kept d.ends.head_linked, kept d.ends.tail_linked, d.ends.head_to_tail);
          moved_linked = λ i m z. d.ends.moved_linked i m (sym (moved_kept i m) ∙ z);
          moved_behind = λ i m. omega (arith, moved_kept i m, kept d.ends.head_linked, d.ends.moved_behind i m);
          behind_moved = λ i. behind i (split i o);
          moved_by_now = λ i. omega (arith, d.ends.moved_by_now i);
        }
      where
        moved_kept : (i : ℕ) → v.moved i ≢ 0 → upd v.born o (suc k) i ≡ v.born i
        moved_kept i m = kept (λ n. d.ends.moved_linked i m)

        behind : (i : ℕ) → (i ≡ o) ⊎ (i ≢ o) → upd v.born o (suc k) i ≢ 0 → upd v.born o (suc k) i ≤ upd v.born o (suc k) v.head → v.moved i ≢ 0
        behind i (inl e) m h =
            let y : upd v.born o (suc k) i ≡ suc k = ap (upd v.born o (suc k)) e ∙ upd_here v.born o (suc k) in
            absurd (omega (arith, kept d.ends.head_linked, d.order.born_by_now v.head))
        behind i (inr n) m h =
            let y : upd v.born o (suc k) i ≡ v.born i = upd_there v.born o (suc k) n in
            d.ends.behind_moved i (λ z. m (y ∙ z)) (omega (arith, kept d.ends.head_linked))

  tail_keeps_ends : v.next v.tail ≢ 0 → Ends (suc k) (record { head = v.head; tail = v.next v.tail; next = v.next; born = v.born; moved = v.moved })
  tail_keeps_ends m =
      record {
        head_linked = d.ends.head_linked;
        tail_linked = λ n. d.order.to_linked v.tail m;
        head_to_tail = omega (arith, d.ends.head_to_tail, d.order.ascends v.tail m);
        moved_linked = d.ends.moved_linked;
        moved_behind = d.ends.moved_behind;
        behind_moved = d.ends.behind_moved;
        moved_by_now = λ i. omega (arith, d.ends.moved_by_now i);
      }

  head_keeps_ends : v.next v.head ≢ 0 → v.born (v.next v.head) ≤ v.born v.tail → Ends (suc k) (record { head = v.next v.head; tail = v.tail; next = v.next; born = v.born; moved = upd v.moved (v.next v.head) (suc k) })
  head_keeps_ends m h =
      record {
        head_linked = λ n. d.order.to_linked v.head m;
        tail_linked = d.ends.tail_linked;
        head_to_tail = h;
        moved_linked = λ i. upd_elim (λ x. x ≢ 0 → v.born i ≢ 0) v.moved (v.next v.head) (suc k) i (λ e n z. d.order.to_linked v.head m (ap v.born (sym e) ∙ z)) (λ e. d.ends.moved_linked i);
        moved_behind = λ i. upd_elim (λ x. x ≢ 0 → v.born i ≤ v.born (v.next v.head)) v.moved (v.next v.head) (suc k) i (λ e n. omega (arith, ap v.born e)) (λ e n. omega (arith, d.ends.moved_behind i n, d.order.ascends v.head m));
        behind_moved = λ i b c. upd_elim (λ x. x ≢ 0) v.moved (v.next v.head) (suc k) i (λ e. omega arith) (λ e. behind i b c e (d.order.adjacent v.head m i));
        moved_by_now = λ i. upd_elim (λ x. x ≤ suc k) v.moved (v.next v.head) (suc k) i (λ e. omega arith) (λ e. omega (arith, d.ends.moved_by_now i));
      }
    where
      behind : (i : ℕ) → v.born i ≢ 0 → v.born i ≤ v.born (v.next v.head) → i ≢ v.next v.head → (v.born i ≤ v.born v.head) ⊎ (v.born (v.next v.head) ≤ v.born i) → v.moved i ≢ 0
      behind i b c e (inl f) = d.ends.behind_moved i b f
      behind i b c e (inr f) = absurd (e (d.order.born_apart i (v.next v.head) (λ n. b) (λ n. d.order.to_linked v.head m) (omega arith)))

-- a change keeps it all, and turns the contents by its event
pub change_keeps : {count k o : ℕ} {v w : Now} {e : Event} → Change count k o v e w → (d : Sound count k v) → (f : Sound count (suc k) w) × Turns o d.contents f.contents e
change_keeps (stays s) d =
    (record { order = order_later d.order; ends = ends_later d.ends; contents = d.contents; nodes = d.nodes }, keeps s refl)
change_keeps {o} (links b) d = (
  record {
    order = link_keeps_order d.order b;
    ends = link_keeps_ends d b;
    contents = d.contents ++ (o ∷ []);
    nodes = link_lengthens d.order b d.nodes refl d.ends.head_linked;
  },
  adds refl,
)
change_keeps {k} {v} (tail_moves {n = n} e m) d = (
  record {
    order = order_later d.order;
    ends = subst (λ x. Ends (suc k) (record { head = v.head; tail = x; next = v.next; born = v.born; moved = v.moved })) e (tail_keeps_ends d (λ z. m (sym e ∙ z)));
    contents = d.contents;
    nodes = d.nodes;
  },
  keeps quiet refl,
)
change_keeps {k} {v} (head_moves {n = n} e m h) d =
    let some : v.next v.head ≢ 0 = λ z. m (sym e ∙ z) in
    let behind : (r : List ℕ) × (d.contents ≡ v.next v.head ∷ r) × Nodes v.next (v.next (v.next v.head)) r = nodes_first d.nodes some in (
      record {
        order = order_later d.order;
        ends = subst (λ x. Ends (suc k) (record { head = x; tail = v.tail; next = v.next; born = v.born; moved = upd v.moved x (suc k) })) e (head_keeps_ends d some (subst (λ x. v.born x ≤ v.born v.tail) (sym e) h));
        contents = behind.0;
        nodes = subst (λ x. Nodes v.next (v.next x) behind.0) e behind.2;
      },
      removes (behind.1 ∙ ap (λ x. x ∷ behind.0) e),
    )
