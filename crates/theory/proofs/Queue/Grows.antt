-- What one step leaves of the queue's memory to whoever does not make it: links, nexts and stamps stay once they are there, Head and Tail
-- only go on. Assumes nothing.
use mathlib.Core.Path.{◌≡◌, refl, sym, ap, subst, ◌∙◌}
use mathlib.Core.Logic.{◌≢◌, ◌⊎◌, inl, inr}
use Prim.Native.Nat.{ℕ, suc, ◌≤◌, ◌<◌}
use native.Mathlib.Omega.{arith}
use Rattle.basics.proofs.Choice.{split}
use Rattle.basics.proofs.Maps.{upd_there, upd_elim}
use Rattle.machine.specs.declared.Event.{Event}
use Rattle.theory.proofs.Nodes.{IsLinked}
use Rattle.theory.proofs.Queue.Order.{link_keeps_born, link_keeps_linked, link_keeps_next}
use Rattle.theory.proofs.Queue.Memory.{Now, Sound, Change, Change.stays, Change.links, Change.tail_moves, Change.head_moves}

-- from v to w by step k + 1
pub record Grows (k : ℕ) (v w : Now) : Type 0 where
  pub stays_linked : (i : ℕ) → IsLinked v.born i → IsLinked w.born i
  pub born_kept : (i : ℕ) → IsLinked v.born i → w.born i ≡ v.born i
  pub next_kept : (i : ℕ) → v.next i ≢ 0 → w.next i ≡ v.next i
  pub head_goes_on : v.born v.head ≤ w.born w.head
  pub tail_goes_on : v.born v.tail ≤ w.born w.tail
  pub moved_kept : (i : ℕ) → v.moved i ≢ 0 → w.moved i ≡ v.moved i
  pub moved_new : (i : ℕ) → w.moved i ≢ 0 → (v.moved i ≢ 0) ⊎ (w.moved i ≡ suc k)

-- Head has not yet moved to the next of Head
pub next_unmoved : {count k : ℕ} {v : Now} → Sound count k v → {n : ℕ} → v.next v.head ≡ n → n ≢ 0 → v.moved n ≡ 0
next_unmoved {v} d {n} e m = go (split (v.moved n) 0)
  where
    later : v.born v.head < v.born n
    later = subst (λ x. v.born v.head < v.born x) e (d.order.ascends v.head (λ z. m (sym e ∙ z)))

    go : (v.moved n ≡ 0) ⊎ (v.moved n ≢ 0) → v.moved n ≡ 0
    go (inl z) = z
    go (inr f) = absurd (omega (arith, later, d.ends.moved_behind n f))

pub change_grows : {count k o : ℕ} {v w : Now} {e : Event} → Sound count k v → Change count k o v e w → Grows k v w
change_grows d (stays s) =
    record {
      stays_linked = λ i l. l;
      born_kept = λ i l. refl;
      next_kept = λ i n. refl;
      head_goes_on = omega arith;
      tail_goes_on = omega arith;
      moved_kept = λ i n. refl;
      moved_new = λ i n. inl n;
    }
change_grows d (links b) =
    record {
      stays_linked = λ i. link_keeps_linked d.order b;
      born_kept = λ i. link_keeps_born d.order b;
      next_kept = λ i. link_keeps_next d.order b;
      head_goes_on = omega (arith, link_keeps_born d.order b d.ends.head_linked);
      tail_goes_on = omega (arith, link_keeps_born d.order b d.ends.tail_linked);
      moved_kept = λ i n. refl;
      moved_new = λ i n. inl n;
    }
change_grows {v} d (tail_moves {n = n} e m) =
    record {
      stays_linked = λ i l. l;
      born_kept = λ i l. refl;
      next_kept = λ i n. refl;
      head_goes_on = omega arith;
      tail_goes_on = omega (arith, ap v.born e, d.order.ascends v.tail (λ z. m (sym e ∙ z)));
      moved_kept = λ i n. refl;
      moved_new = λ i n. inl n;
    }
change_grows {k} {v} d (head_moves {n = n} e m h) =
    record {
      stays_linked = λ i l. l;
      born_kept = λ i l. refl;
      next_kept = λ i n. refl;
      head_goes_on = omega (arith, ap v.born e, d.order.ascends v.head (λ z. m (sym e ∙ z)));
      tail_goes_on = omega arith;
      moved_kept = λ i f. upd_there v.moved n (suc k) (λ g. f (ap v.moved g ∙ next_unmoved d e m));
      moved_new = λ i. upd_elim (λ x. x ≢ 0 → (v.moved i ≢ 0) ⊎ (x ≡ suc k)) v.moved n (suc k) i (λ g f. inr refl) (λ g f. inl f);
    }
