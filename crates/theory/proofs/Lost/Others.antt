-- The ledger of a process over a step of another, or of nobody: it loses nothing, and a node that the step links is one to pay with. Assumes nothing.
use mathlib.Core.Path.{◌≡◌, refl, sym, ap, subst, ◌∙◌}
use mathlib.Core.Logic.{◌≢◌, ◌⊎◌, inl, inr}
use Prim.Native.Nat.{ℕ, suc, ◌≤◌, ◌<◌}
use mathlib.Core.Bool.{false}
use native.Mathlib.Omega.{arith}
use Rattle.basics.specs.Maps.{upd}
use Rattle.basics.proofs.Choice.{split}
use Rattle.basics.proofs.Maps.{upd_here, upd_there}
use Rattle.job.specs.declared.Kind.TheVariants.{Queue}
use Rattle.job.specs.Job.{Job}
use Rattle.machine.specs.declared.Event.{Event}
use Rattle.machine.specs.declared.Event.TheVariants.{Linked}
use Rattle.machine.specs.declared.Place.{Place}
use Rattle.machine.specs.Run.{before, operation_after, state_after}
use Rattle.machine.specs.Notes.{note}
use Rattle.machine.specs.Journal.{link}
use Rattle.machine.specs.Drops.{dropped, drop}
use Rattle.machine.proofs.Stamps.{link_le, drop_new}
use Rattle.machine.proofs.Turns.Locals.{Local}
use Rattle.theory.proofs.Course.{Course}
use Rattle.theory.proofs.Operations.{course}
use Rattle.theory.proofs.Operations.Locals.{memory}
use Rattle.theory.proofs.Queue.Memory.{Now, Change, Change.stays, Change.links, Change.tail_moves, Change.head_moves}
use Rattle.theory.proofs.Queue.Now.{now}
use Rattle.theory.proofs.Queue.Always.{always}
use Rattle.machine.proofs.Tallies.{tally_misses}
use Rattle.theory.proofs.Lost.Totals.{of_process}
use Rattle.theory.proofs.Lost.Charges.{who, drop_stays}
use Rattle.theory.proofs.Lost.Rows.{Stands, stands_grows}
use Rattle.theory.proofs.Lost.Turns.{AtQ4}
use Rattle.theory.proofs.Lost.Ledger.{as_queue, local_of, Other, Pays, at_place, Settled, Settled.at_hand, Settled.gone, lost_by, Ledger, changes, grows, new_node, pays_later, paid_later, stands_before, settled_kept}

-- a next that a step gives to a node is the node that the step links
record NewNext (k o : ℕ) (w : Now) (i : ℕ) (e : Event) : Type 0 where
  links_it : e ≡ Linked
  is_own : w.next i ≡ o
  born_now : w.born o ≡ suc k

new_next : {count k o : ℕ} {v w : Now} {e : Event} → Change count k o v e w → (i : ℕ) → v.next i ≡ 0 → w.next i ≢ 0 → NewNext k o w i e
new_next (stays s) i z n = absurd (n z)
new_next {k = k} {o = o} {v = v} (links {t = t} b) i z n =
    record { links_it = refl; is_own = by_node (split i t); born_now = upd_here v.born o (suc k) }
  where
    by_node : (i ≡ t) ⊎ (i ≢ t) → upd v.next t o i ≡ o
    by_node (inl e) = ap (upd v.next t o) e ∙ upd_here v.next t o
    by_node (inr m) = absurd (n (upd_there v.next t o m ∙ z))
new_next (tail_moves e m) i z n = absurd (n z)
new_next (head_moves e m h) i z n = absurd (n z)

module _ (base : Job) (p k : ℕ) (held : Ledger base p k) where
  abbrev j : Job
  j = as_queue base

  abbrev c : Course Queue
  c = course j

  -- step k + 1 is another's or nobody's
  module _ (apart : (note j (suc k)).event ≡ Linked → Other j p (note j (suc k)).by) (none_lost : of_process (λ s. (note j s).back) (who j) p (suc k) ≡ false) where
    pays_new : (mark : ℕ) → mark ≤ k → (t : ℕ) → (now c k).next t ≡ 0 → (now c (suc k)).next t ≢ 0 → (mark < (now c (suc k)).born ((now c (suc k)).next t)) × Other j p ((now c (suc k)).next t)
    pays_new mark low t z n =
        let new : NewNext k (note j (suc k)).by (now c (suc k)) t (note j (suc k)).event = new_next (changes base k) t z n in
        (omega (arith, ap (now c (suc k)).born new.is_own, new.born_now), subst (Other j p) (sym new.is_own) (apart new.links_it))

    b_made : held.b ≤ k
    b_made = omega (arith, held.b_reached, link_le (note j) k (memory j k).tail)

    stands_on : {l : Local} → Stands held.a held.b (Other j p) (Pays j p k) (now c k) l → Stands held.a held.b (Other j p) (Pays j p (suc k)) (now c (suc k)) l
    stands_on =
        stands_grows (always c k).sound (grows base k) (pays_later base p k) (pays_new held.a held.a_made)
        (λ t z n. ((pays_new held.b b_made t z n).0, inl (pays_new held.b b_made t z n).1))

    -- an own node was linked before
    linked_before : (x : ℕ) → j.owner x ≡ p → link (note j) (suc k) x ≢ 0 → link (note j) k x ≢ 0
    linked_before x own n z = let new = new_node base k x z n in apart new.1 (ap j.owner new.0 ∙ own)

    ledger_of_other : Stands held.a held.b (Other j p) (Pays j p (suc k)) (now c (suc k)) (at_place j p (suc k)) → ((x : ℕ) → ((state_after j k).places p).operation.0 ≡ x → AtQ4 (at_place j p k) → Settled j p (suc k) x) → Ledger base p (suc k)
    unfolding lost_by
    ledger_of_other stands hand =
        record {
          a = held.a;
          b = held.b;
          a_made = omega (arith, held.a_made);
          b_reached = omega (arith, held.b_reached, (grows base k).tail_goes_on);
          paid = omega (arith, held.paid, paid_later base p k held.a held.b, tally_misses (of_process (λ s. (note j s).back) (who j) p) k none_lost);
          settled = λ x own n. settled_kept base p k held x (linked_before x own n) (held.settled x own (linked_before x own n)) (hand x);
          stands = stands;
        }

    -- and p stands where it did
    pub ledger_kept : (state_after j (suc k)).places p ≡ (state_after j k).places p → Ledger base p (suc k)
    unfolding at_place
    ledger_kept same_place =
        ledger_of_other (subst (λ x. Stands held.a held.b (Other j p) (Pays j p (suc k)) (now c (suc k)) (local_of x)) (sym same_place) (stands_on held.stands))
        (λ x e q. at_hand (ap (λ (y : Place). y.operation.0) same_place ∙ e) (subst (λ y. AtQ4 (local_of y)) (sym same_place) q))

    -- or it dropped the operation in its hand
    pub ledger_dropped : (o : ℕ) → ((state_after j k).places p).operation.0 ≡ o → dropped j (suc k) ≡ o → (state_after j (suc k)).places p ≡ before j (operation_after j p o) → Ledger base p (suc k)
    unfolding at_place
    ledger_dropped o in_hand named moved =
        ledger_of_other (subst (λ x. Stands held.a held.b (Other j p) (Pays j p (suc k)) (now c (suc k)) (local_of x)) (sym moved) (stands_before base p (operation_after j p o)))
        (λ x e q. gone (dropped_now x (sym in_hand ∙ e)))
      where
        dropped_now : (x : ℕ) → o ≡ x → drop j (suc k) x ≢ 0
        dropped_now x e = by_drop (split (drop j k x) 0)
          where
            by_drop : (drop j k x ≡ 0) ⊎ (drop j k x ≢ 0) → drop j (suc k) x ≢ 0
            by_drop (inl z) f = let at : suc k ≡ 0 = sym (drop_new j x k (named ∙ e) z) ∙ f in omega arith
            by_drop (inr n) f = drop_stays j k x n f
