-- The ledger of a process over a step of its own: what the turn costs is paid for, and what it links is settled. Assumes nothing.
use mathlib.Core.Path.{◌≡◌, refl, sym, ap, subst, ◌∙◌}
use mathlib.Core.Logic.{◌≢◌, ◌⊎◌, inl, inr}
use Prim.Native.Nat.{ℕ, suc, ◌≤◌, ◌<◌}
use mathlib.Core.Bool.{true, false}
use native.Mathlib.Omega.{arith}
use Rattle.basics.proofs.Choice.{both, split, pick_else}
use Rattle.job.specs.declared.Kind.TheVariants.{Queue}
use Rattle.job.specs.Job.{Job}
use Rattle.machine.specs.declared.Event.TheVariants.{Linked}
use Rattle.machine.specs.declared.Place.{Place}
use Rattle.machine.specs.Table.{ended, end_of, is_end, is_return}
use Rattle.machine.specs.Run.{registers, row_after, state_after}
use Rattle.machine.specs.Notes.{acted, note}
use Rattle.machine.specs.Journal.{link}
use Rattle.machine.specs.Drops.{drop}
use Rattle.machine.specs.Lost.{tally}
use Rattle.machine.proofs.Stamps.{link_le, link_stays}
use Rattle.machine.proofs.Turns.Locals.{Local, reaches, local_after}
use Rattle.machine.proofs.Turns.Queue.{Turn}
use Rattle.theory.proofs.Course.{Course, ActsIn}
use Rattle.theory.proofs.Life.{own_or_other}
use Rattle.theory.proofs.Operations.{course}
use Rattle.theory.proofs.Operations.Locals.{memory, local}
use Rattle.theory.proofs.Operations.Hands.{place_of, next_place, Acting, local_own, by_own, place_moved, place_ended}
use Rattle.theory.proofs.Queue.Now.{now}
use Rattle.theory.proofs.Queue.Always.{always}
use Rattle.machine.proofs.Tallies.{tally_meets, tally_misses, tally_up, tally_past}
use Rattle.theory.proofs.Lost.Totals.{of_process, of_process_is, of_process_unless}
use Rattle.theory.proofs.Lost.Charges.{who, links_gone, others, node_of_other, node_gone}
use Rattle.theory.proofs.Lost.Rows.{Stands}
use Rattle.theory.proofs.Lost.Turns.{AtQ4, AtQ4.at_q4, Costs, Costs.nothing, Costs.a_failure, Costs.a_help, turn_costs, q4_settles, links_to_q4}
use Rattle.theory.proofs.Lost.Ledger.{as_queue, local_of, grows, new_node, Other, Pays, at_place, Settled, Settled.reached, Settled.at_hand, Settled.gone, lost_by, paid_by, Ledger, pays_later, paid_later, stands_before, settled_kept}

-- an operation before its Q4 has not ended
q4_going : {l : Local} → AtQ4 l → ended l.row ≡ false
unfolding ended end_of is_end
q4_going at_q4 = refl

module _ (base : Job) (p k o : ℕ) (held : Ledger base p k) (a : Acting (as_queue base) k p o) where
  abbrev j : Job
  j = as_queue base

  abbrev c : Course Queue
  c = course j

  some : o ≢ 0
  some z = let low : 1 ≤ o = a.hand.from_one in omega arith

  acts : ActsIn c k o
  acts = own_or_other c k o some {P = ActsIn c k o} (λ n l. absurd (n (by_own a))) (λ x. x)

  own_after : local j (suc k) o ≡ local_after o (memory j k) (local j k o)
  own_after = local_own j k o (by_own a)

  -- p stands where the operation in its hand does
  place_is : at_place j p k ≡ local j k o
  unfolding at_place local_of place_of registers
  place_is = ap local_of a.hand.place_is

  in_hand : ((state_after j k).places p).operation.0 ≡ o
  unfolding place_of
  in_hand = ap (λ (x : Place). x.operation.0) a.hand.place_is

  stands : Stands held.a held.b (Other j p) (Pays j p k) (now c k) (local j k o)
  stands = subst (Stands held.a held.b (Other j p) (Pays j p k) (now c k)) place_is held.stands

  -- the node behind Tail is another's, or was dropped
  tail_pays : (AtQ4 (local j k o) → ⊥) → (memory j k).next (memory j k).tail ≢ 0 → Pays j p k ((memory j k).next (memory j k).tail)
  tail_pays not_q4 n = by_owner (split (j.owner x) p)
    where
      x : ℕ
      x = (memory j k).next (memory j k).tail

      by_settled : Settled j p k x → drop j k x ≢ 0
      by_settled (reached h) = absurd (let low : link (note j) k (memory j k).tail < link (note j) k x = (always c k).sound.order.ascends (memory j k).tail n in omega arith)
      by_settled (at_hand e q) = absurd (not_q4 (subst AtQ4 place_is q))
      by_settled (gone d) = d

      by_owner : (j.owner x ≡ p) ⊎ (j.owner x ≢ p) → (j.owner x ≢ p) ⊎ (drop j k x ≢ 0)
      by_owner (inl e) = inr (by_settled (held.settled x e ((always c k).sound.order.to_linked (memory j k).tail n)))
      by_owner (inr e) = inl e

  costs : Costs held.a held.b (Other j p) (Pays j p k) (Pays j p (suc k)) (now c k) (now c (suc k)) (local j (suc k) o)
  costs = turn_costs acts.turned stands ((always c k).knows o some) (always c k).sound (grows base k) (pays_later base p k) held.b_reached tail_pays

  -- the step was p's, and went back if the operation stands at Q1 or T1 behind it
  its_own : who j (suc k) ≡ p
  unfolding who
  its_own = ap j.owner (by_own a) ∙ a.hand.owned a.to_count

  back_is : (note j (suc k)).back ≡ is_return (local j (suc k) o).row
  unfolding acted place_of row_after local_after reaches
  back_is = ap (λ x. x.back) a.said ∙ ap (λ (l : Local). is_return l.row) (sym own_after)

  lost_one : is_return (local j (suc k) o).row ≡ true → lost_by j p (suc k) ≡ suc (lost_by j p k)
  unfolding lost_by
  lost_one e = tally_meets (of_process (λ s. (note j s).back) (who j) p) k (of_process_is (λ s. (note j s).back) (who j) p (suc k) (back_is ∙ e) its_own)

  lost_none : is_return (local j (suc k) o).row ≡ false → lost_by j p (suc k) ≡ lost_by j p k
  unfolding lost_by
  lost_none e = tally_misses (of_process (λ s. (note j s).back) (who j) p) k (of_process_unless (λ s. (note j s).back) (who j) p (suc k) (back_is ∙ e))

  -- where p stands behind the step
  goes_on : ended (local_after o (memory j k) (local j k o)).row ≡ false → (state_after j (suc k)).places p ≡ place_of o (local j (suc k) o)
  unfolding next_place
  goes_on e = place_moved a ∙ pick_else _ _ e ∙ ap (place_of o) (sym own_after)

  stands_next : {a' b' : ℕ} → Stands a' b' (Other j p) (Pays j p (suc k)) (now c (suc k)) (local j (suc k) o) → Stands a' b' (Other j p) (Pays j p (suc k)) (now c (suc k)) (at_place j p (suc k))
  unfolding at_place local_of place_of registers
  stands_next {a'} {b'} s = by_end (both (ended (local_after o (memory j k) (local j k o)).row))
    where
      at : Place → Type 0
      at x = Stands a' b' (Other j p) (Pays j p (suc k)) (now c (suc k)) (local_of x)

      by_end : (ended (local_after o (memory j k) (local j k o)).row ≡ true) ⊎ (ended (local_after o (memory j k) (local j k o)).row ≡ false) → at ((state_after j (suc k)).places p)
      by_end (inl e) = subst at (sym (place_ended a e)) (stands_before base p _)
      by_end (inr e) = subst at (sym (goes_on e)) s

  -- a node that the step links is in p's hand before its Q4
  linked_settled : (note j (suc k)).event ≡ Linked → Settled j p (suc k) o
  unfolding at_place local_of place_of registers
  linked_settled e =
      let q : AtQ4 (local j (suc k) o) = links_to_q4 (subst (λ x. Turn o (memory j k) (local j k o) (memory j (suc k)) (local j (suc k) o) x (note j (suc k)).answer) e acts.turned) in
      let place : (state_after j (suc k)).places p ≡ place_of o (local j (suc k) o) = goes_on (ap (λ (l : Local). ended l.row) (sym own_after) ∙ q4_going q) in
      at_hand (ap (λ (x : Place). x.operation.0) place) (subst (λ x. AtQ4 (local_of x)) (sym place) q)

  settled_next : (x : ℕ) → j.owner x ≡ p → link (note j) (suc k) x ≢ 0 → Settled j p (suc k) x
  settled_next x own n = by_link (split (link (note j) k x) 0)
    where
      behind_q4 : ((state_after j k).places p).operation.0 ≡ x → link (note j) k x ≢ 0 → AtQ4 (at_place j p k) → Settled j p (suc k) x
      behind_q4 e linked q =
          let is : o ≡ x = sym in_hand ∙ e in
          let h : link (note j) k o ≤ link (note j) (suc k) (memory j (suc k)).tail = q4_settles acts.turned (subst AtQ4 place_is q) stands ((always c k).knows o some) (always c k).sound (grows base k) in
          reached (omega (arith, ap (link (note j) k) is, link_stays (note j) k x (suc k) (omega arith) linked))

      by_link : (link (note j) k x ≡ 0) ⊎ (link (note j) k x ≢ 0) → Settled j p (suc k) x
      by_link (inl z) = let new = new_node base k x z n in subst (Settled j p (suc k)) (sym (by_own a) ∙ new.0) (linked_settled new.1)
      by_link (inr m) = settled_kept base p k held x m (held.settled x own m) (λ e q. behind_q4 e m q)

  -- the ledger behind the step, with what it paid
  ledger_with : (a' b' : ℕ) → a' ≤ suc k → b' ≤ link (note j) (suc k) (memory j (suc k)).tail → lost_by j p (suc k) ≤ paid_by j p (suc k) a' b' → Stands a' b' (Other j p) (Pays j p (suc k)) (now c (suc k)) (local j (suc k) o) → Ledger base p (suc k)
  ledger_with a' b' made there paid s =
      record { a = a'; b = b'; a_made = made; b_reached = there; paid = paid; settled = settled_next; stands = stands_next s }

  -- node x is enough to pay with for a failed Q3, or for a help
  failure_paid : (x : ℕ) → held.a < link (note j) k x → Other j p x → suc (paid_by j p k held.a held.b) ≤ paid_by j p k (link (note j) k x) held.b
  unfolding paid_by
  failure_paid x later other = omega (arith, tally_past (others j p) held.a (link (note j) k x) later (node_of_other j k x (λ z. omega arith) p other))

  help_paid : (x : ℕ) → held.b < link (note j) k x → Pays j p k x → suc (paid_by j p k held.a held.b) ≤ paid_by j p k held.a (link (note j) k x)
  unfolding paid_by
  help_paid x later pays = by_owner (split (j.owner x) p) pays
    where
      others_up : tally (others j p) held.b ≤ tally (others j p) (link (note j) k x)
      others_up = tally_up (others j p) held.b (link (note j) k x) (omega arith)

      gone_up : tally (of_process (links_gone j k) (who j) p) held.b ≤ tally (of_process (links_gone j k) (who j) p) (link (note j) k x)
      gone_up = tally_up (of_process (links_gone j k) (who j) p) held.b (link (note j) k x) (omega arith)

      by_owner : (j.owner x ≡ p) ⊎ (j.owner x ≢ p) → (j.owner x ≢ p) ⊎ (drop j k x ≢ 0) → suc (paid_by j p k held.a held.b) ≤ paid_by j p k held.a (link (note j) k x)
      by_owner (inr n) d = omega (arith, tally_past (others j p) held.b (link (note j) k x) later (node_of_other j k x (λ z. omega arith) p n), gone_up)
      by_owner (inl e) (inl n) = absurd (n e)
      by_owner (inl e) (inr d) = omega (arith, tally_past (of_process (links_gone j k) (who j) p) held.b (link (note j) k x) later (node_gone j k x (λ z. omega arith) p e d), others_up)

  pub ledger_own : Ledger base p (suc k)
  ledger_own = by_cost costs
    where
      by_cost : Costs held.a held.b (Other j p) (Pays j p k) (Pays j p (suc k)) (now c k) (now c (suc k)) (local j (suc k) o) → Ledger base p (suc k)
      by_cost (nothing on s) =
          ledger_with held.a held.b (omega (arith, held.a_made)) (omega (arith, held.b_reached, (grows base k).tail_goes_on))
          (omega (arith, lost_none on, held.paid, paid_later base p k held.a held.b)) s
      by_cost (a_failure x back later other s) =
          ledger_with (link (note j) k x) held.b (omega (arith, link_le (note j) k x)) (omega (arith, held.b_reached, (grows base k).tail_goes_on))
          (omega (arith, lost_one back, held.paid, failure_paid x later other, paid_later base p k (link (note j) k x) held.b)) s
      by_cost (a_help x back later pays there s) =
          ledger_with held.a (link (note j) k x) (omega (arith, held.a_made)) there
          (omega (arith, lost_one back, held.paid, help_paid x later pays, paid_later base p k held.a (link (note j) k x))) s
