-- The ledger holds after any number of steps, whoever makes them; so what a process loses is paid for with the nodes of others, twice, and with its own that were
-- dropped before their Q4. Assumes nothing.
use mathlib.Core.Path.{◌≡◌, sym, ap, subst, ◌∙◌}
use mathlib.Core.Logic.{◌≢◌, ◌⊎◌, inl, inr}
use Prim.Native.Nat.{ℕ, zero, suc, ◌+◌, ◌*◌, ◌≤◌}
use mathlib.Core.Bool.{false, true≢false}
use native.Mathlib.Omega.{arith}
use Rattle.basics.specs.Choice.{same}
use Rattle.basics.proofs.Choice.{split}
use Rattle.basics.proofs.Maps.{upd_there}
use Rattle.job.specs.Job.{Job}
use Rattle.machine.specs.declared.Event.TheVariants.{Linked}
use Rattle.machine.specs.declared.Place.{Place}
use Rattle.machine.specs.Run.{fresh_state, state_after, operation_after}
use Rattle.machine.specs.Notes.{idle, note}
use Rattle.machine.specs.Journal.{is_linked}
use Rattle.machine.specs.Lost.{tally}
use Rattle.machine.proofs.Stamps.{link_zero, link_le}
use Rattle.theory.proofs.Operations.Locals.{memory}
use Rattle.theory.proofs.Operations.Hands.{place_of, Acting, Dropping, OneStep, one_step, by_own, place_dropped}
use Rattle.theory.proofs.Operations.Hands.OneStep.{idles, drops, acts}
use Rattle.machine.proofs.Tallies.{tally_zero, tally_up, tally_parts}
use Rattle.theory.proofs.Lost.Totals.{of_process, of_process_unless, of_process_other}
use Rattle.theory.proofs.Lost.Charges.{who, links_at, links_gone, others}
use Rattle.theory.proofs.Lost.Ledger.{as_queue, at_place, lost_by, paid_by, Ledger, stands_before}
use Rattle.theory.proofs.Lost.Others.{ledger_kept, ledger_dropped}
use Rattle.theory.proofs.Lost.Own.{ledger_own}

module _ (base : Job) (p : ℕ) where
  abbrev j : Job
  j = as_queue base

  ledger_first : Ledger base p 0
  unfolding lost_by at_place state_after fresh_state
  ledger_first =
      record {
        a = 0;
        b = 0;
        a_made = omega arith;
        b_reached = omega arith;
        paid = omega (arith, tally_zero (of_process (λ s. (note j s).back) (who j) p));
        settled = λ x own n. absurd (n (link_zero (note j) x));
        stands = stands_before base p (operation_after j p 0);
      }

  -- a step that nobody makes loses nothing and links nothing
  module _ (k : ℕ) (nobody : note j (suc k) ≡ idle) where
    none_linked : (note j (suc k)).event ≡ Linked → j.owner (note j (suc k)).by ≢ p
    unfolding idle is_linked
    none_linked e = absurd (true≢false (sym (ap is_linked e) ∙ ap (λ x. is_linked x.event) nobody))

    none_lost : of_process (λ s. (note j s).back) (who j) p (suc k) ≡ false
    unfolding idle
    none_lost = of_process_unless (λ s. (note j s).back) (who j) p (suc k) (ap (λ x. x.back) nobody)

  -- and none is p's that another process loses
  module _ {k r o : ℕ} (a : Acting j k r o) (away : p ≢ r) where
    its_owner : j.owner (note j (suc k)).by ≡ r
    its_owner = ap j.owner (by_own a) ∙ a.hand.owned a.to_count

    not_own : of_process (λ s. (note j s).back) (who j) p (suc k) ≡ false
    unfolding who
    not_own = of_process_other (λ s. (note j s).back) (who j) p (suc k) (λ e. away (sym e ∙ its_owner))

  ledger_step : (k : ℕ) → OneStep j k → Ledger base p k → Ledger base p (suc k)
  unfolding place_of
  ledger_step k (idles i) held = ledger_kept base p k held (none_linked k i.said) (none_lost k i.said) (ap (λ s. s.places p) i.state)
  ledger_step k (drops {p = r} {o = o} d) held = by_process (split p r)
    where
      by_process : (p ≡ r) ⊎ (p ≢ r) → Ledger base p (suc k)
      by_process (inl e) = own (subst (λ x. Dropping j k x o) (sym e) d)
        where
          own : Dropping j k p o → Ledger base p (suc k)
          own x = ledger_dropped base p k held (none_linked k x.said) (none_lost k x.said) o (ap (λ (y : Place). y.operation.0) x.hand.place_is) x.drops (place_dropped x)
      by_process (inr n) = ledger_kept base p k held (none_linked k d.said) (none_lost k d.said) (ap (λ s. s.places p) d.state ∙ upd_there _ _ _ n)
  ledger_step k (acts {p = r} {o = o} a) held = by_process (split p r)
    where
      by_process : (p ≡ r) ⊎ (p ≢ r) → Ledger base p (suc k)
      by_process (inl e) = ledger_own base p k o held (subst (λ x. Acting j k x o) (sym e) a)
      by_process (inr n) = ledger_kept base p k held (λ l e. n (sym e ∙ its_owner a n)) (not_own a n) (ap (λ s. s.places p) a.state ∙ upd_there _ _ _ n)

  ledger : (k : ℕ) → Ledger base p k
  ledger zero = ledger_first
  ledger (suc k) = ledger_step k (one_step j k) (ledger k)

  -- so what p lost, and twice the nodes that it linked, are at most twice all nodes and those of its own that were dropped
  pub lost_by_bound : (k : ℕ) → lost_by j p k + 2 * tally (of_process (links_at j) (who j) p) k ≤ 2 * tally (links_at j) k + tally (of_process (links_gone j k) (who j) p) k
  unfolding paid_by of_process others
  lost_by_bound k =
      let held : Ledger base p k = ledger k in
      let b_made : held.b ≤ k = omega (arith, held.b_reached, link_le (note j) k (memory j k).tail) in
      omega (
        arith,
        held.paid,
        tally_up (others j p) held.a k held.a_made,
        tally_up (others j p) held.b k b_made,
        tally_up (of_process (links_gone j k) (who j) p) held.b k b_made,
        tally_parts (links_at j) (λ s. same (who j s) p) k,
      )
