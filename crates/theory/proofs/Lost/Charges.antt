-- The steps at which rounds are lost, and those that link the nodes to pay with, by process. A node is known by the step that linked it. Assumes nothing.
use mathlib.Core.Path.{◌≡◌, sym, ap, ◌∙◌}
use mathlib.Core.Logic.{◌≢◌}
use Prim.Native.Nat.{ℕ, suc}
use mathlib.Core.Bool.{Bool, true, not, ◌&&◌, true≢false, and-eq-true_iff}
use native.Mathlib.Omega.{arith}
use Rattle.basics.specs.Choice.{same}
use Rattle.basics.proofs.Choice.{equal_same, unequal_same}
use Rattle.job.specs.Job.{Job}
use Rattle.machine.specs.declared.Event.TheVariants.{Linked}
use Rattle.machine.specs.Notes.{note}
use Rattle.machine.specs.Journal.{is_linked, link}
use Rattle.machine.specs.Drops.{dropped, drop}
use Rattle.machine.proofs.Searches.{earliest_stays}
use Rattle.machine.proofs.Effected.{MadeStep, link_step}
use Rattle.theory.proofs.Lost.Totals.{of_process, of_process_is, of_process_meets, of_process_own}

-- the process that made step s: the owner of the operation that did
unfoldable pub who : Job → ℕ → ℕ
who j s = j.owner (note j s).by

-- did step s link a node?
unfoldable pub links_at : Job → ℕ → Bool
links_at j s = is_linked (note j s).event

-- and one of an operation that is dropped among the first k steps?
unfoldable pub links_gone : Job → ℕ → ℕ → Bool
links_gone j k s = links_at j s && not (same (drop j k (note j s).by) 0)

module _ (j : Job) (k s : ℕ) where
  pub gone_is : links_at j s ≡ true → drop j k (note j s).by ≢ 0 → links_gone j k s ≡ true
  unfolding links_gone
  gone_is e n = (and-eq-true_iff (links_at j s) (not (same (drop j k (note j s).by) 0))).1 (e, ap not (unequal_same n))

  pub gone_links : links_gone j k s ≡ true → links_at j s ≡ true
  unfolding links_gone
  gone_links e = ((and-eq-true_iff (links_at j s) (not (same (drop j k (note j s).by) 0))).0 e).0

  pub gone_dropped : links_gone j k s ≡ true → drop j k (note j s).by ≢ 0
  unfolding links_gone
  gone_dropped e z = true≢false (sym ((and-eq-true_iff (links_at j s) (not (same (drop j k (note j s).by) 0))).0 e).1 ∙ ap not (equal_same z))

-- did another than process p link a node at step s?
unfoldable pub others : Job → ℕ → ℕ → Bool
others j p s = links_at j s && not (same (who j s) p)

-- a dropped operation stays so
pub drop_stays : (j : Job) (k x : ℕ) → drop j k x ≢ 0 → drop j (suc k) x ≢ 0
unfolding drop
drop_stays j k x n z = n (sym (earliest_stays (λ s. same (dropped j s) x) k (suc k) (omega arith) n) ∙ z)

-- the step that linked node x
module _ (j : Job) (k x : ℕ) (some : link (note j) k x ≢ 0) where
  made : MadeStep (note j) (link (note j) k x) x Linked
  made = link_step (note j) k x some

  node_linked : links_at j (link (note j) k x) ≡ true
  unfolding links_at is_linked
  node_linked = ap is_linked made.event

  node_owner : who j (link (note j) k x) ≡ j.owner x
  unfolding who
  node_owner = ap j.owner made.by

  pub node_of_other : (p : ℕ) → j.owner x ≢ p → others j p (link (note j) k x) ≡ true
  unfolding others
  node_of_other p n =
      (and-eq-true_iff (links_at j (link (note j) k x)) (not (same (who j (link (note j) k x)) p))).1
      (node_linked, ap not (unequal_same (λ e. n (sym node_owner ∙ e))))

  pub node_gone : (p : ℕ) → j.owner x ≡ p → drop j k x ≢ 0 → of_process (links_gone j k) (who j) p (link (note j) k x) ≡ true
  node_gone p e n = of_process_is (links_gone j k) (who j) p (link (note j) k x) (gone_is j k (link (note j) k x) node_linked (λ z. n (ap (drop j k) (sym made.by) ∙ z))) (node_owner ∙ e)

-- what is dropped among k steps is so among more
pub gone_later : (j : Job) (k p s : ℕ) → of_process (links_gone j k) (who j) p s ≡ true → of_process (links_gone j (suc k)) (who j) p s ≡ true
gone_later j k p s e =
    let before : links_gone j k s ≡ true = of_process_meets (links_gone j k) (who j) p s e in
    of_process_is (links_gone j (suc k)) (who j) p s (gone_is j (suc k) s (gone_links j k s before) (drop_stays j k (note j s).by (gone_dropped j k s before))) (of_process_own (links_gone j k) (who j) p s e)
