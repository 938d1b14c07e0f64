-- The ledger of one process: it pays for every round that it lost with a node, for a failed Q3 with the node that it found, for a help with the node that it helped Tail
-- to. It pays with nodes in the order of their links, so with each at most once for either; with its own only for a help, once its put is dropped before its Q4. Assumes nothing.
use mathlib.Core.Path.{◌≡◌, sym, subst, ◌∙◌}
use mathlib.Core.Logic.{◌≢◌, ◌⊎◌, inl, inr}
use Prim.Native.Nat.{ℕ, suc, ◌+◌, ◌≤◌}
use mathlib.Core.Bool.{Bool, true, false}
use native.Mathlib.Omega.{arith}
use Rattle.basics.proofs.Choice.{both, split}
use Rattle.job.specs.declared.Kind.TheVariants.{Queue}
use Rattle.job.specs.Job.{Job}
use Rattle.machine.specs.declared.Event.TheVariants.{Linked}
use Rattle.machine.specs.declared.Place.{Place}
use Rattle.machine.specs.Table.{first_row}
use Rattle.machine.specs.Run.{before, registers, state_after}
use Rattle.machine.specs.Notes.{note}
use Rattle.machine.specs.Journal.{is_linked, link}
use Rattle.machine.specs.Drops.{drop}
use Rattle.machine.specs.Lost.{tally}
use Rattle.machine.proofs.Effected.{linked_event}
use Rattle.machine.proofs.Stamps.{link_other, link_unless}
use Rattle.machine.proofs.Turns.Locals.{Local, at_row}
use Rattle.theory.proofs.Course.{Course, PassesIn, ActsIn, passes_event}
use Rattle.theory.proofs.Operations.{course}
use Rattle.theory.proofs.Operations.Locals.{memory}
use Rattle.theory.proofs.Queue.Memory.{Now, Still.quiet, Change, Change.stays}
use Rattle.theory.proofs.Queue.Grows.{Grows, change_grows}
use Rattle.theory.proofs.Queue.Now.{now, passes_keeps}
use Rattle.theory.proofs.Queue.Always.{always, step_changes}
use Rattle.machine.proofs.Tallies.{tally_below}
use Rattle.theory.proofs.Lost.Totals.{of_process}
use Rattle.theory.proofs.Lost.Charges.{who, links_gone, others, drop_stays, gone_later}
use Rattle.theory.proofs.Lost.Rows.{Stands}
use Rattle.theory.proofs.Lost.Rows.Stands.{in_q1, in_t1}
use Rattle.theory.proofs.Lost.Turns.{AtQ4}

-- the same operations and schedule, on a queue
abbrev pub as_queue : Job → Job
as_queue j =
    record { object = Queue; count = j.count; owner = j.owner; is_put = j.is_put; field = j.field; steps = j.steps; slot = j.slot }

-- a place's row and registers
unfoldable pub local_of : Place → Local
local_of p = record { row = p.row; registers = registers p }

-- nodes that process p may pay with: another's; and, for a help, a dropped one
abbrev pub Other : Job → ℕ → ℕ → Type 0
Other j p x = j.owner x ≢ p

abbrev pub Pays : Job → ℕ → ℕ → ℕ → Type 0
Pays j p k x = (j.owner x ≢ p) ⊎ (drop j k x ≢ 0)

-- where process p stands after k steps
unfoldable pub at_place : Job → ℕ → ℕ → Local
at_place j p k = local_of ((state_after j k).places p)

-- an own node that is linked: Tail has reached it, or its put is in p's hand before its Q4, or was dropped
pub data Settled (j : Job) (p k x : ℕ) : Type 0 where
  reached : link (note j) k x ≤ link (note j) k (memory j k).tail → Settled j p k x
  at_hand : ((state_after j k).places p).operation.0 ≡ x → AtQ4 (at_place j p k) → Settled j p k x
  gone : drop j k x ≢ 0 → Settled j p k x

-- the rounds that process p lost in k steps, and the nodes to pay for them with: for failed Q3, those linked up to step a; for helps, up to step b
unfoldable pub lost_by : Job → ℕ → ℕ → ℕ
lost_by j p k = tally (of_process (λ s. (note j s).back) (who j) p) k

unfoldable pub paid_by : Job → ℕ → ℕ → ℕ → ℕ → ℕ
paid_by j p k a b =
    tally (others j p) a + (tally (others j p) b + tally (of_process (links_gone j k) (who j) p) b)

pub record Ledger (base : Job) (p k : ℕ) : Type 0 where
  -- the last node paid with for a failed Q3 was linked at step a, the last for a help at step b
  pub a : ℕ
  pub b : ℕ
  pub a_made : a ≤ k
  pub b_reached : b ≤ link (note (as_queue base)) k (memory (as_queue base) k).tail
  pub paid : lost_by (as_queue base) p k ≤ paid_by (as_queue base) p k a b
  pub settled : (x : ℕ) → base.owner x ≡ p → link (note (as_queue base)) k x ≢ 0 → Settled (as_queue base) p k x
  pub stands : Stands a b (Other (as_queue base) p) (Pays (as_queue base) p k) (now (course (as_queue base)) k) (at_place (as_queue base) p k)

module _ (base : Job) where
  abbrev j : Job
  j = as_queue base

  abbrev c : Course Queue
  c = course j

  -- each step changes memory by who made it
  pub changes : (k : ℕ) → Change c.count k (note j (suc k)).by (now c k) (note j (suc k)).event (now c (suc k))
  changes k = by_step (c.step k)
    where
      by_step : PassesIn c k ⊎ ((o : ℕ) × ActsIn c k o) → Change c.count k (note j (suc k)).by (now c k) (note j (suc k)).event (now c (suc k))
      by_step (inl i) =
          subst (Change c.count k (note j (suc k)).by (now c k) (note j (suc k)).event) (sym (passes_keeps c i))
          (subst (λ e. Change c.count k (note j (suc k)).by (now c k) e (now c k)) (sym (passes_event i)) (stays quiet))
      by_step (inr a) = subst (λ x. Change c.count k x (now c k) (note j (suc k)).event (now c (suc k))) (sym a.1.by) (step_changes c (always c k) a.1)

  pub grows : (k : ℕ) → Grows k (now c k) (now c (suc k))
  grows k = change_grows (always c k).sound (changes k)

  -- a node that a step links is its maker's
  pub new_node : (k x : ℕ) → link (note j) k x ≡ 0 → link (note j) (suc k) x ≢ 0 → ((note j (suc k)).by ≡ x) × ((note j (suc k)).event ≡ Linked)
  new_node k x z n = by_maker (split (note j (suc k)).by x) (both (is_linked (note j (suc k)).event))
    where
      by_maker : ((note j (suc k)).by ≡ x) ⊎ ((note j (suc k)).by ≢ x) → (is_linked (note j (suc k)).event ≡ true) ⊎ (is_linked (note j (suc k)).event ≡ false) → ((note j (suc k)).by ≡ x) × ((note j (suc k)).event ≡ Linked)
      by_maker (inr m) e = absurd (n (link_other (note j) k x m ∙ z))
      by_maker (inl m) (inr e) = absurd (n (link_unless (note j) k x e ∙ z))
      by_maker (inl m) (inl e) = (m, linked_event (note j (suc k)).event e)

  module _ (p : ℕ) where
    pub pays_later : (k x : ℕ) → Pays j p k x → Pays j p (suc k) x
    pays_later k x (inl n) = inl n
    pays_later k x (inr n) = inr (drop_stays j k x n)

    -- more steps leave no less to pay with
    pub paid_later : (k a b : ℕ) → paid_by j p k a b ≤ paid_by j p (suc k) a b
    unfolding paid_by
    paid_later k a b = omega (arith, tally_below (of_process (links_gone j k) (who j) p) (of_process (links_gone j (suc k)) (who j) p) b (λ s low high. gone_later j k p s))

    -- a place before an operation owes nothing
    pub stands_before : {a b : ℕ} {P Q : ℕ → Type 0} {v : Now} (q : ℕ) → Stands a b P Q v (local_of (before j q))
    unfolding local_of before registers first_row
    stands_before q = by_action (j.is_put q)
      where
        by_action : {a b : ℕ} {P Q : ℕ → Type 0} {v : Now} (put : Bool) → Stands a b P Q v (at_row (first_row Queue put) 0 0 0)
        by_action true = in_q1
        by_action false = in_t1

    module _ (k : ℕ) (held : Ledger base p k) where
      -- what is settled stays so while p stands where it does
      pub settled_kept : (x : ℕ) → link (note j) k x ≢ 0 → Settled j p k x → (((state_after j k).places p).operation.0 ≡ x → AtQ4 (at_place j p k) → Settled j p (suc k) x) → Settled j p (suc k) x
      settled_kept x some (reached h) hand =
          reached (omega (arith, (grows k).born_kept x (λ m. some), (grows k).tail_goes_on))
      settled_kept x some (at_hand e q) hand = hand e q
      settled_kept x some (gone n) hand = gone (drop_stays j k x n)
