-- How many rounds a queue can lose: for every job of kind 1, every schedule and any number of processes. Assumes nothing.
pub mod Totals
pub mod Rows
pub mod Turns
pub mod Charges
pub mod Ledger
pub mod Others
pub mod Own
pub mod Kept
pub mod Counts
use mathlib.Core.Path.{◌≡◌, refl, sym, ap, subst, ◌∙◌}
use Prim.Native.Nat.{ℕ, zero, suc, ◌+◌, ◌-◌, ◌*◌, ◌≤◌, ◌<◌}
use mathlib.Core.Bool.{true}
use native.Mathlib.Nat.{suc-mul, zero-mul, mul_comm, mul_assoc, mul-le-mul_left}
use native.Mathlib.Omega.{arith}
use Rattle.job.specs.declared.Kind.TheVariants.{Queue}
use Rattle.job.specs.Job.{Job}
use Rattle.machine.specs.Notes.{idle, note}
use Rattle.machine.specs.Drops.{dropped}
use Rattle.machine.specs.Explained.{IsOperation}
use Rattle.machine.specs.Lost.{tally, lost}
use Rattle.theory.specs.Bounded.{puts, most_lost, Bounded}
use Rattle.theory.proofs.Lost.Totals.{total, total_none, of_process, total_tally, total_bound}
use Rattle.theory.proofs.Lost.Charges.{who, links_at, links_gone, gone_links}
use Rattle.theory.proofs.Lost.Ledger.{as_queue, lost_by}
use Rattle.theory.proofs.Lost.Kept.{lost_by_bound}
use Rattle.theory.proofs.Lost.Counts.{maker, linker, links_are_puts, gone_are_drops, no_late_drops}

-- the processes of a job's operations are among 0 to P − 1
abbrev pub Owned : Job → ℕ → Type 0
Owned j P = (o : ℕ) → IsOperation j.count o → j.owner o < P

module _ (base : Job) (k P : ℕ) (owned : Owned base P) where
  abbrev j : Job
  j = as_queue base

  who_links : (s : ℕ) → links_at j s ≡ true → who j s < P
  unfolding who
  who_links s e = owned (note j s).by (linker j s e)

  lost_total : total (λ p. lost_by j p k) P ≡ lost (note j) k
  unfolding lost lost_by who idle
  lost_total = total_tally (λ s. (note j s).back) (who j) P (λ s e. owned (note j s).by (maker j (λ x. x.back) refl s e)) k

  -- the processes together: each node pays for all but its own, twice, and a dropped one once more
  together : lost (note j) k + 2 * tally (links_at j) k ≤ P * (2 * tally (links_at j) k) + tally (links_gone j k) k
  together =
      omega (
        arith,
        total_bound (λ p. lost_by j p k) (λ p. tally (of_process (links_at j) (who j) p) k) (λ p. tally (of_process (links_gone j k) (who j) p) k) (2 * tally (links_at j) k) P (λ p. lost_by_bound base p k),
        lost_total,
        total_tally (links_at j) (who j) P who_links k,
        total_tally (links_gone j k) (who j) P (λ s e. who_links s (gone_links j k s e)) k,
      )

  queue_at_most : lost (note j) k ≤ most_lost j k P
  unfolding most_lost
  queue_at_most = by_processes P refl
    where
      by_processes : (n : ℕ) → P ≡ n → lost (note j) k ≤ most_lost j k P
      by_processes zero e = omega (arith, lost_total, ap (total (λ p. lost_by j p k)) e, total_none (λ p. lost_by j p k))
      by_processes (suc q) e =
          let L : ℕ = tally (links_at j) k in
          let less : P - 1 ≡ q = omega arith in
          let shared : P * (2 * L) ≡ q * (2 * L) + 2 * L = ap (λ n. n * (2 * L)) e ∙ suc-mul q (2 * L) in
          let regroup : 2 * (P - 1) * puts j k ≡ q * (2 * puts j k) = ap (λ n. 2 * n * puts j k) less ∙ ap (λ n. n * puts j k) (mul_comm 2 q) ∙ mul_assoc q 2 (puts j k) in
          let more : q * (2 * L) ≤ q * (2 * puts j k) = mul-le-mul_left q (omega (arith, links_are_puts j k)) in
          omega (arith, together, gone_are_drops j k)

  queue_alone : P ≡ 1 → ((s : ℕ) → s ≤ k → dropped j s ≡ 0) → lost (note j) k ≡ 0
  unfolding most_lost
  queue_alone e none =
      let less : 2 * (P - 1) * puts j k ≡ 0 = ap (λ n. 2 * (n - 1) * puts j k) e ∙ zero-mul (puts j k) in
      omega (arith, queue_at_most, no_late_drops j k none)

pub lost_bounded : (j : Job) (k P : ℕ) → j.object ≡ Queue → Owned j P → Bounded j k P
lost_bounded j k P e owned = subst (λ x. Bounded x k P) (λ i. record { object = sym e i; count = j.count; owner = j.owner; is_put = j.is_put; field = j.field; steps = j.steps; slot = j.slot }) (record { at_most = queue_at_most j k P owned; alone = queue_alone j k P owned })
