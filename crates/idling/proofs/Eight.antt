-- A list of eight values that is filled from the front. Assumes nothing.
use mathlib.Core.Path.{◌≡◌, sym, subst, ◌∙◌}
use mathlib.Core.Logic.{◌≢◌, ◌⊎◌, inl, inr}
use Prim.Native.Nat.{ℕ, ◌+◌, ◌≤◌, ◌<◌}
use native.Mathlib.Omega.{arith}
use mathlib.Core.List.{List}
use lib.ListN.{length, get_or, set, length-set}
use lib.Seq.{get_or-set_same, get_or-set_other}
use Rattle.basics.proofs.Choice.{split}
use Rattle.job.specs.Limits.{field}
use Rattle.idling.specs.Eight.{Eight}

-- the first n of the eight are there
pub record Filled {A : Type 0} (none : A) (f : ℕ → A) (n : ℕ) (l : List A) : Type 0 where
  pub eight : length l ≡ field.processes
  pub each : (p : ℕ) → p < n → get_or l p none ≡ f p

module _ {A : Type 0} (none : A) (f : ℕ → A) where
  pub filled_none : (l : List A) → length l ≡ field.processes → Filled none f 0 l
  filled_none l e = record { eight = e; each = λ p h. absurd (let b : ⊥ = omega arith in b) }

  pub filled_next : (l : List A) (n : ℕ) (v : A) → n < field.processes → Filled none f n l → v ≡ f n → Filled none f (n + 1) (set l n v)
  filled_next l n v low h e =
      record {
        eight = length-set l n v ∙ h.eight;
        each = λ p b. by_place p b (split p n);
      }
    where
      by_place : (p : ℕ) → p < n + 1 → (p ≡ n) ⊎ (p ≢ n) → get_or (set l n v) p none ≡ f p
      by_place p b (inl here) =
          subst (λ q. get_or (set l n v) q none ≡ f q) (sym here) (get_or-set_same l n v none (subst (λ k. n < k) (sym h.eight) low) ∙ e)
      by_place p b (inr there) = get_or-set_other l n p v none there ∙ h.each p (omega arith)

  pub filled_all : (l : List A) {n : ℕ} → field.processes ≤ n → Filled none f n l → Eight none f l
  filled_all l past h = record { eight = h.eight; each = λ p b. h.each p (omega arith) }
