-- What a search or a count finds when entries are cut out: the same, at the place of the entry. Assumes nothing.
use mathlib.Core.Path.{◌≡◌, sym, ap, ◌∙◌}
use mathlib.Core.Logic.{◌≢◌, ◌⊎◌, inl, inr}
use Prim.Native.Nat.{ℕ, zero, suc, ◌≤◌, max}
use mathlib.Core.Bool.{Bool, true, false}
use mathlib.Core.List.{List, [], ◌∷◌}
use native.Mathlib.Omega.{arith}
use Rattle.basics.proofs.Choice.{both, split}
use Rattle.machine.specs.Journal.{earliest, latest}
use Rattle.machine.specs.Effects.{largest}
use Rattle.machine.specs.Lost.{tally}
use Rattle.machine.proofs.Searches.{earliest_zero, earliest_new, earliest_kept, earliest_le, earliest_stays, latest_zero, latest_new, latest_kept}
use Rattle.machine.proofs.Tallies.{tally_zero, tally_meets, tally_misses}
use Rattle.theory.specs.Cut.{stayed, entry_of}
use Rattle.theory.proofs.Cut.Entries.{stayed_zero, stayed_in, stayed_out, stayed_up, entry_zero, entry_each, entry_stands, entry_max}

-- a test of the steps of a run whose entries are idle where `out` says so, and one of the steps of the run without them
pub record Agree (out : ℕ → Bool) (S : ℕ) (f g : ℕ → Bool) : Type 0 where
  pub at_out : (k : ℕ) → suc k ≤ S → out (suc k) ≡ true → f (suc k) ≡ false
  pub at_in : (k : ℕ) → suc k ≤ S → out (suc k) ≡ false → f (suc k) ≡ g (suc (stayed out k))

module _ (out : ℕ → Bool) (S : ℕ) (f g : ℕ → Bool) (a : Agree out S f g) where
  abbrev e : ℕ → ℕ
  e i = entry_of out S i

  -- the place of an entry that stays
  next_entry : (k : ℕ) → suc k ≤ S → out (suc k) ≡ false → e (suc (stayed out k)) ≡ suc k
  next_entry k b i = ap e (sym (stayed_in out k i)) ∙ entry_each out (suc k) S (omega arith) b i

  pub earliest_cut : (k : ℕ) → k ≤ S → earliest f k ≡ e (earliest g (stayed out k))
  earliest_cut zero b = earliest_zero f ∙ sym (ap e (ap (earliest g) (stayed_zero out) ∙ earliest_zero g) ∙ entry_zero out S)
  earliest_cut (suc k) b = go (both (out (suc k))) (both (f (suc k))) (split (earliest g (stayed out k)) 0) (earliest_cut k (omega arith))
    where
      below : earliest g (stayed out k) ≢ 0 → earliest f k ≡ e (earliest g (stayed out k)) → earliest f k ≢ 0
      below n q z = let low : 1 ≤ e (earliest g (stayed out k)) = (entry_stands out S (earliest g (stayed out k)) (omega arith) (omega (arith, earliest_le g (stayed out k), stayed_up out k S (omega arith)))).from_one in omega arith

      go : (out (suc k) ≡ true) ⊎ (out (suc k) ≡ false) → (f (suc k) ≡ true) ⊎ (f (suc k) ≡ false) → (earliest g (stayed out k) ≡ 0) ⊎ (earliest g (stayed out k) ≢ 0) → earliest f k ≡ e (earliest g (stayed out k)) → earliest f (suc k) ≡ e (earliest g (stayed out (suc k)))
      go (inl t) c d q = earliest_kept f k (a.at_out k b t) ∙ q ∙ ap (λ (n : ℕ). e (earliest g n)) (sym (stayed_out out k t))
      go (inr i) (inr n) d q = earliest_kept f k n ∙ q ∙ ap e (sym (ap (earliest g) (stayed_in out k i) ∙ earliest_kept g (stayed out k) (sym (a.at_in k b i) ∙ n)))
      go (inr i) (inl m) (inl z) q =
          earliest_new f k (q ∙ ap e z ∙ entry_zero out S) m
          ∙ sym (ap e (ap (earliest g) (stayed_in out k i) ∙ earliest_new g (stayed out k) z (sym (a.at_in k b i) ∙ m)) ∙ next_entry k b i)
      go (inr i) (inl m) (inr n) q =
          earliest_stays f k (suc k) (omega arith) (below n q)
          ∙ q
          ∙ ap e (sym (ap (earliest g) (stayed_in out k i) ∙ earliest_stays g (stayed out k) (suc (stayed out k)) (omega arith) n))

  pub latest_cut : (k : ℕ) → k ≤ S → latest f k ≡ e (latest g (stayed out k))
  latest_cut zero b = latest_zero f ∙ sym (ap e (ap (latest g) (stayed_zero out) ∙ latest_zero g) ∙ entry_zero out S)
  latest_cut (suc k) b = go (both (out (suc k))) (both (f (suc k))) (latest_cut k (omega arith))
    where
      go : (out (suc k) ≡ true) ⊎ (out (suc k) ≡ false) → (f (suc k) ≡ true) ⊎ (f (suc k) ≡ false) → latest f k ≡ e (latest g (stayed out k)) → latest f (suc k) ≡ e (latest g (stayed out (suc k)))
      go (inl t) c q = latest_kept f k (a.at_out k b t) ∙ q ∙ ap (λ (n : ℕ). e (latest g n)) (sym (stayed_out out k t))
      go (inr i) (inr n) q = latest_kept f k n ∙ q ∙ ap e (sym (ap (latest g) (stayed_in out k i) ∙ latest_kept g (stayed out k) (sym (a.at_in k b i) ∙ n)))
      go (inr i) (inl m) q = latest_new f k m ∙ sym (ap e (ap (latest g) (stayed_in out k i) ∙ latest_new g (stayed out k) (sym (a.at_in k b i) ∙ m)) ∙ next_entry k b i)

  pub tally_cut : (k : ℕ) → k ≤ S → tally f k ≡ tally g (stayed out k)
  tally_cut zero b = tally_zero f ∙ sym (ap (tally g) (stayed_zero out) ∙ tally_zero g)
  tally_cut (suc k) b = go (both (out (suc k))) (both (f (suc k))) (tally_cut k (omega arith))
    where
      go : (out (suc k) ≡ true) ⊎ (out (suc k) ≡ false) → (f (suc k) ≡ true) ⊎ (f (suc k) ≡ false) → tally f k ≡ tally g (stayed out k) → tally f (suc k) ≡ tally g (stayed out (suc k))
      go (inl t) c q = tally_misses f k (a.at_out k b t) ∙ q ∙ ap (tally g) (sym (stayed_out out k t))
      go (inr i) (inr n) q = tally_misses f k n ∙ q ∙ sym (ap (tally g) (stayed_in out k i) ∙ tally_misses g (stayed out k) (sym (a.at_in k b i) ∙ n))
      go (inr i) (inl m) q = tally_meets f k m ∙ ap suc q ∙ sym (ap (tally g) (stayed_in out k i) ∙ tally_meets g (stayed out k) (sym (a.at_in k b i) ∙ m))

-- the largest of some steps
pub largest_le : (f : ℕ → ℕ) (m : ℕ) (l : List ℕ) → ((x : ℕ) → f x ≤ m) → largest f l ≤ m
unfolding largest
largest_le f m [] h = omega arith
largest_le f m (x ∷ l) h = omega (arith, h x, largest_le f m l h)

pub largest_cut : (out : ℕ → Bool) (S : ℕ) (f : ℕ → ℕ) (l : List ℕ) → ((x : ℕ) → f x ≤ stayed out S) → largest (λ x. entry_of out S (f x)) l ≡ entry_of out S (largest f l)
unfolding largest
largest_cut out S f [] h = sym (entry_zero out S)
largest_cut out S f (x ∷ l) h =
    ap (max (entry_of out S (f x))) (largest_cut out S f l h) ∙ entry_max out S (f x) (largest f l) (h x) (largest_le f (stayed out S) l h)
