-- Laws of the searches `earliest`, `latest`, `largest` and `seek`: what one more step does to them, that what they find meets the test and is
-- the least or greatest that does, and that nothing was there if they find nothing. Assumes nothing.
use mathlib.Core.Path.{◌≡◌, refl, sym, ap, ◌∙◌}
use mathlib.Core.Logic.{◌≢◌, ◌⊎◌, inl, inr}
use Prim.Native.Nat.{ℕ, zero, suc, ◌+◌, ◌≤◌, ◌<◌, max}
use mathlib.Core.Bool.{Bool, true, false, true≢false}
use mathlib.Core.List.{List, [], ◌∷◌, Memᴰ}
use native.Mathlib.Omega.{arith, max_cases}
use Rattle.basics.proofs.Choice.{both, split, compare, pick_then, pick_else, pick_elim, equal_same, unequal_same}
use Rattle.machine.specs.Run.{seek}
use Rattle.machine.specs.Journal.{earliest, latest}
use Rattle.machine.specs.Effects.{largest}

-- a number up to k + 1 is k + 1, or up to k
last_or_before : {s k : ℕ} → s ≤ suc k → (s ≡ suc k) ⊎ (s ≤ k)
last_or_before {s} {k} h = go (split s (suc k))
  where
    go : (s ≡ suc k) ⊎ (s ≢ suc k) → (s ≡ suc k) ⊎ (s ≤ k)
    go (inl e) = inl e
    go (inr n) = inr (omega arith)

module _ (f : ℕ → Bool) where
  pub earliest_zero : earliest f 0 ≡ 0
  unfolding earliest
  earliest_zero = refl

  pub latest_zero : latest f 0 ≡ 0
  unfolding latest
  latest_zero = refl

  -- one more step: what was found stays
  earliest_stays_next : (k : ℕ) → earliest f k ≢ 0 → earliest f (suc k) ≡ earliest f k
  unfolding earliest
  earliest_stays_next k n = pick_else _ _ (unequal_same n)

  -- one more step: a step that meets the test is found if none was
  pub earliest_new : (k : ℕ) → earliest f k ≡ 0 → f (suc k) ≡ true → earliest f (suc k) ≡ suc k
  unfolding earliest
  earliest_new k z t = pick_then _ _ (equal_same z) ∙ pick_then _ _ t

  -- one more step: a step that does not meet the test changes nothing
  pub earliest_kept : (k : ℕ) → f (suc k) ≡ false → earliest f (suc k) ≡ earliest f k
  unfolding earliest
  earliest_kept k e = go (split (earliest f k) 0)
    where
      go : (earliest f k ≡ 0) ⊎ (earliest f k ≢ 0) → earliest f (suc k) ≡ earliest f k
      go (inl z) = pick_then _ _ (equal_same z) ∙ pick_else _ _ e ∙ sym z
      go (inr n) = pick_else _ _ (unequal_same n)

  pub latest_new : (k : ℕ) → f (suc k) ≡ true → latest f (suc k) ≡ suc k
  unfolding latest
  latest_new k e = pick_then _ _ e

  pub latest_kept : (k : ℕ) → f (suc k) ≡ false → latest f (suc k) ≡ latest f k
  unfolding latest
  latest_kept k e = pick_else _ _ e

  -- it is one of the steps
  pub earliest_le : (k : ℕ) → earliest f k ≤ k
  earliest_le zero = omega (arith, earliest_zero)
  earliest_le (suc k) = by_cases (split (earliest f k) 0) (both (f (suc k))) (earliest_le k)
    where
      by_cases : (earliest f k ≡ 0) ⊎ (earliest f k ≢ 0) → (f (suc k) ≡ true) ⊎ (f (suc k) ≡ false) → earliest f k ≤ k → earliest f (suc k) ≤ suc k
      by_cases (inl z) (inl t) h = omega (arith, earliest_new k z t)
      by_cases (inl z) (inr e) h = omega (arith, earliest_kept k e)
      by_cases (inr n) b h = omega (arith, earliest_stays_next k n)

  -- it meets the test
  pub earliest_meets : (k : ℕ) → earliest f k ≢ 0 → f (earliest f k) ≡ true
  earliest_meets zero n = absurd (n earliest_zero)
  earliest_meets (suc k) n = by_cases (split (earliest f k) 0) (both (f (suc k))) (earliest_meets k)
    where
      by_cases : (earliest f k ≡ 0) ⊎ (earliest f k ≢ 0) → (f (suc k) ≡ true) ⊎ (f (suc k) ≡ false) → (earliest f k ≢ 0 → f (earliest f k) ≡ true) → f (earliest f (suc k)) ≡ true
      by_cases (inl z) (inl t) h = ap f (earliest_new k z t) ∙ t
      by_cases (inl z) (inr e) h = absurd (n (earliest_kept k e ∙ z))
      by_cases (inr m) b h = ap f (earliest_stays_next k m) ∙ h m

  -- what was found stays
  pub earliest_stays : (k l : ℕ) → k ≤ l → earliest f k ≢ 0 → earliest f l ≡ earliest f k
  earliest_stays k zero h n = absurd (n (ap (earliest f) (omega arith) ∙ earliest_zero))
  earliest_stays k (suc l) h n = by_cases (last_or_before h) (earliest_stays k l)
    where
      by_cases : (k ≡ suc l) ⊎ (k ≤ l) → (k ≤ l → earliest f k ≢ 0 → earliest f l ≡ earliest f k) → earliest f (suc l) ≡ earliest f k
      by_cases (inl e) below = ap (earliest f) (sym e)
      by_cases (inr b) below = earliest_stays_next l (λ z. n (sym (below b n) ∙ z)) ∙ below b n

  -- no step before it meets the test, and no step at all if it is 0
  earliest_none : (k s : ℕ) → earliest f k ≡ 0 → 1 ≤ s → s ≤ k → f s ≡ false
  earliest_none zero s z low high = absurd (omega arith)
  earliest_none (suc k) s z low high = by_cases (last_or_before high) (both (f (suc k))) (split (earliest f k) 0) (earliest_none k s)
    where
      by_cases : (s ≡ suc k) ⊎ (s ≤ k) → (f (suc k) ≡ true) ⊎ (f (suc k) ≡ false) → (earliest f k ≡ 0) ⊎ (earliest f k ≢ 0) → (earliest f k ≡ 0 → 1 ≤ s → s ≤ k → f s ≡ false) → f s ≡ false
      by_cases a b (inr n) below = absurd (n (sym (earliest_stays_next k n) ∙ z))
      by_cases (inl e) (inr o) (inl y) below = ap f e ∙ o
      by_cases (inl e) (inl t) (inl y) below = absurd (clash (sym (earliest_new k y t) ∙ z))
        where
          clash : suc k ≡ 0 → ⊥
          clash c = omega arith
      by_cases (inr b) c (inl y) below = below y low b

  -- a step that meets the test is not before it
  pub earliest_least : (k s : ℕ) → f s ≡ true → 1 ≤ s → s ≤ k → (earliest f k ≢ 0) × (earliest f k ≤ s)
  earliest_least k s t low high = (some_found, omega (arith, earliest_stays s k high found_by, earliest_le s))
    where
      found_by : earliest f s ≢ 0
      found_by z = true≢false (sym t ∙ earliest_none s s z low (omega arith))

      some_found : earliest f k ≢ 0
      some_found z = found_by (sym (earliest_stays s k high found_by) ∙ z)

  -- what was found is found by any search that gets as far
  pub earliest_found_by : (k l : ℕ) → earliest f k ≢ 0 → earliest f k ≤ l → earliest f l ≢ 0
  earliest_found_by k l n h = (earliest_least l (earliest f k) (earliest_meets k n) (omega arith) h).0

  -- a search that finds step s + 1 and nothing before it finds that step for ever
  pub earliest_once : (k s : ℕ) → f (suc s) ≡ true → earliest f s ≡ 0 → suc s ≤ k → earliest f k ≡ suc s
  earliest_once k s t z high =
      let here : earliest f (suc s) ≡ suc s = earliest_new s z t in
      earliest_stays (suc s) k high (λ y. (let c : suc s ≡ 0 = sym here ∙ y in omega arith)) ∙ here

  -- a search that fails up to k and succeeds up to l finds a step after k
  earliest_after : (k l : ℕ) → earliest f k ≡ 0 → earliest f l ≢ 0 → k < earliest f l
  earliest_after k l z n = go (compare (earliest f l) k)
    where
      go : (earliest f l ≤ k) ⊎ (k < earliest f l) → k < earliest f l
      go (inl h) = absurd (true≢false (sym (earliest_meets l n) ∙ earliest_none k (earliest f l) z (omega arith) h))
      go (inr h) = h

  -- a step that is before it stays before it
  pub earliest_later : (k s : ℕ) → s ≤ k → (earliest f k ≢ 0 → s < earliest f k) → earliest f (suc k) ≢ 0 → s < earliest f (suc k)
  earliest_later k s low h n = go (split (earliest f k) 0)
    where
      go : (earliest f k ≡ 0) ⊎ (earliest f k ≢ 0) → s < earliest f (suc k)
      go (inl z) = omega (arith, earliest_after k (suc k) z n)
      go (inr m) = omega (arith, h m, earliest_stays k (suc k) (omega arith) m)

  pub latest_le : (k : ℕ) → latest f k ≤ k
  latest_le zero = omega (arith, latest_zero)
  latest_le (suc k) = by_cases (both (f (suc k))) (latest_le k)
    where
      by_cases : (f (suc k) ≡ true) ⊎ (f (suc k) ≡ false) → latest f k ≤ k → latest f (suc k) ≤ suc k
      by_cases (inl t) h = omega (arith, latest_new k t)
      by_cases (inr e) h = omega (arith, latest_kept k e)

  pub latest_meets : (k : ℕ) → latest f k ≢ 0 → f (latest f k) ≡ true
  latest_meets zero n = absurd (n latest_zero)
  latest_meets (suc k) n = by_cases (both (f (suc k))) (latest_meets k)
    where
      by_cases : (f (suc k) ≡ true) ⊎ (f (suc k) ≡ false) → (latest f k ≢ 0 → f (latest f k) ≡ true) → f (latest f (suc k)) ≡ true
      by_cases (inl t) h = ap f (latest_new k t) ∙ t
      by_cases (inr e) h = ap f (latest_kept k e) ∙ h (λ z. n (latest_kept k e ∙ z))

  -- a step that meets the test is not after it
  pub latest_greatest : (k s : ℕ) → f s ≡ true → s ≤ k → s ≤ latest f k
  latest_greatest zero s t high = omega arith
  latest_greatest (suc k) s t high = by_cases (last_or_before high) (both (f (suc k))) (latest_greatest k s t)
    where
      by_cases : (s ≡ suc k) ⊎ (s ≤ k) → (f (suc k) ≡ true) ⊎ (f (suc k) ≡ false) → (s ≤ k → s ≤ latest f k) → s ≤ latest f (suc k)
      by_cases a (inl u) below = omega (arith, latest_new k u)
      by_cases (inl e) (inr o) below = absurd (true≢false (sym t ∙ ap f e ∙ o))
      by_cases (inr b) (inr o) below = omega (arith, latest_kept k o, below b)

-- each number is at most the largest
bounded_by_largest : (f : ℕ → ℕ) (x : ℕ) (l : List ℕ) → Memᴰ x l → f x ≤ largest f l
unfolding largest
bounded_by_largest f x l (Memᴰ.head {x = y} {xs = ys} e) = omega (arith, ap f e)
bounded_by_largest f x l (Memᴰ.tail {x = y} {xs = ys} m) = omega (arith, bounded_by_largest f x ys m)

pub largest_bounds : (f : ℕ → ℕ) (l : List ℕ) (x : ℕ) → Memᴰ x l → f x ≤ largest f l
largest_bounds f l x m = bounded_by_largest f x l m

-- the largest is one of them
pub largest_attained : (f : ℕ → ℕ) (l : List ℕ) → largest f l ≢ 0 → (x : ℕ) × Memᴰ x l × (f x ≡ largest f l)
unfolding largest
largest_attained f [] n = absurd (n refl)
largest_attained f (y ∷ ys) n = max_cases (f y) (largest f ys) _ (tail_is (largest_attained f ys)) head_is
  where
    tail_is : (largest f ys ≢ 0 → (x : ℕ) × Memᴰ x ys × (f x ≡ largest f ys)) → f y ≤ largest f ys → max (f y) (largest f ys) ≡ largest f ys → (x : ℕ) × Memᴰ x (y ∷ ys) × (f x ≡ max (f y) (largest f ys))
    tail_is below h e = let r = below (λ z. n (e ∙ z)) in (r.0, Memᴰ.tail r.1, r.2 ∙ sym e)

    head_is : largest f ys ≤ f y → max (f y) (largest f ys) ≡ f y → (x : ℕ) × Memᴰ x (y ∷ ys) × (f x ≡ max (f y) (largest f ys))
    head_is h e = (y, Memᴰ.head refl, sym e)

-- `seek`: not before its start, not past its count
pub seek_from : (f : ℕ → Bool) (start count : ℕ) → start ≤ seek f start count
unfolding seek
seek_from f start zero = omega arith
seek_from f start (suc count) = pick_elim (λ x. start ≤ x) (f start) start (seek f (suc start) count) (λ t. omega arith) (λ e. omega (arith, seek_from f (suc start) count))

pub seek_to : (f : ℕ → Bool) (start count : ℕ) → seek f start count ≤ start + count
unfolding seek
seek_to f start zero = omega arith
seek_to f start (suc count) = pick_elim (λ x. x ≤ start + suc count) (f start) start (seek f (suc start) count) (λ t. omega arith) (λ e. omega (arith, seek_to f (suc start) count))

-- what it finds meets the test
pub seek_meets : (f : ℕ → Bool) (start count : ℕ) → seek f start count < start + count → f (seek f start count) ≡ true
unfolding seek
seek_meets f start zero = λ h. absurd (omega arith)
seek_meets f start (suc count) =
    pick_elim (λ x. x < start + suc count → f x ≡ true) (f start) start (seek f (suc start) count) (λ t h. t) (λ e h. seek_meets f (suc start) count (omega arith))
