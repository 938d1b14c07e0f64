-- Laws of conditions: the first one met, a test over a stretch of numbers, and a range. Assumes nothing.
use mathlib.Core.Path.{◌≡◌, refl, sym, ap, ap₂, ◌∙◌}
use mathlib.Core.Logic.{◌≢◌, ◌⊎◌, inl, inr}
use Prim.Native.Nat.{ℕ, zero, suc, ◌+◌, ◌-◌, ◌≤◌, ◌<◌}
use native.Mathlib.Numerals.{add-one}
use native.Mathlib.Omega.{arith}
use mathlib.Core.Bool.{Bool, true, false, ◌||◌, true≢false}
use mathlib.Core.List.{List, [], ◌∷◌, ◌++◌}
use Rattle.basics.specs.Choice.{pick}
use Rattle.basics.proofs.Choice.{pick_true, pick_false, pick_elim, both, split}
use Rattle.job.specs.Refusals.{first_met, any}

pub met_here : (n : ℕ) {b : Bool} (l : List (ℕ × Bool)) → b ≡ true → n ≡ first_met ((n, b) ∷ l)
unfolding first_met
met_here n l e = simp (e, pick_true)

pub met_later : {r : ℕ} (n : ℕ) {b : Bool} (l : List (ℕ × Bool)) → b ≡ false → r ≡ first_met l → r ≡ first_met ((n, b) ∷ l)
unfolding first_met
met_later n l e later = simp (e, pick_false) later

pub met_none : 0 ≡ first_met []
unfolding first_met
met_none = refl

-- how many are left from `i` up to `n`
pub next_left : {i n : ℕ} → i < n → n - i ≡ suc (n - (i + 1))
next_left h = omega arith

pub none_left : {i n : ℕ} → n ≤ i → n - i ≡ zero
none_left h = omega arith

-- a stretch from `i` up to `n`: what the next number says
module _ (f : ℕ → Bool) {i n : ℕ} where
  pub any_met : i < n → f i ≡ true → true ≡ any f i (n - i)
  unfolding any
  any_met h e = simp (next_left h, e)

  pub any_next : i < n → f i ≡ false → any f (i + 1) (n - (i + 1)) ≡ any f i (n - i)
  unfolding any
  any_next h e = simp (next_left h, e, add-one)

  pub any_end : n ≤ i → false ≡ any f i (n - i)
  unfolding any
  any_end h = simp (none_left h)

  -- what was found before, joined with what is left
  pub any_joins : (found r : Bool) → i < n → r ≡ found || f i → r || any f (i + 1) (n - (i + 1)) ≡ found || any f i (n - i)
  unfolding any
  any_joins found r h e = ap (λ (b : Bool). b || any f (i + 1) (n - (i + 1))) e ∙ by_found found
    where
      by_found : (b : Bool) → (b || f i) || any f (i + 1) (n - (i + 1)) ≡ b || any f i (n - i)
      by_found true = refl
      by_found false = simp (next_left h, add-one)

  pub any_joined : (found : Bool) → n ≤ i → found ≡ found || any f i (n - i)
  any_joined true h = refl
  any_joined false h = any_end h

-- two lists of conditions: the first decides where it has one that is met
pub met_front : (l m : List (ℕ × Bool)) → first_met l ≢ 0 → first_met l ≡ first_met (l ++ m)
unfolding first_met
met_front [] m h = absurd (h refl)
met_front (c ∷ l) m h = pick_elim (λ (x : ℕ). x ≢ 0 → x ≡ pick c.1 c.0 (first_met (l ++ m))) c.1 c.0 (first_met l) (λ e z. simp (e, pick_true)) (λ e z. simp (e, pick_false) (met_front l m z)) h

-- where every number is one of the table's, 0 says that none is met
abbrev pub Numbered : List (ℕ × Bool) → Type 0
Numbered [] = Unit
Numbered (c ∷ l) = (c.0 ≢ 0) × Numbered l

pub met_back : (l m : List (ℕ × Bool)) → Numbered l → first_met l ≡ 0 → first_met m ≡ first_met (l ++ m)
unfolding first_met
met_back [] m n z = refl
met_back (c ∷ l) m n z = pick_elim (λ (x : ℕ). x ≡ 0 → first_met m ≡ pick c.1 c.0 (first_met (l ++ m))) c.1 c.0 (first_met l) (λ e z'. absurd (n.0 z')) (λ e z'. simp (e, pick_false) (met_back l m n.1 z')) z

-- no condition of a list is met
abbrev pub Unmet : List (ℕ × Bool) → Type 0
Unmet [] = Unit
Unmet (c ∷ l) = (c.1 ≡ false) × Unmet l

pub zero_unmet : (l : List (ℕ × Bool)) → Numbered l → first_met l ≡ 0 → Unmet l
unfolding first_met
zero_unmet [] n z = tt
zero_unmet (c ∷ l) n z = go (both c.1) (zero_unmet l n.1)
  where
    go : (c.1 ≡ true) ⊎ (c.1 ≡ false) → (first_met l ≡ 0 → Unmet l) → (c.1 ≡ false) × Unmet l
    go (inl e) later = absurd (n.0 (sym (pick_true c.0 (first_met l)) ∙ ap (λ (b : Bool). pick b c.0 (first_met l)) (sym e) ∙ z))
    go (inr e) later = (e, later (sym (pick_false c.0 (first_met l)) ∙ ap (λ (b : Bool). pick b c.0 (first_met l)) (sym e) ∙ z))

pub unmet_zero : (l : List (ℕ × Bool)) → Unmet l → first_met l ≡ 0
unfolding first_met
unmet_zero [] u = refl
unmet_zero (c ∷ l) u = ap (λ (b : Bool). pick b c.0 (first_met l)) u.0 ∙ pick_false c.0 (first_met l) ∙ unmet_zero l u.1

-- a choice of two tests that both fail
pub or_both : (a b : Bool) → a || b ≡ false → (a ≡ false) × (b ≡ false)
or_both true b e = absurd (true≢false e)
or_both false b e = (refl, e)

-- a test that fails at every number of a stretch fails over it, and the other way round
pub any_none : (f : ℕ → Bool) (i n : ℕ) → ((j : ℕ) → i ≤ j → j < i + n → f j ≡ false) → any f i n ≡ false
unfolding any
any_none f i zero h = refl
any_none f i (suc n) h = ap₂ ◌||◌ (h i (omega arith) (omega arith)) (any_none f (suc i) n (λ j a b. h j (omega arith) (omega arith)))

pub any_each : (f : ℕ → Bool) (i n : ℕ) → any f i n ≡ false → (j : ℕ) → i ≤ j → j < i + n → f j ≡ false
unfolding any
any_each f i zero e j a b = absurd (omega arith)
any_each f i (suc n) e j a b = by_place (split i j) (any_each f (suc i) n (or_both (f i) (any f (suc i) n) e).1)
  where
    by_place : (i ≡ j) ⊎ (i ≢ j) → ((l : ℕ) → suc i ≤ l → l < suc i + n → f l ≡ false) → f j ≡ false
    by_place (inl p) later = ap f (sym p) ∙ (or_both (f i) (any f (suc i) n) e).0
    by_place (inr p) later = later j (omega arith) (omega arith)
