-- The entries that stay when others are cut out: how many, which stands at a place, and that their order is kept. Assumes nothing.
use mathlib.Core.Path.{◌≡◌, refl, sym, ap, ◌∙◌}
use mathlib.Core.Logic.{◌≢◌, ◌⊎◌, inl, inr}
use Prim.Native.Nat.{ℕ, zero, suc, ◌≤◌, ◌<◌, max}
use mathlib.Core.Bool.{Bool, true, false, not, ◌&&◌, true≢false, and-false}
use native.Mathlib.Omega.{arith, max_cases}
use Rattle.basics.specs.Choice.{same}
use Rattle.basics.proofs.Choice.{both, split, compare, pick_then, pick_else, equal_same, unequal_same}
use Rattle.machine.proofs.Tallies.{tally_zero, tally_meets, tally_misses, tally_up}
use Rattle.theory.specs.Cut.{stayed, entry_of}

-- the entry at place i of the first k, if there is one
pub record Stays (out : ℕ → Bool) (k i : ℕ) : Type 0 where
  pub from_one : 1 ≤ entry_of out k i
  pub to_last : entry_of out k i ≤ k
  pub is_in : out (entry_of out k i) ≡ false
  pub its_place : stayed out (entry_of out k i) ≡ i

module _ (out : ℕ → Bool) where
  pub stayed_zero : stayed out 0 ≡ 0
  unfolding stayed
  stayed_zero = tally_zero (λ s. not (out s))

  pub stayed_in : (k : ℕ) → out (suc k) ≡ false → stayed out (suc k) ≡ suc (stayed out k)
  unfolding stayed
  stayed_in k e = tally_meets (λ s. not (out s)) k (ap not e)

  pub stayed_out : (k : ℕ) → out (suc k) ≡ true → stayed out (suc k) ≡ stayed out k
  unfolding stayed
  stayed_out k e = tally_misses (λ s. not (out s)) k (ap not e)

  pub stayed_up : (k l : ℕ) → k ≤ l → stayed out k ≤ stayed out l
  unfolding stayed
  stayed_up k l h = tally_up (λ s. not (out s)) k l h

  -- one more entry: it comes to the next place, or it is cut out; the places before have what they had
  entry_new : (k : ℕ) → out (suc k) ≡ false → entry_of out (suc k) (stayed out (suc k)) ≡ suc k
  unfolding entry_of
  entry_new k e = pick_then _ _ (ap (λ (b : Bool). not b && same (stayed out (suc k)) (stayed out (suc k))) e ∙ equal_same refl)

  entry_old : (k i : ℕ) → (out (suc k) ≡ false → stayed out (suc k) ≢ i) → entry_of out (suc k) i ≡ entry_of out k i
  unfolding entry_of
  entry_old k i h = go (both (out (suc k)))
    where
      go : (out (suc k) ≡ true) ⊎ (out (suc k) ≡ false) → entry_of out (suc k) i ≡ entry_of out k i
      go (inl e) = pick_else _ _ (ap (λ (b : Bool). not b && same (stayed out (suc k)) i) e)
      go (inr e) = pick_else _ _ (ap (λ (b : Bool). not (out (suc k)) && b) (unequal_same (h e)) ∙ and-false (not (out (suc k))))

  entry_kept : (k i : ℕ) → i ≤ stayed out k → entry_of out (suc k) i ≡ entry_of out k i
  entry_kept k i h = entry_old k i (λ e q. (let n : stayed out (suc k) ≡ suc (stayed out k) = stayed_in k e in omega arith))

  -- a place keeps its entry, however many come behind
  entry_stays : (k l i : ℕ) → k ≤ l → i ≤ stayed out k → entry_of out l i ≡ entry_of out k i
  entry_stays k zero i h b = ap (λ (n : ℕ). entry_of out n i) (omega arith)
  entry_stays k (suc l) i h b = go (split k (suc l)) (λ q. entry_stays k l i q b)
    where
      go : (k ≡ suc l) ⊎ (k ≢ suc l) → (k ≤ l → entry_of out l i ≡ entry_of out k i) → entry_of out (suc l) i ≡ entry_of out k i
      go (inl e) below = ap (λ (n : ℕ). entry_of out n i) (sym e)
      go (inr n) below = entry_kept l i (omega (arith, stayed_up k l (omega arith))) ∙ below (omega arith)

  pub entry_each : (s l : ℕ) → 1 ≤ s → s ≤ l → out s ≡ false → entry_of out l (stayed out s) ≡ s
  entry_each zero l low high e = absurd (omega arith)
  entry_each (suc s) l low high e = entry_stays (suc s) l (stayed out (suc s)) high (omega arith) ∙ entry_new s e

  -- no place 0, and none past the last
  entry_none : (i : ℕ) → entry_of out 0 i ≡ 0
  unfolding entry_of
  entry_none i = refl

  pub entry_zero : (k : ℕ) → entry_of out k 0 ≡ 0
  entry_zero zero = entry_none 0
  entry_zero (suc k) = entry_old k 0 (λ e q. (let n : stayed out (suc k) ≡ suc (stayed out k) = stayed_in k e in omega arith)) ∙ entry_zero k

  entry_past : (k i : ℕ) → stayed out k < i → entry_of out k i ≡ 0
  entry_past zero i h = entry_none i
  entry_past (suc k) i h = entry_old k i (λ e q. omega arith) ∙ entry_past k i (omega (arith, stayed_up k (suc k) (omega arith)))

  pub entry_stands : (k i : ℕ) → 1 ≤ i → i ≤ stayed out k → Stays out k i
  entry_stands zero i low high = absurd (omega (arith, stayed_zero))
  entry_stands (suc k) i low high = go (compare i (stayed out k)) (both (out (suc k))) (λ b. entry_stands k i low b)
    where
      old : Stays out k i → entry_of out (suc k) i ≡ entry_of out k i → Stays out (suc k) i
      old s e = record { from_one = omega (arith, s.from_one); to_last = omega (arith, s.to_last); is_in = ap out e ∙ s.is_in; its_place = ap (stayed out) e ∙ s.its_place }

      new : out (suc k) ≡ false → stayed out (suc k) ≡ i → Stays out (suc k) i
      new e p =
          let q : entry_of out (suc k) i ≡ suc k = ap (entry_of out (suc k)) (sym p) ∙ entry_new k e in
          record { from_one = omega arith; to_last = omega arith; is_in = ap out q ∙ e; its_place = ap (stayed out) q ∙ p }

      go : (i ≤ stayed out k) ⊎ (stayed out k < i) → (out (suc k) ≡ true) ⊎ (out (suc k) ≡ false) → (i ≤ stayed out k → Stays out k i) → Stays out (suc k) i
      go (inl b) c below = old (below b) (entry_kept k i b)
      go (inr b) (inl e) below = absurd (omega (arith, stayed_out k e))
      go (inr b) (inr e) below = new e (omega (arith, stayed_in k e))

  -- in the schedule's order
  pub entry_order : (l i h : ℕ) → i < h → h ≤ stayed out l → entry_of out l i < entry_of out l h
  entry_order l zero h low high = omega (arith, entry_zero l, (entry_stands l h low high).from_one)
  entry_order l (suc i) h low high = go (compare (entry_of out l h) (entry_of out l (suc i)))
    where
      go : (entry_of out l h ≤ entry_of out l (suc i)) ⊎ (entry_of out l (suc i) < entry_of out l h) → entry_of out l (suc i) < entry_of out l h
      go (inl b) = absurd (omega (arith, stayed_up (entry_of out l h) (entry_of out l (suc i)) b, (entry_stands l h (omega arith) high).its_place, (entry_stands l (suc i) (omega arith) (omega arith)).its_place))
      go (inr b) = b

  entry_up : (l i h : ℕ) → i ≤ h → h ≤ stayed out l → entry_of out l i ≤ entry_of out l h
  entry_up l i h low high = go (split i h)
    where
      go : (i ≡ h) ⊎ (i ≢ h) → entry_of out l i ≤ entry_of out l h
      go (inl e) = omega (arith, ap (entry_of out l) e)
      go (inr n) = omega (arith, entry_order l i h (omega arith) high)

  pub entry_max : (l i h : ℕ) → i ≤ stayed out l → h ≤ stayed out l → max (entry_of out l i) (entry_of out l h) ≡ entry_of out l (max i h)
  entry_max l i h low high = max_cases i h _ later earlier
    where
      later : i ≤ h → max i h ≡ h → max (entry_of out l i) (entry_of out l h) ≡ entry_of out l (max i h)
      later b q = (let u : entry_of out l i ≤ entry_of out l h = entry_up l i h b high in omega arith) ∙ ap (entry_of out l) (sym q)

      earlier : h ≤ i → max i h ≡ i → max (entry_of out l i) (entry_of out l h) ≡ entry_of out l (max i h)
      earlier b q = (let u : entry_of out l h ≤ entry_of out l i = entry_up l h i b low in omega arith) ∙ ap (entry_of out l) (sym q)

  -- a place and its entry are both none, or neither
  pub same_zero : (l i : ℕ) → i ≤ stayed out l → same (entry_of out l i) 0 ≡ same i 0
  same_zero l i b = go (split i 0)
    where
      go : (i ≡ 0) ⊎ (i ≢ 0) → same (entry_of out l i) 0 ≡ same i 0
      go (inl e) = equal_same (ap (entry_of out l) e ∙ entry_zero l) ∙ sym (equal_same e)
      go (inr n) = unequal_same (λ q. (let s : 1 ≤ entry_of out l i = (entry_stands l i (omega arith) b).from_one in omega arith)) ∙ sym (unequal_same n)

  -- an entry that is cut out stands at no place; one that stays at its own alone
  pub never_out : (l i k : ℕ) → out (suc k) ≡ true → entry_of out l i ≢ suc k
  never_out l i k t q = go (split i 0) (compare i (stayed out l))
    where
      go : (i ≡ 0) ⊎ (i ≢ 0) → (i ≤ stayed out l) ⊎ (stayed out l < i) → ⊥
      go (inl e) c = omega (arith, ap (entry_of out l) e, entry_zero l)
      go (inr n) (inl b) = clash (sym t ∙ ap out (sym q) ∙ (entry_stands l i (omega arith) b).is_in)
        where
          clash : true ≡ false → ⊥
          clash = true≢false
      go (inr n) (inr b) = omega (arith, entry_past l i b)

  pub same_place : (l i k : ℕ) → suc k ≤ l → out (suc k) ≡ false → same (entry_of out l i) (suc k) ≡ same i (stayed out (suc k))
  same_place l i k high e = go (split i (stayed out (suc k)))
    where
      apart : i ≢ stayed out (suc k) → (i ≡ 0) ⊎ (i ≢ 0) → (i ≤ stayed out l) ⊎ (stayed out l < i) → entry_of out l i ≢ suc k
      apart n (inl z) c q = omega (arith, ap (entry_of out l) z, entry_zero l)
      apart n (inr z) (inl b) q = n (sym (entry_stands l i (omega arith) b).its_place ∙ ap (stayed out) q)
      apart n (inr z) (inr b) q = omega (arith, entry_past l i b)

      go : (i ≡ stayed out (suc k)) ⊎ (i ≢ stayed out (suc k)) → same (entry_of out l i) (suc k) ≡ same i (stayed out (suc k))
      go (inl q) = equal_same (ap (entry_of out l) q ∙ entry_each (suc k) l (omega arith) high e) ∙ sym (equal_same q)
      go (inr n) = unequal_same (apart n (split i 0) (compare i (stayed out l))) ∙ sym (unequal_same n)
