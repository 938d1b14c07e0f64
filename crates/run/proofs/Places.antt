-- The places of a run: all before their first operations, and how many still have operations. Assumes nothing.
use mathlib.Core.Path.{◌≡◌, sym, ap, subst, ◌∙◌}
use mathlib.Core.Logic.{◌≢◌, ◌⊎◌, inl, inr}
use Prim.Native.Nat.{ℕ, zero, suc, ◌+◌, ◌-◌, ◌≤◌, ◌<◌}
use native.Mathlib.Nat.{not-suc-le-zero, le_of_suc-le-suc}
use native.Mathlib.Numerals.{add-one}
use native.Mathlib.Omega.{arith}
use mathlib.Core.Bool.{Bool}
use mathlib.Core.List.{List, [], ◌∷◌}
use lib.ListN.{length, get_or, set, drop, replicate, length-set, length-replicate, drop_of_length-le}
use lib.Seq.{get_or-set_same, get_or-set_other, drop-cons}
use Rattle.basics.specs.Choice.{same}
use Rattle.basics.proofs.Choice.{split, compare, pick_then, pick_else, lt_less, le_less}
use Rattle.job.specs.Job.{Job}
use Rattle.job.specs.Idle.{nobody}
use Rattle.machine.specs.declared.Place.{Place}
use Rattle.machine.proofs.Searches.{seek_from, seek_to}
use Rattle.theory.proofs.Nobody.{Free, none_after}
use Rattle.machine.specs.Run.{before, operation_after, fresh_state, state_after}
use Rattle.run.specs.Promise.{nowhere, run_places, InPlace, still, working}

-- places stay as many where one is stored
all_kept : (places : List Place) (p : ℕ) (r : Place) → length places ≡ run_places → length (set places p r) ≡ run_places
all_kept places p r whole = length-set places p r ∙ whole

-- the first n places are before their processes' first operations, and the last one, nobody's, is past the last operation
pub record LinedUp (j : Job) (n : ℕ) (places : List Place) : Type 0 where
  pub whole : length places ≡ run_places
  pub each : (p : ℕ) → p < n → get_or places p nowhere ≡ before j (operation_after j p 0)
  pub last : get_or places nobody nowhere ≡ before j (operation_after j nobody 0)

-- behind the last operation no process has one
behind_last : (j : Job) (p : ℕ) → operation_after j p j.count ≡ suc j.count
unfolding operation_after
behind_last j p = let h : j.count - j.count ≡ 0 = omega arith in omega (arith, seek_from f (suc j.count) (j.count - j.count), seek_to f (suc j.count) (j.count - j.count))
  where
    f : ℕ → Bool
    f i = same (j.owner i) p

module _ (j : Job) where
  pub lined_first : Free j → (r : Place) → r ≡ before j (operation_after j nobody j.count) → LinedUp j 0 (replicate run_places r)
  lined_first free r e =
      record {
        whole = length-replicate run_places r;
        each = λ p h. absurd (omega arith);
        last = e ∙ ap (before j) (behind_last j nobody ∙ sym (none_after j free));
      }

  pub lined_next : (places : List Place) (p : ℕ) (r : Place) → p < nobody → LinedUp j p places → r ≡ before j (operation_after j p 0) → LinedUp j (p + 1) (set places p r)
  lined_next places p r in_range l e =
      record {
        whole = all_kept places p r l.whole;
        each = λ q h. go q h (split q p);
        last = get_or-set_other places p nobody r nowhere (λ q. (let b : ⊥ = omega arith in b)) ∙ l.last;
      }
    where
      go : (q : ℕ) → q < p + 1 → (q ≡ p) ⊎ (q ≢ p) → get_or (set places p r) q nowhere ≡ before j (operation_after j q 0)
      go q h (inl here) =
          subst (λ x. get_or (set places p r) x nowhere ≡ before j (operation_after j x 0)) (sym here)
          (get_or-set_same places p r nowhere (omega (arith, l.whole)) ∙ e)
      go q h (inr there) = get_or-set_other places p q r nowhere there ∙ l.each q (omega arith)

  pub lined_all : {n : ℕ} (places : List Place) → n ≡ nobody → LinedUp j n places → InPlace j 0 places
  unfolding state_after fresh_state
  lined_all {n} places e l = record { whole = l.whole; each = λ p h. go p h (split p nobody) }
    where
      go : (p : ℕ) → p < run_places → (p ≡ nobody) ⊎ (p ≢ nobody) → get_or places p nowhere ≡ before j (operation_after j p 0)
      go p h (inl q) = subst (λ x. get_or places x nowhere ≡ before j (operation_after j x 0)) (sym q) l.last
      go p h (inr n) = l.each p (omega arith)

pub still_has : (count o : ℕ) → o ≤ count → still count o ≡ 1
unfolding still
still_has count o h = pick_else 0 1 (le_less h)

pub still_none : (count o : ℕ) → count < o → still count o ≡ 0
unfolding still
still_none count o h = pick_then 0 1 (lt_less h)

-- how many of the places from p on still have operations: what the place of p adds
module _ (count : ℕ) (places : List Place) (whole : length places ≡ run_places) (p : ℕ) where
  working_next : p < run_places → still count (get_or places p nowhere).operation.0 + working count (drop (p + 1) places) ≡ working count (drop p places)
  unfolding working
  working_next h =
      sym
      (ap (working count) (drop-cons places p nowhere (subst (λ n. p < n) (sym whole) h))
      ∙ (λ i. still count (get_or places p nowhere).operation.0 + working count (drop (sym (add-one p) i) places)))

  -- so many were counted before p, and its place adds none, or one
  pub counted_none : (total : ℕ) {all : ℕ} → p < run_places → count < (get_or places p nowhere).operation.0 → total + working count (drop p places) ≡ all → total + working count (drop (p + 1) places) ≡ all
  counted_none total h past so_far = omega (arith, working_next h, still_none count _ past)

  pub counted_one : (total : ℕ) {all : ℕ} → p < run_places → (get_or places p nowhere).operation.0 ≤ count → total + working count (drop p places) ≡ all → total + 1 + working count (drop (p + 1) places) ≡ all
  counted_one total h has so_far = omega (arith, working_next h, still_has count _ has)

  pub counted_all : (total : ℕ) {all : ℕ} → run_places ≤ p → total + working count (drop p places) ≡ all → total ≡ all
  unfolding working
  counted_all total h so_far = omega (arith, none, so_far)
    where
      none : working count (drop p places) ≡ 0
      none = ap (working count) (drop_of_length-le places (subst (λ n. n ≤ p) (sym whole) h))

-- a place adds what it has
pub working_has : (count : ℕ) (places : List Place) (p : ℕ) → p < length places → still count (get_or places p nowhere).operation.0 ≤ working count places
unfolding working
working_has count [] p h = absurd (not-suc-le-zero h)
working_has count (place ∷ places) zero h = omega arith
working_has count (place ∷ places) (suc p) h = omega (arith, working_has count places p (le_of_suc-le-suc h))

-- a place that is stored adds its own and takes away what was there
pub working_set : (count : ℕ) (places : List Place) (p : ℕ) (r : Place) → p < length places → working count (set places p r) + still count (get_or places p nowhere).operation.0 ≡ working count places + still count r.operation.0
unfolding working
working_set count [] p r h = absurd (not-suc-le-zero h)
working_set count (place ∷ places) zero r h = omega arith
working_set count (place ∷ places) (suc p) r h = omega (arith, working_set count places p r (le_of_suc-le-suc h))

-- every process has come to the end of its operations
abbrev pub EachRests : ℕ → List Place → Type 0
EachRests count places = (p : ℕ) → p < run_places → count < (get_or places p nowhere).operation.0

-- where no process has operations left, each rests
none_left : (count : ℕ) (places : List Place) (p : ℕ) → p < length places → working count places ≡ 0 → count < (get_or places p nowhere).operation.0
unfolding working
none_left count [] p h e = absurd (not-suc-le-zero h)
none_left count (place ∷ places) zero h e = past (compare place.operation.0 count)
  where
    past : (place.operation.0 ≤ count) ⊎ (count < place.operation.0) → count < place.operation.0
    past (inl low) = absurd (let b : ⊥ = omega (arith, still_has count place.operation.0 low, e) in b)
    past (inr high) = high
none_left count (place ∷ places) (suc p) h e = none_left count places p (le_of_suc-le-suc h) (omega arith)

pub each_rests : (count : ℕ) (places : List Place) → length places ≡ run_places → working count places ≡ 0 → EachRests count places
each_rests count places whole e p h = none_left count places p (subst (λ n. p < n) (sym whole) h) e
