-- Laws of a stretch of bytes that is written anew: none, one more byte, two stretches that meet, and one that stays. Assumes nothing.
use mathlib.Core.Path.{◌≡◌, refl, sym, ap, subst, ◌∙◌}
use mathlib.Core.Logic.{◌≢◌, ◌⊎◌, inl, inr}
use Prim.Native.Nat.{ℕ, ◌+◌, ◌≤◌, ◌<◌}
use native.Mathlib.Omega.{arith}
use mathlib.Core.List.{List}
use lib.ListN.{length, set, length-set}
use Rattle.basics.specs.Maps.{at}
use Rattle.basics.proofs.Choice.{split, compare}
use Rattle.basics.proofs.Maps.{at_set, upd_here, upd_there}
use Rattle.idling.specs.Rewritten.{Rewritten}

pub rewritten_none : (new : ℕ → ℕ) (from : ℕ) (s : List ℕ) → Rewritten new from from s s
rewritten_none new from s =
    record {
      size = refl;
      front = λ i h. refl;
      inside = λ i low high. absurd (let b : ⊥ = omega arith in b);
      back = λ i h. refl;
    }

-- nothing is written where the same stands already
pub rewritten_same : (new : ℕ → ℕ) (from to : ℕ) (s : List ℕ) → ((i : ℕ) → from ≤ i → i < to → at s i ≡ new i) → Rewritten new from to s s
rewritten_same new from to s h = record { size = refl; front = λ i b. refl; inside = h; back = λ i b. refl }

-- a byte after a store, there and elsewhere
stored_here : (s : List ℕ) (n v : ℕ) → n < length s → at (set s n v) n ≡ v
stored_here s n v h = ap (λ (f : ℕ → ℕ). f n) (at_set s n v h) ∙ upd_here (at s) n v

stored_there : (s : List ℕ) (n v : ℕ) → n < length s → (i : ℕ) → i ≢ n → at (set s n v) i ≡ at s i
stored_there s n v h i other = ap (λ (f : ℕ → ℕ). f i) (at_set s n v h) ∙ upd_there (at s) n v other

module _ {new : ℕ → ℕ} {from : ℕ} {s m : List ℕ} where
  pub rewritten_next : (n v : ℕ) → Rewritten new from n s m → from ≤ n → n < length m → v ≡ new n → Rewritten new from (n + 1) s (set m n v)
  rewritten_next n v r low room e =
      record {
        size = length-set m n v ∙ r.size;
        front = λ i h. there i (λ q. let b : ⊥ = omega arith in b) ∙ r.front i h;
        inside = λ i a b. by_place i a b (split i n);
        back = λ i h. there i (λ q. let b : ⊥ = omega arith in b) ∙ r.back i (omega arith);
      }
    where
      there : (i : ℕ) → i ≢ n → at (set m n v) i ≡ at m i
      there = stored_there m n v room

      by_place : (i : ℕ) → from ≤ i → i < n + 1 → (i ≡ n) ⊎ (i ≢ n) → at (set m n v) i ≡ new i
      by_place i a b (inl here) = subst (λ j. at (set m n v) j ≡ new j) (sym here) (stored_here m n v room ∙ e)
      by_place i a b (inr other) = there i other ∙ r.inside i a (omega arith)

  -- what is not reached yet is as it was
  pub rewritten_ahead : {n : ℕ} → Rewritten new from n s m → at m n ≡ at s n
  rewritten_ahead {n} r = r.back n (omega arith)

  -- a stretch, and the next one behind it
  pub rewritten_join : {new' : ℕ → ℕ} {mid to : ℕ} {m' : List ℕ} → Rewritten new from mid s m → Rewritten new' mid to m m' → from ≤ mid → mid ≤ to
      → ((i : ℕ) → mid ≤ i → i < to → new' i ≡ new i) → Rewritten new from to s m'
  rewritten_join {new'} {mid} {to} {m'} r q low high alike =
      record {
        size = q.size ∙ r.size;
        front = λ i h. q.front i (omega arith) ∙ r.front i h;
        inside = λ i a b. by_place i a b (compare mid i);
        back = λ i h. q.back i h ∙ r.back i (omega arith);
      }
    where
      by_place : (i : ℕ) → from ≤ i → i < to → (mid ≤ i) ⊎ (i < mid) → at m' i ≡ new i
      by_place i a b (inl later) = q.inside i later b ∙ alike i later b
      by_place i a b (inr earlier) = q.front i earlier ∙ r.inside i a earlier

-- what is written may be said in another way
pub rewritten_as : {new : ℕ → ℕ} (new' : ℕ → ℕ) {from to : ℕ} {s m : List ℕ} → Rewritten new from to s m → ((i : ℕ) → from ≤ i → i < to → new i ≡ new' i) → Rewritten new' from to s m
rewritten_as new' r alike =
    record { size = r.size; front = r.front; inside = λ i a b. r.inside i a b ∙ alike i a b; back = r.back }

-- a stretch that has come to its end
pub rewritten_to : {new : ℕ → ℕ} {from n to : ℕ} {s m : List ℕ} → Rewritten new from n s m → n ≡ to → Rewritten new from to s m
rewritten_to {new} {from} {s = s} {m = m} r e = subst (λ (k : ℕ). Rewritten new from k s m) e r
