-- The uppermost node: what a loop keeps that climbs to it, and that the nodes upward from the sentinel end with it. Assumes nothing.
use mathlib.Core.Path.{◌≡◌, refl, sym, ap, ◌∙◌}
use mathlib.Core.Logic.{◌≢◌}
use Prim.Native.Nat.{ℕ, zero, suc, ◌+◌, ◌-◌, ◌≤◌, ◌<◌}
use native.Mathlib.Nat.{sub-zero}
use native.Mathlib.Omega.{arith}
use mathlib.Core.List.{List, [], ◌∷◌, reverse, reverse_aux}
use lib.ListN.{length}
use Rattle.basics.specs.Choice.{same}
use Rattle.basics.proofs.Choice.{pick_elim, pick_then, pick_else, equal_same, unequal_same}
use Rattle.rows.specs.Nodes.{uppers}
use Rattle.lines.specs.Members.{climb, UppersThere}
use Rattle.theory.proofs.Nodes.{Nodes, end, node}
use Rattle.theory.proofs.TwoWay.Tower.{top_of}

module _ (upper : ℕ → ℕ) where
  climb_end : (i count : ℕ) → upper i ≡ 0 → climb upper i count ≡ i
  unfolding climb
  climb_end i zero z = refl
  climb_end i (suc count) z = pick_then i (climb upper (upper i) count) (equal_same z)

  climb_none : (i : ℕ) {count climbed : ℕ} → count ≤ climbed → climb upper i (count - climbed) ≡ i
  unfolding climb
  climb_none i {count} {climbed} h = ap (climb upper i) (let e : count - climbed ≡ 0 = omega arith in e)

  climb_on : (i : ℕ) {count climbed : ℕ} → climbed < count → upper i ≢ 0 → climb upper i (count - climbed) ≡ climb upper (upper i) (count - (climbed + 1))
  unfolding climb
  climb_on i {count} {climbed} h n =
      ap (climb upper i) (let e : count - climbed ≡ suc (count - (climbed + 1)) = omega arith in e)
      ∙ pick_else i (climb upper (upper i) (count - (climbed + 1))) (unequal_same n)

-- uppers within a bound lead to a node within it
pub climb_within : {upper : ℕ → ℕ} {i n : ℕ} (count : ℕ) → ((x : ℕ) → upper x ≤ n) → i ≤ n → climb upper i count ≤ n
unfolding climb
climb_within zero h first = first
climb_within {upper} {i} {n} (suc count) h first = pick_elim (λ x. x ≤ n) (same (upper i) 0) i (climb upper (upper i) count) (λ t. first) (λ t. climb_within count h (h i))

-- from node `i` on the climb ends where the whole one does
pub record Climbing (nodes : List ℕ) (count i climbed : ℕ) : Type 0 where
  pub all : UppersThere nodes count
  pub there : i ≤ count
  pub whole : climb (uppers nodes) i (count - climbed) ≡ climb (uppers nodes) 0 count

pub climbing_none : {nodes : List ℕ} {count : ℕ} → UppersThere nodes count → Climbing nodes count 0 0
climbing_none {nodes} {count} h = record { all = h; there = omega arith; whole = ap (climb (uppers nodes) 0) (sub-zero count) }

module _ {nodes : List ℕ} {count i climbed : ℕ} (c : Climbing nodes count i climbed) where
  pub at_top : uppers nodes i ≡ 0 → i ≡ climb (uppers nodes) 0 count
  at_top z = sym (climb_end (uppers nodes) i (count - climbed) z) ∙ c.whole

  pub at_last : count ≤ climbed → i ≡ climb (uppers nodes) 0 count
  at_last h = sym (climb_none (uppers nodes) i h) ∙ c.whole

  pub climbing_more : {upper : ℕ} → climbed < count → upper ≡ uppers nodes i → upper ≢ 0 → Climbing nodes count upper (climbed + 1)
  climbing_more {upper} h e n =
      record {
        all = c.all;
        there = omega (arith, e, c.all.within i);
        whole =
            ap (λ (u : ℕ). climb (uppers nodes) u (count - (climbed + 1))) e
            ∙ sym (climb_on (uppers nodes) i h (λ z. n (e ∙ z)))
            ∙ c.whole;
      }

-- the last of a list of nodes upward from node i, i itself if there is none
abbrev last_of : ℕ → List ℕ → ℕ
last_of i [] = i
last_of i (x ∷ l) = last_of x l

climb_from : {upper : ℕ → ℕ} (i count : ℕ) {v : ℕ} {l : List ℕ} → Nodes upper v l → upper i ≡ v → length l ≤ count → climb upper i count ≡ last_of i l
unfolding climb
climb_from {upper} i count (end e) u h = climb_end upper i count (u ∙ e)
climb_from i zero (node n c) u h = absurd (omega arith)
climb_from {upper} i (suc count) (node {i = x} n c) u h =
    pick_else i (climb upper (upper i) count) (unequal_same (λ z. n (sym u ∙ z)))
    ∙ ap (λ (y : ℕ). climb upper y count) u
    ∙ climb_from x count c refl (omega arith)

climb_last : {upper : ℕ → ℕ} (i : ℕ) {l : List ℕ} (count : ℕ) → Nodes upper (upper i) l → length l ≤ count → climb upper i count ≡ last_of i l
climb_last i count c h = climb_from i count c refl h

last_behind : (i x : ℕ) (l behind : List ℕ) → last_of i (reverse_aux l (x ∷ behind)) ≡ last_of x behind
last_behind i x [] behind = refl
last_behind i x (y ∷ l) behind = last_behind i y l (x ∷ behind)

last_reversed : (l : List ℕ) → last_of 0 (reverse l) ≡ top_of l
last_reversed [] = refl
last_reversed (x ∷ l) = last_behind 0 x l []

-- the nodes upward from the sentinel, the uppermost first: there a climb ends that may be as long as they are
pub climb_top : {upper : ℕ → ℕ} (l : List ℕ) (count : ℕ) → Nodes upper (upper 0) (reverse l) → length (reverse l) ≤ count → climb upper 0 count ≡ top_of l
climb_top l count up few = climb_last 0 count up few ∙ last_reversed l
