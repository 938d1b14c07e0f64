-- Texts of the numbers 1 to n, one behind another, and what a loop keeps that writes them. Assumes nothing.
use mathlib.Core.Path.{◌≡◌, sym, ap, subst, ◌∙◌}
use mathlib.Core.Logic.{⊎_elim}
use Prim.Native.Nat.{ℕ, zero, suc, ◌+◌, ◌≤◌, ◌<◌}
use native.Mathlib.Nat.{le_of_eq}
use native.Mathlib.Numerals.{add-one}
use native.Mathlib.Omega.{arith}
use mathlib.Core.List.{List, [], ◌++◌, append-nil}
use lib.ListN.{length, length-append}
use Rattle.basics.proofs.Choice.{compare}
use Rattle.text.specs.declared.Page.{Page}
use Rattle.text.specs.Pages.{HasRoom, Wrote}
use Rattle.text.proofs.Pages.{room_within, room_then, wrote_nothing, wrote_then, wrote_as}

-- the texts of 1 to n
unfoldable pub each_to : (ℕ → List ℕ) → ℕ → List ℕ
each_to g zero = []
each_to g (suc n) = each_to g n ++ g (suc n)

-- those up to the next are within all
each_within : (g : ℕ → List ℕ) (i n : ℕ) → i < n → length (each_to g (suc i)) ≤ length (each_to g n)
unfolding each_to
each_within g i zero h = absurd (omega arith)
each_within g i (suc n) h =
    let grown : length (each_to g n ++ g (suc n)) ≡ length (each_to g n) + length (g (suc n)) = length-append (each_to g n) (g (suc n)) in
    let below : i < n → length (each_to g (suc i)) ≤ length (each_to g n) = λ less. each_within g i n less in
    ⊎_elim (λ (low : n ≤ i). le_of_eq (ap (λ (m : ℕ). length (each_to g (suc m))) (let e : i ≡ n = omega arith in e))) (λ (high : i < n). omega (arith, below high, grown)) (compare n i)

-- of the texts of 1 to n, those of 1 to i are written, and there was room for all
pub record Written (g : ℕ → List ℕ) (n i : ℕ) (before after : Page) : Type 0 where
  pub up_to : i ≤ n
  pub room : HasRoom before (each_to g n)
  pub wrote : Wrote before after (each_to g i)

pub written_none : (g : ℕ → List ℕ) (n : ℕ) {p : Page} → HasRoom p (each_to g n) → Written g n 0 p p
unfolding each_to
written_none g n {p} room =
    record { up_to = omega arith; room = room; wrote = wrote_nothing (omega (arith, room.room)) }

module _ {g : ℕ → List ℕ} {n i : ℕ} {p q : Page} (w : Written g n i p q) where
  -- there is room for the next
  pub written_room : i < n → HasRoom q (g (i + 1))
  unfolding each_to
  written_room h = rw add-one (room_then (room_within (each_within g i n h) w.room) w.wrote)

  pub written_more : {r : Page} → i < n → Wrote q r (g (i + 1)) → Written g n (i + 1) p r
  unfolding each_to
  written_more h v = record { up_to = omega arith; room = w.room; wrote = rw add-one (wrote_then w.wrote (rw add-one at v)) }

  -- a text that is nothing
  pub written_same : i < n → g (i + 1) ≡ [] → Written g n (i + 1) p q
  unfolding each_to
  written_same h e =
      record {
        up_to = omega arith;
        room = w.room;
        wrote = rw add-one (wrote_as (sym (ap (λ (l : List ℕ). each_to g i ++ l) (rw add-one at e) ∙ append-nil (each_to g i))) w.wrote);
      }

  pub written_all : n ≤ i → Wrote p q (each_to g n)
  written_all h = subst (λ (m : ℕ). Wrote p q (each_to g m)) (let e : i ≡ n = omega (arith, w.up_to) in e) w.wrote

-- texts that are all nothing, up to a number
pub written_past : {g : ℕ → List ℕ} {n i : ℕ} {p q : Page} (m : ℕ) → Written g n i p q → i ≤ m → m ≤ n → ((k : ℕ) → i < k → k ≤ m → g k ≡ []) → Written g n m p q
written_past {g} {n} {i} {p} {q} m w low high quiet = go m low high quiet
  where
    go : (m : ℕ) → i ≤ m → m ≤ n → ((k : ℕ) → i < k → k ≤ m → g k ≡ []) → Written g n m p q
    go zero low high quiet = subst (λ (x : ℕ). Written g n x p q) (let e : i ≡ 0 = omega arith in e) w
    go (suc m) low high quiet =
        ⊎_elim
        (λ (less : i ≤ m). subst (λ (x : ℕ). Written g n x p q) (add-one m) (written_same (go m less (omega arith) (λ k l h. quiet k l (omega arith))) (omega arith) (quiet (m + 1) (omega arith) (omega arith))))
        (λ (all : m < i). subst (λ (x : ℕ). Written g n x p q) (let e : i ≡ suc m = omega arith in e) w)
        (compare i m)
