-- Where the takers of each item are: bounds found from both ends at once, and that nothing outside them takes the item. Assumes nothing.
use mathlib.Core.Path.{◌≡◌, sym, ap, subst, ◌∙◌}
use mathlib.Core.Logic.{◌≢◌}
use Prim.Native.Nat.{ℕ, zero, suc, ◌+◌, ◌-◌, ◌≤◌, ◌<◌}
use native.Mathlib.Omega.{arith}
use mathlib.Core.List.{List}
use lib.ListN.{length, replicate}
use Rattle.basics.specs.Choice.{pick, same}
use Rattle.basics.specs.Maps.{at, upd}
use Rattle.basics.proofs.Choice.{unequal_same}
use Rattle.basics.proofs.Maps.{upd_elim}
use Rattle.rows.specs.Rows.{place, column, stored_in}
use Rattle.rows.specs.Operations.{cells}
use Rattle.rows.specs.declared.OpColumn.TheVariants.{Taken}
use Rattle.text.specs.declared.Page.{Page}
use Rattle.lines.specs.declared.BoundColumn.{BoundColumn}
use Rattle.lines.specs.declared.BoundColumn.TheVariants.{Skip, Beyond}
use Rattle.text.proofs.Each.{Written, written_past}
use Rattle.lines.specs.Members.{bound_number, bound_width, bound_cells, skips, beyonds, Unbounded, Bounds}
use Rattle.lines.proofs.Spaced.{took, member, member_out}

-- the bounds by the last `done` operations from the back, and the first `done` from the front
pub record Bounded (ops bounds : List ℕ) (count done : ℕ) : Type 0 where
  pub up_to : done ≤ count
  pub may : Unbounded ops bounds count
  pub from : (o : ℕ) → count < o + done → o ≤ count → skips bounds (cells ops Taken o) < o
  pub to : (o : ℕ) → 1 ≤ o → o ≤ done → o + beyonds bounds (cells ops Taken o) ≤ count

-- in fresh cells
zeros_within : (n most i : ℕ) → at (replicate n 0) i ≤ most
unfolding at
zeros_within zero most i = omega arith
zeros_within (suc n) most zero = omega arith
zeros_within (suc n) most (suc i) = zeros_within n most i

pub zeros_small : (n most : ℕ) (f : BoundColumn) (i : ℕ) → bound_cells (replicate n 0) f i ≤ most
unfolding column
zeros_small n most f i = zeros_within n most (place bound_width i (bound_number f))

module _ {ops bounds : List ℕ} {count : ℕ} where
  pub bounded_none : Unbounded ops bounds count → Bounded ops bounds count 0
  bounded_none h =
      record { up_to = omega arith; may = h; from = λ o l m. absurd (omega arith); to = λ o l m. absurd (omega arith) }

  pub bounded_all : {done : ℕ} → Bounded ops bounds count done → count ≤ done → Bounds ops bounds count
  bounded_all b all =
      record {
        has_ops = b.may.has_ops;
        has_bounds = b.may.has_bounds;
        from = λ o l h. b.from o (omega arith) h;
        to = λ o l h. b.to o l (omega arith);
        small = b.may.small;
      }

-- one operation more from either end: a store of what comes before the one, and a store of what is behind the other
module _ {ops bounds : List ℕ} (low high : List ℕ) {count done : ℕ} (l h : ℕ) (b : Bounded ops bounds count done) (more : done < count) (taken_low : l ≡ cells ops Taken (count - done)) (s : bound_cells low ≡ stored_in bound_number Skip l (count - done - 1) (bound_cells bounds)) (taken_high : h ≡ cells ops Taken (done + 1)) (t : bound_cells high ≡ stored_in bound_number Beyond h (count - done - 1) (bound_cells low)) where
  skips_stored : skips high ≡ upd (skips bounds) l (count - done - 1)
  unfolding stored_in pick same
  skips_stored = ap (λ (c : BoundColumn → ℕ → ℕ). c Skip) t ∙ ap (λ (c : BoundColumn → ℕ → ℕ). c Skip) s

  beyonds_stored : beyonds high ≡ upd (beyonds bounds) h (count - done - 1)
  unfolding stored_in pick same
  beyonds_stored =
      ap (λ (c : BoundColumn → ℕ → ℕ). c Beyond) t
      ∙ ap (λ (m : ℕ → ℕ). upd m h (count - done - 1)) (ap (λ (c : BoundColumn → ℕ → ℕ). c Beyond) s)

  from_more : (o : ℕ) → count < o + (done + 1) → o ≤ count → skips high (cells ops Taken o) < o
  from_more o from to =
      subst (λ (m : ℕ → ℕ). m (cells ops Taken o) < o) (sym skips_stored)
      (upd_elim (λ x. x < o) (skips bounds) l (count - done - 1) (cells ops Taken o)
      (λ here. omega arith)
      (λ other.
      let past : o ≢ count - done = λ e. other (ap (cells ops Taken) e ∙ sym taken_low) in
      b.from o (omega (arith, past)) to))

  to_more : (o : ℕ) → 1 ≤ o → o ≤ done + 1 → o + beyonds high (cells ops Taken o) ≤ count
  to_more o from to =
      subst (λ (m : ℕ → ℕ). o + m (cells ops Taken o) ≤ count) (sym beyonds_stored)
      (upd_elim (λ x. o + x ≤ count) (beyonds bounds) h (count - done - 1) (cells ops Taken o)
      (λ here. omega arith)
      (λ other.
      let past : o ≢ done + 1 = λ e. other (ap (cells ops Taken) e ∙ sym taken_high) in
      b.to o from (omega (arith, past))))

  small_still : (f : BoundColumn) (i : ℕ) → bound_cells high f i ≤ count
  small_still Skip i =
      subst (λ (m : ℕ → ℕ). m i ≤ count) (sym skips_stored) (upd_elim (λ x. x ≤ count) (skips bounds) l (count - done - 1) i (λ here. omega arith) (λ other. b.may.small Skip i))
  small_still Beyond i =
      subst (λ (m : ℕ → ℕ). m i ≤ count) (sym beyonds_stored) (upd_elim (λ x. x ≤ count) (beyonds bounds) h (count - done - 1) i (λ here. omega arith) (λ other. b.may.small Beyond i))

  pub bounded_more : length high ≡ length bounds → Bounded ops high count (done + 1)
  bounded_more kept =
      record {
        up_to = omega arith;
        may = record { has_ops = b.may.has_ops; has_bounds = omega (arith, kept, b.may.has_bounds); items = b.may.items; small = small_still };
        from = from_more;
        to = to_more;
      }

-- the item that was read in an operation's row is at most the count
pub item_within : {ops bounds : List ℕ} {count done n : ℕ} (o : ℕ) → Bounded ops bounds count done → n ≡ cells ops Taken o → 1 ≤ o → o ≤ count → n ≤ count
item_within o b e from to = omega (arith, b.may.items o from to, e)

-- the takers of an item, written one by one: none comes before the bound, and none behind
module _ {ops bounds : List ℕ} {count : ℕ} (b : Bounds ops bounds count) (item : ℕ) {i : ℕ} {p q : Page} (w : Written (member (took ops item)) count i p q) where
  pub skipped : {first : ℕ} → first ≡ skips bounds item → first ≤ count → i ≡ 0 → Written (member (took ops item)) count first p q
  skipped {first} f most z =
      written_past first w (omega arith) most (λ k low high. member_out (took ops item) k (unequal_same (λ e.
      let early : skips bounds (cells ops Taken k) < k = b.from k (omega arith) (omega arith) in
      let here : skips bounds (cells ops Taken k) ≡ skips bounds item = ap (skips bounds) e in
      omega arith)))

  pub past_bound : {rest : ℕ} → rest ≡ beyonds bounds item → count - rest ≤ i → Written (member (took ops item)) count count p q
  past_bound r past =
      written_past count w w.up_to (omega arith) (λ k low high. member_out (took ops item) k (unequal_same (λ e.
      let late : k + beyonds bounds (cells ops Taken k) ≤ count = b.to k (omega arith) high in
      let here : beyonds bounds (cells ops Taken k) ≡ beyonds bounds item = ap (beyonds bounds) e in
      omega arith)))
