-- The nodes that a run links are the puts of its record, and those of them whose put is dropped are the drops between a changing Q3 and its Q4. Assumes nothing.
use mathlib.Core.Path.{◌≡◌, refl, sym, ap, subst, ◌∙◌}
use mathlib.Core.Logic.{◌≢◌, ◌⊎◌, inl, inr}
use Prim.Native.Nat.{ℕ, zero, suc, ◌+◌, ◌≤◌}
use mathlib.Core.Bool.{Bool, true, false, not, ◌&&◌, true≢false, and-eq-true_iff}
use native.Mathlib.Omega.{arith}
use Rattle.basics.specs.Choice.{same}
use Rattle.basics.proofs.Choice.{both, equal_same, unequal_same}
use Rattle.job.specs.Job.{Job}
use Rattle.machine.specs.Multiplicity.Line.{put}
use Rattle.machine.specs.Notes.{Note, idle, note}
use Rattle.machine.specs.Journal.{is_linked, made, links, link}
use Rattle.machine.specs.Drops.{dropped}
use Rattle.machine.specs.Effects.Effect.{stands}
use Rattle.machine.specs.Record.{line_at, lines_to, the_record, lines_of}
use Rattle.machine.specs.Explained.{IsOperation, put_lines}
use Rattle.machine.specs.Lost.{tally}
use Rattle.theory.specs.Bounded.{puts, late_drop, late_drops}
use Rattle.machine.proofs.Effected.{effect_of_put, line_of_effect}
use Rattle.machine.proofs.Stamps.{drop_other}
use Rattle.theory.proofs.Course.{PassesIn, ActsIn}
use Rattle.theory.proofs.Life.{operation_some, links_once}
use Rattle.theory.proofs.Operations.{note_first, course}
use Rattle.theory.proofs.Operations.Drops.{actor_drops_none, actor_undropped}
use Rattle.theory.proofs.Explains.Plays.{put_lines_one_more}
use Rattle.machine.proofs.Tallies.{tally_zero, tally_meets, tally_misses, tally_none, tally_below, tally_but_one}
use Rattle.theory.proofs.Lost.Charges.{links_at, links_gone, gone_is, gone_links, gone_dropped}

-- a drop of an operation that has linked its node
late_drop_is : (j : Job) (s : ℕ) → dropped j s ≢ 0 → link (note j) s (dropped j s) ≢ 0 → late_drop j s ≡ true
unfolding late_drop
late_drop_is j s n m = (and-eq-true_iff (not (same (dropped j s) 0)) (not (same (link (note j) s (dropped j s)) 0))).1 (ap not (unequal_same n), ap not (unequal_same m))

-- and a step that drops none
late_drop_not : (j : Job) (s : ℕ) → dropped j s ≡ 0 → late_drop j s ≡ false
unfolding late_drop
late_drop_not j s z = ap (λ b. not b && not (same (link (note j) s (dropped j s)) 0)) (equal_same z)

pub no_late_drops : (j : Job) (k : ℕ) → ((s : ℕ) → s ≤ k → dropped j s ≡ 0) → late_drops j k ≡ 0
unfolding late_drops
no_late_drops j k none = tally_none (late_drop j) k (λ s low high. late_drop_not j s (none s high))

module _ (j : Job) where
  -- a step that is not idle is an operation's
  pub maker : (f : Note → Bool) → f idle ≡ false → (s : ℕ) → f (note j s) ≡ true → IsOperation j.count (note j s).by
  maker f none zero e = absurd (true≢false (sym e ∙ ap f (note_first j) ∙ none))
  maker f none (suc s) e = by_step ((course j).step s)
    where
      by_step : PassesIn (course j) s ⊎ ((o : ℕ) × ActsIn (course j) s o) → IsOperation j.count (note j (suc s)).by
      by_step (inl i) = absurd (true≢false (sym e ∙ ap f i.nothing ∙ none))
      by_step (inr a) = subst (IsOperation j.count) (sym a.1.by) a.1.operation

  pub linker : (s : ℕ) → links_at j s ≡ true → IsOperation j.count (note j s).by
  unfolding links_at idle is_linked
  linker s e = maker (λ x. is_linked x.event) refl s e

  -- and links once
  linked_at : (k s : ℕ) → links_at j s ≡ true → 1 ≤ s → s ≤ k → link (note j) k (note j s).by ≡ s
  unfolding links made links_at
  linked_at k s e low high =
      links_once (course j) k (note j s).by s (linker s e) ((and-eq-true_iff (same (note j s).by (note j s).by) (is_linked (note j s).event)).1 (equal_same refl, e)) low high

  -- so each node is a put line
  line_puts : (k s : ℕ) → links_at j s ≡ true → 1 ≤ s → s ≤ k → put_lines (lines_of (line_at j.object (note j) j.count k s)) ≡ 1
  unfolding put_lines lines_of
  line_puts k s e low high =
      let o : ℕ = (note j s).by in
      let at : link (note j) k o ≡ s = linked_at k s e low high in
      ap (λ l. put_lines (lines_of l))
      (line_of_effect j.object (note j) j.count k s (put o)
      (effect_of_put j.object (note j) j.count k o (λ z. omega arith) ∙ ap (λ x. stands x (put o)) at))

  puts_to : (k s : ℕ) → s ≤ k → tally (links_at j) s ≤ put_lines (lines_of (lines_to j.object (note j) j.count k s))
  puts_to k zero h = omega (arith, tally_zero (links_at j))
  puts_to k (suc s) h = by_link (both (links_at j (suc s))) (puts_to k s (omega arith))
    where
      parts : put_lines (lines_of (lines_to j.object (note j) j.count k (suc s))) ≡ put_lines (lines_of (lines_to j.object (note j) j.count k s)) + put_lines (lines_of (line_at j.object (note j) j.count k (suc s)))
      parts = put_lines_one_more j.object (note j) j.count k s

      by_link : (links_at j (suc s) ≡ true) ⊎ (links_at j (suc s) ≡ false) → tally (links_at j) s ≤ put_lines (lines_of (lines_to j.object (note j) j.count k s)) → tally (links_at j) (suc s) ≤ put_lines (lines_of (lines_to j.object (note j) j.count k (suc s)))
      by_link (inl e) before = omega (arith, parts, tally_meets (links_at j) s e, line_puts k (suc s) e (omega arith) h)
      by_link (inr e) before = omega (arith, parts, tally_misses (links_at j) s e)

  pub links_are_puts : (k : ℕ) → tally (links_at j) k ≤ puts j k
  unfolding puts the_record
  links_are_puts k = puts_to k k (omega arith)

  -- a step drops no operation but the one that it names
  gone_before : (k s : ℕ) → dropped j (suc k) ≢ (note j s).by → links_gone j (suc k) s ≡ true → links_gone j k s ≡ true
  gone_before k s n e = gone_is j k s (gone_links j (suc k) s e) (λ z. gone_dropped j (suc k) s e (drop_other j (note j s).by k n ∙ z))

  -- and none that acts in it
  gone_not_now : (k : ℕ) → links_gone j (suc k) (suc k) ≡ true → ⊥
  gone_not_now k e =
      let o : ℕ = (note j (suc k)).by in
      let some : o ≢ 0 = operation_some (linker (suc k) (gone_links j (suc k) (suc k) e)) in
      gone_dropped j (suc k) (suc k) e
      (drop_other j o k (λ d. some (sym d ∙ actor_drops_none j k o some refl)) ∙ actor_undropped j k o some refl)

  gone_one_more : (k : ℕ) → tally (links_gone j k) k ≤ late_drops j k → tally (links_gone j (suc k)) k ≤ late_drops j (suc k)
  unfolding late_drops
  gone_one_more k before = by_drop (both (late_drop j (suc k)))
    where
      its_node : (s : ℕ) → 1 ≤ s → s ≤ k → links_gone j (suc k) s ≡ true → dropped j (suc k) ≡ (note j s).by → link (note j) (suc k) (dropped j (suc k)) ≡ s
      its_node s low high e d = ap (link (note j) (suc k)) d ∙ linked_at (suc k) s (gone_links j (suc k) s e) low (omega arith)

      by_drop : (late_drop j (suc k) ≡ true) ⊎ (late_drop j (suc k) ≡ false) → tally (links_gone j (suc k)) k ≤ late_drops j (suc k)
      by_drop (inl e) =
          omega (arith, before, tally_meets (late_drop j) k e, tally_but_one (links_gone j (suc k)) (links_gone j k) (link (note j) (suc k) (dropped j (suc k))) k (λ s low high n g. gone_before k s (λ d. n (sym (its_node s low high g d))) g))
      by_drop (inr e) =
          omega (arith, before, tally_misses (late_drop j) k e, tally_below (links_gone j (suc k)) (links_gone j k) k (λ s low high g. gone_before k s (λ d. no_late s low high g d) g))
        where
          no_late : (s : ℕ) → 1 ≤ s → s ≤ k → links_gone j (suc k) s ≡ true → dropped j (suc k) ≡ (note j s).by → ⊥
          no_late s low high g d =
              true≢false (sym (late_drop_is j (suc k) (λ z. operation_some (linker s (gone_links j (suc k) s g)) (sym d ∙ z)) (λ z. let at : s ≡ 0 = sym (its_node s low high g d) ∙ z in omega arith)) ∙ e)

  pub gone_are_drops : (k : ℕ) → tally (links_gone j k) k ≤ late_drops j k
  gone_are_drops zero = omega (arith, tally_zero (links_gone j 0))
  gone_are_drops (suc k) = by_now (both (links_gone j (suc k) (suc k))) (gone_are_drops k)
    where
      by_now : (links_gone j (suc k) (suc k) ≡ true) ⊎ (links_gone j (suc k) (suc k) ≡ false) → tally (links_gone j k) k ≤ late_drops j k → tally (links_gone j (suc k)) (suc k) ≤ late_drops j (suc k)
      by_now (inl e) before = absurd (gone_not_now k e)
      by_now (inr e) before = omega (arith, tally_misses (links_gone j (suc k)) k e, gone_one_more k before)
