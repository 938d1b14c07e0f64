-- The whole journal over one step: idle steps leave it, and the stores of a step or of a drop make it that of one more step. Assumes nothing.
use mathlib.Core.Path.{◌≡◌, refl, sym, ap, subst, ◌∙◌}
use mathlib.Core.Logic.{◌≢◌}
use Prim.Native.Nat.{ℕ, suc, ◌+◌, ◌≤◌, ◌<◌}
use native.Mathlib.Omega.{arith}
use mathlib.Core.Bool.{Bool, true, false}
use mathlib.Core.List.{List}
use Rattle.basics.specs.Choice.{pick, same}
use Rattle.basics.specs.Maps.{at, upd}
use Rattle.basics.proofs.Maps.{upd_here, upd_there, upd_elim, upd_id}
use Rattle.job.specs.Job.{Job}
use Rattle.machine.specs.declared.Event.{Event}
use Rattle.machine.specs.declared.Event.TheVariants.{Quiet, Round, Linked, Moved, Late, Raised}
use Rattle.machine.specs.Notes.{Note, idle, note, is_answer}
use Rattle.machine.specs.Drops.{dropped}
use Rattle.machine.specs.Explained.{IsOperation}
use Rattle.machine.proofs.Tallies.{lost_step, lost_kept}
use Rattle.theory.proofs.Course.{PassesIn, ActsIn, passes_by}
use Rattle.theory.proofs.Life.{operation_some}
use Rattle.theory.proofs.Operations.{course}
use Rattle.rows.specs.Rows.{stored_in}
use Rattle.rows.specs.Operations.{Cells, cells, stored, dropped_mark}
use Rattle.rows.specs.declared.OpColumn.TheVariants.{First, Last, Start, Link, Taken, Stands}
use Rattle.rows.proofs.Operations.{by_column}
use Rattle.journal.specs.Journal.{held, Agrees, Holds}
use Rattle.journal.specs.Stored.{entered, noted, counted, closed, Stored}
use Rattle.journal.proofs.Kept.{idle_keeps, drop_keeps, acts_keep}

-- a count of lost rounds leaves the rows of operations
counted_keeps : (j : Job) (n : ℕ) (ends back : Bool) (o k : ℕ) (c : Cells) → Agrees j n (closed ends o k c) → Agrees j n (closed ends o k (counted back c))
unfolding closed counted stored_in pick same
counted_keeps j n ends false o k c a = a
counted_keeps j n ends true o k c a =
    by_column (λ f. (q : ℕ) → IsOperation j.count q → closed ends o k (counted true c) f q ≡ held j n f q)
    (λ q op. upd_there (c First) 0 (suc (c First 0)) (operation_some op) ∙ a First q op) (a Last) (a Start) (a Link) (a Taken) (a Stands)

-- and no other store of a step touches it
pub first_noted : (e : Event) (o k : ℕ) (c : Cells) → noted e o k c First ≡ c First
unfolding noted stored_in pick same
first_noted Quiet o k c = refl
first_noted Round o k c = refl
first_noted Linked o k c = refl
first_noted (Moved n) o k c = refl
first_noted (Late n) o k c = refl
first_noted (Raised t) o k c = refl

count_after : (e : Event) (ends back : Bool) {o : ℕ} (k : ℕ) (c : Cells) → o ≢ 0 → closed ends o k (counted back (noted e o k (entered o k c))) First 0 ≡ c First 0 + pick back 1 0
unfolding closed counted entered stored_in pick same
count_after e ends back {o} k c some = by_back back
  where
    unentered : noted e o k (entered o k c) First 0 ≡ c First 0
    unentered = ap (λ (f : ℕ → ℕ). f 0) (first_noted e o k (entered o k c)) ∙ upd_there (c First) o _ (λ z. some (sym z))

    by_back : (b : Bool) → closed ends o k (counted b (noted e o k (entered o k c))) First 0 ≡ c First 0 + pick b 1 0
    by_back false = unentered ∙ (let z : c First 0 ≡ c First 0 + 0 = omega arith in z)
    by_back true = upd_here _ 0 _ ∙ ap suc unentered ∙ (let z : suc (c First 0) ≡ c First 0 + 1 = omega arith in z)

module _ (j : Job) where
  -- who made each step, with one more
  by_more : (k : ℕ) (by by' : List ℕ) → ((s : ℕ) → 1 ≤ s → s ≤ k → at by s ≡ (note j s).by) → at by' ≡ upd (at by) (suc k) (note j (suc k)).by → (s : ℕ) → 1 ≤ s → s ≤ suc k → at by' s ≡ (note j s).by
  by_more k by by' old e s low high =
      ap (λ f. f s) e
      ∙ upd_elim (λ x. x ≡ (note j s).by) (at by) (suc k) (note j (suc k)).by s
      (λ here. ap (λ i. (note j i).by) (sym here))
      (λ there. old s low (omega arith))

  -- a step that nobody makes leaves who made each step, and loses no round
  holds_nobody : (k : ℕ) {ops by ops' : List ℕ} → PassesIn (course j) k → Holds j k ops by → Agrees j (suc k) (cells ops') → cells ops' First 0 ≡ cells ops First 0 → Holds j (suc k) ops' by
  unfolding idle
  holds_nobody k {by = by} nobody h agrees same_count =
      record {
        agrees = agrees;
        by_at = by_more k by by h.by_at none_more;
        by_later = λ s later. h.by_later s (omega arith);
        rounds = same_count ∙ h.rounds ∙ sym (lost_kept (note j) k (ap (λ (n : Note). n.back) nobody.nothing));
      }
    where
      none_more : at by ≡ upd (at by) (suc k) (note j (suc k)).by
      none_more =
          sym (upd_id (at by) (suc k)) ∙ ap (upd (at by) (suc k)) (h.by_later (suc k) (omega arith) ∙ sym (passes_by nobody))

  -- an idle step leaves the journal
  pub holds_idle : (k : ℕ) {ops by : List ℕ} → PassesIn (course j) k → dropped j (suc k) ≡ 0 → Holds j k ops by → Holds j (suc k) ops by
  holds_idle k {ops} nobody none h = holds_nobody k nobody h (idle_keeps j k (cells ops) nobody h.agrees none) refl

  -- the store of a drop makes it that of one more step
  pub holds_drops : (k o : ℕ) {ops by ops' : List ℕ} → PassesIn (course j) k → dropped j (suc k) ≡ o → Holds j k ops by → cells ops' ≡ stored Last o dropped_mark (cells ops) → Holds j (suc k) ops' by
  unfolding stored_in pick same
  holds_drops k o {ops} nobody d h e =
      holds_nobody k nobody h (subst (Agrees j (suc k)) (sym e) (drop_keeps j k (cells ops) nobody h.agrees o d)) (ap (λ (c : Cells). c First 0) e)

  -- the stores of a step make the journal that of one more step
  pub holds_acts : (k o : ℕ) {ends back : Bool} {ops by ops' by' : List ℕ} → ActsIn (course j) k o → is_answer (note j (suc k)).answer ≡ ends → (note j (suc k)).back ≡ back → Holds j k ops by → Stored (note j (suc k)).event ends back o (suc k) ops by ops' by' → Holds j (suc k) ops' by'
  holds_acts k o {ends} {back} {ops} {by} {by' = by'} acts e b h s =
      record {
        agrees = subst (Agrees j (suc k)) (sym s.cells_stored) (counted_keeps j (suc k) ends back o (suc k) _ (acts_keep j k o acts (cells ops) h.agrees ends e));
        rounds =
            ap (λ (c : Cells). c First 0) s.cells_stored
            ∙ count_after (note j (suc k)).event ends back (suc k) (cells ops) (operation_some acts.operation)
            ∙ ap (λ n. n + pick back 1 0) h.rounds
            ∙ sym (lost_step (note j) k b);
        by_at = by_more k by by' h.by_at (s.by_stored ∙ ap (upd (at by) (suc k)) (sym acts.by));
        by_later = λ i later.
            ap (λ f. f i) s.by_stored
            ∙ upd_elim (λ x. x ≡ 0) (at by) (suc k) o i (λ here. absurd (later_not_here i later here)) (λ there. h.by_later i (omega arith));
      }
    where
      later_not_here : (i : ℕ) → suc k < i → i ≡ suc k → ⊥
      later_not_here i later here = omega arith
