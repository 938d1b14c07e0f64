-- How long the report is: at most 34 bytes and 102 for each operation, if numbers have the digits that an accepted job's have. Assumes
-- nothing.
use mathlib.Core.Path.{◌≡◌, refl, ap, subst}
use mathlib.Core.Logic.{◌≢◌, ◌⊎◌, inl, inr}
use Prim.Native.Nat.{ℕ, zero, suc, ◌+◌, ◌*◌, ◌≤◌, ◌<◌}
use mathlib.Core.List.{List, [], ◌∷◌, ◌++◌, Memᴰ}
use native.Mathlib.Omega.{arith}
use lib.ListN.{length, length-append}
use Rattle.basics.specs.Choice.{same}
use Rattle.basics.specs.Text.{text, decimal}
use Rattle.basics.proofs.Choice.{pick_elim, split}
use Rattle.basics.proofs.Text.{decimal_length}
use Rattle.stage.specs.Printed.{stage_text}
use Rattle.stage.proofs.Printing.{stage_length}
use Rattle.job.specs.declared.Kind.{Kind}
use Rattle.job.specs.declared.Kind.TheVariants.{Queue, Stack, TwoWay}
use Rattle.job.specs.Job.{Job}
use Rattle.machine.specs.Multiplicity.{Line}
use Rattle.machine.specs.Multiplicity.Line.{put, takes, empty}
use Rattle.machine.specs.Notes.{Answer, note}
use Rattle.machine.specs.Journal.{first, last, answer}
use Rattle.machine.specs.Drops.{drop}
use Rattle.machine.specs.Record.{Recorded, the_record}
use Rattle.machine.specs.Left.{left}
use Rattle.machine.specs.Lost.{lost}
use Rattle.machine.specs.Explained.{members, Says, Answered, IsOperation, Explained}
use Rattle.wording.specs.Report.{object_line, action_text, answer_text, end_text, progress_text, operation_line, operation_lines, spaced, effect_text, record_line, record_lines, lost_line, left_line, report}
use Rattle.machine.proofs.Stamps.{first_le, last_le}
use Rattle.machine.proofs.Placed.{Placed, placed}
use Rattle.machine.proofs.Tallies.{lost_le}
use Rattle.theory.proofs.Theorem.{explained}
use Rattle.wording.proofs.Endings.{ended_reads, open_reads, dropped_reads}
use Rattle.wording.proofs.Sizes.Items.{FromPuts, handed_out}
use Rattle.wording.proofs.Sizes.Members.{all_members, has_members, members_count, line_from_puts, left_operation, left_count}
pub mod Items
pub mod Members

-- what is needed of a job's numbers: operations of at most three digits, steps of at most five, and that a process is a byte and a value two
pub record Fits (j : Job) : Type 0 where
  pub operations : j.count < 1000
  pub steps : j.steps < 100000
  pub owners : (o : ℕ) → IsOperation j.count o → j.owner o < 256
  pub values : (o : ℕ) → IsOperation j.count o → j.field o < 65536

-- numbers, each behind a space and of at most three digits
spaced_length : (l : List ℕ) → ((x : ℕ) → Memᴰ x l → x < 1000) → length (spaced l) ≤ 4 * length l
unfolding spaced text
spaced_length [] h = omega arith
spaced_length (x ∷ l) h =
    omega (arith, length-append (decimal x) (spaced l), decimal_length 2 x (h x (Memᴰ.head refl)), spaced_length l (λ y m. h y (Memᴰ.tail m)))

object_length : (object : Kind) → length (object_line object) ≤ 14
unfolding object_line text
object_length Queue = omega arith
object_length Stack = omega arith
object_length TwoWay = omega arith

module _ (j : Job) (fits : Fits j) where
  operation_length : (o : ℕ) → IsOperation j.count o → length (decimal o) ≤ 3
  operation_length o op = decimal_length 2 o (omega (arith, fits.operations))

  value_length : (o : ℕ) → IsOperation j.count o → length (stage_text (j.field o)) ≤ 5
  value_length o op = stage_length (j.field o) (fits.values o op)

  step_length : (s : ℕ) → s ≤ j.steps → length (decimal s) ≤ 5
  step_length s h = decimal_length 4 s (omega (arith, fits.steps))

  lost_line_length : (object : Kind) → length (lost_line object (lost (note j) j.steps)) ≤ 11
  unfolding lost_line text
  lost_line_length Queue = simp length-append (omega (arith, step_length (lost (note j) j.steps) (lost_le (note j) j.steps)))
  lost_line_length Stack = omega arith
  lost_line_length TwoWay = omega arith

  action_length : (o : ℕ) → IsOperation j.count o → length (action_text j o) ≤ 10
  unfolding action_text text
  action_length o op = pick_elim (λ l. length l ≤ 10) (j.is_put o) (text " put " ++ stage_text (j.field o)) (text " take") (λ t. omega (arith, value_length o op)) (λ t. omega arith)

  answer_length : (a : Answer) → ((n : ℕ) → a ≡ Answer.item n → IsOperation j.count n) → length (answer_text j a) ≤ 21
  unfolding answer_text text
  answer_length Answer.none h = omega arith
  answer_length Answer.done h = omega arith
  answer_length (Answer.item n) h =
      let op : IsOperation j.count n = h n refl in
      simp length-append (omega (arith, operation_length n op, value_length n op))
  answer_length Answer.empty h = omega arith

  -- a line's text behind its step, by its members
  effect_length : (line : Line) → FromPuts (IsOperation j.count) line → ((o : ℕ) → Memᴰ o (members line) → IsOperation j.count o) → length (effect_text line) ≤ 16 * length (members line)
  unfolding effect_text members text
  effect_length (put o) s h = omega (arith, operation_length o (h o (Memᴰ.head refl)))
  effect_length (takes item takers) s h =
      simp length-append (omega (arith, operation_length item (handed_out (IsOperation j.count) s), spaced_length takers (λ x m. omega (arith, fits.operations, h x m)), has_members (IsOperation j.count) s))
  effect_length (empty o) s h = omega (arith, operation_length o (h o (Memᴰ.head refl)))

  module _ (ex : Explained j j.steps) where
    -- an item that was handed out is an operation's
    answer_operation : (o n : ℕ) → IsOperation j.count o → last (note j) j.steps o ≢ 0 → answer (note j) j.steps o ≡ Answer.item n → IsOperation j.count n
    answer_operation o n op ended a =
        let p : Answered j j.steps o = ex.answered o op ended in
        go p.place.line (Answer.item n) refl (subst (Says p.place.line o) a p.its_answer) (line_from_puts j j.steps ex p.place p.recorded)
      where
        go : (line : Line) (b : Answer) → b ≡ Answer.item n → Says line o b → FromPuts (IsOperation j.count) line → IsOperation j.count n
        go line b e Says.says_done s = let z : ◌≡◌ {A = ℕ} 0 1 = cc in absurd (omega arith)
        go line b e (Says.says_item {item = i} m) s = let is : i ≡ n = cc in subst (IsOperation j.count) is (handed_out (IsOperation j.count) s)
        go line b e Says.says_empty s = let z : ◌≡◌ {A = ℕ} 0 1 = cc in absurd (omega arith)

    end_length : (o : ℕ) → IsOperation j.count o → length (end_text j j.steps o) ≤ 26
    unfolding text
    end_length o op = by_last (split (last (note j) j.steps o) 0) (split (drop j j.steps o) 0)
      where
        by_last : (last (note j) j.steps o ≡ 0) ⊎ (last (note j) j.steps o ≢ 0) → (drop j j.steps o ≡ 0) ⊎ (drop j j.steps o ≢ 0) → length (end_text j j.steps o) ≤ 26
        by_last (inl z) (inl d) = omega (arith, ap length (open_reads j j.steps o z d))
        by_last (inl z) (inr d) = omega (arith, ap length (dropped_reads j j.steps o z d))
        by_last (inr n) d =
            omega (
              arith,
              simp length-append at (ap length (ended_reads j j.steps o n)),
              step_length (last (note j) j.steps o) (last_le (note j) j.steps o),
              answer_length (answer (note j) j.steps o) (λ i a. answer_operation o i op n a),
            )

    progress_length : (o : ℕ) → IsOperation j.count o → length (progress_text j j.steps o) ≤ 44
    unfolding progress_text text
    progress_length o op =
        pick_elim (λ l. length l ≤ 44) (same (first (note j) j.steps o) 0) (text " first - last - waiting") (text " first " ++ decimal (first (note j) j.steps o) ++ text " last " ++ end_text j j.steps o)
        (λ t. omega arith)
        (λ t. simp length-append (omega (arith, step_length (first (note j) j.steps o) (first_le (note j) j.steps o), end_length o op)))

    operation_line_length : (o : ℕ) → IsOperation j.count o → length (operation_line j j.steps o) ≤ 73
    unfolding operation_line text
    operation_line_length o op =
        simp length-append (omega (arith, operation_length o op, decimal_length 2 (j.owner o) (omega (arith, fits.owners o op)), action_length o op, progress_length o op))

    operation_lines_length : (o : ℕ) → o ≤ j.count → length (operation_lines j j.steps o) ≤ 73 * o
    unfolding operation_lines
    operation_lines_length zero h = omega arith
    operation_lines_length (suc o) h = omega (arith, length-append (operation_lines j j.steps o) (operation_line j j.steps (suc o)), operation_lines_length o (omega arith), operation_line_length (suc o) (record { from_one = omega arith; to_count = h }))

    -- a line of the record, by its members
    record_line_length : (r : Recorded) → Memᴰ r (the_record j j.steps) → length (record_line r) ≤ 25 * length (members r.line)
    unfolding record_line text
    record_line_length r m =
        let sound : FromPuts (IsOperation j.count) r.line = line_from_puts j j.steps ex r m in
        let where_placed : Placed j.object (note j) j.count j.steps j.steps r = placed j j.steps r m in
        simp length-append (omega (arith, step_length r.step where_placed.to_end, effect_length r.line sound (ex.operations r m), has_members (IsOperation j.count) sound))

    record_lines_length : (l : List Recorded) → ((r : Recorded) → Memᴰ r l → Memᴰ r (the_record j j.steps)) → length (record_lines l) ≤ 25 * length (all_members l)
    unfolding record_lines all_members
    record_lines_length [] h = omega arith
    record_lines_length (r ∷ l) h =
        omega (arith, length-append (record_line r) (record_lines l), length-append (members r.line) (all_members l), record_line_length r (h r (Memᴰ.head refl)), record_lines_length l (λ q m. h q (Memᴰ.tail m)))

    left_line_length : length (left_line (left j j.steps)) ≤ 9 + 4 * j.count
    unfolding left_line text
    left_line_length =
        simp length-append (omega (arith, left_count j j.steps ex, decimal_length 2 (length (left j j.steps)) (omega (arith, left_count j j.steps ex, fits.operations)), spaced_length (left j j.steps) (λ x m. omega (arith, fits.operations, left_operation j j.steps ex x m))))

    report_length : length (report j) ≤ 34 + 102 * j.count
    unfolding report
    report_length =
        simp length-append (omega (arith, object_length j.object, operation_lines_length j.count (omega arith), record_lines_length (the_record j j.steps) (λ r m. m), members_count j j.steps ex, lost_line_length j.object, left_line_length))

-- the report of any job with such numbers
pub report_bounded : (j : Job) → Fits j → length (report j) ≤ 34 + 102 * j.count
report_bounded j fits = report_length j fits (explained j j.steps)
