-- The line of an operation, by its row, and that its record and its item's are in the stream. Assumes nothing.
use mathlib.Core.Path.{◌≡◌, refl, sym, ap, ap₂, ◌∙◌}
use mathlib.Core.Logic.{◌≢◌, ⊎_elim}
use Prim.Native.Nat.{ℕ, zero, suc, ◌≤◌, ◌<◌}
use native.Mathlib.Omega.{arith}
use mathlib.Core.List.{List, ◌++◌, append_assoc}
use lib.ListN.{length}
use Rattle.basics.specs.Choice.{pick, same}
use Rattle.basics.specs.Text.{text, decimal}
use Rattle.basics.proofs.Choice.{split}
use Rattle.rows.specs.Operations.{HasOps, Cells, cells, dropped_mark}
use Rattle.rows.specs.declared.OpColumn.TheVariants.{First, Last, Link, Taken}
use Rattle.job.specs.Stream.{record_at, stream_length, HasRecord}
use Rattle.job.specs.Job.{Job, job_of}
use Rattle.machine.specs.Notes.{note}
use Rattle.machine.specs.Journal.{first, last, taken, answer}
use Rattle.machine.specs.Explained.{IsOperation}
use Rattle.theory.proofs.Life.{operation_some}
use Rattle.wording.specs.Report.{answer_text, end_text, progress_text, operation_line, operation_lines}
use Rattle.wording.proofs.Endings.{ended_reads, open_reads, dropped_reads}
use Rattle.text.proofs.Each.{each_to}
use Rattle.journal.specs.Journal.{Agrees}
use Rattle.lines.specs.Told.{said, InStream, front_text, answer_told, end_told, progress_told, line_told}
use Rattle.lines.proofs.Pieces.{end_of_open, end_of_dropped, end_of_ended}
use Rattle.report.proofs.Facts.{item_operation, answer_said}
use Rattle.report.proofs.Endings.{Ends, ends}
use Rattle.report.proofs.Endings.Ends.{stays_open, was_dropped, has_ended}

module _ (j : Job) (k : ℕ) {c : Cells} (h : Agrees j k c) (o : ℕ) (op : IsOperation j.count o) where
  pub item_in_range : c Taken o ≤ j.count
  item_in_range =
      ⊎_elim (λ z. omega (arith, h Taken o op)) (λ some. omega (arith, h Taken o op, (item_operation j k o op some).to_count)) (split (taken (note j) k o) 0)

  answer_is : last (note j) k o ≢ 0 → answer_told j c o ≡ answer_text j (answer (note j) k o)
  answer_is ended =
      ap (answer_text j) (ap₂ said (h Link o op) (h Taken o op) ∙ sym (answer_said j k o op ended))

  module _ (short : k < dropped_mark) where
    -- what follows `first`, behind the first step
    end_is : end_told j c o ≡ text " last " ++ end_text j k o
    unfolding text
    end_is = by_ending (ends j k o short (operation_some op)) (h Last o op)
      where
        by_ending : {n : ℕ} → Ends j k o n → c Last o ≡ n → end_told j c o ≡ text " last " ++ end_text j k o
        by_ending (stays_open z d) e =
            sym (end_of_open j c o e) ∙ ap (λ l. text " last " ++ l) (sym (open_reads j k o z d))
        by_ending (was_dropped z d) e =
            sym (end_of_dropped j c o e) ∙ ap (λ l. text " last " ++ l) (sym (dropped_reads j k o z d))
        by_ending (has_ended z m) e =
            sym (end_of_ended j c o (sym e) z m)
            ∙ append_assoc (text " last ") (decimal (last (note j) k o)) _
            ∙ ap (λ l. text " last " ++ (decimal (last (note j) k o) ++ l)) (answer_is z)
            ∙ ap (λ l. text " last " ++ l) (sym (ended_reads j k o z))

    progress_is : progress_told j c o ≡ progress_text j k o
    unfolding progress_told progress_text
    progress_is =
        ap₂ (λ (n : ℕ) (l : List ℕ). pick (same n 0) (text " first - last - waiting") (text " first " ++ decimal n ++ l)) (h First o op) end_is
        ∙ ap (pick (same (first (note j) k o) 0) (text " first - last - waiting")) (sym (append_assoc (text " first " ++ decimal (first (note j) k o)) (text " last ") _))

    pub line_is : line_told j c o ≡ operation_line j k o
    unfolding line_told front_text operation_line
    line_is = ap (λ (l : List ℕ). front_text j o ++ l ++ text "\n") progress_is

record_within : (s : List ℕ) (o : ℕ) → stream_length s ≤ length s → o ≤ (job_of s).count → HasRecord s o
unfolding stream_length record_at job_of
record_within s o whole h = record { one = h; there = omega arith }

-- an operation of the stream's job
pub in_stream : (s ops : List ℕ) {count : ℕ} → stream_length s ≤ length s → count ≡ (job_of s).count → HasOps count ops → Agrees (job_of s) (job_of s).steps (cells ops) → (o : ℕ) → 1 ≤ o → o ≤ count → InStream s ops o
in_stream s ops whole all has h o low high =
    let op : IsOperation (job_of s).count o = record { from_one = low; to_count = omega arith } in
    record {
      row = omega arith;
      its_record = record_within s o whole op.to_count;
      item_record = record_within s (cells ops Taken o) whole (item_in_range (job_of s) (job_of s).steps h o op);
    }

-- the lines of operations, one behind another
pub lines_are_each : (j : Job) (k n : ℕ) → each_to (operation_line j k) n ≡ operation_lines j k n
unfolding each_to operation_lines
lines_are_each j k zero = refl
lines_are_each j k (suc n) = ap (λ (l : List ℕ). l ++ operation_line j k (suc n)) (lines_are_each j k n)
