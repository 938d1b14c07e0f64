-- The pieces of the lines, by the tests that choose them and by what was found. Assumes nothing.
use mathlib.Core.Path.{◌≡◌, refl, sym, ap, ◌∙◌}
use mathlib.Core.Logic.{◌≢◌}
use Prim.Native.Nat.{ℕ}
use mathlib.Core.Bool.{Bool, true, false}
use lib.ListN.{length}
use mathlib.Core.List.{List, ◌++◌, append_assoc}
use native.Mathlib.Omega.{arith}
use Rattle.basics.specs.Choice.{pick, same}
use Rattle.basics.specs.Text.{text, decimal}
use Rattle.basics.proofs.Choice.{pick_then, pick_else, equal_same, unequal_same}
use Rattle.rows.specs.Operations.{Cells, cells, dropped_mark}
use Rattle.rows.specs.declared.OpColumn.TheVariants.{First, Last, Link, Taken}
use Rattle.stage.specs.Printed.{stage_text}
use Rattle.job.specs.declared.Operation.{Operation}
use Rattle.job.specs.Job.{Job}
use Rattle.machine.specs.Notes.{Answer}
use Rattle.wording.specs.Report.{action_text, answer_text, effect_text, record_line, spaced, left_line}
use Rattle.lines.specs.declared.Found.{Found}
use Rattle.lines.specs.declared.Found.TheVariants.{Put, Takers, Empty}
use Rattle.lines.specs.Members.{takers_of}
use Rattle.lines.specs.Lines.{at_text, take_text, found_line}
use Rattle.lines.specs.Told.{said, front_text, answer_told, end_told, progress_told}

module _ (j : Job) (o : ℕ) {put : Bool} (e : put ≡ j.is_put o) where
  pub action_of_put : {field : ℕ} → put ≡ true → field ≡ j.field o → text " put " ++ stage_text field ≡ action_text j o
  unfolding action_text
  action_of_put p f = ap (λ (n : ℕ). text " put " ++ stage_text n) f ∙ sym (pick_then _ (text " take") (sym e ∙ p))

  pub action_of_take : put ≡ false → text " take" ≡ action_text j o
  unfolding action_text
  action_of_take p = sym (pick_else _ (text " take") (sym e ∙ p))

pub item_and_value : (j : Job) (n : ℕ) {field : ℕ} → field ≡ j.field n → text " item " ++ decimal n ++ (text " value " ++ stage_text field) ≡ answer_text j (Answer.item n)
unfolding answer_text
item_and_value j n {field} f =
    ap (λ (v : ℕ). text " item " ++ decimal n ++ (text " value " ++ stage_text v)) f
    ∙ sym (append_assoc (text " item " ++ decimal n) (text " value ") (stage_text (j.field n)))

-- the answer and the progress of an operation, by what was read in its row
module _ (j : Job) (ops : List ℕ) (o : ℕ) where
  pub answer_of_link : {link : ℕ} → link ≡ cells ops Link o → link ≢ 0 → text " done" ≡ answer_told j (cells ops) o
  unfolding said answer_text
  answer_of_link e z = ap (answer_text j) (sym (pick_else _ Answer.done (unequal_same (λ y. z (e ∙ y)))))

  said_of_take : cells ops Link o ≡ 0 → pick (same (cells ops Taken o) 0) Answer.empty (Answer.item (cells ops Taken o)) ≡ said (cells ops Link o) (cells ops Taken o)
  unfolding said
  said_of_take z = sym (pick_then _ Answer.done (equal_same z))

  pub answer_of_empty : cells ops Link o ≡ 0 → cells ops Taken o ≡ 0 → text " empty" ≡ answer_told j (cells ops) o
  unfolding answer_text
  answer_of_empty l z = ap (answer_text j) (sym (pick_then Answer.empty _ (equal_same z)) ∙ said_of_take l)

  pub answer_of_item : {item : ℕ} → cells ops Link o ≡ 0 → item ≡ cells ops Taken o → item ≢ 0 → answer_text j (Answer.item item) ≡ answer_told j (cells ops) o
  answer_of_item l e z =
      ap (answer_text j) (ap Answer.item e ∙ sym (pick_else Answer.empty _ (unequal_same (λ y. z (e ∙ y)))) ∙ said_of_take l)

  pub not_begun : cells ops First o ≡ 0 → text " first - last - waiting" ≡ progress_told j (cells ops) o
  unfolding progress_told
  not_begun z = sym (pick_then _ _ (equal_same z))

  pub begun : {first : ℕ} → first ≡ cells ops First o → first ≢ 0 → text " first " ++ decimal first ++ end_told j (cells ops) o ≡ progress_told j (cells ops) o
  unfolding progress_told
  begun e z =
      ap (λ (n : ℕ). text " first " ++ decimal n ++ end_told j (cells ops) o) e
      ∙ sym (pick_else (text " first - last - waiting") _ (unequal_same (λ y. z (e ∙ y))))

-- and its end, of any cells
module _ (j : Job) (c : Cells) (o : ℕ) where
  pub end_of_open : c Last o ≡ 0 → text " last - open" ≡ end_told j c o
  unfolding end_told
  end_of_open z = sym (pick_then _ _ (equal_same z))

  end_of_closed : c Last o ≢ 0 → pick (same (c Last o) dropped_mark) (text " last - dropped") (text " last " ++ decimal (c Last o) ++ answer_told j c o) ≡ end_told j c o
  unfolding end_told
  end_of_closed z = sym (pick_else _ _ (unequal_same z))

  pub end_of_dropped : c Last o ≡ dropped_mark → text " last - dropped" ≡ end_told j c o
  end_of_dropped d = sym (pick_then _ _ (equal_same d)) ∙ end_of_closed (λ z. let y : dropped_mark ≡ 0 = sym d ∙ z in omega arith)

  pub end_of_ended : {last : ℕ} → last ≡ c Last o → last ≢ 0 → last ≢ dropped_mark → text " last " ++ decimal last ++ answer_told j c o ≡ end_told j c o
  end_of_ended e z d =
      ap (λ (n : ℕ). text " last " ++ decimal n ++ answer_told j c o) e
      ∙ sym (pick_else (text " last - dropped") _ (unequal_same (λ y. d (e ∙ y))))
      ∙ end_of_closed (λ y. z (e ∙ y))

pub front_pieces : (j : Job) (o : ℕ) {process : ℕ} → process ≡ j.owner o → text "op " ++ decimal o ++ (text " process " ++ decimal process) ++ action_text j o ≡ front_text j o
unfolding front_text
front_pieces j o {process} e =
    ap (λ (l : List ℕ). l ++ action_text j o) (sym (append_assoc (text "op " ++ decimal o) (text " process ") (decimal process)))
    ∙ ap (λ (p : ℕ). text "op " ++ decimal o ++ text " process " ++ decimal p ++ action_text j o) e

-- the line that was found, by what was found
module _ (taken : ℕ → ℕ) (count s : ℕ) {f : Found} where
  as_found : {g : Found} {l : List ℕ} → f ≡ g → l ≡ record_line (found_line taken count s g) → l ≡ record_line (found_line taken count s f)
  as_found e t = t ∙ ap (λ (x : Found). record_line (found_line taken count s x)) (sym e)

  pub found_put : (o : Operation) → f ≡ Put o → at_text s (text " put ") o.0 ++ text "\n" ≡ record_line (found_line taken count s f)
  unfolding record_line effect_text found_line at_text
  found_put o e = as_found e refl

  pub found_takers : (item : Operation) → f ≡ Takers item → take_text s item.0 (takers_of taken count item.0) ≡ record_line (found_line taken count s f)
  unfolding record_line effect_text found_line at_text take_text
  found_takers item e = as_found e (simp append_assoc)

  pub found_empty : (o : Operation) → f ≡ Empty o → at_text s (text " empty by ") o.0 ++ text "\n" ≡ record_line (found_line taken count s f)
  unfolding record_line effect_text found_line at_text
  found_empty o e = as_found e refl

-- the pieces of the last line
pub left_pieces : (l : List ℕ) {n : ℕ} → n ≡ length l → text "left " ++ decimal n ++ spaced l ++ text "\n" ≡ left_line l
unfolding left_line
left_pieces l e = ap (λ (n : ℕ). text "left " ++ decimal n ++ spaced l ++ text "\n") e
