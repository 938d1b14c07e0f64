-- The step of a queue's operation as a relation: one constructor for each outcome of each row of its listings, carrying its fact. Proofs
-- about the queue go by these 18 cases and never open the table or an access. Assumes nothing.
use mathlib.Core.Path.{◌≡◌}
use mathlib.Core.Logic.{◌≢◌}
use Prim.Native.Nat.{ℕ}
use mathlib.Core.Bool.{false, true≢false}
use Rattle.basics.specs.Choice.{pick, same}
use Rattle.basics.specs.Maps.{upd}
use Rattle.machine.specs.declared.Row.TheVariants.{Q1, Q2, Q3, Q4, Q5, T1, T2, T3, T4, T5, Done, ItemN, Empty}
use Rattle.machine.specs.declared.Event.{Event}
use Rattle.machine.specs.declared.Event.TheVariants.{Quiet, Round, Linked, Moved, Late}
use Rattle.machine.specs.declared.Outcome.{Outcome}
use Rattle.machine.specs.declared.Outcome.TheVariants.{Yes, No, Bare}
use Rattle.machine.specs.Memory.{Memory, set_from_to, yes_if, with_head, with_tail, with_top, with_next, with_mark}
use Rattle.machine.specs.Table.{row, table, position, row_of, successor, end_of, is_end, ended}
use Rattle.machine.specs.Access.{Reached, have_read, have_set, access}
use Rattle.machine.specs.Run.{reach}
use Rattle.machine.specs.Notes.{Answer, event_of, answer_at, answer_of}
use Rattle.machine.proofs.Turns.Locals.{Local, at_row, reaches, local_after, StepOf, by_test}

-- where an operation on a queue can be: at a row of its listings, or at an end of them
pub data On : Local → Type 0 where
  at_q1 : {h t n : ℕ} → On (at_row Q1 h t n)
  at_q2 : {h t n : ℕ} → On (at_row Q2 h t n)
  at_q3 : {h t n : ℕ} → On (at_row Q3 h t n)
  at_q4 : {h t n : ℕ} → On (at_row Q4 h t n)
  at_q5 : {h t n : ℕ} → On (at_row Q5 h t n)
  at_t1 : {h t n : ℕ} → On (at_row T1 h t n)
  at_t2 : {h t n : ℕ} → On (at_row T2 h t n)
  at_t3 : {h t n : ℕ} → On (at_row T3 h t n)
  at_t4 : {h t n : ℕ} → On (at_row T4 h t n)
  at_t5 : {h t n : ℕ} → On (at_row T5 h t n)
  at_done : {h t n : ℕ} → On (at_row Done h t n)
  at_item : {h t n : ℕ} → On (at_row ItemN h t n)
  at_empty : {h t n : ℕ} → On (at_row Empty h t n)

-- operation o, in memory m and at the first Local, makes memory and itself the second ones; the event and the answer of the step
pub data Turn (o : ℕ) (m : Memory) : Local → Memory → Local → Event → Answer → Type 0 where
  q1 : {h t n : ℕ} → Turn o m (at_row Q1 h t n) m (at_row Q2 h m.tail n) Quiet Answer.none
  q2_last : {h t n : ℕ} → m.next t ≡ 0 → Turn o m (at_row Q2 h t n) m (at_row Q3 h t (m.next t)) Quiet Answer.none
  q2_more : {h t n : ℕ} → m.next t ≢ 0 → Turn o m (at_row Q2 h t n) m (at_row Q5 h t (m.next t)) Quiet Answer.none
  q3_links : {h t n : ℕ} → m.next t ≡ 0 → Turn o m (at_row Q3 h t n) (with_next m (upd m.next t o)) (at_row Q4 h t n) Linked Answer.none
  q3_fails : {h t n : ℕ} → m.next t ≢ 0 → Turn o m (at_row Q3 h t n) m (at_row Q1 h t n) Quiet Answer.none
  q4_moves : {h t n : ℕ} → m.tail ≡ t → Turn o m (at_row Q4 h t n) (with_tail m o) (at_row Done h t n) Quiet Answer.done
  q4_stays : {h t n : ℕ} → m.tail ≢ t → Turn o m (at_row Q4 h t n) m (at_row Done h t n) Quiet Answer.done
  q5_moves : {h t n : ℕ} → m.tail ≡ t → Turn o m (at_row Q5 h t n) (with_tail m n) (at_row Q1 h t n) Quiet Answer.none
  q5_stays : {h t n : ℕ} → m.tail ≢ t → Turn o m (at_row Q5 h t n) m (at_row Q1 h t n) Quiet Answer.none
  t1 : {h t n : ℕ} → Turn o m (at_row T1 h t n) m (at_row T2 m.head t n) Round Answer.none
  t2 : {h t n : ℕ} → Turn o m (at_row T2 h t n) m (at_row T3 h m.tail n) Quiet Answer.none
  t3_empty : {h t n : ℕ} → h ≡ t → m.next h ≡ 0 → Turn o m (at_row T3 h t n) m (at_row Empty h t (m.next h)) Quiet Answer.empty
  t3_helps : {h t n : ℕ} → h ≡ t → m.next h ≢ 0 → Turn o m (at_row T3 h t n) m (at_row T4 h t (m.next h)) Quiet Answer.none
  t3_goes : {h t n : ℕ} → h ≢ t → Turn o m (at_row T3 h t n) m (at_row T5 h t (m.next h)) Quiet Answer.none
  t4_moves : {h t n : ℕ} → m.tail ≡ t → Turn o m (at_row T4 h t n) (with_tail m n) (at_row T1 h t n) Quiet Answer.none
  t4_stays : {h t n : ℕ} → m.tail ≢ t → Turn o m (at_row T4 h t n) m (at_row T1 h t n) Quiet Answer.none
  t5_moves : {h t n : ℕ} → m.head ≡ h → Turn o m (at_row T5 h t n) (with_head m n) (at_row ItemN h t n) (Moved n) (Answer.item n)
  t5_late : {h t n : ℕ} → m.head ≢ h → Turn o m (at_row T5 h t n) m (at_row ItemN h t n) (Late n) (Answer.item n)

-- what the table and the accesses do is such a turn
pub turn : (o : ℕ) (m : Memory) {l : Local} → On l → ended l.row ≡ false → StepOf Turn o m l
unfolding ended end_of is_end row table position row_of successor reaches local_after reach access have_read have_set with_head with_tail with_top with_next with_mark set_from_to yes_if pick event_of answer_of answer_at
turn o m (at_q1 {h = h} {t = t} {n = n}) going = q1
turn o m (at_q2 {h = h} {t = t} {n = n}) going = by_test Turn o m (at_row Q2 h t n) (m.next t) 0 (λ b. have_read m h t (m.next t) (yes_if b)) q2_last q2_more
turn o m (at_q3 {h = h} {t = t} {n = n}) going = by_test Turn o m (at_row Q3 h t n) (m.next t) 0 (λ b. have_set (with_next m (pick b (upd m.next t o) m.next)) (record { h = h; t = t; n = n }) (yes_if b)) q3_links q3_fails
turn o m (at_q4 {h = h} {t = t} {n = n}) going = by_test Turn o m (at_row Q4 h t n) m.tail t (λ b. have_set (with_tail m (pick b o m.tail)) (record { h = h; t = t; n = n }) (yes_if b)) q4_moves q4_stays
turn o m (at_q5 {h = h} {t = t} {n = n}) going = by_test Turn o m (at_row Q5 h t n) m.tail t (λ b. have_set (with_tail m (pick b n m.tail)) (record { h = h; t = t; n = n }) (yes_if b)) q5_moves q5_stays
turn o m (at_t1 {h = h} {t = t} {n = n}) going = t1
turn o m (at_t2 {h = h} {t = t} {n = n}) going = t2
turn o m (at_t3 {h = h} {t = t} {n = n}) going =
    let to : Outcome → Reached = λ out. have_read m h t (m.next h) out in
    by_test Turn o m (at_row T3 h t n) h t (λ b. to (pick b (pick (same (m.next h) 0) Bare No) Yes))
    (λ e. by_test Turn o m (at_row T3 h t n) (m.next h) 0 (λ b. to (pick b Bare No)) (t3_empty e) (t3_helps e))
    t3_goes
turn o m (at_t4 {h = h} {t = t} {n = n}) going = by_test Turn o m (at_row T4 h t n) m.tail t (λ b. have_set (with_tail m (pick b n m.tail)) (record { h = h; t = t; n = n }) (yes_if b)) t4_moves t4_stays
turn o m (at_t5 {h = h} {t = t} {n = n}) going = by_test Turn o m (at_row T5 h t n) m.head h (λ b. have_set (with_head m (pick b n m.head)) (record { h = h; t = t; n = n }) (yes_if b)) t5_moves t5_late
turn o m at_done going = absurd (true≢false going)
turn o m at_item going = absurd (true≢false going)
turn o m at_empty going = absurd (true≢false going)
