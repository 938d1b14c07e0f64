-- The step of a stack's operation as a relation: one constructor for each outcome of each row of its listings, carrying its fact. Proofs
-- about the stack go by these 17 cases and never open the table or an access. Assumes nothing.
use mathlib.Core.Path.{◌≡◌}
use mathlib.Core.Logic.{◌≢◌}
use Prim.Native.Nat.{ℕ}
use mathlib.Core.Bool.{false, true≢false}
use Rattle.basics.specs.Choice.{pick}
use Rattle.basics.specs.Maps.{upd}
use Rattle.machine.specs.declared.Row.TheVariants.{P1, P2, P3, P4, R1, R2, R3, R4, R5, Done, ItemT, Empty}
use Rattle.machine.specs.declared.Event.{Event}
use Rattle.machine.specs.declared.Event.TheVariants.{Quiet, Round, Linked, Raised}
use Rattle.machine.specs.declared.Outcome.TheVariants.{Yes, Bare}
use Rattle.machine.specs.Memory.{Memory, set_from_to, yes_if, with_head, with_tail, with_top, with_next, with_mark}
use Rattle.machine.specs.Table.{row, table, position, row_of, successor, end_of, is_end, ended}
use Rattle.machine.specs.Access.{have_read, have_set, access}
use Rattle.machine.specs.Run.{reach}
use Rattle.machine.specs.Notes.{Answer, event_of, answer_at, answer_of}
use Rattle.machine.proofs.Turns.Locals.{Local, at_row, reaches, local_after, StepOf, by_test}

-- where an operation on a stack can be: at a row of its listings, or at an end of them
pub data On : Local → Type 0 where
  at_p1 : {h t n : ℕ} → On (at_row P1 h t n)
  at_p2 : {h t n : ℕ} → On (at_row P2 h t n)
  at_p3 : {h t n : ℕ} → On (at_row P3 h t n)
  at_p4 : {h t n : ℕ} → On (at_row P4 h t n)
  at_r1 : {h t n : ℕ} → On (at_row R1 h t n)
  at_r2 : {h t n : ℕ} → t ≢ 0 → On (at_row R2 h t n)
  at_r3 : {h t n : ℕ} → t ≢ 0 → On (at_row R3 h t n)
  at_r4 : {h t n : ℕ} → t ≢ 0 → On (at_row R4 h t n)
  at_r5 : {h t n : ℕ} → t ≢ 0 → On (at_row R5 h t n)
  at_done : {h t n : ℕ} → On (at_row Done h t n)
  at_item : {h t n : ℕ} → On (at_row ItemT h t n)
  at_empty : {h t n : ℕ} → On (at_row Empty h t n)

-- operation o, in memory m and at the first Local, makes memory and itself the second ones; the event and the answer of the step
pub data Turn (o : ℕ) (m : Memory) : Local → Memory → Local → Event → Answer → Type 0 where
  p1_none : {h t n : ℕ} → m.top ≡ 0 → Turn o m (at_row P1 h t n) m (at_row P3 h m.top n) Quiet Answer.none
  p1_some : {h t n : ℕ} → m.top ≢ 0 → Turn o m (at_row P1 h t n) m (at_row P2 h m.top n) Quiet Answer.none
  p2_clear : {h t n : ℕ} → m.mark t ≡ 0 → Turn o m (at_row P2 h t n) m (at_row P3 h t n) Quiet Answer.none
  p2_raised : {h t n : ℕ} → m.mark t ≢ 0 → Turn o m (at_row P2 h t n) m (at_row P4 h t n) Quiet Answer.none
  p3_pushes : {h t n : ℕ} → m.top ≡ t → Turn o m (at_row P3 h t n) (with_next (with_top m o) (upd m.next o t)) (at_row Done h t n) Linked Answer.done
  p3_fails : {h t n : ℕ} → m.top ≢ t → Turn o m (at_row P3 h t n) m (at_row P1 h t n) Quiet Answer.none
  p4_moves : {h t n : ℕ} → m.top ≡ t → Turn o m (at_row P4 h t n) (with_top m (m.next t)) (at_row P1 h t n) Quiet Answer.none
  p4_stays : {h t n : ℕ} → m.top ≢ t → Turn o m (at_row P4 h t n) m (at_row P1 h t n) Quiet Answer.none
  r1_none : {h t n : ℕ} → m.top ≡ 0 → Turn o m (at_row R1 h t n) m (at_row Empty h m.top n) Round Answer.empty
  r1_some : {h t n : ℕ} → m.top ≢ 0 → Turn o m (at_row R1 h t n) m (at_row R2 h m.top n) Round Answer.none
  r2_clear : {h t n : ℕ} → m.mark t ≡ 0 → Turn o m (at_row R2 h t n) m (at_row R3 h t n) Quiet Answer.none
  r2_raised : {h t n : ℕ} → m.mark t ≢ 0 → Turn o m (at_row R2 h t n) m (at_row R5 h t n) Quiet Answer.none
  r3 : {h t n : ℕ} → Turn o m (at_row R3 h t n) (with_mark m (upd m.mark t 1)) (at_row R4 h t n) (Raised t) Answer.none
  r4_moves : {h t n : ℕ} → m.top ≡ t → Turn o m (at_row R4 h t n) (with_top m (m.next t)) (at_row ItemT h t n) Quiet (Answer.item t)
  r4_stays : {h t n : ℕ} → m.top ≢ t → Turn o m (at_row R4 h t n) m (at_row ItemT h t n) Quiet (Answer.item t)
  r5_moves : {h t n : ℕ} → m.top ≡ t → Turn o m (at_row R5 h t n) (with_top m (m.next t)) (at_row R1 h t n) Quiet Answer.none
  r5_stays : {h t n : ℕ} → m.top ≢ t → Turn o m (at_row R5 h t n) m (at_row R1 h t n) Quiet Answer.none

-- what the table and the accesses do is such a turn
pub turn : (o : ℕ) (m : Memory) {l : Local} → On l → ended l.row ≡ false → StepOf Turn o m l
unfolding ended end_of is_end row table position row_of successor reaches local_after reach access have_read have_set with_head with_tail with_top with_next with_mark set_from_to yes_if pick event_of answer_of answer_at
turn o m (at_p1 {h = h} {t = t} {n = n}) going = by_test Turn o m (at_row P1 h t n) m.top 0 (λ b. have_read m h m.top n (yes_if b)) p1_none p1_some
turn o m (at_p2 {h = h} {t = t} {n = n}) going = by_test Turn o m (at_row P2 h t n) (m.mark t) 0 (λ b. have_set m (record { h = h; t = t; n = n }) (yes_if b)) p2_clear p2_raised
turn o m (at_p3 {h = h} {t = t} {n = n}) going = by_test Turn o m (at_row P3 h t n) m.top t (λ b. have_set (with_next (with_top m (pick b o m.top)) (pick b (upd m.next o t) m.next)) (record { h = h; t = t; n = n }) (yes_if b)) p3_pushes p3_fails
turn o m (at_p4 {h = h} {t = t} {n = n}) going = by_test Turn o m (at_row P4 h t n) m.top t (λ b. have_set (with_top m (pick b (m.next t) m.top)) (record { h = h; t = t; n = n }) (yes_if b)) p4_moves p4_stays
turn o m (at_r1 {h = h} {t = t} {n = n}) going = by_test Turn o m (at_row R1 h t n) m.top 0 (λ b. have_read m h m.top n (pick b Bare Yes)) r1_none r1_some
turn o m (at_r2 {h = h} {t = t} {n = n} some) going = by_test Turn o m (at_row R2 h t n) (m.mark t) 0 (λ b. have_set m (record { h = h; t = t; n = n }) (yes_if b)) r2_clear r2_raised
turn o m (at_r3 {h = h} {t = t} {n = n} some) going = r3
turn o m (at_r4 {h = h} {t = t} {n = n} some) going = by_test Turn o m (at_row R4 h t n) m.top t (λ b. have_set (with_top m (pick b (m.next t) m.top)) (record { h = h; t = t; n = n }) (yes_if b)) r4_moves r4_stays
turn o m (at_r5 {h = h} {t = t} {n = n} some) going = by_test Turn o m (at_row R5 h t n) m.top t (λ b. have_set (with_top m (pick b (m.next t) m.top)) (record { h = h; t = t; n = n }) (yes_if b)) r5_moves r5_stays
turn o m at_done going = absurd (true≢false going)
turn o m at_item going = absurd (true≢false going)
turn o m at_empty going = absurd (true≢false going)
