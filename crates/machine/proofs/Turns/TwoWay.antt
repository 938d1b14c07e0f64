-- The step of an operation on a two-way linked stack as a relation: one constructor for each outcome of each row of its listings, carrying its
-- fact. Proofs about this stack go by these 33 cases and never open the table or an access. Assumes nothing.
use mathlib.Core.Path.{◌≡◌}
use mathlib.Core.Logic.{◌≢◌}
use Prim.Native.Nat.{ℕ}
use mathlib.Core.Bool.{Bool, ◌&&◌, false, true≢false}
use Rattle.basics.specs.Choice.{pick, same}
use Rattle.basics.specs.Maps.{upd}
use Rattle.machine.specs.declared.Row.TheVariants.{V1, V2, V3, V4, V5, V6, V7, V8, W1, W2, W3, W4, W5, W6, W7, W8, W9, Done, ItemT, Empty}
use Rattle.machine.specs.declared.Event.{Event}
use Rattle.machine.specs.declared.Event.TheVariants.{Quiet, Round, Linked, Moved}
use Rattle.machine.specs.declared.Outcome.{Outcome}
use Rattle.machine.specs.declared.Outcome.TheVariants.{Yes, No, Bare}
use Rattle.machine.specs.Memory.{Memory, set_from_to, yes_if, with_top, with_next, with_mark, with_upper}
use Rattle.machine.specs.Table.{row, table, position, row_of, successor, end_of, is_end, ended}
use Rattle.machine.specs.Access.{Reached, have_read, have_set, access}
use Rattle.machine.specs.Run.{reach}
use Rattle.machine.specs.Notes.{Answer, event_of, answer_at, answer_of}
use Rattle.machine.proofs.Turns.Locals.{Local, at_row, reaches, local_after, StepOf, by_test}

-- where an operation on a two-way linked stack can be: at a row of its listings, or at an end of them
pub data On : Local → Type 0 where
  at_v1 : {h t n : ℕ} → On (at_row V1 h t n)
  at_v2 : {h t n : ℕ} → On (at_row V2 h t n)
  at_v3 : {h t n : ℕ} → On (at_row V3 h t n)
  at_v4 : {h t n : ℕ} → On (at_row V4 h t n)
  at_v5 : {h t n : ℕ} → On (at_row V5 h t n)
  at_v6 : {h t n : ℕ} → On (at_row V6 h t n)
  at_v7 : {h t n : ℕ} → On (at_row V7 h t n)
  at_v8 : {h t n : ℕ} → On (at_row V8 h t n)
  at_w1 : {h t n : ℕ} → On (at_row W1 h t n)
  at_w2 : {h t n : ℕ} → On (at_row W2 h t n)
  at_w3 : {h t n : ℕ} → t ≢ 0 → On (at_row W3 h t n)
  at_w4 : {h t n : ℕ} → t ≢ 0 → On (at_row W4 h t n)
  at_w5 : {h t n : ℕ} → t ≢ 0 → On (at_row W5 h t n)
  at_w6 : {h t n : ℕ} → t ≢ 0 → On (at_row W6 h t n)
  at_w7 : {h t n : ℕ} → t ≢ 0 → On (at_row W7 h t n)
  at_w8 : {h t n : ℕ} → On (at_row W8 h t n)
  at_w9 : {h t n : ℕ} → t ≢ 0 → On (at_row W9 h t n)
  at_done : {h t n : ℕ} → On (at_row Done h t n)
  at_item : {h t n : ℕ} → On (at_row ItemT h t n)
  at_empty : {h t n : ℕ} → On (at_row Empty h t n)

-- operation o, in memory m and at the first Local, makes memory and itself the second ones; the event and the answer of the step
pub data Turn (o : ℕ) (m : Memory) : Local → Memory → Local → Event → Answer → Type 0 where
  v1 : {h t n : ℕ} → Turn o m (at_row V1 h t n) m (at_row V2 h m.top n) Quiet Answer.none
  v2_none : {h t n : ℕ} → m.upper t ≡ 0 → Turn o m (at_row V2 h t n) m (at_row V3 h t (m.upper t)) Quiet Answer.none
  v2_some : {h t n : ℕ} → m.upper t ≢ 0 → Turn o m (at_row V2 h t n) m (at_row V6 h t (m.upper t)) Quiet Answer.none
  v3_live : {h t n : ℕ} → m.mark t ≡ 0 → Turn o m (at_row V3 h t n) m (at_row V4 h t n) Quiet Answer.none
  v3_dead : {h t n : ℕ} → m.mark t ≢ 0 → Turn o m (at_row V3 h t n) m (at_row V7 h t n) Quiet Answer.none
  v4_links : {h t n : ℕ} → m.upper t ≡ 0 → m.mark t ≡ 0 → Turn o m (at_row V4 h t n) (with_next (with_upper m (upd m.upper t o)) (upd m.next o t)) (at_row V5 h t n) Linked Answer.none
  v4_fails : {h t n : ℕ} → Turn o m (at_row V4 h t n) m (at_row V1 h t n) Quiet Answer.none
  v5_moves : {h t n : ℕ} → m.top ≡ t → Turn o m (at_row V5 h t n) (with_top m o) (at_row Done h t n) Quiet Answer.done
  v5_stays : {h t n : ℕ} → m.top ≢ t → Turn o m (at_row V5 h t n) m (at_row Done h t n) Quiet Answer.done
  v6_moves : {h t n : ℕ} → m.top ≡ t → Turn o m (at_row V6 h t n) (with_top m n) (at_row V1 h t n) Quiet Answer.none
  v6_stays : {h t n : ℕ} → m.top ≢ t → Turn o m (at_row V6 h t n) m (at_row V1 h t n) Quiet Answer.none
  v7_cuts : {h t n : ℕ} → m.upper (m.next t) ≡ t → Turn o m (at_row V7 h t n) (with_upper m (upd m.upper (m.next t) 0)) (at_row V8 h t n) Quiet Answer.none
  v7_stays : {h t n : ℕ} → Turn o m (at_row V7 h t n) m (at_row V8 h t n) Quiet Answer.none
  v8_moves : {h t n : ℕ} → m.top ≡ t → Turn o m (at_row V8 h t n) (with_top m (m.next t)) (at_row V1 h t n) Quiet Answer.none
  v8_stays : {h t n : ℕ} → m.top ≢ t → Turn o m (at_row V8 h t n) m (at_row V1 h t n) Quiet Answer.none
  w1 : {h t n : ℕ} → Turn o m (at_row W1 h t n) m (at_row W2 h m.top n) Quiet Answer.none
  w2_more : {h t n : ℕ} → m.upper t ≢ 0 → Turn o m (at_row W2 h t n) m (at_row W8 h t (m.upper t)) Round Answer.none
  w2_empty : {h t n : ℕ} → m.upper t ≡ 0 → t ≡ 0 → Turn o m (at_row W2 h t n) m (at_row Empty h t (m.upper t)) Round Answer.empty
  w2_last : {h t n : ℕ} → m.upper t ≡ 0 → t ≢ 0 → Turn o m (at_row W2 h t n) m (at_row W3 h t (m.upper t)) Round Answer.none
  w3_live : {h t n : ℕ} → m.mark t ≡ 0 → Turn o m (at_row W3 h t n) m (at_row W4 h t n) Quiet Answer.none
  w3_dead : {h t n : ℕ} → m.mark t ≢ 0 → Turn o m (at_row W3 h t n) m (at_row W7 h t n) Quiet Answer.none
  w4_clears : {h t n : ℕ} → m.upper t ≡ 0 → Turn o m (at_row W4 h t n) (with_mark m (upd m.mark t 1)) (at_row W5 h t n) (Moved t) Answer.none
  w4_fails : {h t n : ℕ} → m.upper t ≢ 0 → Turn o m (at_row W4 h t n) m (at_row W1 h t n) Quiet Answer.none
  w5_cuts : {h t n : ℕ} → m.upper (m.next t) ≡ t → Turn o m (at_row W5 h t n) (with_upper m (upd m.upper (m.next t) 0)) (at_row W6 h t n) Quiet Answer.none
  w5_stays : {h t n : ℕ} → Turn o m (at_row W5 h t n) m (at_row W6 h t n) Quiet Answer.none
  w6_moves : {h t n : ℕ} → m.top ≡ t → Turn o m (at_row W6 h t n) (with_top m (m.next t)) (at_row ItemT h t n) Quiet (Answer.item t)
  w6_stays : {h t n : ℕ} → m.top ≢ t → Turn o m (at_row W6 h t n) m (at_row ItemT h t n) Quiet (Answer.item t)
  w7_cuts : {h t n : ℕ} → m.upper (m.next t) ≡ t → Turn o m (at_row W7 h t n) (with_upper m (upd m.upper (m.next t) 0)) (at_row W9 h t n) Quiet Answer.none
  w7_stays : {h t n : ℕ} → Turn o m (at_row W7 h t n) m (at_row W9 h t n) Quiet Answer.none
  w8_moves : {h t n : ℕ} → m.top ≡ t → Turn o m (at_row W8 h t n) (with_top m n) (at_row W1 h t n) Quiet Answer.none
  w8_stays : {h t n : ℕ} → m.top ≢ t → Turn o m (at_row W8 h t n) m (at_row W1 h t n) Quiet Answer.none
  w9_moves : {h t n : ℕ} → m.top ≡ t → Turn o m (at_row W9 h t n) (with_top m (m.next t)) (at_row W1 h t n) Quiet Answer.none
  w9_stays : {h t n : ℕ} → m.top ≢ t → Turn o m (at_row W9 h t n) m (at_row W1 h t n) Quiet Answer.none

-- what a cut reaches, by whether it changed the lower's cell
unfoldable cut_to : Memory → ℕ → ℕ → ℕ → Bool → Reached
cut_to m h t n b = have_set (with_upper m (pick b (upd m.upper (m.next t) 0) m.upper)) (record { h = h; t = t; n = n }) (yes_if b)

-- what the table and the accesses do is such a turn
pub turn : (o : ℕ) (m : Memory) {l : Local} → On l → ended l.row ≡ false → StepOf Turn o m l
unfolding ended end_of is_end row table position row_of successor reaches local_after reach cut_to access have_read have_set with_top with_next with_mark with_upper set_from_to yes_if pick event_of answer_of answer_at
turn o m (at_v1 {h = h} {t = t} {n = n}) going = by_test Turn o m (at_row V1 h t n) m.top 0 (λ b. have_read m h m.top n (yes_if b)) (λ e. v1) (λ e. v1)
turn o m (at_v2 {h = h} {t = t} {n = n}) going = by_test Turn o m (at_row V2 h t n) (m.upper t) 0 (λ b. have_read m h t (m.upper t) (yes_if b)) v2_none v2_some
turn o m (at_v3 {h = h} {t = t} {n = n}) going = by_test Turn o m (at_row V3 h t n) (m.mark t) 0 (λ b. have_set m (record { h = h; t = t; n = n }) (yes_if b)) v3_live v3_dead
turn o m (at_v4 {h = h} {t = t} {n = n}) going =
    let to : Bool → Reached = λ b. have_set (with_next (with_upper m (pick b (upd m.upper t o) m.upper)) (pick b (upd m.next o t) m.next)) (record { h = h; t = t; n = n }) (yes_if b) in
    by_test Turn o m (at_row V4 h t n) (m.upper t) 0 (λ b. to (b && same (m.mark t) 0))
    (λ e. by_test Turn o m (at_row V4 h t n) (m.mark t) 0 to (v4_links e) (λ d. v4_fails))
    (λ e. v4_fails)
turn o m (at_v5 {h = h} {t = t} {n = n}) going = by_test Turn o m (at_row V5 h t n) m.top t (λ b. have_set (with_top m (pick b o m.top)) (record { h = h; t = t; n = n }) (yes_if b)) v5_moves v5_stays
turn o m (at_v6 {h = h} {t = t} {n = n}) going = by_test Turn o m (at_row V6 h t n) m.top t (λ b. have_set (with_top m (pick b n m.top)) (record { h = h; t = t; n = n }) (yes_if b)) v6_moves v6_stays
turn o m (at_v7 {h = h} {t = t} {n = n}) going =
    by_test Turn o m (at_row V7 h t n) (m.upper (m.next t)) t (λ b. cut_to m h t n (b && same (m.mark (m.next t)) 0))
    (λ e. by_test Turn o m (at_row V7 h t n) (m.mark (m.next t)) 0 (cut_to m h t n) (λ d. v7_cuts e) (λ d. v7_stays))
    (λ e. v7_stays)
turn o m (at_v8 {h = h} {t = t} {n = n}) going = by_test Turn o m (at_row V8 h t n) m.top t (λ b. have_set (with_top m (pick b (m.next t) m.top)) (record { h = h; t = t; n = n }) (yes_if b)) v8_moves v8_stays
turn o m (at_w1 {h = h} {t = t} {n = n}) going = by_test Turn o m (at_row W1 h t n) m.top 0 (λ b. have_read m h m.top n (yes_if b)) (λ e. w1) (λ e. w1)
turn o m (at_w2 {h = h} {t = t} {n = n}) going =
    let to : Outcome → Reached = λ out. have_read m h t (m.upper t) out in
    by_test Turn o m (at_row W2 h t n) (m.upper t) 0 (λ b. to (pick b (pick (same t 0) Bare Yes) No))
    (λ e. by_test Turn o m (at_row W2 h t n) t 0 (λ b. to (pick b Bare Yes)) (w2_empty e) (w2_last e))
    w2_more
turn o m (at_w3 {h = h} {t = t} {n = n} some) going = by_test Turn o m (at_row W3 h t n) (m.mark t) 0 (λ b. have_set m (record { h = h; t = t; n = n }) (yes_if b)) w3_live w3_dead
turn o m (at_w4 {h = h} {t = t} {n = n} some) going = by_test Turn o m (at_row W4 h t n) (m.upper t) 0 (λ b. have_set (with_mark m (pick b (upd m.mark t 1) m.mark)) (record { h = h; t = t; n = n }) (yes_if b)) w4_clears w4_fails
turn o m (at_w5 {h = h} {t = t} {n = n} some) going =
    by_test Turn o m (at_row W5 h t n) (m.upper (m.next t)) t (λ b. cut_to m h t n (b && same (m.mark (m.next t)) 0))
    (λ e. by_test Turn o m (at_row W5 h t n) (m.mark (m.next t)) 0 (cut_to m h t n) (λ d. w5_cuts e) (λ d. w5_stays))
    (λ e. w5_stays)
turn o m (at_w6 {h = h} {t = t} {n = n} some) going = by_test Turn o m (at_row W6 h t n) m.top t (λ b. have_set (with_top m (pick b (m.next t) m.top)) (record { h = h; t = t; n = n }) (yes_if b)) w6_moves w6_stays
turn o m (at_w7 {h = h} {t = t} {n = n} some) going =
    by_test Turn o m (at_row W7 h t n) (m.upper (m.next t)) t (λ b. cut_to m h t n (b && same (m.mark (m.next t)) 0))
    (λ e. by_test Turn o m (at_row W7 h t n) (m.mark (m.next t)) 0 (cut_to m h t n) (λ d. w7_cuts e) (λ d. w7_stays))
    (λ e. w7_stays)
turn o m (at_w8 {h = h} {t = t} {n = n}) going = by_test Turn o m (at_row W8 h t n) m.top t (λ b. have_set (with_top m (pick b n m.top)) (record { h = h; t = t; n = n }) (yes_if b)) w8_moves w8_stays
turn o m (at_w9 {h = h} {t = t} {n = n} some) going = by_test Turn o m (at_row W9 h t n) m.top t (λ b. have_set (with_top m (pick b (m.next t) m.top)) (record { h = h; t = t; n = n }) (yes_if b)) w9_moves w9_stays
turn o m at_done going = absurd (true≢false going)
turn o m at_item going = absurd (true≢false going)
turn o m at_empty going = absurd (true≢false going)
