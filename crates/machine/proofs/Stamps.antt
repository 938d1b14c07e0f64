-- What one more step does to the searches of the journal, by who made it and what it was: an operation's first, link, join, item, start,
-- last and answer, the first move of Head to an item, and the drop of an operation. Assumes nothing.
use mathlib.Core.Path.{◌≡◌, ap, ◌∙◌}
use mathlib.Core.Logic.{◌≢◌}
use Prim.Native.Nat.{ℕ, suc, ◌≤◌, ◌<◌}
use mathlib.Core.Bool.{Bool, true, false, not, ◌&&◌, and-false}
use Rattle.basics.specs.Choice.{same}
use Rattle.basics.proofs.Choice.{same_equal, equal_same, unequal_same}
use Rattle.job.specs.Job.{Job}
use Rattle.machine.specs.declared.Event.TheVariants.{Round, Linked, Moved}
use Rattle.machine.specs.Notes.{Answer, Note, is_answer, idle}
use Rattle.machine.specs.Journal.{is_round, is_linked, item_of, moved_to, made, begins_round, links, joins, ends, first, last, answer, start, link, join, taken}
use Rattle.machine.specs.Effects.{first_move}
use Rattle.machine.specs.Drops.{dropped, drop}
use Rattle.machine.proofs.Searches.{earliest_zero, earliest_kept, earliest_new, earliest_meets, earliest_stays, earliest_least, earliest_later, earliest_le, latest_zero, latest_kept, latest_new, latest_le}

-- a step of operation o that meets a test
unfoldable own_step : (ℕ → Note) → (Note → Bool) → ℕ → ℕ → Bool
own_step log g o s = made log o s && g (log s)

module _ (log : ℕ → Note) (k o : ℕ) where
  made_other : (log (suc k)).by ≢ o → made log o (suc k) ≡ false
  unfolding made
  made_other n = unequal_same n

  made_own : (log (suc k)).by ≡ o → made log o (suc k) ≡ true
  unfolding made
  made_own e = equal_same e

  own_other : (g : Note → Bool) → (log (suc k)).by ≢ o → own_step log g o (suc k) ≡ false
  unfolding own_step
  own_other g n = ap (λ b. b && g (log (suc k))) (made_other n)

  own_unless : (g : Note → Bool) → g (log (suc k)) ≡ false → own_step log g o (suc k) ≡ false
  unfolding own_step
  own_unless g e = ap (λ b. made log o (suc k) && b) e ∙ and-false (made log o (suc k))

  own_new : (g : Note → Bool) → (log (suc k)).by ≡ o → g (log (suc k)) ≡ true → own_step log g o (suc k) ≡ true
  unfolding own_step
  own_new g e t = ap (λ b. b && g (log (suc k))) (made_own e) ∙ t

  -- the first step
  pub first_other : (log (suc k)).by ≢ o → first log (suc k) o ≡ first log k o
  unfolding first
  first_other n = earliest_kept (made log o) k (made_other n)

  pub first_new : (log (suc k)).by ≡ o → first log k o ≡ 0 → first log (suc k) o ≡ suc k
  unfolding first
  first_new e z = earliest_new (made log o) k z (made_own e)

  -- the changing Q3, P3 or V4
  pub link_other : (log (suc k)).by ≢ o → link log (suc k) o ≡ link log k o
  unfolding link links own_step
  link_other n = earliest_kept (links log o) k (own_other (λ x. is_linked x.event) n)

  pub link_unless : is_linked (log (suc k)).event ≡ false → link log (suc k) o ≡ link log k o
  unfolding link links own_step
  link_unless e = earliest_kept (links log o) k (own_unless (λ x. is_linked x.event) e)

  pub link_new : (log (suc k)).by ≡ o → (log (suc k)).event ≡ Linked → link log k o ≡ 0 → link log (suc k) o ≡ suc k
  unfolding link links own_step is_linked
  link_new a e z = earliest_new (links log o) k z (own_new (λ x. is_linked x.event) a (ap is_linked e))

  -- the last T1, R1 or W2
  pub start_other : (log (suc k)).by ≢ o → start log (suc k) o ≡ start log k o
  unfolding start begins_round own_step
  start_other n = latest_kept (begins_round log o) k (own_other (λ x. is_round x.event) n)

  pub start_unless : is_round (log (suc k)).event ≡ false → start log (suc k) o ≡ start log k o
  unfolding start begins_round own_step
  start_unless e = latest_kept (begins_round log o) k (own_unless (λ x. is_round x.event) e)

  pub start_new : (log (suc k)).by ≡ o → (log (suc k)).event ≡ Round → start log (suc k) o ≡ suc k
  unfolding start begins_round own_step is_round
  start_new a e = latest_new (begins_round log o) k (own_new (λ x. is_round x.event) a (ap is_round e))

  -- the T5, R3 or W4
  pub join_other : (log (suc k)).by ≢ o → join log (suc k) o ≡ join log k o
  unfolding join joins own_step
  join_other n = earliest_kept (joins log o) k (own_other (λ x. not (same (item_of x.event) 0)) n)

  pub join_unless : item_of (log (suc k)).event ≡ 0 → join log (suc k) o ≡ join log k o
  unfolding join joins own_step
  join_unless e = earliest_kept (joins log o) k (own_unless (λ x. not (same (item_of x.event) 0)) (ap not (equal_same e)))

  pub join_new : (log (suc k)).by ≡ o → item_of (log (suc k)).event ≢ 0 → join log k o ≡ 0 → join log (suc k) o ≡ suc k
  unfolding join joins own_step
  join_new a n z = earliest_new (joins log o) k z (own_new (λ x. not (same (item_of x.event) 0)) a (ap not (unequal_same n)))

  -- the item of that
  taken_of : {s t : ℕ} → s ≡ t → item_of (log s).event ≡ item_of (log t).event
  taken_of e = ap (λ s. item_of (log s).event) e

  pub taken_other : (log (suc k)).by ≢ o → taken log (suc k) o ≡ taken log k o
  unfolding taken
  taken_other n = taken_of (join_other n)

  pub taken_unless : item_of (log (suc k)).event ≡ 0 → taken log (suc k) o ≡ taken log k o
  unfolding taken
  taken_unless e = taken_of (join_unless e)

  pub taken_new : (log (suc k)).by ≡ o → item_of (log (suc k)).event ≢ 0 → join log k o ≡ 0 → taken log (suc k) o ≡ item_of (log (suc k)).event
  unfolding taken
  taken_new a n z = taken_of (join_new a n z)

  -- the ending step
  pub last_other : (log (suc k)).by ≢ o → last log (suc k) o ≡ last log k o
  unfolding last ends own_step
  last_other n = earliest_kept (ends log o) k (own_other (λ x. is_answer x.answer) n)

  pub last_unless : is_answer (log (suc k)).answer ≡ false → last log (suc k) o ≡ last log k o
  unfolding last ends own_step
  last_unless e = earliest_kept (ends log o) k (own_unless (λ x. is_answer x.answer) e)

  pub last_new : (log (suc k)).by ≡ o → is_answer (log (suc k)).answer ≡ true → last log k o ≡ 0 → last log (suc k) o ≡ suc k
  unfolding last ends own_step
  last_new a t z = earliest_new (ends log o) k z (own_new (λ x. is_answer x.answer) a t)

  -- the answer of that
  answer_of_step : {s t : ℕ} → s ≡ t → (log s).answer ≡ (log t).answer
  answer_of_step e = ap (λ s. (log s).answer) e

  pub answer_other : (log (suc k)).by ≢ o → answer log (suc k) o ≡ answer log k o
  unfolding answer
  answer_other n = answer_of_step (last_other n)

  pub answer_unless : is_answer (log (suc k)).answer ≡ false → answer log (suc k) o ≡ answer log k o
  unfolding answer
  answer_unless e = answer_of_step (last_unless e)

  pub answer_new : (log (suc k)).by ≡ o → is_answer (log (suc k)).answer ≡ true → last log k o ≡ 0 → answer log (suc k) o ≡ (log (suc k)).answer
  unfolding answer
  answer_new a t z = answer_of_step (last_new a t z)

-- before any step there is nothing
module _ (log : ℕ → Note) (o : ℕ) where
  pub first_zero : first log 0 o ≡ 0
  unfolding first
  first_zero = earliest_zero (made log o)

  pub link_zero : link log 0 o ≡ 0
  unfolding link
  link_zero = earliest_zero (links log o)

  pub start_zero : start log 0 o ≡ 0
  unfolding start
  start_zero = latest_zero (begins_round log o)

  pub join_zero : join log 0 o ≡ 0
  unfolding join
  join_zero = earliest_zero (joins log o)

  pub last_zero : last log 0 o ≡ 0
  unfolding last
  last_zero = earliest_zero (ends log o)

  -- what is not there has no item and no answer
  pub taken_none : log 0 ≡ idle → (k : ℕ) → join log k o ≡ 0 → taken log k o ≡ 0
  unfolding taken idle item_of
  taken_none start k z = ap (λ s. item_of (log s).event) z ∙ ap (λ n. item_of n.event) start

  pub answer_none : log 0 ≡ idle → (k : ℕ) → last log k o ≡ 0 → answer log k o ≡ Answer.none
  unfolding answer idle
  answer_none start k z = ap (λ s. (log s).answer) z ∙ ap (λ n. n.answer) start

-- a search finds one of the steps made, and what it found stays
module _ (log : ℕ → Note) (k o : ℕ) where
  pub first_le : first log k o ≤ k
  unfolding first
  first_le = earliest_le (made log o) k

  pub link_le : link log k o ≤ k
  unfolding link
  link_le = earliest_le (links log o) k

  pub start_le : start log k o ≤ k
  unfolding start
  start_le = latest_le (begins_round log o) k

  pub join_le : join log k o ≤ k
  unfolding join
  join_le = earliest_le (joins log o) k

  pub last_le : last log k o ≤ k
  unfolding last
  last_le = earliest_le (ends log o) k

  module _ (l : ℕ) (later : k ≤ l) where
    pub first_stays : first log k o ≢ 0 → first log l o ≡ first log k o
    unfolding first
    first_stays n = earliest_stays (made log o) k l later n

    pub link_stays : link log k o ≢ 0 → link log l o ≡ link log k o
    unfolding link
    link_stays n = earliest_stays (links log o) k l later n

-- the first move of Head to an item
module _ (log : ℕ → Note) (item : ℕ) where
  unfoldable moves_to : ℕ → Bool
  moves_to s = same (moved_to (log s).event) item

  pub first_move_zero : first_move log 0 item ≡ 0
  unfolding first_move moves_to
  first_move_zero = earliest_zero moves_to

  pub first_move_le : (k : ℕ) → first_move log k item ≤ k
  unfolding first_move moves_to
  first_move_le k = earliest_le moves_to k

  pub first_move_unless : (k : ℕ) → moved_to (log (suc k)).event ≢ item → first_move log (suc k) item ≡ first_move log k item
  unfolding first_move moves_to
  first_move_unless k n = earliest_kept moves_to k (unequal_same n)

  pub first_move_new : (k : ℕ) → (log (suc k)).event ≡ Moved item → first_move log k item ≡ 0 → first_move log (suc k) item ≡ suc k
  unfolding first_move moves_to moved_to
  first_move_new k e z = earliest_new moves_to k z (equal_same (ap moved_to e))

  -- no step that moved to it is before it
  pub first_move_least : (k s : ℕ) → (log s).event ≡ Moved item → 1 ≤ s → s ≤ k → (first_move log k item ≢ 0) × (first_move log k item ≤ s)
  unfolding first_move moves_to moved_to
  first_move_least k s e low high = earliest_least moves_to k s (equal_same (ap moved_to e)) low high

  -- a step that is before it stays before it
  pub first_move_later : (k s : ℕ) → s ≤ k → (first_move log k item ≢ 0 → s < first_move log k item) → first_move log (suc k) item ≢ 0 → s < first_move log (suc k) item
  unfolding first_move moves_to
  first_move_later k s low h n = earliest_later moves_to k s low h n

  pub first_move_stays : (k l : ℕ) → k ≤ l → first_move log k item ≢ 0 → first_move log l item ≡ first_move log k item
  unfolding first_move moves_to
  first_move_stays k l later n = earliest_stays moves_to k l later n

-- the drop of an operation
module _ (j : Job) (o : ℕ) where
  unfoldable drops_it : ℕ → Bool
  drops_it s = same (dropped j s) o

  pub drop_zero : drop j 0 o ≡ 0
  unfolding drop drops_it
  drop_zero = earliest_zero drops_it

  pub drop_le : (k : ℕ) → drop j k o ≤ k
  unfolding drop drops_it
  drop_le k = earliest_le drops_it k

  pub drop_other : (k : ℕ) → dropped j (suc k) ≢ o → drop j (suc k) o ≡ drop j k o
  unfolding drop drops_it
  drop_other k n = earliest_kept drops_it k (unequal_same n)

  pub drop_new : (k : ℕ) → dropped j (suc k) ≡ o → drop j k o ≡ 0 → drop j (suc k) o ≡ suc k
  unfolding drop drops_it
  drop_new k e z = earliest_new drops_it k z (equal_same e)

  -- it is the step that drops it
  pub drop_drops : (k : ℕ) → drop j k o ≢ 0 → dropped j (drop j k o) ≡ o
  unfolding drop drops_it
  drop_drops k n = same_equal (earliest_meets drops_it k n)
