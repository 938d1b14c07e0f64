-- What an operation did in the first k steps: its first and last step, its answer, its rounds, its link and the item that it took.
-- Document 01, "The steps": "First and last are an operation's first and ending step." Each is a search over what the steps were: `log`
-- gives the note of each step. Whose run it is, and by which schedule, does not matter here. Step number 0 stands for none.
use Rattle.std.specs.Prelude.{ℕ, zero, suc, Bool, true, false, not, ◌&&◌}
use Rattle.basics.specs.Choice.{pick, same}
use Rattle.machine.specs.declared.Event.{Event}
use Rattle.machine.specs.declared.Event.TheVariants.{Quiet, Round, Linked, Moved, Late, Raised}
use Rattle.machine.specs.Notes.{Answer, Note, is_answer}

-- does a take begin a round: T1, R1 or W2?
unfoldable pub is_round : Event → Bool
is_round Quiet = false
is_round Round = true
is_round Linked = false
is_round (Moved n) = false
is_round (Late n) = false
is_round (Raised t) = false

-- is it a changing Q3, P3 or V4?
unfoldable pub is_linked : Event → Bool
is_linked Quiet = false
is_linked Round = false
is_linked Linked = true
is_linked (Moved n) = false
is_linked (Late n) = false
is_linked (Raised t) = false

-- the item of a T5, of an R3 or of a W4 that found no upper, 0 for every other step
unfoldable pub item_of : Event → ℕ
item_of Quiet = 0
item_of Round = 0
item_of Linked = 0
item_of (Moved n) = n
item_of (Late n) = n
item_of (Raised t) = t

-- the item to which a T5 moved Head or whose flag a W4 cleared, 0 for every other step
unfoldable pub moved_to : Event → ℕ
moved_to Quiet = 0
moved_to Round = 0
moved_to Linked = 0
moved_to (Moved n) = n
moved_to (Late n) = 0
moved_to (Raised t) = 0

-- the earliest of the steps 1 to k that meets a test, 0 if none does
unfoldable pub earliest : (ℕ → Bool) → ℕ → ℕ
earliest f zero = 0
earliest f (suc k) =
    let e : ℕ = earliest f k in
    pick (same e 0) (pick (f (suc k)) (suc k) 0) e

-- the latest of the steps 1 to k that meets a test, 0 if none does
unfoldable pub latest : (ℕ → Bool) → ℕ → ℕ
latest f zero = 0
latest f (suc k) =
    let e : ℕ = latest f k in
    pick (f (suc k)) (suc k) e

-- did operation o make step k?
unfoldable pub made : (ℕ → Note) → ℕ → ℕ → Bool
made log o k = same (log k).by o

-- did operation o begin a round at step k?
unfoldable pub begins_round : (ℕ → Note) → ℕ → ℕ → Bool
begins_round log o k = made log o k && is_round (log k).event

-- did operation o link its node at step k?
unfoldable pub links : (ℕ → Note) → ℕ → ℕ → Bool
links log o k = made log o k && is_linked (log k).event

-- did operation o run T5 or R3, or pass W4, at step k?
unfoldable pub joins : (ℕ → Note) → ℕ → ℕ → Bool
joins log o k = made log o k && not (same (item_of (log k).event) 0)

-- did operation o end at step k?
unfoldable pub ends : (ℕ → Note) → ℕ → ℕ → Bool
ends log o k = made log o k && is_answer (log k).answer

-- the first step of operation o among the first k, 0 if it has not begun
unfoldable pub first : (ℕ → Note) → ℕ → ℕ → ℕ
first log k o = earliest (made log o) k

-- the ending step of operation o among the first k, 0 if it has not ended
unfoldable pub last : (ℕ → Note) → ℕ → ℕ → ℕ
last log k o = earliest (ends log o) k

-- the answer of operation o after k steps
unfoldable pub answer : (ℕ → Note) → ℕ → ℕ → Answer
answer log k o = (log (last log k o)).answer

-- the last T1, R1 or W2 of operation o among the first k steps, 0 if there is none
unfoldable pub start : (ℕ → Note) → ℕ → ℕ → ℕ
start log k o = latest (begins_round log o) k

-- the changing Q3, P3 or V4 of operation o among the first k steps, 0 if there is none
unfoldable pub link : (ℕ → Note) → ℕ → ℕ → ℕ
link log k o = earliest (links log o) k

-- the T5 or R3 of operation o, or the W4 that it passed, among the first k steps, 0 if there is none
unfoldable pub join : (ℕ → Note) → ℕ → ℕ → ℕ
join log k o = earliest (joins log o) k

-- the item for which operation o ran T5 or R3 or passed W4, 0 if it did not
unfoldable pub taken : (ℕ → Note) → ℕ → ℕ → ℕ
taken log k o = item_of (log (join log k o)).event
