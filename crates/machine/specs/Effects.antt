-- Where an effect stands, which operations took effect, and which overlap. Document 01, "Where an effect stands". All of it is read off what
-- the steps were (`log`), the kind of the object and the number of operations (`count`).
use Rattle.std.specs.Prelude.{◌≢◌, ℕ, zero, suc, ◌<◌, max, Bool, true, false, not, ◌&&◌, ◌||◌, List, [], ◌∷◌, ◌++◌}
use Rattle.basics.specs.Choice.{pick, same}
use Rattle.job.specs.declared.Kind.{Kind}
use Rattle.job.specs.declared.Kind.TheVariants.{Queue, Stack, TwoWay}
use Rattle.machine.specs.Multiplicity.{Line}
use Rattle.machine.specs.Multiplicity.Line.{put, takes, empty}
use Rattle.machine.specs.Notes.{Answer, Note}
use Rattle.machine.specs.Journal.{moved_to, earliest, first, last, answer, start, link, join, taken}

-- the numbers 1 to n, ascending
unfoldable pub numbers : ℕ → List ℕ
numbers zero = []
numbers (suc n) = numbers n ++ (suc n ∷ [])

-- the members of a list that meet a test, in the list's order
unfoldable pub sift : (ℕ → Bool) → List ℕ → List ℕ
sift f [] = []
sift f (x ∷ l) = pick (f x) (x ∷ sift f l) (sift f l)

-- the largest of some numbers, 0 if there is none
unfoldable pub largest : (ℕ → ℕ) → List ℕ → ℕ
largest f [] = 0
largest f (x ∷ l) = max (f x) (largest f l)

-- "Members ran T5 for n." "Members ran R3 on t, ended or not." "members passed W4 on t, ended or not" "An item's takers are the members of its line", ascending
unfoldable pub takers : (ℕ → Note) → ℕ → ℕ → ℕ → List ℕ
takers log count k item = sift (λ o. same (taken log k o) item) (numbers count)

-- the first of k steps at which a T5 moved Head to an item, or a W4 cleared its flag
unfoldable pub first_move : (ℕ → Note) → ℕ → ℕ → ℕ
first_move log k item = earliest (λ s. same (moved_to (log s).event) item) k

-- the latest among the last R1 steps of an item's takers
unfoldable pub latest_start : (ℕ → Note) → ℕ → ℕ → ℕ → ℕ
latest_start log count k item = largest (start log k) (takers log count k item)

-- the two rules for where the one line of an item's takers stands
pub data Rule : Type 0 where
  by_move by_round : Rule

-- "Queue takes of item n: one line, at the first T5 that moved Head to n." "Stack takes of item t: one line. […] The line stands at the
-- latest among the members' last R1 steps, not at R3." Document 02, request 3: "for takers at the first W4 that cleared the flag"
abbrev pub rule : Kind → Rule
rule Queue = by_move
rule Stack = by_round
rule TwoWay = by_move

-- the step at which it stands, by the rule
abbrev pub stands_by : Rule → (ℕ → Note) → ℕ → ℕ → ℕ → ℕ
stands_by by_move log count k item = first_move log k item
stands_by by_round log count k item = latest_start log count k item

-- and by the object
unfoldable pub takes_at : Kind → (ℕ → Note) → ℕ → ℕ → ℕ → ℕ
takes_at kind log count k item = stands_by (rule kind) log count k item

-- an effect: none, or a line at a step
pub data Effect : Type 0 where
  none : Effect
  stands : ℕ → Line → Effect

unfoldable pub is_empty : Answer → Bool
is_empty Answer.none = false
is_empty Answer.done = false
is_empty (Answer.item n) = false
is_empty Answer.empty = true

-- the effect of operation o in k steps. "Put: its changing Q3 or P3." "Empty: its last T1, or the R1 that read none." "Effects
-- stand at the changing V4, at W2 for empty". A take: the line of its item.
unfoldable pub effect : Kind → (ℕ → Note) → ℕ → ℕ → ℕ → Effect
effect kind log count k o =
    let of_take : Effect = Effect.stands (takes_at kind log count k (taken log k o)) (takes (taken log k o) (takers log count k (taken log k o))) in
    let of_empty : Effect = pick (is_empty (answer log k o)) (Effect.stands (start log k o) (empty o)) Effect.none in
    pick (not (same (link log k o) 0)) (Effect.stands (link log k o) (put o))
    (pick (not (same (taken log k o) 0)) of_take of_empty)

-- of an unanswered operation: "One that has not ended took effect exactly if it is a put whose changing step above was made, or a stack
-- take that is a member above"
unfoldable pub is_stack : Kind → Bool
is_stack Queue = false
is_stack Stack = true
is_stack TwoWay = true

unfoldable pub took_effect : Kind → (ℕ → Note) → ℕ → ℕ → Bool
took_effect kind log k o = not (same (link log k o) 0) || is_stack kind && not (same (join log k o) 0)

-- "one's last step precedes the other's first; an open one has no last"
pub record Precedes (log : ℕ → Note) (k o q : ℕ) : Type 0 where
  pub ended : last log k o ≢ 0
  pub earlier : last log k o < first log k q

-- "Two operations overlap unless one's last step precedes the other's first"
pub record Overlap (log : ℕ → Note) (k o q : ℕ) : Type 0 where
  pub not_before : Precedes log k o q → ⊥
  pub not_after : Precedes log k q o → ⊥
