-- What the general theory knows of an operation and of a step: in which phase an operation is, and which moves lead from one to another. An
-- object maps its rows to phases and its turns to moves; nothing above knows its rows. Assumes nothing.
use mathlib.Core.Path.{◌≡◌, refl, sym, ◌∙◌}
use mathlib.Core.Logic.{◌≢◌}
use Prim.Native.Nat.{ℕ}
use mathlib.Core.Bool.{Bool, true, false, true≢false}
use Rattle.job.specs.declared.Kind.{Kind}
use Rattle.machine.specs.declared.Event.{Event}
use Rattle.machine.specs.declared.Event.TheVariants.{Quiet, Round, Linked, Moved, Late, Raised}
use Rattle.machine.specs.Notes.{Answer}
use Rattle.machine.specs.Journal.{is_linked, is_round, item_of}
use Rattle.machine.specs.Effects.{is_stack, Rule, rule}
use Rattle.machine.specs.Effects.Rule.{by_move, by_round}

pub data Phase : Type 0 where
  -- neither linked, nor in a round, nor ended; a put or a take
  going : Bool → Phase
  -- a take in a round
  in_round : Phase
  -- a put that has linked its node and goes on
  linked : Phase
  -- a take that has joined the takers of an item and goes on
  joined : ℕ → Phase
  -- ended: with done, with an item, with empty
  done : Phase
  got : ℕ → Phase
  bare : Phase

-- is it a put's?
abbrev pub puts : Phase → Bool
puts (going put) = put
puts in_round = false
puts linked = true
puts (joined n) = false
puts done = true
puts (got n) = false
puts bare = false

-- has it not ended?
abbrev pub Open : Phase → Type 0
Open (going put) = Unit {0}
Open in_round = Unit {0}
Open linked = Unit {0}
Open (joined n) = Unit {0}
Open done = ⊥
Open (got n) = ⊥
Open bare = ⊥

-- the event of a take that joins the takers of item n, by the rule for where their line stands
pub data JoinEvent : Rule → Event → ℕ → Type 0 where
  moved : {n : ℕ} → JoinEvent by_move (Moved n) n
  late : {n : ℕ} → JoinEvent by_move (Late n) n
  raised : {n : ℕ} → JoinEvent by_round (Raised n) n

-- a step of an operation: its phase before and after, the event and the answer
pub data Move (kind : Kind) : Phase → Event → Answer → Phase → Type 0 where
  -- a step that the record does not tell
  quiet : {p : Phase} → Open p → Move kind p Quiet Answer.none p
  -- a take begins a round, or gives its round up
  begins : Move kind (going false) Round Answer.none in_round
  gives_up : Move kind in_round Quiet Answer.none (going false)
  -- a put links, and ends by that or later
  links : Move kind (going true) Linked Answer.none linked
  links_last : Move kind (going true) Linked Answer.done done
  ends_put : Move kind linked Quiet Answer.done done
  -- a take joins, and ends by that or later; only on a stack can it stay open behind that
  joins : {e : Event} {n : ℕ} → is_stack kind ≡ true → JoinEvent (rule kind) e n → n ≢ 0 → Move kind in_round e Answer.none (joined n)
  joins_last : {e : Event} {n : ℕ} → JoinEvent (rule kind) e n → Move kind in_round e (Answer.item n) (got n)
  ends_take : {n : ℕ} → Move kind (joined n) Quiet (Answer.item n) (got n)
  -- a take finds nothing, in its round or as it begins it
  finds_none : Move kind in_round Quiet Answer.empty bare
  begins_bare : Move kind (going false) Round Answer.empty bare

pub move_puts : {kind : Kind} {p q : Phase} {e : Event} {a : Answer} → Move kind p e a q → puts q ≡ puts p
move_puts (quiet x) = refl
move_puts begins = refl
move_puts gives_up = refl
move_puts links = refl
move_puts links_last = refl
move_puts ends_put = refl
move_puts (joins s j n) = refl
move_puts (joins_last j) = refl
move_puts ends_take = refl
move_puts finds_none = refl
move_puts begins_bare = refl

-- the item of an event by which a take joins
pub joining_item : {r : Rule} {e : Event} {n : ℕ} → JoinEvent r e n → item_of e ≡ n
unfolding item_of
joining_item moved = refl
joining_item late = refl
joining_item raised = refl

pub joining_links : {r : Rule} {e : Event} {n : ℕ} → JoinEvent r e n → is_linked e ≡ false
unfolding is_linked
joining_links moved = refl
joining_links late = refl
joining_links raised = refl

pub joining_begins : {r : Rule} {e : Event} {n : ℕ} → JoinEvent r e n → is_round e ≡ false
unfolding is_round
joining_begins moved = refl
joining_begins late = refl
joining_begins raised = refl

-- a move that links is a put's, and one that takes an item is a take's
pub link_puts : {kind : Kind} {p q : Phase} {e : Event} {a : Answer} → Move kind p e a q → is_linked e ≡ true → puts p ≡ true
unfolding is_linked
link_puts (quiet x) is = absurd (true≢false (sym is))
link_puts begins is = absurd (true≢false (sym is))
link_puts gives_up is = absurd (true≢false (sym is))
link_puts links is = refl
link_puts links_last is = refl
link_puts ends_put is = absurd (true≢false (sym is))
link_puts (joins s j n) is = absurd (true≢false (sym is ∙ joining_links j))
link_puts (joins_last j) is = absurd (true≢false (sym is ∙ joining_links j))
link_puts ends_take is = absurd (true≢false (sym is))
link_puts finds_none is = absurd (true≢false (sym is))
link_puts begins_bare is = absurd (true≢false (sym is))

pub join_takes : {kind : Kind} {p q : Phase} {e : Event} {a : Answer} → Move kind p e a q → item_of e ≢ 0 → puts p ≡ false
unfolding item_of
join_takes (quiet x) some = absurd (some refl)
join_takes begins some = refl
join_takes gives_up some = refl
join_takes links some = absurd (some refl)
join_takes links_last some = absurd (some refl)
join_takes ends_put some = absurd (some refl)
join_takes (joins s j n) some = refl
join_takes (joins_last j) some = refl
join_takes ends_take some = refl
join_takes finds_none some = refl
join_takes begins_bare some = refl
