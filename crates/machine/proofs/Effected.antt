-- An effect by its cases, where the line of takers stands, and the line at a step as the effect there of the operation that made it. Proofs go
-- by these and never open `effect` or `line_at`. Assumes nothing.
use mathlib.Core.Path.{◌≡◌, refl, sym, ap, subst, ◌∙◌}
use mathlib.Core.Logic.{◌≢◌, ◌⊎◌, inl, inr}
use Prim.Native.Nat.{ℕ, ◌≤◌}
use mathlib.Core.Bool.{true, false, not, true≢false, and-eq-true_iff}
use mathlib.Core.List.{[], ◌∷◌, Memᴰ}
use native.Mathlib.Omega.{arith}
use Rattle.basics.specs.Choice.{same}
use Rattle.basics.proofs.Choice.{pick_then, pick_else, same_equal, equal_same, unequal_same, split}
use Rattle.job.specs.declared.Kind.{Kind}
use Rattle.machine.specs.declared.Event.{Event}
use Rattle.machine.specs.declared.Event.TheVariants.{Quiet, Round, Linked, Moved, Late, Raised}
use Rattle.machine.specs.Multiplicity.{Line}
use Rattle.machine.specs.Multiplicity.Line.{put, takes, empty}
use Rattle.machine.specs.Notes.{Answer, Note}
use Rattle.machine.specs.Journal.{is_round, is_linked, moved_to, made, begins_round, links, answer, start, link, taken}
use Rattle.machine.specs.Effects.{Effect, numbers, takers, first_move, latest_start, Rule, rule, stands_by, takes_at, is_empty, effect}
use Rattle.machine.specs.Effects.Rule.{by_move, by_round}
use Rattle.machine.specs.Effects.Effect.{none, stands}
use Rattle.machine.specs.Record.{if_at, line_at}
use Rattle.machine.specs.Explained.{IsOperation}
use Rattle.machine.proofs.Lists.{sift_in, sift_out, numbers_in, numbers_out}
use Rattle.machine.proofs.Searches.{earliest_meets, latest_meets, largest_attained}

-- an event at which no line stands
pub data Lineless : Event → Type 0 where
  quiet : Lineless Quiet
  late : {n : ℕ} → Lineless (Late n)
  raised : {t : ℕ} → Lineless (Raised t)

-- an operation that took an item is among its takers, and they are all
pub taker_in : (log : ℕ → Note) (count k o item : ℕ) → IsOperation count o → taken log k o ≡ item → Memᴰ o (takers log count k item)
unfolding takers
taker_in log count k o item op e = sift_in (λ o. same (taken log k o) item) (numbers_in (count) op.from_one op.to_count) (equal_same e)

pub taker_out : (log : ℕ → Note) (count k o item : ℕ) → Memᴰ o (takers log count k item) → IsOperation count o × (taken log k o ≡ item)
unfolding takers
taker_out log count k o item m =
    let kept : Memᴰ o (numbers (count)) × (same (taken log k o) item ≡ true) = sift_out (λ o. same (taken log k o) item) (numbers (count)) m in
    let range : (1 ≤ o) × (o ≤ count) = numbers_out (count) kept.0 in
    (record { from_one = range.0; to_count = range.1 }, same_equal kept.1)

-- the cases of an operation's effect
pub data Effected (kind : Kind) (log : ℕ → Note) (count k o : ℕ) : Type 0 where
  by_put : link log k o ≢ 0 → effect kind log count k o ≡ stands (link log k o) (put o) → Effected kind log count k o
  by_take : link log k o ≡ 0 → taken log k o ≢ 0 → effect kind log count k o ≡ stands (takes_at kind log count k (taken log k o)) (takes (taken log k o) (takers log count k (taken log k o))) → Effected kind log count k o
  by_empty : link log k o ≡ 0 → taken log k o ≡ 0 → answer log k o ≡ Answer.empty → effect kind log count k o ≡ stands (start log k o) (empty o) → Effected kind log count k o
  by_none : link log k o ≡ 0 → taken log k o ≡ 0 → answer log k o ≢ Answer.empty → effect kind log count k o ≡ none → Effected kind log count k o

pub found_empty : (a : Answer) → (a ≡ Answer.empty) ⊎ ((a ≢ Answer.empty) × (is_empty a ≡ false))
unfolding is_empty
found_empty Answer.none = inr (λ e. (let z : ◌≡◌ {A = ℕ} 0 1 = cc in omega arith), refl)
found_empty Answer.done = inr (λ e. (let z : ◌≡◌ {A = ℕ} 0 1 = cc in omega arith), refl)
found_empty (Answer.item n) = inr (λ e. (let z : ◌≡◌ {A = ℕ} 0 1 = cc in omega arith), refl)
found_empty Answer.empty = inl refl

pub effected : (kind : Kind) (log : ℕ → Note) (count k o : ℕ) → Effected kind log count k o
unfolding effect is_empty
effected kind log count k o = go (split (link log k o) 0) (split (taken log k o) 0) (found_empty (answer log k o))
  where
    go : (link log k o ≡ 0) ⊎ (link log k o ≢ 0) → (taken log k o ≡ 0) ⊎ (taken log k o ≢ 0) → (answer log k o ≡ Answer.empty) ⊎ ((answer log k o ≢ Answer.empty) × (is_empty (answer log k o) ≡ false)) → Effected kind log count k o
    go (inr l) t a = by_put l (pick_then _ _ (ap not (unequal_same l)))
    go (inl l) (inr t) a = by_take l t (pick_else _ _ (ap not (equal_same l)) ∙ pick_then _ _ (ap not (unequal_same t)))
    go (inl l) (inl t) (inl a) = by_empty l t a (pick_else _ _ (ap not (equal_same l)) ∙ pick_else _ _ (ap not (equal_same t)) ∙ pick_then _ _ (ap is_empty a))
    go (inl l) (inl t) (inr a) = by_none l t a.0 (pick_else _ _ (ap not (equal_same l)) ∙ pick_else _ _ (ap not (equal_same t)) ∙ pick_else _ _ a.1)

-- an event by its test
pub linked_event : (e : Event) → is_linked e ≡ true → e ≡ Linked
unfolding is_linked
linked_event Quiet t = absurd (true≢false (sym t))
linked_event Round t = absurd (true≢false (sym t))
linked_event Linked t = refl
linked_event (Moved n) t = absurd (true≢false (sym t))
linked_event (Late n) t = absurd (true≢false (sym t))
linked_event (Raised n) t = absurd (true≢false (sym t))

pub round_event : (e : Event) → is_round e ≡ true → e ≡ Round
unfolding is_round
round_event Quiet t = absurd (true≢false (sym t))
round_event Round t = refl
round_event Linked t = absurd (true≢false (sym t))
round_event (Moved n) t = absurd (true≢false (sym t))
round_event (Late n) t = absurd (true≢false (sym t))
round_event (Raised n) t = absurd (true≢false (sym t))

moved_event : (e : Event) (n : ℕ) → moved_to e ≡ n → n ≢ 0 → e ≡ Moved n
unfolding moved_to
moved_event Quiet n t some = absurd (some (sym t))
moved_event Round n t some = absurd (some (sym t))
moved_event Linked n t some = absurd (some (sym t))
moved_event (Moved m) n t some = ap Moved t
moved_event (Late m) n t some = absurd (some (sym t))
moved_event (Raised m) n t some = absurd (some (sym t))

-- a step of an operation, and what it was
pub record MadeStep (log : ℕ → Note) (s o : ℕ) (e : Event) : Type 0 where
  pub by : (log s).by ≡ o
  pub event : (log s).event ≡ e

pub link_step : (log : ℕ → Note) (k o : ℕ) → link log k o ≢ 0 → MadeStep log (link log k o) o Linked
unfolding link links made
link_step log k o some =
    let s : ℕ = link log k o in
    let t : (same (log s).by o ≡ true) × (is_linked (log s).event ≡ true) = (and-eq-true_iff (same (log s).by o) (is_linked (log s).event)).0 (earliest_meets (links log o) k some) in
    record { by = same_equal t.0; event = linked_event (log s).event t.1 }

pub start_step : (log : ℕ → Note) (k o : ℕ) → start log k o ≢ 0 → MadeStep log (start log k o) o Round
unfolding start begins_round made
start_step log k o some =
    let s : ℕ = start log k o in
    let t : (same (log s).by o ≡ true) × (is_round (log s).event ≡ true) = (and-eq-true_iff (same (log s).by o) (is_round (log s).event)).0 (latest_meets (begins_round log o) k some) in
    record { by = same_equal t.0; event = round_event (log s).event t.1 }

-- Head moved to an item at the first step that did it
pub first_move_event : (log : ℕ → Note) (k n : ℕ) → n ≢ 0 → first_move log k n ≢ 0 → (log (first_move log k n)).event ≡ Moved n
unfolding first_move
first_move_event log k n some found = moved_event (log (first_move log k n)).event n (same_equal (earliest_meets (λ s. same (moved_to (log s).event) n) k found)) some

-- the latest last round of an item's takers is a taker's
latest_start_step : (log : ℕ → Note) (count k item : ℕ) → latest_start log count k item ≢ 0 → (o : ℕ) × Memᴰ o (takers log count k item) × MadeStep log (latest_start log count k item) o Round
unfolding latest_start
latest_start_step log count k item found =
    let a : (o : ℕ) × Memᴰ o (takers log count k item) × (start log k o ≡ latest_start log count k item) = largest_attained (start log k) (takers log count k item) found in
    (a.0, a.1, subst (λ s. MadeStep log s a.0 Round) a.2 (start_step log k a.0 (λ z. found (sym a.2 ∙ z))))

-- a line stands at a step if it is the effect there of the operation that made the step
pub line_of_effect : (kind : Kind) (log : ℕ → Note) (count k s : ℕ) (line : Line) → effect kind log count k (log s).by ≡ stands s line → line_at kind log count k s ≡ record { step = s; line = line } ∷ []
unfolding line_at if_at
line_of_effect kind log count k s line e = ap (if_at s) e ∙ pick_then _ _ (equal_same refl)

pub line_without_effect : (kind : Kind) (log : ℕ → Note) (count k s : ℕ) → ((line : Line) → effect kind log count k (log s).by ≡ stands s line → ⊥) → line_at kind log count k s ≡ []
unfolding line_at if_at
line_without_effect kind log count k s no_effect = go (effect kind log count k (log s).by) refl
  where
    go : (e : Effect) → effect kind log count k (log s).by ≡ e → if_at s e ≡ []
    go none h = refl
    go (stands at line) h = pick_else _ _ (unequal_same (λ e. no_effect line (h ∙ ap (λ a. stands a line) e)))

-- an event at which a line stands, by the sort of line
pub data Lined (kind : Kind) (log : ℕ → Note) (count k s o : ℕ) : Type 0 where
  at_link : (log s).event ≡ Linked → Lined kind log count k s o
  at_move : (n : ℕ) → rule kind ≡ by_move → (log s).event ≡ Moved n → Lined kind log count k s o
  at_top : rule kind ≡ by_round → taken log k o ≢ 0 → latest_start log count k (taken log k o) ≡ s → (log s).event ≡ Round → Lined kind log count k s o
  at_empty : answer log k o ≡ Answer.empty → start log k o ≡ s → (log s).event ≡ Round → Lined kind log count k s o

pub lined : (kind : Kind) (log : ℕ → Note) (count k s o : ℕ) (line : Line) → 1 ≤ s → effect kind log count k o ≡ stands s line → Lined kind log count k s o
unfolding takes_at
lined kind log count k s o line low e = go (effected kind log count k o)
  where
    at : {t : ℕ} {l : Line} → effect kind log count k o ≡ stands t l → t ≡ s
    at h = cc

    some : {t : ℕ} → t ≡ s → t ≢ 0
    some h z = omega arith

    of_takers : (r : Rule) → rule kind ≡ r → taken log k o ≢ 0 → stands_by r log count k (taken log k o) ≡ s → Lined kind log count k s o
    of_takers by_move q t h = at_move (taken log k o) q (subst (λ a. (log a).event ≡ Moved (taken log k o)) h (first_move_event log k (taken log k o) t (some h)))
    of_takers by_round q t h = at_top q t h (subst (λ a. (log a).event ≡ Round) h (latest_start_step log count k (taken log k o) (some h)).2.event)

    go : Effected kind log count k o → Lined kind log count k s o
    go (by_put l h) = at_link (subst (λ a. (log a).event ≡ Linked) (at h) (link_step log k o l).event)
    go (by_take l t h) = of_takers (rule kind) refl t (at h)
    go (by_empty l t a h) = at_empty a (at h) (subst (λ a. (log a).event ≡ Round) (at h) (start_step log k o (some (at h))).event)
    go (by_none l t a h) = let z : ◌≡◌ {A = ℕ} 0 1 = cc in absurd (omega arith)

pub effect_of_put : (kind : Kind) (log : ℕ → Note) (count k o : ℕ) → link log k o ≢ 0 → effect kind log count k o ≡ stands (link log k o) (put o)
effect_of_put kind log count k o some = go (effected kind log count k o)
  where
    go : Effected kind log count k o → effect kind log count k o ≡ stands (link log k o) (put o)
    go (by_put l h) = h
    go (by_take l t h) = absurd (some l)
    go (by_empty l t a h) = absurd (some l)
    go (by_none l t a h) = absurd (some l)

-- an event at which a line may stand
pub data MayLine : Event → Type 0 where
  linked : MayLine Linked
  moved : {n : ℕ} → MayLine (Moved n)
  round : MayLine Round

lined_event : (kind : Kind) (log : ℕ → Note) (count k s o : ℕ) → Lined kind log count k s o → MayLine (log s).event
lined_event kind log count k s o (at_link e) = subst MayLine (sym e) linked
lined_event kind log count k s o (at_move n q e) = subst MayLine (sym e) moved
lined_event kind log count k s o (at_top q t h e) = subst MayLine (sym e) round
lined_event kind log count k s o (at_empty a h e) = subst MayLine (sym e) round

-- an effect stands at such an event
pub effect_event : (kind : Kind) (log : ℕ → Note) (count k s o : ℕ) (line : Line) → 1 ≤ s → effect kind log count k o ≡ stands s line → MayLine (log s).event
effect_event kind log count k s o line low e = lined_event kind log count k s o (lined kind log count k s o line low e)

lineless_no_line : {e : Event} → Lineless e → MayLine e → ⊥
lineless_no_line quiet m = elim m [ ]
lineless_no_line late m = elim m [ ]
lineless_no_line raised m = elim m [ ]

-- the two sorts of line at a round
pub data RoundLine (kind : Kind) (log : ℕ → Note) (count k s o : ℕ) : Type 0 where
  top : rule kind ≡ by_round → taken log k o ≢ 0 → latest_start log count k (taken log k o) ≡ s → RoundLine kind log count k s o
  bare : answer log k o ≡ Answer.empty → start log k o ≡ s → RoundLine kind log count k s o

pub lined_round : (kind : Kind) (log : ℕ → Note) (count k s o : ℕ) → (log s).event ≡ Round → Lined kind log count k s o → RoundLine kind log count k s o
lined_round kind log count k s o r (at_link e) = let z : ◌≡◌ {A = ℕ} 0 1 = cc in absurd (omega arith)
lined_round kind log count k s o r (at_move n q e) = let z : ◌≡◌ {A = ℕ} 0 1 = cc in absurd (omega arith)
lined_round kind log count k s o r (at_top q t h e) = top q t h
lined_round kind log count k s o r (at_empty a h e) = bare a h

-- no line stands at an event at which none may
pub line_of_none : (kind : Kind) (log : ℕ → Note) (count k s : ℕ) → 1 ≤ s → Lineless (log s).event → line_at kind log count k s ≡ []
line_of_none kind log count k s low e = line_without_effect kind log count k s (λ line h. lineless_no_line e (effect_event kind log count k s (log s).by line low h))
