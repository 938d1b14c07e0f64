-- What an operation did, and by its phase what it has done; how a step of its own changes that. Assumes nothing.
use mathlib.Core.Path.{◌≡◌, refl, sym, ap, subst, ◌∙◌}
use mathlib.Core.Logic.{◌≢◌, ◌⊎◌, inl, inr}
use Prim.Native.Nat.{ℕ, suc}
use mathlib.Core.Bool.{true, false, true≢false}
use native.Mathlib.Omega.{arith}
use Rattle.basics.proofs.Choice.{split}
use Rattle.job.specs.declared.Kind.{Kind}
use Rattle.machine.specs.declared.Event.{Event}
use Rattle.machine.specs.declared.Event.TheVariants.{Quiet, Round, Linked}
use Rattle.machine.specs.Notes.{Answer, Note, is_answer, idle}
use Rattle.machine.specs.Journal.{is_round, is_linked, item_of, last, answer, start, link, join, taken}
use Rattle.machine.specs.Effects.{is_stack}
use Rattle.machine.proofs.Stamps.{link_zero, join_zero, last_zero, taken_none, answer_none, link_other, join_other, taken_other, start_other, last_other, answer_other, link_unless, join_unless, taken_unless, start_unless, last_unless, answer_unless, link_new, join_new, taken_new, start_new, last_new, answer_new}
use Rattle.theory.proofs.Phases.{Phase, Open, Move, joining_item, joining_links, joining_begins}
use Rattle.theory.proofs.Phases.Phase.{going, in_round, linked, joined, done, got, bare}
use Rattle.theory.proofs.Phases.Move.{quiet, begins, gives_up, links, links_last, ends_put, joins, joins_last, ends_take, finds_none, begins_bare}

-- what an operation did, as numbers of steps (0: not): its link, its joining step, the item of that, its last round, its end; and its answer
pub record Deeds : Type 0 where
  pub link : ℕ
  pub join : ℕ
  pub taken : ℕ
  pub start : ℕ
  pub last : ℕ
  pub answer : Answer

unfoldable pub deeds : (ℕ → Note) → ℕ → ℕ → Deeds
deeds log k o =
    record {
      link = link log k o;
      join = join log k o;
      taken = taken log k o;
      start = start log k o;
      last = last log k o;
      answer = answer log k o;
    }

-- neither linked nor joined nor ended
pub record Going (d : Deeds) : Type 0 where
  pub no_link : d.link ≡ 0
  pub no_join : d.join ≡ 0
  pub not_taken : d.taken ≡ 0
  pub no_last : d.last ≡ 0
  pub no_answer : d.answer ≡ Answer.none

-- going, and in a round
pub record InRound (d : Deeds) : Type 0 where
  pub going : Going d
  pub started : d.start ≢ 0

pub record HasLinked (d : Deeds) : Type 0 where
  pub linked : d.link ≢ 0
  pub no_join : d.join ≡ 0
  pub not_taken : d.taken ≡ 0

pub record HasJoined (item : ℕ) (d : Deeds) : Type 0 where
  pub no_link : d.link ≡ 0
  pub joined : d.join ≢ 0
  pub took : d.taken ≡ item
  pub some_item : item ≢ 0
  pub started : d.start ≢ 0

pub record EndedWith (a : Answer) (d : Deeds) : Type 0 where
  pub has_ended : d.last ≢ 0
  pub answered : d.answer ≡ a

pub record NotEnded (d : Deeds) : Type 0 where
  pub no_last : d.last ≡ 0
  pub no_answer : d.answer ≡ Answer.none

-- a take that ended with n; where n is no node, nothing was taken (every object excludes it)
pub record TookN (n : ℕ) (d : Deeds) : Type 0 where
  pub no_link : d.link ≡ 0
  pub took : d.taken ≡ n
  pub started : d.start ≢ 0
  pub joined : n ≢ 0 → d.join ≢ 0

pub record FoundEmpty (d : Deeds) : Type 0 where
  pub no_link : d.link ≡ 0
  pub no_join : d.join ≡ 0
  pub not_taken : d.taken ≡ 0
  pub started : d.start ≢ 0

-- by its phase, what an operation has done
abbrev pub Did : Kind → Phase → Deeds → Type 0
Did kind (going put) d = Going d
Did kind in_round d = InRound d
Did kind linked d = HasLinked d × NotEnded d
Did kind (joined n) d = (is_stack kind ≡ true) × HasJoined n d × NotEnded d
Did kind done d = HasLinked d × EndedWith Answer.done d
Did kind (got n) d = TookN n d × EndedWith (Answer.item n) d
Did kind bare d = FoundEmpty d × EndedWith Answer.empty d

-- the deeds before and after step k + 1, which the operation itself made, by the step's event and answer
pub record After (k : ℕ) (e : Event) (a : Answer) (d d' : Deeds) : Type 0 where
  pub link_kept : is_linked e ≡ false → d'.link ≡ d.link
  pub link_made : e ≡ Linked → d.link ≡ 0 → d'.link ≡ suc k
  pub join_kept : item_of e ≡ 0 → d'.join ≡ d.join
  pub join_made : item_of e ≢ 0 → d.join ≡ 0 → d'.join ≡ suc k
  pub taken_kept : item_of e ≡ 0 → d'.taken ≡ d.taken
  pub taken_made : item_of e ≢ 0 → d.join ≡ 0 → d'.taken ≡ item_of e
  pub start_kept : is_round e ≡ false → d'.start ≡ d.start
  pub start_made : e ≡ Round → d'.start ≡ suc k
  pub last_kept : is_answer a ≡ false → d'.last ≡ d.last
  pub last_made : is_answer a ≡ true → d.last ≡ 0 → d'.last ≡ suc k
  pub answer_kept : is_answer a ≡ false → d'.answer ≡ d.answer
  pub answer_made : is_answer a ≡ true → d.last ≡ 0 → d'.answer ≡ a

module _ (log : ℕ → Note) (k o : ℕ) where
  pub deeds_after : (log (suc k)).by ≡ o → After k (log (suc k)).event (log (suc k)).answer (deeds log k o) (deeds log (suc k) o)
  unfolding deeds
  deeds_after own =
      record {
        link_kept = link_unless log k o;
        link_made = link_new log k o own;
        join_kept = join_unless log k o;
        join_made = join_new log k o own;
        taken_kept = taken_unless log k o;
        taken_made = taken_new log k o own;
        start_kept = start_unless log k o;
        start_made = start_new log k o own;
        last_kept = last_unless log k o;
        last_made = last_new log k o own;
        answer_kept = answer_unless log k o;
        answer_made = answer_new log k o own;
      }

  -- a step of another changes nothing
  pub deeds_other : (log (suc k)).by ≢ o → deeds log (suc k) o ≡ deeds log k o
  unfolding deeds
  deeds_other n = λ i.
      record {
        link = link_other log k o n i;
        join = join_other log k o n i;
        taken = taken_other log k o n i;
        start = start_other log k o n i;
        last = last_other log k o n i;
        answer = answer_other log k o n i;
      }

pub deeds_zero : (log : ℕ → Note) → log 0 ≡ idle → (o : ℕ) → Going (deeds log 0 o)
unfolding deeds
deeds_zero log start o =
    record {
      no_link = link_zero log o;
      no_join = join_zero log o;
      not_taken = taken_none log o start 0 (join_zero log o);
      no_last = last_zero log o;
      no_answer = answer_none log o start 0 (last_zero log o);
    }

-- a stamp of a step that was made
stamped : {x k : ℕ} → x ≡ suc k → x ≢ 0
stamped e z = let c : suc _ ≡ 0 = sym e ∙ z in omega arith

module _ {k : ℕ} {e : Event} {a : Answer} {d d' : Deeds} (f : After k e a d d') where
  -- a step that neither links nor joins nor ends
  goes_on : is_linked e ≡ false → item_of e ≡ 0 → is_answer a ≡ false → Going d → Going d'
  goes_on l i n g =
      record {
        no_link = f.link_kept l ∙ g.no_link;
        no_join = f.join_kept i ∙ g.no_join;
        not_taken = f.taken_kept i ∙ g.not_taken;
        no_last = f.last_kept n ∙ g.no_last;
        no_answer = f.answer_kept n ∙ g.no_answer;
      }

  stays_started : is_round e ≡ false → d.start ≢ 0 → d'.start ≢ 0
  stays_started r n z = n (sym (f.start_kept r) ∙ z)

  round_goes_on : is_linked e ≡ false → item_of e ≡ 0 → is_answer a ≡ false → is_round e ≡ false → InRound d → InRound d'
  round_goes_on l i n r g = record { going = goes_on l i n g.going; started = stays_started r g.started }

  round_begins : e ≡ Round → is_linked e ≡ false → item_of e ≡ 0 → is_answer a ≡ false → Going d → InRound d'
  round_begins r l i n g = record { going = goes_on l i n g; started = stamped (f.start_made r) }

  -- a step that does not end, and one that does
  not_ended : is_answer a ≡ false → NotEnded d → NotEnded d'
  not_ended n h = record { no_last = f.last_kept n ∙ h.no_last; no_answer = f.answer_kept n ∙ h.no_answer }

  ends_now : is_answer a ≡ true → d.last ≡ 0 → EndedWith a d'
  ends_now y z = record { has_ended = stamped (f.last_made y z); answered = f.answer_made y z }

  -- a step that links, and one after it
  links_now : e ≡ Linked → item_of e ≡ 0 → Going d → HasLinked d'
  links_now l i g =
      record {
        linked = stamped (f.link_made l g.no_link);
        no_join = f.join_kept i ∙ g.no_join;
        not_taken = f.taken_kept i ∙ g.not_taken;
      }

  stays_linked : is_linked e ≡ false → item_of e ≡ 0 → HasLinked d → HasLinked d'
  stays_linked l i h =
      record {
        linked = λ z. h.linked (sym (f.link_kept l) ∙ z);
        no_join = f.join_kept i ∙ h.no_join;
        not_taken = f.taken_kept i ∙ h.not_taken;
      }

  -- a step that joins, and one after it
  joins_now : item_of e ≢ 0 → is_linked e ≡ false → is_round e ≡ false → InRound d → HasJoined (item_of e) d'
  joins_now i l r g =
      record {
        no_link = f.link_kept l ∙ g.going.no_link;
        joined = stamped (f.join_made i g.going.no_join);
        took = f.taken_made i g.going.no_join;
        some_item = i;
        started = stays_started r g.started;
      }

  stays_joined : {item : ℕ} → item_of e ≡ 0 → is_linked e ≡ false → is_round e ≡ false → HasJoined item d → HasJoined item d'
  stays_joined i l r h =
      record {
        no_link = f.link_kept l ∙ h.no_link;
        joined = λ z. h.joined (sym (f.join_kept i) ∙ z);
        took = f.taken_kept i ∙ h.took;
        some_item = h.some_item;
        started = stays_started r h.started;
      }

  -- a step that joins and ends by that
  takes_now : is_linked e ≡ false → is_round e ≡ false → InRound d → TookN (item_of e) d'
  takes_now l r g = by_item (split (item_of e) 0)
    where
      by_item : (item_of e ≡ 0) ⊎ (item_of e ≢ 0) → TookN (item_of e) d'
      by_item (inl z) =
          record {
            no_link = f.link_kept l ∙ g.going.no_link;
            took = f.taken_kept z ∙ g.going.not_taken ∙ sym z;
            started = stays_started r g.started;
            joined = λ n. absurd (n z);
          }
      by_item (inr n) =
          let h : HasJoined (item_of e) d' = joins_now n l r g in
          record { no_link = h.no_link; took = h.took; started = h.started; joined = λ m. h.joined }

  -- a step that finds nothing
  finds_empty : is_linked e ≡ false → item_of e ≡ 0 → d'.start ≢ 0 → Going d → FoundEmpty d'
  finds_empty l i n g =
      record {
        no_link = f.link_kept l ∙ g.no_link;
        no_join = f.join_kept i ∙ g.no_join;
        not_taken = f.taken_kept i ∙ g.not_taken;
        started = n;
      }

  -- a step that does none of these
  quiet_goes_on : is_linked e ≡ false → item_of e ≡ 0 → is_answer a ≡ false → is_round e ≡ false → (kind : Kind) (p : Phase) → Open p → Did kind p d → Did kind p d'
  quiet_goes_on l i n r kind (going put) x g = goes_on l i n g
  quiet_goes_on l i n r kind in_round x g = round_goes_on l i n r g
  quiet_goes_on l i n r kind linked x g = (stays_linked l i g.0, not_ended n g.1)
  quiet_goes_on l i n r kind (joined item) x g = (g.0, stays_joined i l r g.1, not_ended n g.2)
  quiet_goes_on l i n r kind done x g = absurd x
  quiet_goes_on l i n r kind (got item) x g = absurd x
  quiet_goes_on l i n r kind bare x g = absurd x

not_ended_yet : {d : Deeds} → Going d → NotEnded d
not_ended_yet g = record { no_last = g.no_last; no_answer = g.no_answer }

took_of : {item : ℕ} {d : Deeds} → HasJoined item d → TookN item d
took_of h = record { no_link = h.no_link; took = h.took; started = h.started; joined = λ n. h.joined }

-- a move leads from what the phase before says to what the phase after says
pub move_does : {kind : Kind} {p q : Phase} {k : ℕ} {e : Event} {a : Answer} {d d' : Deeds} → After k e a d d' → Move kind p e a q → Did kind p d → Did kind q d'
unfolding is_linked item_of is_answer is_round
move_does {kind} f (quiet {p = p} x) g = quiet_goes_on f refl refl refl refl kind p x g
move_does f begins g = round_begins f refl refl refl refl g
move_does f gives_up g = goes_on f refl refl refl g.going
move_does f links g = (links_now f refl refl g, not_ended f refl (not_ended_yet g))
move_does f links_last g = (links_now f refl refl g, ends_now f refl g.no_last)
move_does f ends_put g = (stays_linked f refl refl g.0, ends_now f refl g.1.no_last)
move_does {d' = d'} f (joins s j n) g = (s, subst (λ i. HasJoined i d') (joining_item j) (joins_now f (λ z. n (sym (joining_item j) ∙ z)) (joining_links j) (joining_begins j) g), not_ended f refl (not_ended_yet g.going))
move_does {d' = d'} f (joins_last j) g = (subst (λ i. TookN i d') (joining_item j) (takes_now f (joining_links j) (joining_begins j) g), ends_now f refl g.going.no_last)
move_does f ends_take g = (took_of (stays_joined f refl refl refl g.1), ends_now f refl g.2.no_last)
move_does f finds_none g = (finds_empty f refl refl (stays_started f refl g.started) g.going, ends_now f refl g.going.no_last)
move_does f begins_bare g = (finds_empty f refl refl (stamped (f.start_made refl)) g, ends_now f refl g.no_last)

-- what a step does for the first time: it does not come after the end, and an operation that links or joins did not before
pub record New (e : Event) (d : Deeds) : Type 0 where
  pub not_over : d.last ≡ 0
  pub link_first : is_linked e ≡ true → d.link ≡ 0
  pub join_first : item_of e ≢ 0 → d.join ≡ 0

going_new : {e : Event} {d : Deeds} → Going d → New e d
going_new g = record { not_over = g.no_last; link_first = λ t. g.no_link; join_first = λ n. g.no_join }

-- an event of which the record tells nothing, or the operation has neither linked nor joined before it
pub data Fresh (d : Deeds) : Event → Type 0 where
  silent : NotEnded d → Fresh d Quiet
  sounding : {e : Event} → Going d → Fresh d e

open_fresh : (kind : Kind) {d : Deeds} (p : Phase) → Open p → Did kind p d → Fresh d Quiet
open_fresh kind (going put) x g = sounding g
open_fresh kind in_round x g = sounding g.going
open_fresh kind linked x g = silent g.1
open_fresh kind (joined n) x g = silent g.2
open_fresh kind done x g = absurd x
open_fresh kind (got n) x g = absurd x
open_fresh kind bare x g = absurd x

pub move_fresh : {kind : Kind} {p q : Phase} {e : Event} {a : Answer} {d : Deeds} → Move kind p e a q → Did kind p d → Fresh d e
move_fresh {kind} (quiet {p = p} x) g = open_fresh kind p x g
move_fresh begins g = sounding g
move_fresh gives_up g = sounding g.going
move_fresh links g = sounding g
move_fresh links_last g = sounding g
move_fresh ends_put g = silent g.1
move_fresh (joins s j n) g = sounding g.going
move_fresh (joins_last j) g = sounding g.going
move_fresh ends_take g = silent g.2
move_fresh finds_none g = sounding g.going
move_fresh begins_bare g = sounding g

pub fresh_new : {e : Event} {d : Deeds} → Fresh d e → New e d
unfolding is_linked item_of
fresh_new (silent h) = record { not_over = h.no_last; link_first = λ t. absurd (true≢false (sym t)); join_first = λ n. absurd (n refl) }
fresh_new (sounding g) = going_new g

-- who took an item has linked nothing
pub taken_not_linked : (kind : Kind) (d : Deeds) (p : Phase) → Did kind p d → d.taken ≢ 0 → d.link ≡ 0
taken_not_linked kind d (going put) g t = g.no_link
taken_not_linked kind d in_round g t = g.going.no_link
taken_not_linked kind d linked g t = absurd (t g.0.not_taken)
taken_not_linked kind d (joined n) g t = g.1.no_link
taken_not_linked kind d done g t = absurd (t g.0.not_taken)
taken_not_linked kind d (got n) g t = g.0.no_link
taken_not_linked kind d bare g t = g.0.no_link

-- the phase of who answers empty, and of who answers an item
pub empty_phase : (kind : Kind) (d : Deeds) (p : Phase) → Did kind p d → d.answer ≡ Answer.empty → p ≡ bare
empty_phase kind d (going put) g a = let n = g.no_answer in let z : ◌≡◌ {A = ℕ} 0 1 = cc in absurd (omega arith)
empty_phase kind d in_round g a = let n = g.going.no_answer in let z : ◌≡◌ {A = ℕ} 0 1 = cc in absurd (omega arith)
empty_phase kind d linked g a = let n = g.1.no_answer in let z : ◌≡◌ {A = ℕ} 0 1 = cc in absurd (omega arith)
empty_phase kind d (joined item) g a = let n = g.2.no_answer in let z : ◌≡◌ {A = ℕ} 0 1 = cc in absurd (omega arith)
empty_phase kind d done g a = let n = g.1.answered in let z : ◌≡◌ {A = ℕ} 0 1 = cc in absurd (omega arith)
empty_phase kind d (got item) g a = let n = g.1.answered in let z : ◌≡◌ {A = ℕ} 0 1 = cc in absurd (omega arith)
empty_phase kind d bare g a = refl

pub item_phase : (kind : Kind) (d : Deeds) (p : Phase) → Did kind p d → (n : ℕ) → d.answer ≡ Answer.item n → p ≡ got n
item_phase kind d (going put) g n a = let b = g.no_answer in let z : ◌≡◌ {A = ℕ} 0 1 = cc in absurd (omega arith)
item_phase kind d in_round g n a = let b = g.going.no_answer in let z : ◌≡◌ {A = ℕ} 0 1 = cc in absurd (omega arith)
item_phase kind d linked g n a = let b = g.1.no_answer in let z : ◌≡◌ {A = ℕ} 0 1 = cc in absurd (omega arith)
item_phase kind d (joined item) g n a = let b = g.2.no_answer in let z : ◌≡◌ {A = ℕ} 0 1 = cc in absurd (omega arith)
item_phase kind d done g n a = let b = g.1.answered in let z : ◌≡◌ {A = ℕ} 0 1 = cc in absurd (omega arith)
item_phase kind d (got item) g n a = let b = g.1.answered in let is : item ≡ n = cc in ap got is
item_phase kind d bare g n a = let b = g.1.answered in let z : ◌≡◌ {A = ℕ} 0 1 = cc in absurd (omega arith)
