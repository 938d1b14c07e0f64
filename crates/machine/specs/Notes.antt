-- What a step was: who made it, what it was for the record, the answer with which it ended its operation, and whether it went back. Document 01, "The steps":
-- "Steps count from 1." Step number 0 stands for none.
use Rattle.std.specs.Prelude.{ℕ, zero, suc, Bool, true, false}
use Rattle.basics.specs.Choice.{pick}
use Rattle.job.specs.declared.Slot.{Slot}
use Rattle.job.specs.declared.Slot.TheVariants.{Acts, Drops}
use Rattle.job.specs.Job.{Job}
use Rattle.machine.specs.declared.Row.{Row}
use Rattle.machine.specs.declared.Access.{Access}
use Rattle.machine.specs.declared.Access.TheVariants.{ReadHead, ReadTail, ReadNextOfH, ReadNextOfT, Link, TailToOwn, TailToN, HeadToN, ReadTop, ReadTopToTake, ReadMark, Push, RaiseMark, TopToNext, ReadUpper, ReadUpperToTake, LinkAbove, TopToOwn, TopToN, Cut, ClearFlag}
use Rattle.machine.specs.declared.Outcome.{Outcome}
use Rattle.machine.specs.declared.Outcome.TheVariants.{Yes, No, Bare}
use Rattle.machine.specs.declared.Event.{Event}
use Rattle.machine.specs.declared.Event.TheVariants.{Quiet, Round, Linked, Moved, Late, Raised}
use Rattle.machine.specs.declared.Place.{Place}
use Rattle.machine.specs.Access.{Registers, Reached}
use Rattle.machine.specs.Table.{row_of, End, end_of, is_return}
use Rattle.machine.specs.Table.End.{no_end, with_done, with_n, with_t, with_empty}
use Rattle.machine.specs.Run.{State, state_after, reached, row_after, resting}

-- "answered once it has ended, with done, an item or empty"; none: not answered
pub data Answer : Type 0 where
  none : Answer
  done : Answer
  item : ℕ → Answer
  empty : Answer

-- the answer at an end: none at a row of the listings
unfoldable pub answer_at : End → Registers → Answer
answer_at no_end r = none
answer_at with_done r = done
answer_at with_n r = item r.n
answer_at with_t r = item r.t
answer_at with_empty r = empty

unfoldable pub answer_of : Row → Registers → Answer
answer_of row r = answer_at (end_of row) r

unfoldable pub is_answer : Answer → Bool
is_answer none = false
is_answer done = true
is_answer (item n) = true
is_answer empty = true

-- what an access was for the record. T1 alone reads Head and R1 alone reads Top to take; Q3 alone links and P3 alone pushes; T5
-- alone sets Head; R3 alone raises a mark. W2 alone reads an upper to take, V4 alone links above, W4 alone clears a flag.
unfoldable pub event_of : Access → Outcome → Registers → Event
event_of ReadHead o r = Round
event_of ReadTail o r = Quiet
event_of ReadNextOfH o r = Quiet
event_of ReadNextOfT o r = Quiet
event_of Link Yes r = Linked
event_of Link No r = Quiet
event_of Link Bare r = Quiet
event_of TailToOwn o r = Quiet
event_of TailToN o r = Quiet
event_of HeadToN Yes r = Moved r.n
event_of HeadToN No r = Late r.n
event_of HeadToN Bare r = Quiet
event_of ReadTop o r = Quiet
event_of ReadTopToTake o r = Round
event_of ReadMark o r = Quiet
event_of Push Yes r = Linked
event_of Push No r = Quiet
event_of Push Bare r = Quiet
event_of RaiseMark o r = Raised r.t
event_of TopToNext o r = Quiet
event_of ReadUpper o r = Quiet
event_of ReadUpperToTake o r = Round
event_of LinkAbove Yes r = Linked
event_of LinkAbove No r = Quiet
event_of LinkAbove Bare r = Quiet
event_of TopToOwn o r = Quiet
event_of TopToN o r = Quiet
event_of Cut o r = Quiet
event_of ClearFlag Yes r = Moved r.t
event_of ClearFlag No r = Quiet
event_of ClearFlag Bare r = Quiet

-- what there is to say of one step
pub record Note : Type 0 where
  -- the operation that made it, 0 if nobody did
  pub by : ℕ
  pub event : Event
  -- the answer with which it ended its operation
  pub answer : Answer
  -- did it go back to Q1 or T1?
  pub back : Bool

-- a step that nobody makes
unfoldable pub idle : Note
idle = record { by = 0; event = Quiet; answer = none; back = false }

-- the step of a place
unfoldable pub acted : Place → Reached → Note
acted p a =
    record {
      by = p.operation.0;
      event = event_of (row_of p.row).access a.outcome a.registers;
      answer = answer_of (row_after p a) a.registers;
      back = is_return (row_after p a);
    }

-- the step that a state is before, by what the schedule names for it. A drop is nobody's step: what it drops, `Drops.antt` says
unfoldable pub note_next : Job → State → Slot → Note
note_next j s (Acts p) =
    let place : Place = s.places p.0 in
    let a : Note = acted place (reached s.memory place) in
    pick (resting j place) idle a
note_next j s (Drops p) = idle

-- what step k was
unfoldable pub note : Job → ℕ → Note
note j zero = idle
note j (suc k) = note_next j (state_after j k) (j.slot (suc k))
