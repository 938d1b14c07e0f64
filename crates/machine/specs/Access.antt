-- The 21 accesses: what a row does to shared memory and to the registers of its operation, whose number is `own`.
-- Document 01, "The steps": "A step is one read, one write or one compare-and-set of shared memory, with the private work after it."
use Rattle.std.specs.Prelude.{ℕ, Bool, ◌&&◌}
use Rattle.basics.specs.Choice.{pick, same}
use Rattle.basics.specs.Maps.{upd}
use Rattle.machine.specs.declared.Access.{Access}
use Rattle.machine.specs.declared.Access.TheVariants.{ReadHead, ReadTail, ReadNextOfH, ReadNextOfT, Link, TailToOwn, TailToN, HeadToN, ReadTop, ReadTopToTake, ReadMark, Push, RaiseMark, TopToNext, ReadUpper, ReadUpperToTake, LinkAbove, TopToOwn, TopToN, Cut, ClearFlag}
use Rattle.machine.specs.declared.Outcome.{Outcome}
use Rattle.machine.specs.declared.Outcome.TheVariants.{Yes, No, Bare}
use Rattle.machine.specs.Memory.{Memory, set_from_to, yes_if, with_head, with_tail, with_top, with_next, with_mark, with_upper}

-- the registers of an operation
pub record Registers : Type 0 where
  pub h : ℕ
  pub t : ℕ
  pub n : ℕ

-- memory, registers and outcome after an access
pub record Reached : Type 0 where
  pub memory : Memory
  pub registers : Registers
  pub outcome : Outcome

-- a read changes registers alone
unfoldable pub have_read : Memory → ℕ → ℕ → ℕ → Outcome → Reached
have_read m h t n o = record { memory = m; registers = record { h = h; t = t; n = n }; outcome = o }

-- a write or a compare-and-set changes memory alone
unfoldable pub have_set : Memory → Registers → Outcome → Reached
have_set m r o = record { memory = m; registers = r; outcome = o }

unfoldable pub access : Access → ℕ → Memory → Registers → Reached
-- "T1 read Head as h."
access ReadHead own m r = have_read m m.head r.t r.n Yes
-- "Q1 read Tail as t." "T2 read Tail as t."
access ReadTail own m r = have_read m r.h m.tail r.n Yes
-- "T3 read h's next as n: if h = t and n is none, end, empty; if h = t, T4; else T5."
access ReadNextOfH own m r =
    let n : ℕ = m.next r.h in
    have_read m r.h r.t n (pick (same r.h r.t) (pick (same n 0) Bare No) Yes)
-- "Q2 read t's next as n: none, go to Q3; else Q5."
access ReadNextOfT own m r =
    let n : ℕ = m.next r.t in
    have_read m r.h r.t n (yes_if (same n 0))
-- "Q3 set t's next from none to the own node: changed, Q4; else Q1."
access Link own m r =
    let none_there : Bool = same (m.next r.t) 0 in
    have_set (with_next m (pick none_there (upd m.next r.t own) m.next)) r (yes_if none_there)
-- "Q4 set Tail from t to the own node"
access TailToOwn own m r = have_set (with_tail m (set_from_to m.tail r.t own)) r (yes_if (same m.tail r.t))
-- "Q5 set Tail from t to n; Q1." "T4 set Tail from t to n; T1."
access TailToN own m r = have_set (with_tail m (set_from_to m.tail r.t r.n)) r (yes_if (same m.tail r.t))
-- "T5 set Head from h to n"
access HeadToN own m r = have_set (with_head m (set_from_to m.head r.h r.n)) r (yes_if (same m.head r.h))
-- "P1 read Top as t: none, P3; else P2." "V1 read Top as t." W1 reads as V1.
access ReadTop own m r = have_read m r.h m.top r.n (yes_if (same m.top 0))
-- "R1 read Top as t: none, end, empty; else R2."
access ReadTopToTake own m r = have_read m r.h m.top r.n (pick (same m.top 0) Bare Yes)
-- "P2 read t's mark: clear, P3; else P4." "R2 read t's mark: clear, R3; else R5." V3 and W3 "read t's flag: live"
access ReadMark own m r = have_set m r (yes_if (same (m.mark r.t) 0))
-- "P3 set Top from t to the own node, whose next becomes t: changed, end, done; else P1." The next is written if Top changed.
access Push own m r =
    let holds : Bool = same m.top r.t in
    have_set
    (with_next (with_top m (set_from_to m.top r.t own)) (pick holds (upd m.next own r.t) m.next))
    r
    (yes_if holds)
-- "R3 raise t's mark."
access RaiseMark own m r = have_set (with_mark m (upd m.mark r.t 1)) r Yes
-- "P4", "R4" and "R5 set Top from t to t's next"; "V8 set Top from t to the lower", and W6 and W9 act as V8
access TopToNext own m r =
    have_set (with_top m (set_from_to m.top r.t (m.next r.t))) r (yes_if (same m.top r.t))
-- "V2 read t's upper as u: none, V3; else V6."; u is register n
access ReadUpper own m r =
    let n : ℕ = m.upper r.t in
    have_read m r.h r.t n (yes_if (same n 0))
-- W2 reads as V2: "u not none, W8; none with t the sentinel, end empty; else W3."
access ReadUpperToTake own m r =
    let n : ℕ = m.upper r.t in
    have_read m r.h r.t n (pick (same n 0) (pick (same r.t 0) Bare Yes) No)
-- "V4 if t's cell is none and live, link the own node there with lower t"
access LinkAbove own m r =
    let free : Bool = same (m.upper r.t) 0 && same (m.mark r.t) 0 in
    have_set
    (with_next (with_upper m (pick free (upd m.upper r.t own) m.upper)) (pick free (upd m.next own r.t) m.next))
    r
    (yes_if free)
-- "V5 set Top from t to the own node"
access TopToOwn own m r = have_set (with_top m (set_from_to m.top r.t own)) r (yes_if (same m.top r.t))
-- "V6 set Top from t to u", and W8 acts as V6
access TopToN own m r = have_set (with_top m (set_from_to m.top r.t r.n)) r (yes_if (same m.top r.t))
-- "V7 if the lower's cell is t and live, make its upper none.", and W5 and W7 act as V7
access Cut own m r =
    let lower : ℕ = m.next r.t in
    let holds : Bool = same (m.upper lower) r.t && same (m.mark lower) 0 in
    have_set (with_upper m (pick holds (upd m.upper lower 0) m.upper)) r (yes_if holds)
-- "W4 if t's upper is none, clear the flag, cleared already or not"
access ClearFlag own m r =
    let none_there : Bool = same (m.upper r.t) 0 in
    have_set (with_mark m (pick none_there (upd m.mark r.t 1) m.mark)) r (yes_if none_there)
