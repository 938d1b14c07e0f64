-- The step table. Document 01, "The steps": "The two listings are one table of nineteen rows." Document 02, request 3, adds the
-- seventeen of the two-way linked stack. A row gives its access, its successor if the access succeeds, and if not. A successor is a row or an end. Where the paper has one successor, both are that.
use Rattle.std.specs.Prelude.{ℕ, Bool, true, false, ◌||◌, List, [], ◌∷◌, get_or}
use Rattle.basics.specs.Choice.{same}
use Rattle.job.specs.declared.Kind.{Kind}
use Rattle.job.specs.declared.Kind.TheVariants.{Queue, Stack, TwoWay}
use Rattle.machine.specs.declared.Row.{Row}
use Rattle.machine.specs.declared.Row.TheVariants.{Q1, Q2, Q3, Q4, Q5, T1, T2, T3, T4, T5, P1, P2, P3, P4, R1, R2, R3, R4, R5, V1, V2, V3, V4, V5, V6, V7, V8, W1, W2, W3, W4, W5, W6, W7, W8, W9, Done, ItemN, ItemT, Empty}
use Rattle.machine.specs.declared.Access.{Access}
use Rattle.machine.specs.declared.Access.TheVariants.{ReadHead, ReadTail, ReadNextOfH, ReadNextOfT, Link, TailToOwn, TailToN, HeadToN, ReadTop, ReadTopToTake, ReadMark, Push, RaiseMark, TopToNext, ReadUpper, ReadUpperToTake, LinkAbove, TopToOwn, TopToN, Cut, ClearFlag}
use Rattle.machine.specs.declared.Outcome.{Outcome}
use Rattle.machine.specs.declared.Outcome.TheVariants.{Yes, No, Bare}
use Rattle.machine.specs.declared.Entry.{Entry}

unfoldable pub row : Access → Row → Row → Entry
row reach then else = record { access = reach; yes = then; no = else }

unfoldable pub table : List Entry
unfolding row
table =
    -- "Queue put. Q1 read Tail as t."
    row ReadTail Q2 Q2
    -- "Q2 read t's next as n: none, go to Q3; else Q5."
    ∷ row ReadNextOfT Q3 Q5
    -- "Q3 set t's next from none to the own node: changed, Q4; else Q1."
    ∷ row Link Q4 Q1
    -- "Q4 set Tail from t to the own node; end, done."
    ∷ row TailToOwn Done Done
    -- "Q5 set Tail from t to n; Q1."
    ∷ row TailToN Q1 Q1
    -- "Queue take. T1 read Head as h."
    ∷ row ReadHead T2 T2
    -- "T2 read Tail as t."
    ∷ row ReadTail T3 T3
    -- "T3 read h's next as n: if h = t and n is none, end, empty; if h = t, T4; else T5."
    ∷ row ReadNextOfH T5 T4
    -- "T4 set Tail from t to n; T1."
    ∷ row TailToN T1 T1
    -- "T5 set Head from h to n; end with item n, changed or not."
    ∷ row HeadToN ItemN ItemN
    -- "Stack put. P1 read Top as t: none, P3; else P2."
    ∷ row ReadTop P3 P2
    -- "P2 read t's mark: clear, P3; else P4."
    ∷ row ReadMark P3 P4
    -- "P3 set Top from t to the own node, whose next becomes t: changed, end, done; else P1."
    ∷ row Push Done P1
    -- "P4 set Top from t to t's next; P1."
    ∷ row TopToNext P1 P1
    -- "Stack take. R1 read Top as t: none, end, empty; else R2."
    ∷ row ReadTopToTake R2 R2
    -- "R2 read t's mark: clear, R3; else R5."
    ∷ row ReadMark R3 R5
    -- "R3 raise t's mark."
    ∷ row RaiseMark R4 R4
    -- "R4 set Top from t to t's next; end with item t, changed or not."
    ∷ row TopToNext ItemT ItemT
    -- "R5 set Top from t to t's next; R1."
    ∷ row TopToNext R1 R1
    -- Two-way linked stack put. "V1 read Top as t."
    ∷ row ReadTop V2 V2
    -- "V2 read t's upper as u: none, V3; else V6."
    ∷ row ReadUpper V3 V6
    -- "V3 read t's flag: live, V4; else V7."
    ∷ row ReadMark V4 V7
    -- "V4 if t's cell is none and live, link the own node there with lower t and go to V5; else V1."
    ∷ row LinkAbove V5 V1
    -- "V5 set Top from t to the own node; end."
    ∷ row TopToOwn Done Done
    -- "V6 set Top from t to u; V1."
    ∷ row TopToN V1 V1
    -- "V7 if the lower's cell is t and live, make its upper none."
    ∷ row Cut V8 V8
    -- "V8 set Top from t to the lower; V1."
    ∷ row TopToNext V1 V1
    -- Two-way linked stack take. "W1 and W2 read as V1 and V2: u not none, W8; none with t the sentinel, end empty; else W3."
    ∷ row ReadTop W2 W2
    ∷ row ReadUpperToTake W3 W8
    -- "W3 read the flag: live, W4; else W7."
    ∷ row ReadMark W4 W7
    -- "W4 if t's upper is none, clear the flag, cleared already or not, and go to W5; else W1."
    ∷ row ClearFlag W5 W1
    -- "W5 acts as V7, W6 as V8 but ends with t."
    ∷ row Cut W6 W6
    ∷ row TopToNext ItemT ItemT
    -- "W7 acts as V7, then W9 as V8, to W1"
    ∷ row Cut W9 W9
    -- "W8 acts as V6, to W1."
    ∷ row TopToN W1 W1
    ∷ row TopToNext W1 W1
    ∷ []

-- a row's position in the table; the four ends come behind it
unfoldable pub position : Row → ℕ
position Q1 = 0
position Q2 = 1
position Q3 = 2
position Q4 = 3
position Q5 = 4
position T1 = 5
position T2 = 6
position T3 = 7
position T4 = 8
position T5 = 9
position P1 = 10
position P2 = 11
position P3 = 12
position P4 = 13
position R1 = 14
position R2 = 15
position R3 = 16
position R4 = 17
position R5 = 18
position V1 = 19
position V2 = 20
position V3 = 21
position V4 = 22
position V5 = 23
position V6 = 24
position V7 = 25
position V8 = 26
position W1 = 27
position W2 = 28
position W3 = 29
position W4 = 30
position W5 = 31
position W6 = 32
position W7 = 33
position W8 = 34
position W9 = 35
position Done = 36
position ItemN = 37
position ItemT = 38
position Empty = 39

-- the table's row for where an operation stands; an ended one makes no step, so what stands there for an end does not matter
unfoldable pub row_of : Row → Entry
unfolding row
row_of r = get_or table (position r) (row ReadHead Q1 Q1)

-- "Bare" is the "end, empty" of T3, R1 and W2
unfoldable pub successor : Entry → Outcome → Row
successor e Yes = e.yes
successor e No = e.no
successor e Bare = Empty

-- what an end says of its operation: done, with item n, with item t, or with empty; a row of the listings says nothing
pub data End : Type 0 where
  no_end with_done with_n with_t with_empty : End

unfoldable pub end_of : Row → End
end_of Q1 = no_end
end_of Q2 = no_end
end_of Q3 = no_end
end_of Q4 = no_end
end_of Q5 = no_end
end_of T1 = no_end
end_of T2 = no_end
end_of T3 = no_end
end_of T4 = no_end
end_of T5 = no_end
end_of P1 = no_end
end_of P2 = no_end
end_of P3 = no_end
end_of P4 = no_end
end_of R1 = no_end
end_of R2 = no_end
end_of R3 = no_end
end_of R4 = no_end
end_of R5 = no_end
end_of V1 = no_end
end_of V2 = no_end
end_of V3 = no_end
end_of V4 = no_end
end_of V5 = no_end
end_of V6 = no_end
end_of V7 = no_end
end_of V8 = no_end
end_of W1 = no_end
end_of W2 = no_end
end_of W3 = no_end
end_of W4 = no_end
end_of W5 = no_end
end_of W6 = no_end
end_of W7 = no_end
end_of W8 = no_end
end_of W9 = no_end
end_of Done = with_done
end_of ItemN = with_n
end_of ItemT = with_t
end_of Empty = with_empty

unfoldable pub is_end : End → Bool
is_end no_end = false
is_end with_done = true
is_end with_n = true
is_end with_t = true
is_end with_empty = true

-- has an operation ended?
unfoldable pub ended : Row → Bool
ended r = is_end (end_of r)

-- is it Q1 or T1? An operation begins there, so a step that comes there goes back
unfoldable pub is_return : Row → Bool
is_return r = same (position r) (position Q1) || same (position r) (position T1)

-- where an operation begins, by its object and by whether it is a put
unfoldable pub first_row : Kind → Bool → Row
first_row Queue true = Q1
first_row Queue false = T1
first_row Stack true = P1
first_row Stack false = R1
first_row TwoWay true = V1
first_row TwoWay false = W1
