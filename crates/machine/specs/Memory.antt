-- Shared memory. Document 01, "The steps": "Node 0 is the queue's sentinel; node i belongs to the put with operation number i."
-- A reference is a node's number; 0 is none, since no link leads to the sentinel and a stack has no node 0. A two-way linked stack has node 0
-- as its sentinel: an upper is never the sentinel, and a lower of 0 is the sentinel.
use Rattle.std.specs.Prelude.{ℕ, Bool}
use Rattle.basics.specs.Choice.{pick, same}
use Rattle.machine.specs.declared.Outcome.{Outcome}
use Rattle.machine.specs.declared.Outcome.TheVariants.{Yes, No}

-- one memory serves every object: a queue uses Head, Tail and the nexts, a stack Top, the nexts and the marks. Document 02, request 3: "Each node has
-- one cell with its upper node and a live flag, and a lower that is fixed once linked": a two-way linked stack uses Top, the uppers, the marks
-- (live is clear) and the nexts, which are the lowers
pub record Memory : Type 0 where
  pub head : ℕ
  pub tail : ℕ
  pub top : ℕ
  pub next : ℕ → ℕ
  -- 0 is clear, 1 is raised
  pub mark : ℕ → ℕ
  pub upper : ℕ → ℕ

-- "A fresh queue has Head and Tail at node 0 and every next none; a fresh stack has Top none and every mark clear." "in fresh memory every
-- cell, the sentinel's too, is none and live; sentinel 0's lower is none, and Top starts there"
unfoldable pub fresh_memory : Memory
fresh_memory = record { head = 0; tail = 0; top = 0; next = λ i. 0; mark = λ i. 0; upper = λ i. 0 }

-- "«Set A from b to c» changes A only if it holds b."
unfoldable pub set_from_to : ℕ → ℕ → ℕ → ℕ
set_from_to a b c = pick (same a b) c a

-- did the test hold, or the change happen?
unfoldable pub yes_if : Bool → Outcome
yes_if t = pick t Yes No

unfoldable pub with_head : Memory → ℕ → Memory
with_head m v = record { head = v; tail = m.tail; top = m.top; next = m.next; mark = m.mark; upper = m.upper }

unfoldable pub with_tail : Memory → ℕ → Memory
with_tail m v = record { head = m.head; tail = v; top = m.top; next = m.next; mark = m.mark; upper = m.upper }

unfoldable pub with_top : Memory → ℕ → Memory
with_top m v = record { head = m.head; tail = m.tail; top = v; next = m.next; mark = m.mark; upper = m.upper }

unfoldable pub with_next : Memory → (ℕ → ℕ) → Memory
with_next m f = record { head = m.head; tail = m.tail; top = m.top; next = f; mark = m.mark; upper = m.upper }

unfoldable pub with_mark : Memory → (ℕ → ℕ) → Memory
with_mark m f = record { head = m.head; tail = m.tail; top = m.top; next = m.next; mark = f; upper = m.upper }

unfoldable pub with_upper : Memory → (ℕ → ℕ) → Memory
with_upper m f = record { head = m.head; tail = m.tail; top = m.top; next = m.next; mark = m.mark; upper = f }
