-- `text::Page::put_decimal` meets its contract. The loop's invariant: the digits from `i` on are written, and those before it are the digits
-- of `rest`. Assumes nothing.
use mathlib.Core.Path.{◌≡◌}
use lib.ListN.{length}
use Rattle.text.proofs.Digits.{Backward}
use Rattle.text.proofs.Page.put_decimal.Given as goal

abbrev pub invariant-loop-i : goal.invariant-loop-i
invariant-loop-i l =
    record {
      same_place : l.self.at ≡ l.initial.self.at;
      same_memory : l.self.memory.ghost_name ≡ l.initial.self.memory.ghost_name;
      as_long : length l.self.memory.now ≡ length l.initial.self.memory.now;
      digits : Backward l.initial.self.memory.now l.self.memory.now l.i-start l.n l.i l.rest;
    }
