-- What a loop keeps that writes a text piece by piece: what is still to be written would end it. Assumes nothing.
use mathlib.Core.Path.{◌≡◌, refl, sym, ◌∙◌}
use native.Mathlib.Omega.{arith}
use Prim.Native.Nat.{ℕ}
use mathlib.Core.List.{List, [], ◌++◌, append_assoc, append-nil}
use Rattle.text.specs.declared.Page.{Page}
use Rattle.text.specs.Pages.{HasRoom, Wrote}
use Rattle.text.proofs.Pages.{room_first, room_same, room_then, wrote_nothing, wrote_then, wrote_as}

-- of a whole text, for which there was room, the front is written and the rest is not
pub record Rest (before after : Page) (rest whole : List ℕ) : Type 0 where
  pub front : List ℕ
  pub splits : front ++ rest ≡ whole
  pub room : HasRoom before whole
  pub wrote : Wrote before after front

pub rest_all : {p : Page} {whole : List ℕ} → HasRoom p whole → Rest p p whole whole
rest_all room = record { front = []; splits = refl; room = room; wrote = wrote_nothing (omega (arith, room.room)) }

module _ {p q : Page} {a whole : List ℕ} (rest : List ℕ) (r : Rest p q (a ++ rest) whole) where
  -- there is room for the next piece
  pub rest_room : HasRoom q a
  rest_room = room_first rest (room_then (room_same (sym r.splits) r.room) r.wrote)

  pub rest_less : {next : Page} → Wrote q next a → Rest p next rest whole
  rest_less w = record { front = r.front ++ a; splits = append_assoc r.front a rest ∙ r.splits; room = r.room; wrote = wrote_then r.wrote w }

-- nothing is left to write
pub rest_none : {p q : Page} {whole : List ℕ} → Rest p q [] whole → Wrote p q whole
rest_none r = wrote_as (sym (append-nil r.front) ∙ r.splits) r.wrote
