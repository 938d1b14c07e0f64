-- What a function that writes text on a page leaves there.
use Rattle.std.specs.Prelude.{◌≡◌, ℕ, ◌+◌, ◌≤◌, List, length}
use Rattle.std.specs.Borrow.{MutBor}
use Rattle.text.specs.Laid.{laid}
use Rattle.text.specs.declared.Page.{Page}

-- a page that is begun on lent memory: nothing stands there
pub record Opens (memory : MutBor (List ℕ)) (page : Page) : Type 0 where
  pub lent : page.memory.ghost_name ≡ memory.ghost_name
  pub blank : page.memory.now ≡ memory.now
  pub start : page.at ≡ 0

-- there is room for some bytes behind what stands on a page
pub record HasRoom (page : Page) (bytes : List ℕ) : Type 0 where
  pub room : page.at + length bytes ≤ length page.memory.now

-- some bytes, for which there was room, were laid on a page where the next byte went, and the next one goes behind them; the page is still on the same memory
pub record Wrote (before after : Page) (bytes : List ℕ) : Type 0 where
  pub fits : HasRoom before bytes
  pub lays : after.memory.now ≡ laid before.memory.now before.at bytes
  pub behind : after.at ≡ before.at + length bytes
  pub same_memory : after.memory.ghost_name ≡ before.memory.ghost_name
