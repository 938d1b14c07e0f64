-- Bytes of which a stretch was written anew.
use Rattle.std.specs.Prelude.{◌≡◌, ℕ, ◌≤◌, ◌<◌, List, length}
use Rattle.basics.specs.Maps.{at}

-- `s'` is `s` but for the places from `from` up to `to`, where `new` stands
pub record Rewritten (new : ℕ → ℕ) (from to : ℕ) (s s' : List ℕ) : Type 0 where
  pub size : length s' ≡ length s
  pub front : (i : ℕ) → i < from → at s' i ≡ at s i
  pub inside : (i : ℕ) → from ≤ i → i < to → at s' i ≡ new i
  pub back : (i : ℕ) → to ≤ i → at s' i ≡ at s i
