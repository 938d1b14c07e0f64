-- What an object has to show of every course of it, after k steps, for the record to explain it: contents that the lines at its steps turn into what
-- is left, and that the line of an item's takers stands between the first step of each taker and its joining step.
use mathlib.Core.Path.{◌≡◌}
use mathlib.Core.Logic.{◌≢◌}
use Prim.Native.Nat.{ℕ, suc, ◌≤◌, ◌<◌}
use mathlib.Core.List.{List, [], ◌∷◌}
use Rattle.job.specs.declared.Kind.{Kind}
use Rattle.machine.specs.Multiplicity.{add}
use Rattle.machine.specs.Multiplicity.Line.{put, takes, empty}
use Rattle.machine.specs.Notes.{Answer}
use Rattle.machine.specs.Journal.{first, join, taken, answer}
use Rattle.machine.specs.Effects.{takes_at}
use Rattle.machine.specs.Record.{Recorded, line_at}
use Rattle.machine.specs.Left.{left_in}
use Rattle.machine.specs.Explained.{IsOperation}
use Rattle.theory.proofs.Course.{Course}

-- the line at a step, or none, turns contents into others
pub data Applies (kind : Kind) : List Recorded → List ℕ → List ℕ → Type 0 where
  no_line : {c : List ℕ} → Applies kind [] c c
  puts : {s o : ℕ} {c : List ℕ} → Applies kind (record { step = s; line = put o } ∷ []) c (add kind o c)
  removes : {s item taker : ℕ} {takers c : List ℕ} → Applies kind (record { step = s; line = takes item (taker ∷ takers) } ∷ []) (item ∷ c) c
  finds_none : {s o : ℕ} → Applies kind (record { step = s; line = empty o } ∷ []) [] []

pub record Laws {kind : Kind} (c : Course kind) (k : ℕ) : Type 0 where
  -- the contents after the lines at steps 1 to s; they may depend on the whole run of k steps
  pub contents : ℕ → List ℕ
  pub begins : contents 0 ≡ []
  pub applies : (s : ℕ) → s < k → Applies kind (line_at kind c.log c.count k (suc s)) (contents s) (contents (suc s))
  pub finishes : contents k ≡ left_in kind c.count (c.memory k)
  -- the line of an item's takers: not before the first step of any of them, not after its joining step, and made by one of them
  pub from_first : (o : ℕ) → IsOperation c.count o → taken c.log k o ≢ 0 → first c.log k o ≤ takes_at kind c.log c.count k (taken c.log k o)
  pub to_join : (o : ℕ) → IsOperation c.count o → taken c.log k o ≢ 0 → takes_at kind c.log c.count k (taken c.log k o) ≤ join c.log k o
  -- an item that was handed out is a node
  pub some_item : (o n : ℕ) → IsOperation c.count o → answer c.log k o ≡ Answer.item n → n ≢ 0
  pub by_taker : (o : ℕ) → IsOperation c.count o → taken c.log k o ≢ 0 → taken c.log k (c.log (takes_at kind c.log c.count k (taken c.log k o))).by ≡ taken c.log k o
