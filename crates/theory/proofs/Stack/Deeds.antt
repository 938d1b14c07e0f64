-- What an operation on the stack did, and what is known of it by that: a taker saw its node as Top at its last R1, one that answers empty saw
-- none. Assumes nothing.
use mathlib.Core.Path.{◌≡◌, sym, subst, ◌∙◌}
use mathlib.Core.Logic.{◌≢◌}
use Prim.Native.Nat.{ℕ}
use Rattle.job.specs.declared.Kind.TheVariants.{Stack}
use Rattle.machine.specs.Notes.{Answer}
use Rattle.machine.specs.Journal.{start, taken, answer}
use Rattle.machine.specs.Explained.{IsOperation}
use Rattle.machine.proofs.Turns.Locals.{Local}
use Rattle.machine.proofs.Turns.Stack.{On}
use Rattle.machine.proofs.Turns.Stack.On.{at_p1, at_p2, at_p3, at_p4, at_r1, at_r2, at_r3, at_r4, at_r5, at_done, at_item, at_empty}
use Rattle.theory.proofs.Course.{Course}
use Rattle.theory.proofs.Deeds.{deeds}
use Rattle.theory.proofs.Life.{life}
use Rattle.theory.proofs.Outcomes.{Known, taker_knows, empty_knows, item_known}
use Rattle.theory.proofs.Stack.Listing.{phase}
use Rattle.theory.proofs.Stack.Raised.{raised}
use Rattle.theory.proofs.Stack.Rows.{Held, Knows}
use Rattle.theory.proofs.Stack.Keeps.{keeps}

known_at : {raised mark : ℕ → ℕ} {start top : ℕ} {l : Local} (x : On l) → Knows raised mark start top l → Known (λ t. Held t start (raised t) top) (top ≡ 0) (phase x)
known_at at_p1 p = tt
known_at at_p2 p = tt
known_at at_p3 p = tt
known_at at_p4 p = tt
known_at at_r1 p = tt
known_at (at_r2 some) p = tt
known_at (at_r3 some) p = tt
known_at (at_r4 some) (Knows.r4 held marked) = (held, some)
known_at (at_r5 some) p = tt
known_at at_done p = tt
known_at at_item (Knows.item held some) = (held, some)
known_at at_empty (Knows.empty none) = none

module _ (c : Course Stack) (k o : ℕ) (op : IsOperation c.count o) where
  -- its node was Top at its last R1, which is before the first R3 on the node
  abbrev pub HeldHere : ℕ → Type 0
  HeldHere t = Held t (start c.log k o) (raised c.log k t) (c.memory (start c.log k o)).top

  abbrev NoTop : Type 0
  NoTop = (c.memory (start c.log k o)).top ≡ 0

  known : Known HeldHere NoTop (phase (life c k o op).on)
  known = known_at (life c k o op).on ((keeps c k).rows o op)

  -- a taker of item t
  pub taker_of : (t : ℕ) → taken c.log k o ≡ t → t ≢ 0 → HeldHere t × (start c.log k o ≢ 0)
  unfolding deeds
  taker_of t e n =
      let w : HeldHere (taken c.log k o) × (start c.log k o ≢ 0) = taker_knows HeldHere NoTop Stack (deeds c.log k o) (phase (life c k o op).on) (life c k o op).did known (λ z. n (sym e ∙ z)) in
      (subst HeldHere e w.0, w.1)

  -- one that answers empty read none at its last R1
  pub empty_read_none : answer c.log k o ≡ Answer.empty → (c.memory (start c.log k o)).top ≡ 0
  unfolding deeds
  empty_read_none e = empty_knows HeldHere NoTop Stack (deeds c.log k o) (phase (life c k o op).on) (life c k o op).did known e

  pub item_is_node : (n : ℕ) → answer c.log k o ≡ Answer.item n → n ≢ 0
  unfolding deeds
  item_is_node n e = item_known HeldHere NoTop Stack (deeds c.log k o) (phase (life c k o op).on) (life c k o op).did known n e
