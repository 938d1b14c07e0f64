-- What is known of an operation by its row on the stack: that its node is marked, that Top was its node at its last R1, that it read the
-- mark clear after that, or that Top was none. Nothing known is lost by a step of another. Assumes nothing.
use mathlib.Core.Path.{◌≡◌, refl, sym, ◌∙◌}
use mathlib.Core.Logic.{◌≢◌}
use Prim.Native.Nat.{ℕ, ◌<◌}
use mathlib.Core.Bool.{true, false}
use native.Mathlib.Omega.{arith}
use Rattle.basics.proofs.Maps.{upd_here}
use Rattle.machine.specs.declared.Row.TheVariants.{P1, P2, P3, P4, R1, R2, R3, R4, R5, Done, ItemT, Empty}
use Rattle.machine.specs.declared.Event.{Event}
use Rattle.machine.specs.Memory.{Memory, with_mark}
use Rattle.machine.specs.Notes.{Answer}
use Rattle.machine.specs.Journal.{is_round}
use Rattle.machine.proofs.Turns.Locals.{Local, at_row}
use Rattle.machine.proofs.Turns.Stack.{On, Turn}
use Rattle.machine.proofs.Turns.Stack.On.{at_r4}
use Rattle.machine.proofs.Turns.Stack.Turn.{p1_none, p1_some, p2_clear, p2_raised, p3_pushes, p3_fails, p4_moves, p4_stays, r1_none, r1_some, r2_clear, r2_raised, r4_moves, r4_stays, r5_moves, r5_stays}

-- node t was Top at a last R1, and that R1 is before the first R3 on t
pub record Held (t start raised top : ℕ) : Type 0 where
  pub was_top : top ≡ t
  pub before : raised ≢ 0 → start < raised

-- by the first R3 on each node, the marks, the last R1 of the operation, and Top at that
pub data Knows (raised mark : ℕ → ℕ) (start top : ℕ) : Local → Type 0 where
  p1 : {h t n : ℕ} → Knows raised mark start top (at_row P1 h t n)
  p2 : {h t n : ℕ} → Knows raised mark start top (at_row P2 h t n)
  p3 : {h t n : ℕ} → Knows raised mark start top (at_row P3 h t n)
  -- the node is marked
  p4 : {h t n : ℕ} → mark t ≢ 0 → Knows raised mark start top (at_row P4 h t n)
  r1 : {h t n : ℕ} → Knows raised mark start top (at_row R1 h t n)
  -- Top was the node at the last R1
  r2 : {h t n : ℕ} → top ≡ t → Knows raised mark start top (at_row R2 h t n)
  -- and the mark was read clear after it
  r3 : {h t n : ℕ} → Held t start (raised t) top → Knows raised mark start top (at_row R3 h t n)
  -- and is raised since
  r4 : {h t n : ℕ} → Held t start (raised t) top → mark t ≢ 0 → Knows raised mark start top (at_row R4 h t n)
  r5 : {h t n : ℕ} → mark t ≢ 0 → Knows raised mark start top (at_row R5 h t n)
  done : {h t n : ℕ} → Knows raised mark start top (at_row Done h t n)
  -- what was known at R3, and that t is a node
  item : {h t n : ℕ} → Held t start (raised t) top → t ≢ 0 → Knows raised mark start top (at_row ItemT h t n)
  -- Top was none at the last R1
  empty : {h t n : ℕ} → top ≡ 0 → Knows raised mark start top (at_row Empty h t n)

held_kept : {t start raised raised' top : ℕ} → ((raised ≢ 0 → start < raised) → raised' ≢ 0 → start < raised') → Held t start raised top → Held t start raised' top
held_kept later h = record { was_top = h.was_top; before = later h.before }

-- a mark stays raised and a first R3 stays where it is, so what is known stays known
pub knows_kept : {raised raised' mark mark' : ℕ → ℕ} {start top : ℕ} {l : Local} → ((t : ℕ) → (raised t ≢ 0 → start < raised t) → raised' t ≢ 0 → start < raised' t) → ((t : ℕ) → mark t ≢ 0 → mark' t ≢ 0) → Knows raised mark start top l → Knows raised' mark' start top l
knows_kept later stays p1 = p1
knows_kept later stays p2 = p2
knows_kept later stays p3 = p3
knows_kept later stays (p4 x) = p4 (stays _ x)
knows_kept later stays r1 = r1
knows_kept later stays (r2 x) = r2 x
knows_kept later stays (r3 x) = r3 (held_kept (later _) x)
knows_kept later stays (r4 x y) = r4 (held_kept (later _) x) (stays _ y)
knows_kept later stays (r5 x) = r5 (stays _ x)
knows_kept later stays done = done
knows_kept later stays (item x y) = item (held_kept (later _) x) y
knows_kept later stays (empty x) = empty x

module _ {raised mark : ℕ → ℕ} {start top h t n : ℕ} where
  saw_node : Knows raised mark start top (at_row R2 h t n) → top ≡ t
  saw_node (r2 x) = x

  read_clear : Knows raised mark start top (at_row R3 h t n) → Held t start (raised t) top
  read_clear (r3 x) = x

  takes_node : Knows raised mark start top (at_row R4 h t n) → Held t start (raised t) top
  takes_node (r4 x y) = x

-- the actor: what it knew after its last R1 and the step, with what the step tells, is what is known at the row that it reaches
pub own_knows : {o : ℕ} {m m' : Memory} {l l' : Local} {e : Event} {a : Answer} {raised : ℕ → ℕ} {start top : ℕ} → On l → ((t : ℕ) → raised t ≢ 0 → m'.mark t ≢ 0) → (is_round e ≡ true → top ≡ m.top) → (is_round e ≡ false → Knows raised m'.mark start top l) → Turn o m l m' l' e a → Knows raised m'.mark start top l'
unfolding is_round with_mark
own_knows on marks round was (p1_none x) = p3
own_knows on marks round was (p1_some x) = p2
own_knows on marks round was (p2_clear x) = p3
own_knows on marks round was (p2_raised x) = p4 x
own_knows on marks round was (p3_pushes x) = done
own_knows on marks round was (p3_fails x) = p1
own_knows on marks round was (p4_moves x) = p1
own_knows on marks round was (p4_stays x) = p1
own_knows on marks round was (r1_none x) = empty (round refl ∙ x)
own_knows on marks round was (r1_some x) = r2 (round refl)
own_knows on marks round was (r2_clear x) = r3 (record { was_top = saw_node (was refl); before = λ n. absurd (marks _ n x) })
own_knows on marks round was (r2_raised x) = r5 x
own_knows {m = m} on marks round was (Turn.r3 {t = t}) = r4 (read_clear (was refl)) (λ z. let one : ◌≡◌ {A = ℕ} 1 0 = sym (upd_here m.mark t 1) ∙ z in omega arith)
own_knows (at_r4 some) marks round was (r4_moves x) = item (takes_node (was refl)) some
own_knows (at_r4 some) marks round was (r4_stays x) = item (takes_node (was refl)) some
own_knows on marks round was (r5_moves x) = r1
own_knows on marks round was (r5_stays x) = r1
