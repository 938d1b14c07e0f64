-- The steps of a stack by what they do to its memory: five sorts. Later proofs go by these and not by the rows. Assumes nothing.
use mathlib.Core.Path.{◌≡◌, sym, ap, subst, ◌∙◌}
use mathlib.Core.Logic.{◌≢◌}
use Prim.Native.Nat.{ℕ, suc}
use Rattle.basics.specs.Maps.{upd}
use Rattle.job.specs.declared.Kind.TheVariants.{Stack}
use Rattle.machine.specs.declared.Event.{Event}
use Rattle.machine.specs.declared.Event.TheVariants.{Quiet, Round, Linked, Raised}
use Rattle.machine.specs.Memory.{Memory, with_next, with_mark, with_top}
use Rattle.machine.specs.Notes.{Answer}
use Rattle.machine.specs.Journal.{link}
use Rattle.machine.specs.Explained.{IsOperation}
use Rattle.machine.proofs.Turns.Locals.{Local}
use Rattle.machine.proofs.Turns.Stack.{On, Turn}
use Rattle.machine.proofs.Turns.Stack.On.{at_p3, at_r3}
use Rattle.machine.proofs.Turns.Stack.Turn.{p1_none, p1_some, p2_clear, p2_raised, p3_pushes, p3_fails, p4_moves, p4_stays, r1_none, r1_some, r2_clear, r2_raised, r3, r4_moves, r4_stays, r5_moves, r5_stays}
use Rattle.theory.proofs.Course.{Course}
use Rattle.theory.proofs.Deeds.{deeds, Did}
use Rattle.theory.proofs.Stack.Listing.{phase}
use Rattle.theory.proofs.Stack.Rows.{Knows}

-- step k + 1 leaves memory as it is and is no R1
pub record Rests (c : Course Stack) (k : ℕ) : Type 0 where
  pub memory_kept : c.memory (suc k) ≡ c.memory k
  pub event : (c.log (suc k)).event ≡ Quiet

-- it is a changing P3 of operation o
pub record Pushes (c : Course Stack) (k o : ℕ) : Type 0 where
  pub operation : IsOperation c.count o
  pub by : (c.log (suc k)).by ≡ o
  pub event : (c.log (suc k)).event ≡ Linked
  pub unlinked : link c.log k o ≡ 0
  pub top : (c.memory (suc k)).top ≡ o
  pub next : (c.memory (suc k)).next ≡ upd (c.memory k).next o (c.memory k).top
  pub mark : (c.memory (suc k)).mark ≡ (c.memory k).mark

-- it is a P4, R4 or R5 that moves Top on from a marked node
pub record Pops (c : Course Stack) (k : ℕ) : Type 0 where
  pub event : (c.log (suc k)).event ≡ Quiet
  pub marked : (c.memory k).mark (c.memory k).top ≢ 0
  pub top : (c.memory (suc k)).top ≡ (c.memory k).next (c.memory k).top
  pub next : (c.memory (suc k)).next ≡ (c.memory k).next
  pub mark : (c.memory (suc k)).mark ≡ (c.memory k).mark

-- it is an R3 of operation o on node t
pub record Raises (c : Course Stack) (k o t : ℕ) : Type 0 where
  pub operation : IsOperation c.count o
  pub by : (c.log (suc k)).by ≡ o
  pub event : (c.log (suc k)).event ≡ Raised t
  pub some_node : t ≢ 0
  pub top : (c.memory (suc k)).top ≡ (c.memory k).top
  pub next : (c.memory (suc k)).next ≡ (c.memory k).next
  pub mark : (c.memory (suc k)).mark ≡ upd (c.memory k).mark t 1

-- it is an R1 of operation o
pub record Begins (c : Course Stack) (k o : ℕ) : Type 0 where
  pub operation : IsOperation c.count o
  pub by : (c.log (suc k)).by ≡ o
  pub event : (c.log (suc k)).event ≡ Round
  pub memory_kept : c.memory (suc k) ≡ c.memory k
  pub finds_none : (c.memory k).top ≡ 0 → (c.log (suc k)).answer ≡ Answer.empty

pub data Happens (c : Course Stack) (k : ℕ) : Type 0 where
  rests : Rests c k → Happens c k
  pushes : (o : ℕ) → Pushes c k o → Happens c k
  pops : Pops c k → Happens c k
  raises : (o t : ℕ) → Raises c k o t → Happens c k
  begins : (o : ℕ) → Begins c k o → Happens c k

module _ (c : Course Stack) (k o : ℕ) (op : IsOperation c.count o) (made : (c.log (suc k)).by ≡ o) where
  popped : {t : ℕ} → c.memory (suc k) ≡ with_top (c.memory k) ((c.memory k).next t) → (c.log (suc k)).event ≡ Quiet → (c.memory k).top ≡ t → (c.memory k).mark t ≢ 0 → Happens c k
  unfolding with_top
  popped {t} m e holds raised =
      pops
      (record {
        event = e;
        marked = subst (λ i. (c.memory k).mark i ≢ 0) (sym holds) raised;
        top = ap (λ x. x.top) m ∙ ap (c.memory k).next (sym holds);
        next = ap (λ x. x.next) m;
        mark = ap (λ x. x.mark) m;
      })

  pushed : {t : ℕ} → c.memory (suc k) ≡ with_next (with_top (c.memory k) o) (upd (c.memory k).next o t) → (c.log (suc k)).event ≡ Linked → (c.memory k).top ≡ t → link c.log k o ≡ 0 → Happens c k
  unfolding with_top with_next
  pushed {t} m e holds l =
      pushes o
      (record {
        operation = op;
        by = made;
        event = e;
        unlinked = l;
        top = ap (λ x. x.top) m;
        next = ap (λ x. x.next) m ∙ ap (upd (c.memory k).next o) (sym holds);
        mark = ap (λ x. x.mark) m;
      })

  marks : {t : ℕ} → c.memory (suc k) ≡ with_mark (c.memory k) (upd (c.memory k).mark t 1) → (c.log (suc k)).event ≡ Raised t → t ≢ 0 → Happens c k
  unfolding with_mark
  marks {t} m e some =
      raises o t
      (record {
        operation = op;
        by = made;
        event = e;
        some_node = some;
        top = ap (λ x. x.top) m;
        next = ap (λ x. x.next) m;
        mark = ap (λ x. x.mark) m;
      })

  rested : c.memory (suc k) ≡ c.memory k → (c.log (suc k)).event ≡ Quiet → Happens c k
  rested m e = rests (record { memory_kept = m; event = e })

  begun : c.memory (suc k) ≡ c.memory k → (c.log (suc k)).event ≡ Round → ((c.memory k).top ≡ 0 → (c.log (suc k)).answer ≡ Answer.empty) → Happens c k
  begun m e none = begins o (record { operation = op; by = made; event = e; memory_kept = m; finds_none = none })

  -- a turn, by what was done and is known before it, is one of the five
  pub happens_by : {raised : ℕ → ℕ} {start top : ℕ} {l l' : Local} {m' : Memory} {e : Event} {a : Answer} (on : On l) → Did Stack (phase on) (deeds c.log k o) → Knows raised (c.memory k).mark start top l → c.memory (suc k) ≡ m' → (c.log (suc k)).event ≡ e → (c.log (suc k)).answer ≡ a → Turn o (c.memory k) l m' l' e a → Happens c k
  unfolding deeds
  happens_by on did knows m e a (p1_none x) = rested m e
  happens_by on did knows m e a (p1_some x) = rested m e
  happens_by on did knows m e a (p2_clear x) = rested m e
  happens_by on did knows m e a (p2_raised x) = rested m e
  happens_by at_p3 did knows m e a (p3_pushes x) = pushed m e x did.no_link
  happens_by on did knows m e a (p3_fails x) = rested m e
  happens_by on did (Knows.p4 y) m e a (p4_moves x) = popped m e x y
  happens_by on did knows m e a (p4_stays x) = rested m e
  happens_by on did knows m e a (r1_none x) = begun m e (λ z. a)
  happens_by on did knows m e a (r1_some x) = begun m e (λ z. absurd (x z))
  happens_by on did knows m e a (r2_clear x) = rested m e
  happens_by on did knows m e a (r2_raised x) = rested m e
  happens_by (at_r3 some) did knows m e a r3 = marks m e some
  happens_by on did (Knows.r4 h y) m e a (r4_moves x) = popped m e x y
  happens_by on did knows m e a (r4_stays x) = rested m e
  happens_by on did (Knows.r5 y) m e a (r5_moves x) = popped m e x y
  happens_by on did knows m e a (r5_stays x) = rested m e
