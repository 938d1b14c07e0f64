-- The steps of a two-way linked stack by what they do to its memory: five sorts. Later proofs go by these and not by the rows. Assumes nothing.
use mathlib.Core.Path.{◌≡◌, sym, ap, subst, ◌∙◌}
use mathlib.Core.Logic.{◌≢◌}
use Prim.Native.Nat.{ℕ, suc}
use native.Mathlib.Omega.{arith}
use Rattle.basics.specs.Maps.{upd}
use Rattle.job.specs.declared.Kind.TheVariants.{TwoWay}
use Rattle.machine.specs.declared.Event.{Event}
use Rattle.machine.specs.declared.Event.TheVariants.{Quiet, Round, Linked, Moved}
use Rattle.machine.specs.Memory.{Memory, with_top, with_next, with_mark, with_upper}
use Rattle.machine.specs.Notes.{Answer}
use Rattle.machine.specs.Journal.{link}
use Rattle.machine.specs.Explained.{IsOperation}
use Rattle.machine.proofs.Turns.Locals.{Local}
use Rattle.machine.proofs.Turns.TwoWay.{On, Turn}
use Rattle.machine.proofs.Turns.TwoWay.On.{at_v4, at_v5, at_w4}
use Rattle.machine.proofs.Turns.TwoWay.Turn.{v1, v2_none, v2_some, v3_live, v3_dead, v4_links, v4_fails, v5_moves, v5_stays, v6_moves, v6_stays, v7_cuts, v7_stays, v8_moves, v8_stays, w1, w2_more, w2_empty, w2_last, w3_live, w3_dead, w4_clears, w4_fails, w5_cuts, w5_stays, w6_moves, w6_stays, w7_cuts, w7_stays, w8_moves, w8_stays, w9_moves, w9_stays}
use Rattle.theory.proofs.Nodes.{IsLinked}
use Rattle.theory.proofs.Course.{Course}
use Rattle.theory.proofs.Deeds.{deeds, Did}
use Rattle.theory.proofs.TwoWay.Listing.{phase}
use Rattle.theory.proofs.TwoWay.Rows.{Knows}

-- step k + 1 changes nothing but Top, which it leaves at a linked node or at the sentinel
pub record Rests (c : Course TwoWay) (k : ℕ) : Type 0 where
  pub event : (c.log (suc k)).event ≡ Quiet
  pub upper : (c.memory (suc k)).upper ≡ (c.memory k).upper
  pub next : (c.memory (suc k)).next ≡ (c.memory k).next
  pub mark : (c.memory (suc k)).mark ≡ (c.memory k).mark
  pub top : IsLinked (link c.log k) (c.memory (suc k)).top

-- it is a W2 of operation o; one that ends it finds nothing on the sentinel
pub record Begins (c : Course TwoWay) (k o : ℕ) : Type 0 where
  pub operation : IsOperation c.count o
  pub by : (c.log (suc k)).by ≡ o
  pub event : (c.log (suc k)).event ≡ Round
  pub memory_kept : c.memory (suc k) ≡ c.memory k
  pub finds_none : (c.log (suc k)).answer ≡ Answer.empty → (c.memory k).upper 0 ≡ 0

-- it is a changing V4 of operation o on t
pub record Links (c : Course TwoWay) (k o t : ℕ) : Type 0 where
  pub operation : IsOperation c.count o
  pub by : (c.log (suc k)).by ≡ o
  pub event : (c.log (suc k)).event ≡ Linked
  pub unlinked : link c.log k o ≡ 0
  pub t_linked : IsLinked (link c.log k) t
  pub t_bare : (c.memory k).upper t ≡ 0
  pub t_live : (c.memory k).mark t ≡ 0
  pub upper : (c.memory (suc k)).upper ≡ upd (c.memory k).upper t o
  pub next : (c.memory (suc k)).next ≡ upd (c.memory k).next o t
  pub mark : (c.memory (suc k)).mark ≡ (c.memory k).mark
  pub top : (c.memory (suc k)).top ≡ (c.memory k).top

-- it is a V7, W5 or W7 that cuts the dead node t off its lower
pub record Cuts (c : Course TwoWay) (k t : ℕ) : Type 0 where
  pub event : (c.log (suc k)).event ≡ Quiet
  pub dead : (c.memory k).mark t ≢ 0
  pub held : (c.memory k).upper ((c.memory k).next t) ≡ t
  pub upper : (c.memory (suc k)).upper ≡ upd (c.memory k).upper ((c.memory k).next t) 0
  pub next : (c.memory (suc k)).next ≡ (c.memory k).next
  pub mark : (c.memory (suc k)).mark ≡ (c.memory k).mark
  pub top : (c.memory (suc k)).top ≡ (c.memory k).top

-- it is a W4 of operation o that clears the flag of t, cleared already or not
pub record Clears (c : Course TwoWay) (k o t : ℕ) : Type 0 where
  pub operation : IsOperation c.count o
  pub by : (c.log (suc k)).by ≡ o
  pub event : (c.log (suc k)).event ≡ Moved t
  pub some_node : t ≢ 0
  pub t_linked : IsLinked (link c.log k) t
  pub t_bare : (c.memory k).upper t ≡ 0
  pub upper : (c.memory (suc k)).upper ≡ (c.memory k).upper
  pub next : (c.memory (suc k)).next ≡ (c.memory k).next
  pub mark : (c.memory (suc k)).mark ≡ upd (c.memory k).mark t 1
  pub top : (c.memory (suc k)).top ≡ (c.memory k).top

pub data Happens (c : Course TwoWay) (k : ℕ) : Type 0 where
  rests : Rests c k → Happens c k
  begins : (o : ℕ) → Begins c k o → Happens c k
  links : (o t : ℕ) → Links c k o t → Happens c k
  cuts : (t : ℕ) → Cuts c k t → Happens c k
  clears : (o t : ℕ) → Clears c k o t → Happens c k

module _ (c : Course TwoWay) (k o : ℕ) (op : IsOperation c.count o) (made : (c.log (suc k)).by ≡ o) where
  abbrev LinkedNow : ℕ → Type 0
  LinkedNow = IsLinked (link c.log k)

  -- Top is set to a linked node
  set_top : {v : ℕ} → c.memory (suc k) ≡ with_top (c.memory k) v → (c.log (suc k)).event ≡ Quiet → LinkedNow v → Happens c k
  unfolding with_top
  set_top m e l =
      rests (record { event = e; upper = ap (λ x. x.upper) m; next = ap (λ x. x.next) m; mark = ap (λ x. x.mark) m; top = subst LinkedNow (sym (ap (λ x. x.top) m)) l })

  rested : LinkedNow (c.memory k).top → c.memory (suc k) ≡ c.memory k → (c.log (suc k)).event ≡ Quiet → Happens c k
  rested l m e =
      rests (record { event = e; upper = ap (λ x. x.upper) m; next = ap (λ x. x.next) m; mark = ap (λ x. x.mark) m; top = subst LinkedNow (sym (ap (λ x. x.top) m)) l })

  begun : c.memory (suc k) ≡ c.memory k → (c.log (suc k)).event ≡ Round → ((c.log (suc k)).answer ≡ Answer.empty → (c.memory k).upper 0 ≡ 0) → Happens c k
  begun m e none = begins o (record { operation = op; by = made; event = e; memory_kept = m; finds_none = none })

  linked : {t : ℕ} → c.memory (suc k) ≡ with_next (with_upper (c.memory k) (upd (c.memory k).upper t o)) (upd (c.memory k).next o t) → (c.log (suc k)).event ≡ Linked → link c.log k o ≡ 0 → LinkedNow t → (c.memory k).upper t ≡ 0 → (c.memory k).mark t ≡ 0 → Happens c k
  unfolding with_next with_upper
  linked {t} m e z l bare live =
      links o t
      (record {
        operation = op;
        by = made;
        event = e;
        unlinked = z;
        t_linked = l;
        t_bare = bare;
        t_live = live;
        upper = ap (λ x. x.upper) m;
        next = ap (λ x. x.next) m;
        mark = ap (λ x. x.mark) m;
        top = ap (λ x. x.top) m;
      })

  cut : {t : ℕ} → c.memory (suc k) ≡ with_upper (c.memory k) (upd (c.memory k).upper ((c.memory k).next t) 0) → (c.log (suc k)).event ≡ Quiet → (c.memory k).mark t ≢ 0 → (c.memory k).upper ((c.memory k).next t) ≡ t → Happens c k
  unfolding with_upper
  cut {t} m e dead held =
      cuts t
      (record { event = e; dead = dead; held = held; upper = ap (λ x. x.upper) m; next = ap (λ x. x.next) m; mark = ap (λ x. x.mark) m; top = ap (λ x. x.top) m })

  cleared : {t : ℕ} → c.memory (suc k) ≡ with_mark (c.memory k) (upd (c.memory k).mark t 1) → (c.log (suc k)).event ≡ Moved t → t ≢ 0 → LinkedNow t → (c.memory k).upper t ≡ 0 → Happens c k
  unfolding with_mark
  cleared {t} m e some l bare =
      clears o t
      (record {
        operation = op;
        by = made;
        event = e;
        some_node = some;
        t_linked = l;
        t_bare = bare;
        upper = ap (λ x. x.upper) m;
        next = ap (λ x. x.next) m;
        mark = ap (λ x. x.mark) m;
        top = ap (λ x. x.top) m;
      })

  -- a turn, by what was done and is known before it, is one of the five
  pub happens_by : {killed : ℕ → ℕ} {start last : ℕ} {l l' : Local} {m' : Memory} {e : Event} {a : Answer} (on : On l) → Did TwoWay (phase on) (deeds c.log k o) → LinkedNow (c.memory k).top → ((i : ℕ) → LinkedNow ((c.memory k).next i)) → Knows (link c.log k) killed (c.memory k).mark start last l → c.memory (suc k) ≡ m' → (c.log (suc k)).event ≡ e → (c.log (suc k)).answer ≡ a → Turn o (c.memory k) l m' l' e a → Happens c k
  unfolding deeds
  happens_by on did top lower knows m e a v1 = rested top m e
  happens_by on did top lower knows m e a (v2_none x) = rested top m e
  happens_by on did top lower knows m e a (v2_some x) = rested top m e
  happens_by on did top lower knows m e a (v3_live x) = rested top m e
  happens_by on did top lower knows m e a (v3_dead x) = rested top m e
  happens_by at_v4 did top lower (Knows.v4 y) m e a (v4_links x z) = linked m e did.no_link y x z
  happens_by on did top lower knows m e a v4_fails = rested top m e
  happens_by at_v5 did top lower knows m e a (v5_moves x) = set_top m e (λ n. did.0.linked)
  happens_by on did top lower knows m e a (v5_stays x) = rested top m e
  happens_by on did top lower (Knows.v6 y) m e a (v6_moves x) = set_top m e y
  happens_by on did top lower knows m e a (v6_stays x) = rested top m e
  happens_by on did top lower (Knows.v7 y) m e a (v7_cuts x) = cut m e y x
  happens_by on did top lower knows m e a v7_stays = rested top m e
  happens_by on did top lower knows m e a (v8_moves x) = set_top m e (lower _)
  happens_by on did top lower knows m e a (v8_stays x) = rested top m e
  happens_by on did top lower knows m e a w1 = rested top m e
  happens_by on did top lower knows m e a (w2_more x) = begun m e (λ f. let z : ◌≡◌ {A = ℕ} 0 1 = cc in absurd (omega arith))
  happens_by on did top lower knows m e a (w2_empty x z) = begun m e (λ f. ap (c.memory k).upper (sym z) ∙ x)
  happens_by on did top lower knows m e a (w2_last x some) = begun m e (λ f. let z : ◌≡◌ {A = ℕ} 0 1 = cc in absurd (omega arith))
  happens_by on did top lower knows m e a (w3_live x) = rested top m e
  happens_by on did top lower knows m e a (w3_dead x) = rested top m e
  happens_by (at_w4 some) did top lower (Knows.w4 y b) m e a (w4_clears x) = cleared m e some y x
  happens_by on did top lower knows m e a (w4_fails x) = rested top m e
  happens_by on did top lower (Knows.w5 b y) m e a (w5_cuts x) = cut m e y x
  happens_by on did top lower knows m e a w5_stays = rested top m e
  happens_by on did top lower knows m e a (w6_moves x) = set_top m e (lower _)
  happens_by on did top lower knows m e a (w6_stays x) = rested top m e
  happens_by on did top lower (Knows.w7 y) m e a (w7_cuts x) = cut m e y x
  happens_by on did top lower knows m e a w7_stays = rested top m e
  happens_by on did top lower (Knows.w8 y) m e a (w8_moves x) = set_top m e y
  happens_by on did top lower knows m e a (w8_stays x) = rested top m e
  happens_by on did top lower knows m e a (w9_moves x) = set_top m e (lower _)
  happens_by on did top lower knows m e a (w9_stays x) = rested top m e
