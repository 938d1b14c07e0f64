-- The takers of a node and where their line stands: at the latest of their last R1 steps, which is before the first R3 on the node; Top was the
-- node then; and a node has takers exactly if it is marked. Assumes nothing.
use mathlib.Core.Path.{◌≡◌, refl, sym, ap, subst, ◌∙◌}
use mathlib.Core.Logic.{◌≢◌}
use Prim.Native.Nat.{ℕ, zero, suc, ◌≤◌, ◌<◌}
use mathlib.Core.List.{Memᴰ}
use native.Mathlib.Omega.{arith}
use Rattle.job.specs.declared.Kind.TheVariants.{Stack}
use Rattle.machine.specs.declared.Event.TheVariants.{Round}
use Rattle.machine.specs.Journal.{item_of, start, join, taken}
use Rattle.machine.specs.Effects.{takers, latest_start}
use Rattle.machine.specs.Explained.{IsOperation}
use Rattle.machine.proofs.Searches.{largest_bounds, largest_attained}
use Rattle.machine.proofs.Stamps.{taken_none, join_le}
use Rattle.machine.proofs.Effected.{MadeStep, start_step, taker_in, taker_out}
use Rattle.theory.proofs.Course.{Course}
use Rattle.theory.proofs.Deeds.{deeds}
use Rattle.theory.proofs.Lines.{joiner_took}
use Rattle.theory.proofs.Stack.Raised.{raised, raised_le, raised_event, raised_least}
use Rattle.theory.proofs.Stack.Steps.{Happens, Raises, rests, pushes, pops, raises, begins}
use Rattle.theory.proofs.Stack.Keeps.{keeps, happens}
use Rattle.theory.proofs.Stack.Deeds.{HeldHere, taker_of}

-- a step for an item is an R3 of an operation on it
raised_by : (c : Course Stack) (k t : ℕ) → Happens c k → item_of (c.log (suc k)).event ≡ t → t ≢ 0 → (o : ℕ) × Raises c k o t
unfolding item_of
raised_by c k t (rests r) e n = absurd (n (sym e ∙ ap item_of r.event))
raised_by c k t (pushes o p) e n = absurd (n (sym e ∙ ap item_of p.event))
raised_by c k t (pops p) e n = absurd (n (sym e ∙ ap item_of p.event))
raised_by c k t (raises o u r) e n = (o, subst (Raises c k o) (sym (ap item_of r.event) ∙ e) r)
raised_by c k t (begins o b) e n = absurd (n (sym e ∙ ap item_of b.event))

-- where the line of t's takers stands, and whose step that is
pub record TakersLine (c : Course Stack) (k t : ℕ) : Type 0 where
  pub taker : ℕ
  pub operation : IsOperation c.count taker
  pub takes_it : taken c.log k taker ≡ t
  pub last_round : start c.log k taker ≡ latest_start c.log c.count k t
  pub step : MadeStep c.log (latest_start c.log c.count k t) taker Round
  pub was_top : (c.memory (latest_start c.log c.count k t)).top ≡ t
  pub was_raised : raised c.log k t ≢ 0
  pub before_raised : latest_start c.log c.count k t < raised c.log k t

module _ (c : Course Stack) (k t : ℕ) (some : t ≢ 0) where
  -- the first R3 on an item is not after the R3 of any of its takers
  pub raised_to_join : (o : ℕ) → taken c.log k o ≡ t → (raised c.log k t ≢ 0) × (raised c.log k t ≤ join c.log k o)
  unfolding taken
  raised_to_join o e = go (join c.log k o) refl
    where
      go : (s : ℕ) → join c.log k o ≡ s → (raised c.log k t ≢ 0) × (raised c.log k t ≤ join c.log k o)
      go zero z = absurd (some (sym e ∙ taken_none c.log o c.log_first k z))
      go (suc s) h =
          let r : (q : ℕ) × Raises c s q t = raised_by c s t (happens c s) (ap (λ s. item_of (c.log s).event) (sym h) ∙ e) some in
          let least : (raised c.log k t ≢ 0) × (raised c.log k t ≤ suc s) = raised_least c.log k t (suc s) r.1.event (omega arith) (omega (arith, join_le c.log k o)) in
          (least.0, omega (arith, least.1))

  -- whoever made an R3 on it took it
  raised_has_taker : raised c.log k t ≢ 0 → (o : ℕ) × IsOperation c.count o × (taken c.log k o ≡ t)
  unfolding item_of
  raised_has_taker n = go (raised c.log k t) refl
    where
      go : (s : ℕ) → raised c.log k t ≡ s → (o : ℕ) × IsOperation c.count o × (taken c.log k o ≡ t)
      go zero z = absurd (n z)
      go (suc s) h =
          let item : item_of (c.log (suc s)).event ≡ t = ap (λ s. item_of (c.log s).event) (sym h) ∙ ap item_of (raised_event c.log k t n) in
          let r : (o : ℕ) × Raises c s o t = raised_by c s t (happens c s) item some in
          (r.0, r.1.operation, (joiner_took c k (suc s) r.1.operation r.1.by item some (omega arith) (omega (arith, raised_le c.log k t))).1)

  -- the line is not before the last R1 of any taker
  pub line_after_rounds : (o : ℕ) → IsOperation c.count o → taken c.log k o ≡ t → start c.log k o ≤ latest_start c.log c.count k t
  unfolding latest_start
  line_after_rounds o op e = largest_bounds (start c.log k) (takers c.log c.count k t) o (taker_in c.log c.count k o t op e)

  pub takers_line : latest_start c.log c.count k t ≢ 0 → TakersLine c k t
  unfolding latest_start deeds
  takers_line n =
      let a : (o : ℕ) × Memᴰ o (takers c.log c.count k t) × (start c.log k o ≡ latest_start c.log c.count k t) = largest_attained (start c.log k) (takers c.log c.count k t) n in
      let m : IsOperation c.count a.0 × (taken c.log k a.0 ≡ t) = taker_out c.log c.count k a.0 t a.1 in
      let h : HeldHere c k a.0 m.0 t × (start c.log k a.0 ≢ 0) = taker_of c k a.0 m.0 t m.1 some in
      let r : raised c.log k t ≢ 0 = (raised_to_join a.0 m.1).0 in
      record {
        taker = a.0;
        operation = m.0;
        takes_it = m.1;
        last_round = a.2;
        step = subst (λ s. MadeStep c.log s a.0 Round) a.2 (start_step c.log k a.0 (λ z. n (sym a.2 ∙ z)));
        was_top = subst (λ s. (c.memory s).top ≡ t) a.2 h.0.was_top;
        was_raised = r;
        before_raised = subst (λ s. s < raised c.log k t) a.2 (h.0.before r);
      }

  -- an item that was taken has a line
  pub taken_has_line : (o : ℕ) → IsOperation c.count o → taken c.log k o ≡ t → latest_start c.log c.count k t ≢ 0
  unfolding deeds
  taken_has_line o op e z = (taker_of c k o op t e some).1 (omega (arith, line_after_rounds o op e))

  -- a node on which an R3 was made has a line, and one with a line is marked
  pub raised_has_line : raised c.log k t ≢ 0 → latest_start c.log c.count k t ≢ 0
  raised_has_line n =
      let o : (o : ℕ) × IsOperation c.count o × (taken c.log k o ≡ t) = raised_has_taker n in
      taken_has_line o.0 o.1 o.2

  pub line_marked : latest_start c.log c.count k t ≢ 0 → (c.memory k).mark t ≢ 0
  line_marked n = (keeps c k).raised_marked t (takers_line n).was_raised
