-- What every step of a stack keeps: a node is marked exactly if an R3 on it was made, and of every operation is known what its row says. So
-- every step is one of the five sorts. Assumes nothing.
use mathlib.Core.Path.{◌≡◌, refl, sym, ap, subst, ◌∙◌}
use mathlib.Core.Logic.{◌≢◌, ◌⊎◌, inl, inr}
use Prim.Native.Nat.{ℕ, zero, suc}
use mathlib.Core.Bool.{Bool, true, false, true≢false}
use native.Mathlib.Omega.{arith}
use Rattle.basics.specs.Maps.{upd}
use Rattle.basics.proofs.Choice.{split, unequal_same}
use Rattle.basics.proofs.Maps.{upd_here, upd_there}
use Rattle.job.specs.declared.Kind.TheVariants.{Stack}
use Rattle.machine.specs.declared.Event.{Event}
use Rattle.machine.specs.declared.Event.TheVariants.{Round, Raised}
use Rattle.machine.specs.Memory.{fresh_memory}
use Rattle.machine.specs.Table.{first_row}
use Rattle.machine.specs.Journal.{is_round, start}
use Rattle.machine.specs.Explained.{IsOperation}
use Rattle.machine.proofs.Stamps.{start_le, start_other, start_unless, start_new}
use Rattle.machine.proofs.Turns.Locals.{Local}
use Rattle.theory.proofs.Listing.{initial}
use Rattle.theory.proofs.Course.{Course, PassesIn, ActsIn, passes_event}
use Rattle.theory.proofs.Life.{operation_some, own_or_other, life}
use Rattle.theory.proofs.Stack.Raised.{is_raise, raised, raised_zero, raised_least, raised_kept, raised_later}
use Rattle.theory.proofs.Stack.Rows.{Knows, knows_kept, own_knows}
use Rattle.theory.proofs.Stack.Steps.{Happens, rests, pushes, pops, raises, begins, happens_by}

-- what is known after k steps of operation o, if it is at l
abbrev KnowsAt : Course Stack → ℕ → ℕ → Local → Type 0
KnowsAt c k o l = Knows (raised c.log k) (c.memory k).mark (start c.log k o) (c.memory (start c.log k o)).top l

pub record Keeps (c : Course Stack) (k : ℕ) : Type 0 where
  pub raised_marked : (t : ℕ) → raised c.log k t ≢ 0 → (c.memory k).mark t ≢ 0
  pub marked_raised : (t : ℕ) → (c.memory k).mark t ≢ 0 → raised c.log k t ≢ 0
  pub marked_node : (t : ℕ) → (c.memory k).mark t ≢ 0 → t ≢ 0
  pub rows : (o : ℕ) → IsOperation c.count o → KnowsAt c k o (c.local k o)

fresh_knows : (put : Bool) {raised mark : ℕ → ℕ} {start top : ℕ} → Knows raised mark start top (initial Stack put)
unfolding initial first_row
fresh_knows true = Knows.p1
fresh_knows false = Knows.r1

keeps_fresh : (c : Course Stack) → Keeps c 0
unfolding fresh_memory
keeps_fresh c =
    record {
      raised_marked = λ t n. absurd (n (raised_zero c.log t));
      marked_raised = λ t n. absurd (n (clear t));
      marked_node = λ t n. absurd (n (clear t));
      rows = λ o op. subst (KnowsAt c 0 o) (sym (c.local_first o)) (fresh_knows (c.is_put o));
    }
  where
    clear : (t : ℕ) → (c.memory 0).mark t ≡ 0
    clear t = ap (λ m. m.mark t) c.memory_first

-- what a step does to the mark of node t: nothing and no R3 on it, or it raises it
abbrev Marking : Course Stack → ℕ → ℕ → Type 0
Marking c k t = (((c.memory (suc k)).mark t ≡ (c.memory k).mark t) × (raised c.log (suc k) t ≡ raised c.log k t)) ⊎ ((t ≢ 0) × ((c.memory (suc k)).mark t ≢ 0) × (raised c.log (suc k) t ≢ 0))

module _ (c : Course Stack) (k t : ℕ) where
  not_raised : {e : Event} → (c.log (suc k)).event ≡ e → is_raise t e ≡ false → raised c.log (suc k) t ≡ raised c.log k t
  not_raised h f = raised_kept c.log k t (ap (is_raise t) h ∙ f)

  marking : Happens c k → Marking c k t
  unfolding is_raise
  marking (rests r) = inl (ap (λ m. m.mark t) r.memory_kept, not_raised r.event refl)
  marking (pushes o p) = inl (ap (λ f. f t) p.mark, not_raised p.event refl)
  marking (pops p) = inl (ap (λ f. f t) p.mark, not_raised p.event refl)
  marking (begins o b) = inl (ap (λ m. m.mark t) b.memory_kept, not_raised b.event refl)
  marking (raises o u r) = go (split t u)
    where
      one : {x : ℕ} → x ≡ 1 → x ≢ 0
      one e z = omega arith

      go : (t ≡ u) ⊎ (t ≢ u) → Marking c k t
      go (inl e) = inr ((λ z. r.some_node (sym e ∙ z)), one (ap (λ f. f t) r.mark ∙ ap (upd (c.memory k).mark u 1) e ∙ upd_here (c.memory k).mark u 1), (raised_least c.log (suc k) t (suc k) (r.event ∙ ap Raised (sym e)) (omega arith) (omega arith)).0)
      go (inr n) = inl (ap (λ f. f t) r.mark ∙ upd_there (c.memory k).mark u 1 n, not_raised r.event (unequal_same (λ e. n (sym e))))

-- an R1 leaves memory as it is
round_begins : (c : Course Stack) (k : ℕ) → is_round (c.log (suc k)).event ≡ true → Happens c k → ((c.log (suc k)).event ≡ Round) × (c.memory (suc k) ≡ c.memory k)
unfolding is_round
round_begins c k e (rests r) = absurd (true≢false (sym e ∙ ap is_round r.event))
round_begins c k e (pushes o p) = absurd (true≢false (sym e ∙ ap is_round p.event))
round_begins c k e (pops p) = absurd (true≢false (sym e ∙ ap is_round p.event))
round_begins c k e (raises o t r) = absurd (true≢false (sym e ∙ ap is_round r.event))
round_begins c k e (begins o b) = (b.event, b.memory_kept)

happens_next : (c : Course Stack) (k : ℕ) → Keeps c k → PassesIn c k ⊎ ((o : ℕ) × ActsIn c k o) → Happens c k
happens_next c k kept (inl i) = rests (record { memory_kept = i.memory_kept; event = passes_event i })
happens_next c k kept (inr (o, a)) = happens_by c k o a.operation a.by (life c k o a.operation).on (life c k o a.operation).did (kept.rows o a.operation) refl refl refl a.turned

module _ (c : Course Stack) (k : ℕ) (kept : Keeps c k) (step : Happens c k) where
  -- the marks after the step
  mark_stays : (t : ℕ) → (c.memory k).mark t ≢ 0 → (c.memory (suc k)).mark t ≢ 0
  mark_stays t n = go (marking c k t step)
    where
      go : Marking c k t → (c.memory (suc k)).mark t ≢ 0
      go (inl (m, r)) = λ z. n (sym m ∙ z)
      go (inr (some, m, r)) = m

  raised_marked_next : (t : ℕ) → raised c.log (suc k) t ≢ 0 → (c.memory (suc k)).mark t ≢ 0
  raised_marked_next t n = go (marking c k t step)
    where
      go : Marking c k t → (c.memory (suc k)).mark t ≢ 0
      go (inl (m, r)) = λ z. kept.raised_marked t (λ y. n (r ∙ y)) (sym m ∙ z)
      go (inr (some, m, r)) = m

  marked_raised_next : (t : ℕ) → (c.memory (suc k)).mark t ≢ 0 → raised c.log (suc k) t ≢ 0
  marked_raised_next t n = go (marking c k t step)
    where
      go : Marking c k t → raised c.log (suc k) t ≢ 0
      go (inl (m, r)) = λ z. kept.marked_raised t (λ y. n (m ∙ y)) (sym r ∙ z)
      go (inr (some, m, r)) = r

  marked_node_next : (t : ℕ) → (c.memory (suc k)).mark t ≢ 0 → t ≢ 0
  marked_node_next t n = go (marking c k t step)
    where
      go : Marking c k t → t ≢ 0
      go (inl (m, r)) = kept.marked_node t (λ y. n (m ∙ y))
      go (inr (some, m, r)) = some

  -- what was known of an operation before the step is still known after it, if its last R1 is the same
  known_after : (o : ℕ) → IsOperation c.count o → start c.log (suc k) o ≡ start c.log k o → KnowsAt c (suc k) o (c.local k o)
  known_after o op e =
      subst (λ s. Knows (raised c.log (suc k)) (c.memory (suc k)).mark s (c.memory s).top (c.local k o)) (sym e)
      (knows_kept (λ t. raised_later c.log k t (start c.log k o) (start_le c.log k o)) mark_stays (kept.rows o op))

  rows_of_other : (o : ℕ) → IsOperation c.count o → (c.log (suc k)).by ≢ o → c.local (suc k) o ≡ c.local k o → KnowsAt c (suc k) o (c.local (suc k) o)
  rows_of_other o op n l = subst (KnowsAt c (suc k) o) (sym l) (known_after o op (start_other c.log k o n))

  rows_of_actor : (o : ℕ) → ActsIn c k o → KnowsAt c (suc k) o (c.local (suc k) o)
  rows_of_actor o a = own_knows (life c k o a.operation).on raised_marked_next round (λ e. known_after o a.operation (start_unless c.log k o e)) a.turned
    where
      round : is_round (c.log (suc k)).event ≡ true → (c.memory (start c.log (suc k) o)).top ≡ (c.memory k).top
      round e =
          let r : ((c.log (suc k)).event ≡ Round) × (c.memory (suc k) ≡ c.memory k) = round_begins c k e step in
          ap (λ s. (c.memory s).top) (start_new c.log k o a.by r.0) ∙ ap (λ m. m.top) r.1

  keeps_next : Keeps c (suc k)
  keeps_next =
      record {
        raised_marked = raised_marked_next;
        marked_raised = marked_raised_next;
        marked_node = marked_node_next;
        rows = λ o op. own_or_other c k o (operation_some op) (rows_of_other o op) (rows_of_actor o);
      }

module _ (c : Course Stack) where
  pub keeps : (k : ℕ) → Keeps c k
  keeps zero = keeps_fresh c
  keeps (suc k) = keeps_next c k (keeps k) (happens_next c k (keeps k) (c.step k))

  pub happens : (k : ℕ) → Happens c k
  happens k = happens_next c k (keeps k) (c.step k)
