-- What every step of a two-way linked stack keeps: its memory is sound, Top is linked or the sentinel, a node is dead exactly if a W4 on it was passed,
-- and of every operation is known what its row says. So every step is one of the five sorts. Assumes nothing.
use mathlib.Core.Path.{◌≡◌, refl, sym, ap, subst, ◌∙◌}
use mathlib.Core.Logic.{◌≢◌, ◌⊎◌, inl, inr}
use Prim.Native.Nat.{ℕ, zero, suc}
use mathlib.Core.Bool.{Bool, true, false}
use mathlib.Core.List.Memᴰ
use mathlib.Core.List.{List, [], ◌∷◌}
use native.Mathlib.Omega.{arith}
use Rattle.basics.specs.Maps.{upd}
use Rattle.basics.proofs.Choice.{split}
use Rattle.basics.proofs.Maps.{upd_here, upd_there}
use Rattle.job.specs.declared.Kind.TheVariants.{TwoWay}
use Rattle.machine.specs.declared.Event.{Event}
use Rattle.machine.specs.declared.Event.TheVariants.{Moved}
use Rattle.machine.specs.Memory.{fresh_memory}
use Rattle.machine.specs.Table.{first_row}
use Rattle.machine.specs.Notes.{is_answer}
use Rattle.machine.specs.Journal.{is_round, moved_to, link, start, last}
use Rattle.machine.specs.Effects.{first_move}
use Rattle.machine.specs.Explained.{IsOperation}
use Rattle.machine.proofs.Lists.{Distinct}
use Rattle.machine.proofs.Stamps.{link_zero, link_stays, start_le, start_other, start_unless, start_new, last_other, last_new, first_move_zero, first_move_unless, first_move_new, first_move_stays, first_move_later}
use Rattle.machine.proofs.Effected.{round_event}
use Rattle.machine.proofs.Turns.Locals.{Local}
use Rattle.theory.proofs.Nodes.{IsLinked}
use Rattle.theory.proofs.Listing.{initial}
use Rattle.theory.proofs.Course.{Course, PassesIn, ActsIn, passes_event}
use Rattle.theory.proofs.Deeds.{deeds}
use Rattle.theory.proofs.Life.{operation_some, own_or_other, life, acts_new}
use Rattle.theory.proofs.TwoWay.Tower.{Tower.ground}
use Rattle.theory.proofs.TwoWay.Sound.{upper_linked, dead_some}
use Rattle.theory.proofs.TwoWay.Rows.{Knows, Finds, ReadsLower, reads_of_dead, knows_kept, own_knows}
use Rattle.theory.proofs.TwoWay.Steps.{Happens, rests, begins, links, cuts, clears, happens_by}
use Rattle.theory.proofs.TwoWay.Standing.{SoundAt, rests_sound, begins_sound, links_sound, cuts_sound, clears_sound}

-- what is known after k steps of operation o, if it is at l
abbrev KnowsAt : Course TwoWay → ℕ → ℕ → Local → Type 0
KnowsAt c k o l = Knows (link c.log k) (first_move c.log k) (c.memory k).mark (start c.log k o) (last c.log k o) l

pub record Keeps (c : Course TwoWay) (k : ℕ) : Type 0 where
  -- the tower, the uppermost node first
  pub list : List ℕ
  pub sound : SoundAt c k list
  pub top : IsLinked (link c.log k) (c.memory k).top
  pub dead_killed : (t : ℕ) → (c.memory k).mark t ≢ 0 → first_move c.log k t ≢ 0
  pub killed_dead : (t : ℕ) → t ≢ 0 → first_move c.log k t ≢ 0 → (c.memory k).mark t ≢ 0
  pub rows : (o : ℕ) → IsOperation c.count o → KnowsAt c k o (c.local k o)

fresh_knows : (put : Bool) {born killed mark : ℕ → ℕ} {start last : ℕ} → Knows born killed mark start last (initial TwoWay put)
unfolding initial first_row
fresh_knows true = Knows.v1
fresh_knows false = Knows.w1

keeps_fresh : (c : Course TwoWay) → Keeps c 0
unfolding fresh_memory first_move
keeps_fresh c =
    record {
      list = [];
      sound =
          record {
            tower = ground;
            uppermost = bare 0;
            distinct = Distinct.none;
            born_in = λ i m. absurd (Memᴰ.not-nil m);
            operation = λ i n. absurd (n (link_zero c.log i));
            holds = λ i n. absurd (n (bare i));
            live_in = λ i n z. absurd (n (link_zero c.log i));
            dead_born = λ i n. absurd (n (clear i));
            dead_bare = λ i n. bare i;
            lowers = λ i n. absurd (n (ap (λ m. m.next i) c.memory_first));
          };
      top = λ n. absurd (n (ap (λ m. m.top) c.memory_first));
      dead_killed = λ t n. absurd (n (clear t));
      killed_dead = λ t some n. absurd (n (first_move_zero c.log t));
      rows = λ o op. subst (KnowsAt c 0 o) (sym (c.local_first o)) (fresh_knows (c.is_put o));
    }
  where
    bare : (i : ℕ) → (c.memory 0).upper i ≡ 0
    bare i = ap (λ m. m.upper i) c.memory_first

    clear : (i : ℕ) → (c.memory 0).mark i ≡ 0
    clear i = ap (λ m. m.mark i) c.memory_first

happens_next : (c : Course TwoWay) (k : ℕ) → Keeps c k → PassesIn c k ⊎ ((o : ℕ) × ActsIn c k o) → Happens c k
happens_next c k kept (inl i) =
    rests
    (record {
      event = passes_event i;
      upper = ap (λ m. m.upper) i.memory_kept;
      next = ap (λ m. m.next) i.memory_kept;
      mark = ap (λ m. m.mark) i.memory_kept;
      top = subst (IsLinked (link c.log k)) (sym (ap (λ m. m.top) i.memory_kept)) kept.top;
    })
happens_next c k kept (inr (o, a)) =
    happens_by c k o a.operation a.by (life c k o a.operation).on (life c k o a.operation).did kept.top kept.sound.lowers (kept.rows o a.operation) refl refl refl a.turned

-- what a step does to the flag of node t: nothing and no W4 on it, or it clears it
abbrev Flagging : Course TwoWay → ℕ → ℕ → Type 0
Flagging c k t = (((c.memory (suc k)).mark t ≡ (c.memory k).mark t) × (first_move c.log (suc k) t ≡ first_move c.log k t)) ⊎ (((c.memory (suc k)).mark t ≢ 0) × (first_move c.log (suc k) t ≢ 0))

module _ (c : Course TwoWay) (k t : ℕ) (some : t ≢ 0) where
  not_moved : {e : Event} → (c.log (suc k)).event ≡ e → moved_to e ≢ t → first_move c.log (suc k) t ≡ first_move c.log k t
  not_moved h n = first_move_unless c.log t k (λ e. n (ap moved_to (sym h) ∙ e))

  -- a W4 on t: the first on it, or one more
  moved_now : (c.log (suc k)).event ≡ Moved t → first_move c.log (suc k) t ≢ 0
  moved_now e = go (split (first_move c.log k t) 0)
    where
      go : (first_move c.log k t ≡ 0) ⊎ (first_move c.log k t ≢ 0) → first_move c.log (suc k) t ≢ 0
      go (inl z) y = omega (arith, first_move_new c.log t k e z)
      go (inr n) y = n (sym (first_move_stays c.log t k (suc k) (omega arith) n) ∙ y)

  flagging : Happens c k → Flagging c k t
  unfolding moved_to
  flagging (rests r) = inl (ap (λ f. f t) r.mark, not_moved r.event (λ z. some (sym z)))
  flagging (begins o b) = inl (ap (λ m. m.mark t) b.memory_kept, not_moved b.event (λ z. some (sym z)))
  flagging (links o u l) = inl (ap (λ f. f t) l.mark, not_moved l.event (λ z. some (sym z)))
  flagging (cuts u x) = inl (ap (λ f. f t) x.mark, not_moved x.event (λ z. some (sym z)))
  flagging (clears o u x) = go (split t u)
    where
      one : {y : ℕ} → y ≡ 1 → y ≢ 0
      one e z = omega arith

      go : (t ≡ u) ⊎ (t ≢ u) → Flagging c k t
      go (inl e) = inr (one (ap (λ f. f t) x.mark ∙ ap (upd (c.memory k).mark u 1) e ∙ upd_here (c.memory k).mark u 1), moved_now (x.event ∙ ap Moved (sym e)))
      go (inr n) = inl (ap (λ f. f t) x.mark ∙ upd_there (c.memory k).mark u 1 n, not_moved x.event (λ e. n (sym e)))

module _ (c : Course TwoWay) (k : ℕ) (kept : Keeps c k) (step : Happens c k) where
  -- a linked node stays linked
  linked_stays : (t : ℕ) → IsLinked (link c.log k) t → IsLinked (link c.log (suc k)) t
  linked_stays t l n z = l n (sym (link_stays c.log k t (suc k) (omega arith) (l n)) ∙ z)

  dead_node : (t : ℕ) → (c.memory k).mark t ≢ 0 → t ≢ 0
  dead_node t n = dead_some kept.sound t n

  dead_stays : (t : ℕ) → (c.memory k).mark t ≢ 0 → (c.memory (suc k)).mark t ≢ 0
  dead_stays t n = go (flagging c k t (dead_node t n) step)
    where
      go : Flagging c k t → (c.memory (suc k)).mark t ≢ 0
      go (inl (m, f)) = λ z. n (sym m ∙ z)
      go (inr (m, f)) = m

  sound_next : Happens c k → (list : List ℕ) × SoundAt c (suc k) list
  sound_next (rests r) = (kept.list, rests_sound c k kept.sound r)
  sound_next (begins o b) = (kept.list, begins_sound c k kept.sound o b)
  sound_next (links o t l) = (o ∷ kept.list, links_sound c k kept.sound o t l)
  sound_next (cuts t x) = (_, cuts_sound c k kept.sound t x)
  sound_next (clears o t x) = (kept.list, clears_sound c k kept.sound o t x)

  -- Top was linked before the step, so it is after it where the step does not set it
  top_same : (c.memory (suc k)).top ≡ (c.memory k).top → IsLinked (link c.log (suc k)) (c.memory (suc k)).top
  top_same e = linked_stays _ (subst (IsLinked (link c.log k)) (sym e) kept.top)

  top_next : Happens c k → IsLinked (link c.log (suc k)) (c.memory (suc k)).top
  top_next (rests r) = linked_stays _ r.top
  top_next (begins o b) = top_same (ap (λ m. m.top) b.memory_kept)
  top_next (links o t l) = top_same l.top
  top_next (cuts t x) = top_same x.top
  top_next (clears o t x) = top_same x.top

  killed_dead_next : (t : ℕ) → t ≢ 0 → first_move c.log (suc k) t ≢ 0 → (c.memory (suc k)).mark t ≢ 0
  killed_dead_next t some n = go (flagging c k t some step)
    where
      go : Flagging c k t → (c.memory (suc k)).mark t ≢ 0
      go (inl (m, f)) = λ z. kept.killed_dead t some (λ y. n (f ∙ y)) (sym m ∙ z)
      go (inr (m, f)) = m

  dead_killed_next : (t : ℕ) → (c.memory (suc k)).mark t ≢ 0 → first_move c.log (suc k) t ≢ 0
  dead_killed_next t n = go (flagging c k t (dead_some (sound_next step).1 t n) step)
    where
      go : Flagging c k t → first_move c.log (suc k) t ≢ 0
      go (inl (m, f)) = λ z. kept.dead_killed t (λ y. n (m ∙ y)) (sym f ∙ z)
      go (inr (m, f)) = f

  -- what was known of an operation before the step is still known after it, if its last W2 is the same
  known_after : (o : ℕ) → IsOperation c.count o → start c.log (suc k) o ≡ start c.log k o → (last c.log k o ≢ 0 → last c.log (suc k) o ≡ last c.log k o) → KnowsAt c (suc k) o (c.local k o)
  known_after o op e ended =
      subst (λ s. Knows (link c.log (suc k)) (first_move c.log (suc k)) (c.memory (suc k)).mark s (last c.log (suc k) o) (c.local k o)) (sym e)
      (knows_kept linked_stays (λ t some. first_move_later c.log t k (start c.log k o) (start_le c.log k o)) dead_stays dead_node ended (life c k o op).on (kept.rows o op))

  rows_of_other : (o : ℕ) → IsOperation c.count o → (c.log (suc k)).by ≢ o → c.local (suc k) o ≡ c.local k o → KnowsAt c (suc k) o (c.local (suc k) o)
  rows_of_other o op n l = subst (KnowsAt c (suc k) o) (sym l) (known_after o op (start_other c.log k o n) (λ e. last_other c.log k o n))

  rows_of_actor : (o : ℕ) → ActsIn c k o → KnowsAt c (suc k) o (c.local (suc k) o)
  unfolding deeds
  rows_of_actor o a = own_knows (life c k o op).on finds old (λ e. known_after o op (start_unless c.log k o e) (λ n. absurd (n not_over))) ends a.turned
    where
      op : IsOperation c.count o
      op = a.operation

      not_over : last c.log k o ≡ 0
      not_over = (acts_new c k o a).not_over

      finds : Finds (link c.log (suc k)) (first_move c.log (suc k)) (c.memory k) (c.memory (suc k))
      finds = record { top_linked = linked_stays _ kept.top; upper_linked = λ i. linked_stays _ (λ n. upper_linked kept.sound i n); killed_dead = killed_dead_next }

      old : Knows (link c.log (suc k)) (first_move c.log k) (c.memory k).mark (start c.log k o) (last c.log k o) (c.local k o)
      old = knows_kept linked_stays (λ t some b. b) (λ t n. n) dead_node (λ n. refl) (life c k o op).on (kept.rows o op)

      ends : is_round (c.log (suc k)).event ≡ true → is_answer (c.log (suc k)).answer ≡ true → (last c.log (suc k) o ≢ 0) × (start c.log (suc k) o ≡ last c.log (suc k) o)
      ends e b =
          let at : last c.log (suc k) o ≡ suc k = last_new c.log k o a.by b not_over in
          ((λ z. omega arith), start_new c.log k o a.by (round_event (c.log (suc k)).event e) ∙ sym at)

  keeps_next : Keeps c (suc k)
  keeps_next =
      record {
        list = (sound_next step).0;
        sound = (sound_next step).1;
        top = top_next step;
        dead_killed = dead_killed_next;
        killed_dead = killed_dead_next;
        rows = λ o op. own_or_other c k o (operation_some op) (rows_of_other o op) (rows_of_actor o);
      }

module _ (c : Course TwoWay) where
  pub keeps : (k : ℕ) → Keeps c k
  keeps zero = keeps_fresh c
  keeps (suc k) = keeps_next c k (keeps k) (happens_next c k (keeps k) (c.step k))

  pub happens : (k : ℕ) → Happens c k
  happens k = happens_next c k (keeps k) (c.step k)

  -- the sentinel's lower is never read: whoever stands at a row that reads the lower of its node has a node that is no sentinel
  pub lower_of_node : (k o : ℕ) → IsOperation c.count o → ReadsLower (c.local k o).row → (c.local k o).registers.t ≢ 0
  lower_of_node k o op r = dead_some (keeps k).sound _ (reads_of_dead ((keeps k).rows o op) r)
