-- What holds of the queue after any number of steps: of its memory, and of what each operation knows. Assumes nothing.
use mathlib.Core.Path.{◌≡◌, refl, sym, subst, ◌∙◌}
use mathlib.Core.Logic.{◌≢◌, ◌⊎◌, inl, inr}
use Prim.Native.Nat.{ℕ, zero, suc}
use mathlib.Core.Bool.{Bool, true, false}
use Rattle.basics.proofs.Choice.{split}
use Rattle.job.specs.declared.Kind.TheVariants.{Queue}
use Rattle.machine.specs.declared.Event.{Event}
use Rattle.machine.specs.declared.Event.TheVariants.{Quiet}
use Rattle.machine.specs.Memory.{fresh_memory}
use Rattle.machine.specs.Table.{first_row}
use Rattle.machine.specs.Journal.{start, join}
use Rattle.machine.proofs.Stamps.{start_other, start_le, join_other}
use Rattle.theory.proofs.Listing.{initial}
use Rattle.theory.proofs.Course.{Course, PassesIn, ActsIn, passes_by}
use Rattle.theory.proofs.Deeds.{deeds, deeds_after}
use Rattle.theory.proofs.Life.{operation_some, acts_new}
use Rattle.theory.proofs.Queue.Memory.{Now, Sound, fresh_sound, Still.quiet, Change, Change.stays}
use Rattle.theory.proofs.Queue.Keeps.{change_keeps}
use Rattle.theory.proofs.Queue.Grows.{change_grows}
use Rattle.theory.proofs.Queue.Rows.{Knows, Knows.in_q1, Knows.in_t1, knows_grows}
use Rattle.theory.proofs.Queue.Steps.{AfterTurn, turn_goes}
use Rattle.theory.proofs.Queue.Now.{now, front, now_next, now_first, passes_keeps}

-- what operation o knows after k steps, of memory v
abbrev KnowsOf : Course Queue → ℕ → ℕ → Now → Type 0
KnowsOf c k o v = Knows (front c) o (start c.log k o) (join c.log k o) v (c.local k o)

-- after k steps
pub record Always (c : Course Queue) (k : ℕ) : Type 0 where
  pub sound : Sound c.count k (now c k)
  pub knows : (o : ℕ) → o ≢ 0 → KnowsOf c k o (now c k)

-- a step of another, or of nobody, leaves what operation q knows
other_knows : (c : Course Queue) {k o : ℕ} {e : Event} → Always c k → Change c.count k o (now c k) e (now c (suc k)) → (q : ℕ) → q ≢ 0 → (c.log (suc k)).by ≢ q → c.local (suc k) q ≡ c.local k q → KnowsOf c (suc k) q (now c (suc k))
other_knows c {k} h change q some away same =
    rw (same, start_other c.log k q away, join_other c.log k q away) (knows_grows h.sound (change_grows h.sound change) (start_le c.log k q) (h.knows q some))

-- operation o makes step k + 1
module _ (c : Course Queue) {k o : ℕ} (h : Always c k) (a : ActsIn c k o) where
  goes : AfterTurn c.count k o (front c) (now c k) (c.memory (suc k)) (c.local (suc k) o) (c.log (suc k)).event (deeds c.log (suc k) o)
  unfolding deeds front
  goes =
      turn_goes a.turned (h.knows o (operation_some a.operation))
      (record {
        operation = a.operation;
        sound = h.sound;
        born_is = refl;
        started = start_le c.log k o;
        new = acts_new c k o a;
        after = deeds_after c.log k o a.by;
        front_is = refl;
      })

  pub step_changes : Change c.count k o (now c k) (c.log (suc k)).event (now c (suc k))
  step_changes = subst (Change c.count k o (now c k) (c.log (suc k)).event) (now_next c a h.sound goes.change) goes.change

  own_knows : KnowsOf c (suc k) o (now c (suc k))
  unfolding deeds
  own_knows = subst (KnowsOf c (suc k) o) (now_next c a h.sound goes.change) goes.knows

  always_acts : Always c (suc k)
  always_acts = record { sound = (change_keeps step_changes h.sound).0; knows = λ q f. go q f (split q o) }
    where
      go : (q : ℕ) → q ≢ 0 → (q ≡ o) ⊎ (q ≢ o) → KnowsOf c (suc k) q (now c (suc k))
      go q f (inl e) = subst (λ x. KnowsOf c (suc k) x (now c (suc k))) (sym e) own_knows
      go q f (inr n) = other_knows c h step_changes q f (λ e. n (sym e ∙ a.by)) (a.others_kept q n)

-- nothing happens at step k + 1
module _ (c : Course Queue) {k : ℕ} (a : PassesIn c k) where
  passing_changes : Change c.count k 0 (now c k) Quiet (now c (suc k))
  passing_changes = subst (Change c.count k 0 (now c k) Quiet) (sym (passes_keeps c a)) (stays quiet)

  always_passes : Always c k → Always c (suc k)
  always_passes h =
      record {
        sound = (change_keeps passing_changes h.sound).0;
        knows = λ q f. other_knows c h passing_changes q f (λ e. f (sym e ∙ passes_by a)) (a.locals_kept q f);
      }

-- before any step
first_knows : {front : ℕ → ℕ} {o start join : ℕ} {v : Now} (put : Bool) → Knows front o start join v (initial Queue put)
unfolding initial first_row
first_knows true = in_q1
first_knows false = in_t1

module _ (c : Course Queue) where
  always_first : Always c 0
  unfolding fresh_memory
  always_first =
      record {
        sound = subst (Sound c.count 0) (now_first c) (fresh_sound c.count);
        knows = λ o f. subst (Knows (front c) o (start c.log 0 o) (join c.log 0 o) (now c 0)) (sym (c.local_first o)) (first_knows (c.is_put o));
      }

  -- so it holds after any number of steps
  pub always : (k : ℕ) → Always c k
  always zero = always_first
  always (suc k) = go (always k) (c.step k)
    where
      go : Always c k → PassesIn c k ⊎ ((o : ℕ) × ActsIn c k o) → Always c (suc k)
      go h (inl a) = always_passes c a h
      go h (inr a) = always_acts c h a.1
