-- Memory and its stamps after k steps, from the searches of the journal; and how a step changes the stamps. Assumes nothing.
use mathlib.Core.Path.{◌≡◌, refl, sym, ap, ap₂, fun_ext, ◌∙◌}
use mathlib.Core.Logic.{◌≢◌, ◌⊎◌, inl, inr}
use Prim.Native.Nat.{ℕ, suc}
use Rattle.basics.specs.Choice.{pick, same}
use Rattle.basics.specs.Maps.{upd}
use Rattle.basics.proofs.Choice.{split, pick_then, pick_else, equal_same, unequal_same}
use Rattle.basics.proofs.Maps.{upd_elim}
use Rattle.job.specs.declared.Kind.TheVariants.{Queue}
use Rattle.machine.specs.declared.Event.{Event}
use Rattle.machine.specs.declared.Event.TheVariants.{Moved}
use Rattle.machine.specs.Memory.{fresh_memory}
use Rattle.machine.specs.Notes.{Note}
use Rattle.machine.specs.Journal.{is_linked, moved_to, link}
use Rattle.machine.specs.Effects.{first_move}
use Rattle.machine.proofs.Stamps.{link_other, link_unless, link_new, link_zero, first_move_zero, first_move_unless, first_move_new}
use Rattle.theory.proofs.Course.{Course, PassesIn, ActsIn, passes_event}
use Rattle.theory.proofs.Queue.Memory.{Now, Sound, Still.quiet, Still.round, Still.late, Change, Change.stays, Change.links, Change.tail_moves, Change.head_moves}
use Rattle.theory.proofs.Queue.Grows.{next_unmoved}
use Rattle.theory.proofs.Queue.Steps.{now_of}

-- the first step that moved Head to a node, 0 for none and for node 0
unfoldable pub moved : (ℕ → Note) → ℕ → ℕ → ℕ
moved log k n = pick (same n 0) 0 (first_move log k n)

module _ (log : ℕ → Note) (k : ℕ) where
  pub moved_is : {n : ℕ} → n ≢ 0 → moved log k n ≡ first_move log k n
  unfolding moved
  moved_is f = pick_else _ _ (unequal_same f)

  moved_none : {n : ℕ} → n ≡ 0 → moved log k n ≡ 0
  unfolding moved
  moved_none e = pick_then _ _ (equal_same e)

module _ (log : ℕ → Note) (k : ℕ) where
  -- a step that moves Head to no new node
  moved_unless : moved_to (log (suc k)).event ≡ 0 → moved log (suc k) ≡ moved log k
  moved_unless e = fun_ext (λ n. go (split n 0))
    where
      go : {n : ℕ} → (n ≡ 0) ⊎ (n ≢ 0) → moved log (suc k) n ≡ moved log k n
      go (inl z) = moved_none log (suc k) z ∙ sym (moved_none log k z)
      go {n} (inr f) = moved_is log (suc k) f ∙ first_move_unless log n k (λ x. f (sym x ∙ e)) ∙ sym (moved_is log k f)

  moved_new : {n : ℕ} → (log (suc k)).event ≡ Moved n → n ≢ 0 → moved log k n ≡ 0 → moved log (suc k) ≡ upd (moved log k) n (suc k)
  unfolding moved_to
  moved_new {n} e some z = fun_ext (λ i. upd_elim (λ x. moved log (suc k) i ≡ x) (moved log k) n (suc k) i (λ f. ap (moved log (suc k)) f ∙ here) (λ f. go f (split i 0)))
    where
      here : moved log (suc k) n ≡ suc k
      here = moved_is log (suc k) some ∙ first_move_new log n k e (sym (moved_is log k some) ∙ z)

      go : {i : ℕ} → i ≢ n → (i ≡ 0) ⊎ (i ≢ 0) → moved log (suc k) i ≡ moved log k i
      go f (inl y) = moved_none log (suc k) y ∙ sym (moved_none log k y)
      go {i} f (inr g) = moved_is log (suc k) g ∙ first_move_unless log i k (λ x. f (sym x ∙ ap moved_to e)) ∙ sym (moved_is log k g)

-- memory and its stamps after k steps
abbrev pub now : Course Queue → ℕ → Now
now c k = now_of (c.memory k) (link c.log k) (moved c.log k)

-- the next of Head after k steps
unfoldable pub front : Course Queue → ℕ → ℕ
front c k = (c.memory k).next (c.memory k).head

-- the stamps after a step of operation o are those of the change
module _ (c : Course Queue) {k o : ℕ} (a : ActsIn c k o) where
  born_next : {e : Event} {w : Now} → (c.log (suc k)).event ≡ e → Change c.count k o (now c k) e w → link c.log (suc k) ≡ w.born
  unfolding is_linked
  born_next is (stays quiet) = fun_ext (λ i. link_unless c.log k i (ap is_linked is))
  born_next is (stays round) = fun_ext (λ i. link_unless c.log k i (ap is_linked is))
  born_next is (stays late) = fun_ext (λ i. link_unless c.log k i (ap is_linked is))
  born_next is (links b) =
      fun_ext (λ i. upd_elim (λ x. link c.log (suc k) i ≡ x) (link c.log k) o (suc k) i (λ f. link_new c.log k i (a.by ∙ sym f) is (ap (link c.log k) f ∙ b.unborn)) (λ f. link_other c.log k i (λ g. f (sym g ∙ a.by))))
  born_next is (tail_moves f g) = fun_ext (λ i. link_unless c.log k i (ap is_linked is))
  born_next is (head_moves f g h) = fun_ext (λ i. link_unless c.log k i (ap is_linked is))

  moved_next : {e : Event} {w : Now} → (c.log (suc k)).event ≡ e → Sound c.count k (now c k) → Change c.count k o (now c k) e w → moved c.log (suc k) ≡ w.moved
  unfolding moved_to
  moved_next is d (stays quiet) = moved_unless c.log k (ap moved_to is)
  moved_next is d (stays round) = moved_unless c.log k (ap moved_to is)
  moved_next is d (stays late) = moved_unless c.log k (ap moved_to is)
  moved_next is d (links b) = moved_unless c.log k (ap moved_to is)
  moved_next is d (tail_moves f g) = moved_unless c.log k (ap moved_to is)
  moved_next is d (head_moves f g h) = moved_new c.log k is g (next_unmoved d f g)

  pub now_next : {born moved : ℕ → ℕ} → Sound c.count k (now c k) → Change c.count k o (now c k) (c.log (suc k)).event (now_of (c.memory (suc k)) born moved) → now_of (c.memory (suc k)) born moved ≡ now c (suc k)
  now_next d change = ap₂ (now_of (c.memory (suc k))) (sym (born_next refl change)) (sym (moved_next refl d change))

-- nothing happens at step k + 1
pub passes_keeps : (c : Course Queue) {k : ℕ} → PassesIn c k → now c (suc k) ≡ now c k
unfolding is_linked moved_to
passes_keeps c {k} a =
    let born_kept : link c.log (suc k) ≡ link c.log k = fun_ext (λ i. link_unless c.log k i (ap is_linked (passes_event a))) in
    let moved_kept : moved c.log (suc k) ≡ moved c.log k = moved_unless c.log k (ap moved_to (passes_event a)) in
    λ i. now_of (a.memory_kept i) (born_kept i) (moved_kept i)

-- before any step
module _ (c : Course Queue) where
  none_yet : (n : ℕ) → moved c.log 0 n ≡ 0
  none_yet n = go (split n 0)
    where
      go : (n ≡ 0) ⊎ (n ≢ 0) → moved c.log 0 n ≡ 0
      go (inl z) = moved_none c.log 0 z
      go (inr f) = moved_is c.log 0 f ∙ first_move_zero c.log n

  pub now_first : now_of fresh_memory (λ i. 0) (λ i. 0) ≡ now c 0
  now_first =
      let born_first : link c.log 0 ≡ (λ i. 0) = fun_ext (λ i. link_zero c.log i) in
      let moved_first : moved c.log 0 ≡ (λ i. 0) = fun_ext none_yet in
      λ i. now_of (sym c.memory_first i) (sym born_first i) (sym moved_first i)
