-- The memory of a two-way linked stack after each sort of step is sound, and what is left changes as the sort says. Assumes nothing.
use mathlib.Core.Path.{◌≡◌, refl, sym, ap, subst₂, fun_ext, ◌∙◌}
use mathlib.Core.Logic.{◌≢◌}
use Prim.Native.Nat.{ℕ, suc}
use mathlib.Core.Bool.{false}
use mathlib.Core.List.{List, ◌∷◌}
use native.Mathlib.Omega.{arith}
use Rattle.job.specs.declared.Kind.TheVariants.{TwoWay}
use Rattle.machine.specs.declared.Event.{Event}
use Rattle.machine.specs.Journal.{is_linked, link}
use Rattle.machine.specs.Left.{left_in}
use Rattle.machine.proofs.Stamps.{link_unless, link_other, link_new}
use Rattle.theory.proofs.Course.{Course}
use Rattle.theory.proofs.TwoWay.Sound.{live, Sound, left_live}
use Rattle.theory.proofs.TwoWay.Changes.{CanLink, sound_linked, live_linked, IsCut, cut_off, sound_cleared, live_cleared, live_cleared_again}
use Rattle.theory.proofs.TwoWay.Steps.{Rests, Begins, Links, Cuts, Clears}

-- sound with these nodes after k steps
abbrev pub SoundAt : Course TwoWay → ℕ → List ℕ → Type 0
SoundAt c k list = Sound c.count (link c.log k) (c.memory k).upper (c.memory k).next (c.memory k).mark list

-- what is left after k steps
abbrev pub contents : Course TwoWay → ℕ → List ℕ
contents c k = left_in TwoWay c.count (c.memory k)

-- the same of equal maps
sound_is : {count : ℕ} {born born' upper upper' next next' mark mark' : ℕ → ℕ} {list : List ℕ} → born' ≡ born → upper' ≡ upper → next' ≡ next → mark' ≡ mark → Sound count born upper next mark list → Sound count born' upper' next' mark' list
sound_is {count} {born'} {upper} {upper'} {next} {next'} {mark} {mark'} {list} b u n m d =
    subst₂ (λ x y. Sound count born' upper' x y list) (sym n) (sym m) (subst₂ (λ x y. Sound count x y next mark list) (sym b) (sym u) d)

module _ (c : Course TwoWay) (k : ℕ) where
  -- a step that links nothing
  born_kept : {e : Event} → (c.log (suc k)).event ≡ e → is_linked e ≡ false → link c.log (suc k) ≡ link c.log k
  born_kept h f = fun_ext (λ i. link_unless c.log k i (ap is_linked h ∙ f))

module _ (c : Course TwoWay) (k : ℕ) {list : List ℕ} (d : SoundAt c k list) where
  -- what is left before the step, and after it with these nodes
  left_now : contents c k ≡ live (c.memory k).mark list
  left_now = left_live (c.memory k) d

  left_then : {list' : List ℕ} → SoundAt c (suc k) list' → contents c (suc k) ≡ live (c.memory (suc k)).mark list'
  left_then f = left_live (c.memory (suc k)) f

  pub rests_sound : Rests c k → SoundAt c (suc k) list
  unfolding is_linked
  rests_sound r = sound_is (born_kept c k r.event refl) r.upper r.next r.mark d

  pub rests_left : Rests c k → contents c (suc k) ≡ contents c k
  rests_left r = left_then (rests_sound r) ∙ ap (λ m. live m list) r.mark ∙ sym left_now

  pub begins_sound : (o : ℕ) → Begins c k o → SoundAt c (suc k) list
  unfolding is_linked
  begins_sound o b = sound_is (born_kept c k b.event refl) (ap (λ m. m.upper) b.memory_kept) (ap (λ m. m.next) b.memory_kept) (ap (λ m. m.mark) b.memory_kept) d

  can_link : (o t : ℕ) → Links c k o t → CanLink c.count (link c.log k) (c.memory k).upper (c.memory k).mark t o
  can_link o t l = record { t_linked = l.t_linked; t_bare = l.t_bare; t_live = l.t_live; operation = l.operation; unborn = l.unlinked }

  born_new : (o t : ℕ) → Links c k o t → link c.log (suc k) o ≢ 0
  born_new o t l z = omega (arith, link_new c.log k o l.by l.event l.unlinked)

  born_old : (o t : ℕ) → Links c k o t → (i : ℕ) → i ≢ o → link c.log (suc k) i ≡ link c.log k i
  born_old o t l i n = link_other c.log k i (λ e. n (sym e ∙ l.by))

  pub links_sound : (o t : ℕ) → Links c k o t → SoundAt c (suc k) (o ∷ list)
  links_sound o t l = sound_is refl l.upper l.next l.mark (sound_linked d (can_link o t l) (born_new o t l) (born_old o t l))

  pub links_left : (o t : ℕ) → Links c k o t → contents c (suc k) ≡ o ∷ contents c k
  links_left o t l =
      left_then (links_sound o t l)
      ∙ ap (λ m. live m (o ∷ list)) l.mark
      ∙ live_linked d (can_link o t l) (born_new o t l) (born_old o t l)
      ∙ ap (λ r. o ∷ r) (sym left_now)

  pub is_cut : (t : ℕ) → Cuts c k t → IsCut c.count (link c.log k) (c.memory k).upper (c.memory k).next (c.memory k).mark t list
  is_cut t x = cut_off d x.dead x.held

  pub cuts_sound : (t : ℕ) (x : Cuts c k t) → SoundAt c (suc k) (is_cut t x).rest
  unfolding is_linked
  cuts_sound t x = sound_is (born_kept c k x.event refl) x.upper x.next x.mark (is_cut t x).sound

  pub cuts_left : (t : ℕ) → Cuts c k t → contents c (suc k) ≡ contents c k
  cuts_left t x = left_then (cuts_sound t x) ∙ ap (λ m. live m (is_cut t x).rest) x.mark ∙ (is_cut t x).same_live ∙ sym left_now

  module _ (o t : ℕ) (x : Clears c k o t) where
    t_born : link c.log k t ≢ 0
    t_born = x.t_linked x.some_node

    pub clears_sound : SoundAt c (suc k) list
    unfolding is_linked
    clears_sound = sound_is (born_kept c k x.event refl) x.upper x.next x.mark (sound_cleared d t_born x.t_bare)

    -- the first W4 on t takes it away, which was first of what is left
    pub clears_left : (c.memory k).mark t ≡ 0 → contents c k ≡ t ∷ contents c (suc k)
    clears_left z =
        left_now
        ∙ live_cleared d t_born x.t_bare z
        ∙ ap (λ r. t ∷ r) (sym (left_then clears_sound ∙ ap (λ m. live m list) x.mark))

    -- another finds it gone
    pub clears_left_again : (c.memory k).mark t ≢ 0 → contents c (suc k) ≡ contents c k
    clears_left_again n = left_then clears_sound ∙ ap (λ m. live m list) x.mark ∙ live_cleared_again d t_born x.t_bare n ∙ sym left_now
