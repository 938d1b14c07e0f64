-- The three changes of a two-way linked stack's memory keep it sound: a link on top of the tower, a cut of its dead uppermost node, and a flag cleared;
-- and what each does to the live nodes of the tower. Assumes nothing.
use mathlib.Core.Path.{◌≡◌, refl, sym, ap, subst, ◌∙◌}
use mathlib.Core.Logic.{◌≢◌, ◌⊎◌, inl, inr}
use Prim.Native.Nat.{ℕ}
use mathlib.Core.List.{List, [], ◌∷◌, Memᴰ}
use native.Mathlib.Omega.{arith}
use Rattle.basics.specs.Choice.{same}
use Rattle.basics.specs.Maps.{upd}
use Rattle.basics.proofs.Choice.{split, equal_same, unequal_same}
use Rattle.basics.proofs.Maps.{upd_here, upd_there, upd_elim}
use Rattle.machine.specs.Explained.{IsOperation}
use Rattle.machine.proofs.Lists.{Distinct, distinct_first, distinct_rest, sift_keeps, sift_drops, sift_agrees}
use Rattle.theory.proofs.Nodes.{IsLinked}
use Rattle.theory.proofs.Life.{operation_some}
use Rattle.theory.proofs.TwoWay.Tower.{top_of, Tower, floor, Spot, spot_top, tower_kept}
use Rattle.theory.proofs.TwoWay.Sound.{live, Sound, is_uppermost, live_spot, upper_in, dead_some}

-- a node t that is linked, or the sentinel, without upper and live; operation o has not linked its node
pub record CanLink (count : ℕ) (born upper mark : ℕ → ℕ) (t o : ℕ) : Type 0 where
  pub t_linked : IsLinked born t
  pub t_bare : upper t ≡ 0
  pub t_live : mark t ≡ 0
  pub operation : IsOperation count o
  pub unborn : born o ≡ 0

-- o links its node on t
module _ {count : ℕ} {born upper next mark : ℕ → ℕ} {list : List ℕ} (d : Sound count born upper next mark list) {t o : ℕ} (b : CanLink count born upper mark t o) {born' : ℕ → ℕ} (new : born' o ≢ 0) (old : (i : ℕ) → i ≢ o → born' i ≡ born i) where
  at_top : t ≡ top_of list
  at_top = is_uppermost d (live_spot d b.t_linked b.t_live) b.t_bare

  not_there : Memᴰ o list → ⊥
  not_there m = d.born_in o m b.unborn

  not_t : o ≢ t
  not_t e = b.t_linked (λ z. operation_some b.operation (e ∙ z)) (ap born (sym e) ∙ b.unborn)

  no_upper_yet : upper o ≡ 0
  no_upper_yet = go (split (upper o) 0)
    where
      nowhere : Spot o list → ⊥
      nowhere (inl z) = operation_some b.operation z
      nowhere (inr m) = not_there m

      go : (upper o ≡ 0) ⊎ (upper o ≢ 0) → upper o ≡ 0
      go (inl z) = z
      go (inr n) = absurd (nowhere (d.holds o n))

  not_dead : mark o ≡ 0
  not_dead = go (split (mark o) 0)
    where
      go : (mark o ≡ 0) ⊎ (mark o ≢ 0) → mark o ≡ 0
      go (inl z) = z
      go (inr n) = absurd (d.dead_born o n b.unborn)

  born_stays : (i : ℕ) → born i ≢ 0 → born' i ≢ 0
  born_stays i n z = n (sym (old i (λ e. n (ap born e ∙ b.unborn))) ∙ z)

  linked_stays : (i : ℕ) → IsLinked born i → IsLinked born' i
  linked_stays i l n = born_stays i (l n)

  tower_linked : Tower (upd upper t o) (upd next o t) (o ∷ list)
  tower_linked =
      floor (operation_some b.operation)
      (upd_here next o t ∙ at_top)
      (ap (upd upper t o) (sym at_top) ∙ upd_here upper t o)
      (tower_kept d.distinct
      (λ i s n. upd_there upper t o (λ e. n (e ∙ at_top)))
      (λ i m. upd_there next o t (λ e. not_there (mathlib.Core.List.Memᴰ.cast (sym e) m)))
      d.tower)

  holds_linked : (i : ℕ) → upd upper t o i ≢ 0 → Spot i (o ∷ list)
  holds_linked i n = go (split i t)
    where
      more : Spot i list → Spot i (o ∷ list)
      more (inl z) = inl z
      more (inr m) = inr (mathlib.Core.List.Memᴰ.tail m)

      go : (i ≡ t) ⊎ (i ≢ t) → Spot i (o ∷ list)
      go (inl e) = more (subst (λ x. Spot x list) (sym (e ∙ at_top)) (spot_top list))
      go (inr f) = more (d.holds i (λ z. n (upd_there upper t o f ∙ z)))

  -- what a node is whose flag is looked at after the link
  by_node : (P : ℕ → Type 0) → P o → ((i : ℕ) → i ≢ o → P i) → (i : ℕ) → P i
  by_node P here there i = go (split i o)
    where
      go : (i ≡ o) ⊎ (i ≢ o) → P i
      go (inl e) = subst P (sym e) here
      go (inr n) = there i n

  pub sound_linked : Sound count born' (upd upper t o) (upd next o t) mark (o ∷ list)
  sound_linked =
      record {
        tower = tower_linked;
        uppermost = upd_there upper t o not_t ∙ no_upper_yet;
        distinct = Distinct.more not_there d.distinct;
        born_in = by_node (λ i. Memᴰ i (o ∷ list) → born' i ≢ 0) (λ m. new) (λ i n m. born_stays i (d.born_in i (in_rest i n (mathlib.Core.List.Memᴰ.cases_cons m))));
        operation = by_node (λ i. born' i ≢ 0 → IsOperation count i) (λ n. b.operation) (λ i f n. d.operation i (λ z. n (old i f ∙ z)));
        holds = holds_linked;
        live_in = by_node (λ i. born' i ≢ 0 → mark i ≡ 0 → Memᴰ i (o ∷ list)) (λ n z. mathlib.Core.List.Memᴰ.head refl) (λ i f n z. mathlib.Core.List.Memᴰ.tail (d.live_in i (λ y. n (old i f ∙ y)) z));
        dead_born = λ i n. born_stays i (d.dead_born i n);
        dead_bare = λ i n. upd_there upper t o (λ e. n (ap mark e ∙ b.t_live)) ∙ d.dead_bare i n;
        lowers = λ i. upd_elim (IsLinked born') next o t i (λ e. linked_stays t b.t_linked) (λ e. linked_stays (next i) (d.lowers i));
      }
    where
      in_rest : (i : ℕ) → i ≢ o → (i ≡ o) ⊎ Memᴰ i list → Memᴰ i list
      in_rest i n (inl e) = absurd (n e)
      in_rest i n (inr m) = m

  pub live_linked : live mark (o ∷ list) ≡ o ∷ live mark list
  live_linked = sift_keeps (λ i. same (mark i) 0) o list (equal_same not_dead)

-- a dead node t that its lower still holds is cut off
pub record IsCut (count : ℕ) (born upper next mark : ℕ → ℕ) (t : ℕ) (list : List ℕ) : Type 0 where
  pub rest : List ℕ
  pub was : list ≡ t ∷ rest
  pub sound : Sound count born (upd upper (next t) 0) next mark rest
  pub same_live : live mark rest ≡ live mark list

module _ {count : ℕ} {born upper next mark : ℕ → ℕ} {t : ℕ} where
  cut_floor : {list : List ℕ} → Sound count born upper next mark list → mark t ≢ 0 → t ≡ top_of list → Tower upper next list → IsCut count born upper next mark t list
  cut_floor {list = []} d dead e tower = absurd (dead_some d t dead e)
  cut_floor {list = x ∷ rest} d dead e (floor some lower up tower) =
      record {
        rest = rest;
        was = ap (λ y. y ∷ rest) (sym e);
        sound =
            record {
              tower = tower_kept (distinct_rest d.distinct) (λ i s n. upd_there upper (next t) 0 (λ f. n (f ∙ below))) (λ i m. refl) tower;
              uppermost = ap (upd upper (next t) 0) (sym below) ∙ upd_here upper (next t) 0;
              distinct = distinct_rest d.distinct;
              born_in = λ i m. d.born_in i (mathlib.Core.List.Memᴰ.tail m);
              operation = d.operation;
              holds = λ i n. spot_left i (λ f. n (ap (upd upper (next t) 0) f ∙ upd_here upper (next t) 0)) n;
              live_in = λ i n z. not_first i z (mathlib.Core.List.Memᴰ.cases_cons (d.live_in i n z));
              dead_born = d.dead_born;
              dead_bare = λ i n. upd_elim (λ u. u ≡ 0) upper (next t) 0 i (λ f. refl) (λ f. d.dead_bare i n);
              lowers = d.lowers;
            };
        same_live = sym (sift_drops (λ i. same (mark i) 0) x rest (unequal_same (λ z. dead (ap mark e ∙ z))));
      }
    where
      below : next t ≡ top_of rest
      below = ap next e ∙ lower

      not_first : (i : ℕ) → mark i ≡ 0 → (i ≡ x) ⊎ Memᴰ i rest → Memᴰ i rest
      not_first i z (inl f) = absurd (dead (ap mark (e ∙ sym f) ∙ z))
      not_first i z (inr m) = m

      without : (i : ℕ) → upper i ≢ 0 → (i ≡ x) ⊎ Memᴰ i rest → Spot i rest
      without i n (inl f) = absurd (n (ap upper (f ∙ sym e) ∙ d.dead_bare t dead))
      without i n (inr m) = inr m

      of_spot : (i : ℕ) → upper i ≢ 0 → Spot i (x ∷ rest) → Spot i rest
      of_spot i n (inl z) = inl z
      of_spot i n (inr m) = without i n (mathlib.Core.List.Memᴰ.cases_cons m)

      spot_left : (i : ℕ) → i ≢ next t → upd upper (next t) 0 i ≢ 0 → Spot i rest
      spot_left i f n = let m : upper i ≢ 0 = λ z. n (upd_there upper (next t) 0 f ∙ z) in of_spot i m (d.holds i m)

  pub cut_off : {list : List ℕ} → Sound count born upper next mark list → mark t ≢ 0 → upper (next t) ≡ t → IsCut count born upper next mark t list
  cut_off d dead held =
      let some : upper (next t) ≢ 0 = λ z. dead_some d t dead (sym held ∙ z) in
      cut_floor d dead (is_uppermost d (inr (mathlib.Core.List.Memᴰ.cast (sym held) (upper_in d (next t) some))) (d.dead_bare t dead)) d.tower

-- the flag of a linked node t without upper is cleared
module _ {count : ℕ} {born upper next mark : ℕ → ℕ} {list : List ℕ} (d : Sound count born upper next mark list) {t : ℕ} (t_born : born t ≢ 0) (t_bare : upper t ≡ 0) where
  is_set : (i : ℕ) → (P : Type 0) → (i ≡ t → P) → (mark i ≢ 0 → P) → upd mark t 1 i ≢ 0 → P
  is_set i P here there n = go (split i t)
    where
      go : (i ≡ t) ⊎ (i ≢ t) → P
      go (inl e) = here e
      go (inr f) = there (λ z. n (upd_there mark t 1 f ∙ z))

  one_set : upd mark t 1 t ≢ 0
  one_set z = let one : ◌≡◌ {A = ℕ} 1 0 = sym (upd_here mark t 1) ∙ z in omega arith

  clear_before : (i : ℕ) → upd mark t 1 i ≡ 0 → mark i ≡ 0
  clear_before i z = sym (upd_there mark t 1 (λ e. one_set (ap (upd mark t 1) (sym e) ∙ z))) ∙ z

  pub sound_cleared : Sound count born upper next (upd mark t 1) list
  sound_cleared =
      record {
        tower = d.tower;
        uppermost = d.uppermost;
        distinct = d.distinct;
        born_in = d.born_in;
        operation = d.operation;
        holds = d.holds;
        live_in = λ i n z. d.live_in i n (clear_before i z);
        dead_born = λ i. is_set i (born i ≢ 0) (λ e. λ z. t_born (ap born (sym e) ∙ z)) (d.dead_born i);
        dead_bare = λ i. is_set i (upper i ≡ 0) (λ e. ap upper e ∙ t_bare) (d.dead_bare i);
        lowers = d.lowers;
      }

  -- a live one was the first of the live nodes, and goes
  pub live_cleared : mark t ≡ 0 → live mark list ≡ t ∷ live (upd mark t 1) list
  live_cleared z = go list refl (is_uppermost d (inr (d.live_in t t_born z)) t_bare)
    where
      go : (l : List ℕ) → list ≡ l → t ≡ top_of list → live mark list ≡ t ∷ live (upd mark t 1) list
      go [] e top = absurd (operation_some (d.operation t t_born) (top ∙ ap top_of e))
      go (x ∷ rest) e top =
          let is : list ≡ t ∷ rest = e ∙ ap (λ y. y ∷ rest) (sym (top ∙ ap top_of e)) in
          let fresh : Memᴰ t rest → ⊥ = distinct_first (subst Distinct is d.distinct) in
          let others : live mark rest ≡ live (upd mark t 1) rest = sift_agrees (λ i. same (mark i) 0) (λ i. same (upd mark t 1 i) 0) rest (λ i m. ap (λ x. same x 0) (sym (upd_there mark t 1 (λ f. fresh (mathlib.Core.List.Memᴰ.cast (sym f) m))))) in
          ap (live mark) is
          ∙ sift_keeps (λ i. same (mark i) 0) t rest (equal_same z)
          ∙ ap (λ l. t ∷ l) (others ∙ sym (ap (live (upd mark t 1)) is ∙ sift_drops (λ i. same (upd mark t 1 i) 0) t rest (unequal_same one_set)))

  -- a dead one was no more among them
  pub live_cleared_again : mark t ≢ 0 → live (upd mark t 1) list ≡ live mark list
  live_cleared_again n = sift_agrees (λ i. same (upd mark t 1 i) 0) (λ i. same (mark i) 0) list (λ i m. agree i (split i t))
    where
      agree : (i : ℕ) → (i ≡ t) ⊎ (i ≢ t) → same (upd mark t 1 i) 0 ≡ same (mark i) 0
      agree i (inl e) = unequal_same (λ z. one_set (ap (upd mark t 1) (sym e) ∙ z)) ∙ sym (unequal_same (λ z. n (ap mark (sym e) ∙ z)))
      agree i (inr f) = ap (λ x. same x 0) (upd_there mark t 1 f)
