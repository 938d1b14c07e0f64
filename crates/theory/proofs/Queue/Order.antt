-- The nodes in the order of their links. A node's `born` is the step that linked it, 0 for the sentinel and for a node that is not
-- linked; the nexts lead from each linked node to the one born next, and a link at the last keeps that. Assumes nothing.
use mathlib.Core.Path.{◌≡◌, refl, sym, ap, subst, ◌∙◌}
use mathlib.Core.Logic.{◌≢◌, ◌⊎◌, inl, inr}
use Prim.Native.Nat.{ℕ, suc, ◌≤◌, ◌<◌}
use mathlib.Core.List.{List, [], ◌∷◌, ◌++◌}
use native.Mathlib.Omega.{arith}
use Rattle.basics.specs.Maps.{upd}
use Rattle.basics.proofs.Choice.{split}
use Rattle.basics.proofs.Maps.{upd_here, upd_there, upd_elim}
use Rattle.theory.proofs.Nodes.{IsLinked, Nodes, Nodes.end, Nodes.node}

-- after k steps on `count` operations
pub record Order (count k : ℕ) (next born : ℕ → ℕ) : Type 0 where
  pub sentinel_unborn : born 0 ≡ 0
  pub born_by_now : (i : ℕ) → born i ≤ k
  pub born_operation : (i : ℕ) → born i ≢ 0 → i ≤ count
  pub born_apart : (i x : ℕ) → IsLinked born i → IsLinked born x → born i ≡ born x → i ≡ x
  -- a next leads from a linked node to a linked one
  pub from_linked : (i : ℕ) → next i ≢ 0 → IsLinked born i
  pub to_linked : (i : ℕ) → next i ≢ 0 → born (next i) ≢ 0
  -- that was born later, and nothing between them
  pub ascends : (i : ℕ) → next i ≢ 0 → born i < born (next i)
  pub adjacent : (i : ℕ) → next i ≢ 0 → (x : ℕ) → (born x ≤ born i) ⊎ (born (next i) ≤ born x)
  -- a linked node with no next is the last
  pub last : (i : ℕ) → IsLinked born i → next i ≡ 0 → (x : ℕ) → born x ≤ born i

pub order_later : {count k : ℕ} {next born : ℕ → ℕ} → Order count k next born → Order count (suc k) next born
order_later {k} {born} d =
    record {
      sentinel_unborn = d.sentinel_unborn;
      born_by_now = λ i. let h : born i ≤ k = d.born_by_now i in omega arith;
      born_operation = d.born_operation;
      born_apart = d.born_apart;
      from_linked = d.from_linked;
      to_linked = d.to_linked;
      ascends = d.ascends;
      adjacent = d.adjacent;
      last = d.last;
    }

-- operation o can link its node behind t, the last one
pub record CanLink (count : ℕ) (next born : ℕ → ℕ) (t o : ℕ) : Type 0 where
  pub t_linked : IsLinked born t
  pub t_last : next t ≡ 0
  pub some : o ≢ 0
  pub known : o ≤ count
  pub unborn : born o ≡ 0

-- and does at step k + 1
module _ {count k : ℕ} {next born : ℕ → ℕ} (d : Order count k next born) {t o : ℕ} (b : CanLink count next born t o) where
  open b use {t_linked, t_last, some, known, unborn}

  abbrev next' : ℕ → ℕ
  next' = upd next t o

  abbrev born' : ℕ → ℕ
  born' = upd born o (suc k)

  linked_not_new : {i : ℕ} → IsLinked born i → i ≢ o
  linked_not_new {i} l e = l (λ z. some (sym e ∙ z)) (ap born e ∙ unborn)

  pub link_keeps_born : {i : ℕ} → IsLinked born i → born' i ≡ born i
  link_keeps_born l = upd_there born o (suc k) (linked_not_new l)

  born_new : born' o ≡ suc k
  born_new = upd_here born o (suc k)

  born_of_other : {i : ℕ} → i ≢ o → born' i ≡ born i
  born_of_other n = upd_there born o (suc k) n

  pub link_keeps_linked : {i : ℕ} → IsLinked born i → IsLinked born' i
  link_keeps_linked l n z = l n (sym (link_keeps_born l) ∙ z)

  linked_before : {i : ℕ} → i ≢ o → IsLinked born' i → IsLinked born i
  linked_before n l m z = l m (born_of_other n ∙ z)

  pub link_keeps_next : {i : ℕ} → next i ≢ 0 → next' i ≡ next i
  link_keeps_next {i} n = upd_there next t o (λ e. n (ap next e ∙ t_last))

  next_new : next' t ≡ o
  next_new = upd_here next t o

  -- the new node has no next
  next_of_new : next' o ≡ 0
  next_of_new = upd_there next t o (λ e. linked_not_new t_linked (sym e)) ∙ none_yet (split (next o) 0)
    where
      none_yet : (next o ≡ 0) ⊎ (next o ≢ 0) → next o ≡ 0
      none_yet (inl z) = z
      none_yet (inr n) = absurd (d.from_linked o n some unborn)

  -- a node with a next has its old one, or is t and has o
  data Next (i : ℕ) : Type 0 where
    old : next i ≢ 0 → born' i ≡ born i → born' (next' i) ≡ born (next i) → Next i
    new : IsLinked born i → born' i ≡ born t → born' (next' i) ≡ suc k → Next i

  next_by_cases : (i : ℕ) → next' i ≢ 0 → Next i
  next_by_cases i n = go (split i t)
    where
      go : (i ≡ t) ⊎ (i ≢ t) → Next i
      go (inl e) = new (subst (IsLinked born) (sym e) t_linked) (ap born' e ∙ link_keeps_born t_linked) (ap born' (ap next' e ∙ next_new) ∙ born_new)
      go (inr e) =
          let same : next' i ≡ next i = upd_there next t o e in
          let was : next i ≢ 0 = λ z. n (same ∙ z) in
          old was (link_keeps_born (d.from_linked i was)) (ap born' same ∙ link_keeps_born (λ m. d.to_linked i was))

  link_ascends : (i : ℕ) → Next i → born' i < born' (next' i)
  link_ascends i (old n b c) = let h : born i < born (next i) = d.ascends i n in omega arith
  link_ascends i (new l b c) = let h : born t ≤ k = d.born_by_now t in omega arith

  link_adjacent : (i x : ℕ) → Next i → (x ≡ o) ⊎ (x ≢ o) → (born' x ≤ born' i) ⊎ (born' (next' i) ≤ born' x)
  link_adjacent i x (old n b c) (inl e) =
      let y : born' x ≡ suc k = ap born' e ∙ born_new in
      let h : born (next i) ≤ k = d.born_by_now (next i) in
      inr (omega arith)
  link_adjacent i x (old n b c) (inr f) = go (d.adjacent i n x)
    where
      y : born' x ≡ born x
      y = born_of_other f

      go : (born x ≤ born i) ⊎ (born (next i) ≤ born x) → (born' x ≤ born' i) ⊎ (born' (next' i) ≤ born' x)
      go (inl h) = inl (omega (arith, y))
      go (inr h) = inr (omega (arith, y))
  link_adjacent i x (new l b c) (inl e) = let y : born' x ≡ suc k = ap born' e ∙ born_new in inr (omega arith)
  link_adjacent i x (new l b c) (inr f) =
      let y : born' x ≡ born x = born_of_other f in
      let h : born x ≤ born t = d.last t t_linked t_last x in
      inl (omega arith)

  born_to_next : (x : ℕ) → born' x ≤ suc k
  born_to_next x = upd_elim (λ v. v ≤ suc k) born o (suc k) x (λ e. omega arith) (λ e. let h : born x ≤ k = d.born_by_now x in omega arith)

  link_apart : (i x : ℕ) → IsLinked born' i → IsLinked born' x → born' i ≡ born' x → (i ≡ o) ⊎ (i ≢ o) → (x ≡ o) ⊎ (x ≢ o) → i ≡ x
  link_apart i x li lx e (inl a) (inl b) = a ∙ sym b
  link_apart i x li lx e (inl a) (inr b) = absurd (omega (arith, ap born' a, born_new, born_of_other b, d.born_by_now x))
  link_apart i x li lx e (inr a) (inl b) = absurd (omega (arith, ap born' b, born_new, born_of_other a, d.born_by_now i))
  link_apart i x li lx e (inr a) (inr b) =
      d.born_apart i x (linked_before a li) (linked_before b lx) (sym (born_of_other a) ∙ e ∙ born_of_other b)

  -- t alone had no next
  last_is : (i : ℕ) → IsLinked born i → next i ≡ 0 → i ≡ t
  last_is i l z =
      d.born_apart i t l t_linked (omega (arith, d.last i l z t, d.last t t_linked t_last i))

  -- the list behind a linked node grows by the new one
  pub link_lengthens : {i x : ℕ} {l : List ℕ} → Nodes next x l → next i ≡ x → IsLinked born i → Nodes next' (next' i) (l ++ (o ∷ []))
  link_lengthens {i} (end z) e li =
      let new : next' i ≡ o = ap next' (last_is i li (e ∙ z)) ∙ next_new in
      subst (λ y. Nodes next' y (o ∷ [])) (sym new) (node some (end next_of_new))
  link_lengthens {i} (node {i = x} {l = l} n c) e li =
      let has_next : next i ≢ 0 = λ z. n (sym e ∙ z) in
      let rest : Nodes next' (next' x) (l ++ (o ∷ [])) = link_lengthens {i = x} c refl (λ f z. d.to_linked i has_next (ap born e ∙ z)) in
      subst (λ y. Nodes next' y (x ∷ (l ++ (o ∷ [])))) (sym (link_keeps_next has_next ∙ e)) (node n rest)

  link_last : (i : ℕ) → IsLinked born' i → next' i ≡ 0 → (x : ℕ) → (i ≡ o) ⊎ (i ≢ o) → born' x ≤ born' i
  link_last i l z x (inl e) = omega (arith, ap born' e, born_new, born_to_next x)
  link_last i l z x (inr n) = absurd (some (sym next_new ∙ ap next' (sym is_t) ∙ z))
    where
      not_t : i ≢ t
      not_t e = some (sym next_new ∙ ap next' (sym e) ∙ z)

      is_t : i ≡ t
      is_t = last_is i (linked_before n l) (sym (upd_there next t o not_t) ∙ z)

  pub link_keeps_order : Order count (suc k) next' born'
  link_keeps_order =
      record {
        sentinel_unborn = upd_there born o (suc k) (λ e. some (sym e)) ∙ d.sentinel_unborn;
        born_by_now = born_to_next;
        born_operation = λ i. upd_elim (λ v. v ≢ 0 → i ≤ count) born o (suc k) i (λ e n. omega arith) (λ e n. d.born_operation i n);
        born_apart = λ i x li lx e. link_apart i x li lx e (split i o) (split x o);
        from_linked = λ i n. from (next_by_cases i n);
        to_linked = λ i n. to (next_by_cases i n);
        ascends = λ i n. link_ascends i (next_by_cases i n);
        adjacent = λ i n x. link_adjacent i x (next_by_cases i n) (split x o);
        last = λ i l z x. link_last i l z x (split i o);
      }
    where
      from : {i : ℕ} → Next i → IsLinked born' i
      from {i} (old n b c) = link_keeps_linked (d.from_linked i n)
      from (new l b c) = link_keeps_linked l

      to : {i : ℕ} → Next i → born' (next' i) ≢ 0
      to {i} (old n b c) z = d.to_linked i n (sym c ∙ z)
      to (new l b c) z = omega arith
