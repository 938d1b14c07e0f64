-- The contents after s of k steps: the nodes on the stack whose takers' line, in the run of k steps, does not stand at s or before; and how
-- each sort of step changes them. Assumes nothing.
use mathlib.Core.Path.{◌≡◌, sym, ap, subst, ◌∙◌}
use mathlib.Core.Logic.{◌≢◌, ◌⊎◌, inl, inr}
use Prim.Native.Nat.{ℕ, suc, ◌≤◌, ◌<◌}
use mathlib.Core.Bool.{Bool, true, false}
use mathlib.Core.List.Memᴰ
use mathlib.Core.List.{List, [], ◌∷◌, Memᴰ}
use native.Mathlib.Omega.{arith}
use Rattle.basics.specs.Choice.{pick, same, less}
use Rattle.basics.proofs.Choice.{split, compare, pick_then, pick_else, equal_same, unequal_same, lt_less, le_less}
use Rattle.job.specs.declared.Kind.TheVariants.{Stack}
use Rattle.machine.specs.declared.Event.TheVariants.{Round}
use Rattle.machine.specs.Memory.{fresh_memory}
use Rattle.machine.specs.Journal.{link}
use Rattle.machine.specs.Effects.{sift, latest_start}
use Rattle.machine.specs.Left.{left_in}
use Rattle.machine.proofs.Lists.{Distinct, distinct_first, sift_keeps, sift_drops, sift_agrees}
use Rattle.machine.proofs.Stamps.{link_stays}
use Rattle.theory.proofs.Course.{Course}
use Rattle.theory.proofs.Life.{operation_some}
use Rattle.theory.proofs.Stack.Raised.{raised, raised_le, raised_stays}
use Rattle.theory.proofs.Stack.Steps.{Pushes, Pops}
use Rattle.theory.proofs.Stack.Keeps.{keeps}
use Rattle.theory.proofs.Stack.Chain.{on_stack, stack_distinct, stack_puts, stack_none, stack_top, stack_pushed, stack_popped, stack_stays, stack_walk}
use Rattle.theory.proofs.Stack.Takers.{takers_line, raised_has_line, line_marked}

-- a line at step `line` (0: none) does not stand at s or before
not_yet : ℕ → ℕ → Bool
not_yet s line = pick (same line 0) true (less s line)

not_yet_none : (s : ℕ) {line : ℕ} → line ≡ 0 → not_yet s line ≡ true
unfolding not_yet
not_yet_none s z = pick_then _ _ (equal_same z)

not_yet_later : (s : ℕ) {line : ℕ} → s < line → not_yet s line ≡ true
unfolding not_yet
not_yet_later s h = pick_else _ _ (unequal_same (λ z. omega arith)) ∙ lt_less h

already : (s : ℕ) {line : ℕ} → line ≢ 0 → line ≤ s → not_yet s line ≡ false
unfolding not_yet
already s n h = pick_else _ _ (unequal_same n) ∙ le_less h

-- one more step, which is not that line's
not_yet_kept : (s line : ℕ) → line ≢ suc s → not_yet (suc s) line ≡ not_yet s line
not_yet_kept s line n = go (split line 0) (compare line s)
  where
    go : (line ≡ 0) ⊎ (line ≢ 0) → (line ≤ s) ⊎ (s < line) → not_yet (suc s) line ≡ not_yet s line
    go (inl z) b = not_yet_none (suc s) z ∙ sym (not_yet_none s z)
    go (inr m) (inl h) = already (suc s) m (omega arith) ∙ sym (already s m h)
    go (inr m) (inr h) = not_yet_later (suc s) (omega arith) ∙ sym (not_yet_later s h)

module _ (c : Course Stack) (k : ℕ) where
  -- is node t still there after s steps?
  still : ℕ → ℕ → Bool
  still s t = not_yet s (latest_start c.log c.count k t)

  pub contents : ℕ → List ℕ
  contents s = sift (still s) (on_stack c s)

  -- no takers' line stands at step s + 1
  abbrev pub NoLine : ℕ → Type 0
  NoLine s = (t : ℕ) → t ≢ 0 → latest_start c.log c.count k t ≢ suc s

  some_node : (s t : ℕ) → Memᴰ t (on_stack c s) → t ≢ 0
  some_node s t m = operation_some (stack_puts c s t m).operation

  -- at the step where a line stands Top is the node
  pub line_at_top : (s t : ℕ) → t ≢ 0 → latest_start c.log c.count k t ≡ suc s → (c.memory (suc s)).top ≡ t
  line_at_top s t some e = subst (λ i. (c.memory i).top ≡ t) e (takers_line c k t some (λ z. omega arith)).was_top

  -- and the step is an R1
  pub line_at_round : (s t : ℕ) → t ≢ 0 → latest_start c.log c.count k t ≡ suc s → (c.log (suc s)).event ≡ Round
  line_at_round s t some e = subst (λ i. (c.log i).event ≡ Round) e (takers_line c k t some (λ z. omega arith)).step.event

  still_agree : (s : ℕ) → NoLine s → (l : List ℕ) → ((t : ℕ) → Memᴰ t l → t ≢ 0) → sift (still (suc s)) l ≡ sift (still s) l
  unfolding still
  still_agree s none l nodes = sift_agrees (still (suc s)) (still s) l (λ t m. not_yet_kept s (latest_start c.log c.count k t) (none t (nodes t m)))

  pub contents_none : (s : ℕ) → (c.memory s).top ≡ 0 → contents s ≡ []
  unfolding contents sift
  contents_none s z = ap (sift (still s)) (stack_none c s z)

  pub contents_fresh : contents 0 ≡ []
  unfolding fresh_memory
  contents_fresh = contents_none 0 (ap (λ m. m.top) c.memory_first)

  pub contents_stay : (s : ℕ) → NoLine s → (c.memory (suc s)).next ≡ (c.memory s).next → (c.memory (suc s)).top ≡ (c.memory s).top → contents (suc s) ≡ contents s
  unfolding contents
  contents_stay s none n t = ap (sift (still (suc s))) (stack_stays c s n t) ∙ still_agree s none (on_stack c s) (some_node s)

  -- a node that is linked at this step has its line later
  new_still : (s o : ℕ) → NoLine s → Pushes c s o → still (suc s) o ≡ true
  unfolding still
  new_still s o none p = go (split (latest_start c.log c.count k o) 0) (compare (latest_start c.log c.count k o) s)
    where
      some : o ≢ 0
      some = operation_some p.operation

      too_early : latest_start c.log c.count k o ≢ 0 → latest_start c.log c.count k o ≤ s → ⊥
      too_early n h =
          let top : (c.memory (latest_start c.log c.count k o)).top ≡ o = (takers_line c k o some n).was_top in
          let first : (rest : List ℕ) × (on_stack c (latest_start c.log c.count k o) ≡ (c.memory (latest_start c.log c.count k o)).top ∷ rest) = stack_top c (latest_start c.log c.count k o) (λ z. some (sym top ∙ z)) in
          let linked : link c.log (latest_start c.log c.count k o) o ≢ 0 = (stack_puts c (latest_start c.log c.count k o) o (subst (Memᴰ o) (sym first.1) (Memᴰ.head (sym top)))).linked in
          linked (sym (link_stays c.log (latest_start c.log c.count k o) o s h linked) ∙ p.unlinked)

      go : (latest_start c.log c.count k o ≡ 0) ⊎ (latest_start c.log c.count k o ≢ 0) → (latest_start c.log c.count k o ≤ s) ⊎ (s < latest_start c.log c.count k o) → not_yet (suc s) (latest_start c.log c.count k o) ≡ true
      go (inl z) b = not_yet_none (suc s) z
      go (inr n) (inl h) = absurd (too_early n h)
      go (inr n) (inr h) = let d : latest_start c.log c.count k o ≢ suc s = none o some in not_yet_later (suc s) (omega arith)

  pub contents_pushed : (s o : ℕ) → NoLine s → Pushes c s o → contents (suc s) ≡ o ∷ contents s
  unfolding contents
  contents_pushed s o none p = ap (sift (still (suc s))) (stack_pushed c s o p) ∙ sift_keeps (still (suc s)) o (on_stack c s) (new_still s o none p) ∙ ap (λ l. o ∷ l) (still_agree s none (on_stack c s) (some_node s))

  -- a marked node has its line by then
  marked_gone : (s t : ℕ) → s ≤ k → (c.memory s).mark t ≢ 0 → still s t ≡ false
  unfolding still
  marked_gone s t below n =
      let some : t ≢ 0 = (keeps c s).marked_node t n in
      let was : raised c.log s t ≢ 0 = (keeps c s).marked_raised t n in
      let stays : raised c.log k t ≡ raised c.log s t = raised_stays c.log s k t below was in
      let line : latest_start c.log c.count k t ≢ 0 = raised_has_line c k t some (λ z. was (sym stays ∙ z)) in
      already s line (omega (arith, (takers_line c k t some line).before_raised, raised_le c.log s t))

  unmarked_still : (t : ℕ) → t ≢ 0 → (c.memory k).mark t ≡ 0 → still k t ≡ true
  unfolding still
  unmarked_still t some z = go (split (latest_start c.log c.count k t) 0)
    where
      go : (latest_start c.log c.count k t ≡ 0) ⊎ (latest_start c.log c.count k t ≢ 0) → not_yet k (latest_start c.log c.count k t) ≡ true
      go (inl none) = not_yet_none k none
      go (inr line) = absurd (line_marked c k t some line z)

  -- what leaves the stack has its line already
  pub contents_popped : (s : ℕ) → s < k → NoLine s → Pops c s → contents (suc s) ≡ contents s
  unfolding contents
  contents_popped s below none p =
      let gone : still s (c.memory s).top ≡ false = marked_gone s (c.memory s).top (omega arith) p.marked in
      still_agree s none (on_stack c (suc s)) (some_node (suc s)) ∙ sym (ap (sift (still s)) (stack_popped c s p) ∙ sift_drops (still s) (c.memory s).top (on_stack c (suc s)) gone)

  -- where the topmost node's line stands, the contents begin with it, and it goes
  pub contents_taken : (s : ℕ) → c.memory (suc s) ≡ c.memory s → (c.memory s).top ≢ 0 → latest_start c.log c.count k (c.memory s).top ≡ suc s → contents s ≡ (c.memory s).top ∷ contents (suc s)
  unfolding contents still
  contents_taken s kept some line = before ∙ ap (λ l. u ∷ l) (rest_agree ∙ sym after)
    where
      u : ℕ
      u = (c.memory s).top

      first : (rest : List ℕ) × (on_stack c s ≡ u ∷ rest)
      first = stack_top c s some

      below_it : (t : ℕ) → Memᴰ t first.0 → (t ≢ u) × (t ≢ 0)
      below_it t m = (λ e. distinct_first (subst Distinct first.1 (stack_distinct c s)) (Memᴰ.cast (sym e) m), some_node s t (subst (Memᴰ t) (sym first.1) (Memᴰ.tail m)))

      before : contents s ≡ u ∷ sift (still s) first.0
      before = ap (sift (still s)) first.1 ∙ sift_keeps (still s) u first.0 (not_yet_later s (omega arith))

      after : contents (suc s) ≡ sift (still (suc s)) first.0
      after = ap (sift (still (suc s))) (stack_stays c s (ap (λ m. m.next) kept) (ap (λ m. m.top) kept) ∙ first.1) ∙ sift_drops (still (suc s)) u first.0 (already (suc s) (λ z. omega arith) (omega arith))

      other_line : (t : ℕ) → (t ≢ u) × (t ≢ 0) → latest_start c.log c.count k t ≢ suc s
      other_line t (other, node) e = other (sym (line_at_top s t node e) ∙ ap (λ m. m.top) kept)

      rest_agree : sift (still s) first.0 ≡ sift (still (suc s)) first.0
      rest_agree = sift_agrees (still s) (still (suc s)) first.0 (λ t m. sym (not_yet_kept s (latest_start c.log c.count k t) (other_line t (below_it t m))))

  -- after all steps the nodes still there are the unmarked ones
  pub contents_left : contents k ≡ left_in Stack c.count (c.memory k)
  unfolding contents left_in
  contents_left = sift_agrees (still k) (λ i. same ((c.memory k).mark i) 0) (on_stack c k) agree ∙ ap (sift (λ i. same ((c.memory k).mark i) 0)) (sym (stack_walk c k))
    where
      agree : (t : ℕ) → Memᴰ t (on_stack c k) → still k t ≡ same ((c.memory k).mark t) 0
      agree t m = go (split ((c.memory k).mark t) 0)
        where
          go : ((c.memory k).mark t ≡ 0) ⊎ ((c.memory k).mark t ≢ 0) → still k t ≡ same ((c.memory k).mark t) 0
          go (inl z) = unmarked_still t (some_node k t m) z ∙ sym (equal_same z)
          go (inr n) = marked_gone k t (omega arith) n ∙ sym (unequal_same n)
