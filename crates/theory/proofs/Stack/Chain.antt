-- The nodes on the stack after k steps: distinct, each linked by its put; a push adds its node on top, a move of Top removes the topmost, and no
-- other step changes them. Assumes nothing.
use mathlib.Core.Path.{◌≡◌, sym, ap, subst, subst₂, ◌∙◌}
use mathlib.Core.Logic.{◌≢◌, ◌⊎◌, inl, inr}
use Prim.Native.Nat.{ℕ, zero, suc}
use mathlib.Core.List.Memᴰ
use mathlib.Core.List.{List, [], ◌∷◌, Memᴰ}
use native.Mathlib.Omega.{arith}
use Rattle.basics.specs.Maps.{upd}
use Rattle.basics.proofs.Maps.{upd_here}
use Rattle.job.specs.declared.Kind.TheVariants.{Stack}
use Rattle.machine.specs.Memory.{fresh_memory}
use Rattle.machine.specs.Journal.{link}
use Rattle.machine.specs.Left.{walk}
use Rattle.machine.specs.Explained.{IsOperation}
use Rattle.machine.proofs.Lists.{Distinct, distinct_rest, distinct_at_most}
use Rattle.machine.proofs.Stamps.{link_stays, link_new}
use Rattle.theory.proofs.Course.{Course}
use Rattle.theory.proofs.Life.{operation_some}
use Rattle.theory.proofs.Nodes.{Nodes, end, node, nodes_unique, nodes_none, nodes_first, nodes_kept, nodes_walk}
use Rattle.theory.proofs.Stack.Steps.{Happens, Pushes, Pops, rests, pushes, pops, raises, begins}
use Rattle.theory.proofs.Stack.Keeps.{Keeps, keeps, happens}

-- a node that was linked: its put's number and its changing P3
pub record Put (c : Course Stack) (k i : ℕ) : Type 0 where
  pub operation : IsOperation c.count i
  pub linked : link c.log k i ≢ 0

record Chain (c : Course Stack) (k : ℕ) : Type 0 where
  list : List ℕ
  nodes : Nodes (c.memory k).next (c.memory k).top list
  distinct : Distinct list
  puts : (i : ℕ) → Memᴰ i list → Put c k i

put_stays : {c : Course Stack} {k i : ℕ} → Put c k i → Put c (suc k) i
put_stays {c} {k} {i} p = record { operation = p.operation; linked = λ z. p.linked (sym (link_stays c.log k i (suc k) (omega arith) p.linked) ∙ z) }

module _ (c : Course Stack) (k : ℕ) (was : Chain c k) where
  -- the node of a push is not yet on the stack
  new_node : (o : ℕ) → Pushes c k o → Memᴰ o was.list → ⊥
  new_node o p m = (was.puts o m).linked p.unlinked

  nodes_pushed : (o : ℕ) → Pushes c k o → Nodes (c.memory (suc k)).next (c.memory (suc k)).top (o ∷ was.list)
  nodes_pushed o p =
      let next' : ℕ → ℕ = upd (c.memory k).next o (c.memory k).top in
      let rest : Nodes next' (next' o) was.list = subst (λ i. Nodes next' i was.list) (sym (upd_here (c.memory k).next o (c.memory k).top)) (nodes_kept o (c.memory k).top (new_node o p) was.nodes) in
      subst₂ (λ f i. Nodes f i (o ∷ was.list)) (sym p.next) (sym p.top) (node (operation_some p.operation) rest)

  nodes_popped : Pops c k → (c.memory k).top ≢ 0 → (rest : List ℕ) × (was.list ≡ (c.memory k).top ∷ rest) × Nodes (c.memory (suc k)).next (c.memory (suc k)).top rest
  nodes_popped p some =
      let first : (rest : List ℕ) × (was.list ≡ (c.memory k).top ∷ rest) × Nodes (c.memory k).next ((c.memory k).next (c.memory k).top) rest = nodes_first was.nodes some in
      (first.0, first.1, subst₂ (λ f i. Nodes f i first.0) (sym p.next) (sym p.top) first.2)

  nodes_stay : (c.memory (suc k)).next ≡ (c.memory k).next → (c.memory (suc k)).top ≡ (c.memory k).top → Nodes (c.memory (suc k)).next (c.memory (suc k)).top was.list
  nodes_stay n t = subst₂ (λ f i. Nodes f i was.list) (sym n) (sym t) was.nodes

  chain_pushed : (o : ℕ) → Pushes c k o → Chain c (suc k)
  chain_pushed o p =
      record {
        list = o ∷ was.list;
        nodes = nodes_pushed o p;
        distinct = Distinct.more (new_node o p) was.distinct;
        puts = λ i m. go i (Memᴰ.cases_cons m);
      }
    where
      go : (i : ℕ) → (i ≡ o) ⊎ Memᴰ i was.list → Put c (suc k) i
      go i (inl e) = subst (Put c (suc k)) (sym e) (record { operation = p.operation; linked = λ z. omega (arith, link_new c.log k o p.by p.event p.unlinked) })
      go i (inr m) = put_stays (was.puts i m)

  chain_popped : Pops c k → (c.memory k).top ≢ 0 → Chain c (suc k)
  chain_popped p some =
      let after : (rest : List ℕ) × (was.list ≡ (c.memory k).top ∷ rest) × Nodes (c.memory (suc k)).next (c.memory (suc k)).top rest = nodes_popped p some in
      record {
        list = after.0;
        nodes = after.2;
        distinct = distinct_rest (subst Distinct after.1 was.distinct);
        puts = λ i m. put_stays (was.puts i (subst (Memᴰ i) (sym after.1) (Memᴰ.tail m)));
      }

  chain_stays : (c.memory (suc k)).next ≡ (c.memory k).next → (c.memory (suc k)).top ≡ (c.memory k).top → Chain c (suc k)
  chain_stays n t = record { list = was.list; nodes = nodes_stay n t; distinct = was.distinct; puts = λ i m. put_stays (was.puts i m) }

  chain_next : Keeps c k → Happens c k → Chain c (suc k)
  chain_next kept (rests r) = chain_stays (ap (λ m. m.next) r.memory_kept) (ap (λ m. m.top) r.memory_kept)
  chain_next kept (pushes o p) = chain_pushed o p
  chain_next kept (pops p) = chain_popped p (kept.marked_node (c.memory k).top p.marked)
  chain_next kept (raises o t r) = chain_stays r.next r.top
  chain_next kept (begins o b) = chain_stays (ap (λ m. m.next) b.memory_kept) (ap (λ m. m.top) b.memory_kept)

chain_fresh : (c : Course Stack) → Chain c 0
unfolding fresh_memory
chain_fresh c = record { list = []; nodes = end (ap (λ m. m.top) c.memory_first); distinct = Distinct.none; puts = λ i m. absurd (Memᴰ.not-nil m) }

module _ (c : Course Stack) where
  chain : (k : ℕ) → Chain c k
  chain zero = chain_fresh c
  chain (suc k) = chain_next c k (chain k) (keeps c k) (happens c k)

  -- the nodes on the stack after k steps, from Top down
  pub on_stack : ℕ → List ℕ
  on_stack k = (chain k).list

  pub stack_distinct : (k : ℕ) → Distinct (on_stack k)
  unfolding on_stack
  stack_distinct k = (chain k).distinct

  pub stack_puts : (k i : ℕ) → Memᴰ i (on_stack k) → Put c k i
  unfolding on_stack
  stack_puts k i m = (chain k).puts i m

  -- Top is none exactly if there are none, else the topmost
  pub stack_none : (k : ℕ) → (c.memory k).top ≡ 0 → on_stack k ≡ []
  unfolding on_stack
  stack_none k z = nodes_none (chain k).nodes z

  pub stack_top : (k : ℕ) → (c.memory k).top ≢ 0 → (rest : List ℕ) × (on_stack k ≡ (c.memory k).top ∷ rest)
  unfolding on_stack
  stack_top k n = let first : (rest : List ℕ) × ((chain k).list ≡ (c.memory k).top ∷ rest) × Nodes (c.memory k).next ((c.memory k).next (c.memory k).top) rest = nodes_first (chain k).nodes n in (first.0, first.1)

  pub stack_pushed : (k o : ℕ) → Pushes c k o → on_stack (suc k) ≡ o ∷ on_stack k
  unfolding on_stack
  stack_pushed k o p = nodes_unique (chain (suc k)).nodes (nodes_pushed c k (chain k) o p)

  pub stack_popped : (k : ℕ) → Pops c k → on_stack k ≡ (c.memory k).top ∷ on_stack (suc k)
  unfolding on_stack
  stack_popped k p =
      let after : (rest : List ℕ) × ((chain k).list ≡ (c.memory k).top ∷ rest) × Nodes (c.memory (suc k)).next (c.memory (suc k)).top rest = nodes_popped c k (chain k) p ((keeps c k).marked_node (c.memory k).top p.marked) in
      after.1 ∙ ap (λ l. (c.memory k).top ∷ l) (nodes_unique after.2 (chain (suc k)).nodes)

  pub stack_stays : (k : ℕ) → (c.memory (suc k)).next ≡ (c.memory k).next → (c.memory (suc k)).top ≡ (c.memory k).top → on_stack (suc k) ≡ on_stack k
  unfolding on_stack
  stack_stays k n t = nodes_unique (chain (suc k)).nodes (nodes_stay c k (chain k) n t)

  -- a walk as long as the number of operations finds them all
  pub stack_walk : (k : ℕ) → walk (c.memory k).next (c.memory k).top c.count ≡ on_stack k
  unfolding on_stack
  stack_walk k = nodes_walk c.count (chain k).nodes (distinct_at_most c.count (chain k).distinct (λ i m. (((chain k).puts i m).operation.from_one, ((chain k).puts i m).operation.to_count)))
