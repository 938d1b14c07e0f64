-- What is left in the queue's memory is the list behind Head: its nodes are distinct operations, so the walk is long enough. Assumes nothing.
use mathlib.Core.Path.{◌≡◌, refl, sym, ap, subst, ◌∙◌}
use mathlib.Core.Logic.{◌≢◌, ◌⊎◌, inl, inr}
use Prim.Native.Nat.{ℕ, ◌≤◌, ◌<◌}
use mathlib.Core.List.{List, Memᴰ}
use native.Mathlib.Omega.{arith}
use Rattle.machine.specs.Left.{walk}
use Rattle.machine.proofs.Lists.{Distinct, Distinct.none, Distinct.more, distinct_at_most}
use Rattle.theory.proofs.Nodes.{Nodes, Nodes.end, Nodes.node, nodes_walk}
use Rattle.theory.proofs.Queue.Order.{Order}
use Rattle.theory.proofs.Queue.Memory.{Now, Sound}

module _ {count k : ℕ} {next born : ℕ → ℕ} (d : Order count k next born) where
  -- the nodes behind a node are born after it
  born_behind : {i x y : ℕ} {l : List ℕ} → Nodes next x l → next i ≡ x → Memᴰ y l → born i < born y
  born_behind (end z) e m = absurd (mathlib.Core.List.Memᴰ.not-nil m)
  born_behind {i} {y} (node {i = x} {l = l} n c) e m =
      let later : born i < born x = subst (λ z. born i < born z) e (d.ascends i (λ z. n (sym e ∙ z))) in
      let rest : Memᴰ y l → born x < born y = born_behind {i = x} c refl in
      go later rest (mathlib.Core.List.Memᴰ.cases_cons m)
    where
      go : born i < born x → (Memᴰ y l → born x < born y) → (y ≡ x) ⊎ Memᴰ y l → born i < born y
      go later rest (inl e) = omega (arith, ap born e)
      go later rest (inr m) = omega (arith, rest m)

  nodes_distinct : {x : ℕ} {l : List ℕ} → Nodes next x l → Distinct l
  nodes_distinct (end z) = none
  nodes_distinct (node {i = x} {l = l} n c) = more (λ (m : Memᴰ x l). omega (arith, born_behind c refl m)) (nodes_distinct c)

  nodes_operations : {i : ℕ} {l : List ℕ} → Nodes next (next i) l → (y : ℕ) → Memᴰ y l → (1 ≤ y) × (y ≤ count)
  nodes_operations {i} c y m =
      let later : born i < born y = born_behind c refl m in
      let some : y ≢ 0 = λ z. (omega (arith, ap born z, d.sentinel_unborn)) in
      (omega arith, d.born_operation y (omega arith))

-- the walk behind Head finds the contents
pub walk_contents : {count k : ℕ} {v : Now} (d : Sound count k v) → walk v.next (v.next v.head) count ≡ d.contents
walk_contents {count} d =
    nodes_walk count d.nodes (distinct_at_most count (nodes_distinct d.order d.nodes) (nodes_operations d.order d.nodes))
