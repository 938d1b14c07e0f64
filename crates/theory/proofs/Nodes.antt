-- The nodes from one on through the nexts, as a list: what a change of one next does to it, and that a long enough walk finds it. For a
-- queue the list behind Head, for a stack the list from Top down. Assumes nothing.
use mathlib.Core.Path.{◌≡◌, refl, sym, ap, subst}
use mathlib.Core.Logic.{◌≢◌}
use Prim.Native.Nat.{ℕ, zero, suc, ◌≤◌}
use mathlib.Core.List.{List, [], ◌∷◌, Memᴰ}
use native.Mathlib.Omega.{arith}
use lib.ListN.{length}
use Rattle.basics.specs.Maps.{upd}
use Rattle.basics.proofs.Choice.{pick_true, pick_false, equal_same, unequal_same}
use Rattle.basics.proofs.Maps.{upd_there}
use Rattle.machine.specs.Left.{walk}

-- the sentinel, or a node that a put linked; a node's `born` is the step that linked it, 0 if it is not linked
abbrev pub IsLinked : (ℕ → ℕ) → ℕ → Type 0
IsLinked born i = i ≢ 0 → born i ≢ 0

-- from node i on, the nodes are those of the list; 0 is none
pub data Nodes (next : ℕ → ℕ) : ℕ → List ℕ → Type 0 where
  end : {i : ℕ} → i ≡ 0 → Nodes next i []
  node : {i : ℕ} {l : List ℕ} → i ≢ 0 → Nodes next (next i) l → Nodes next i (i ∷ l)

-- they are one list
pub nodes_unique : {next : ℕ → ℕ} {i : ℕ} {l m : List ℕ} → Nodes next i l → Nodes next i m → l ≡ m
nodes_unique (end e) (end f) = refl
nodes_unique (end e) (node n d) = absurd (n e)
nodes_unique (node n c) (end f) = absurd (n f)
nodes_unique (node {i = i} n c) (node o d) = ap (λ l. i ∷ l) (nodes_unique c d)

-- from none on there are none
pub nodes_none : {next : ℕ → ℕ} {i : ℕ} {l : List ℕ} → Nodes next i l → i ≡ 0 → l ≡ []
nodes_none (end e) z = refl
nodes_none (node n c) z = absurd (n z)

-- from a node on: it is the first of them
pub nodes_first : {next : ℕ → ℕ} {i : ℕ} {l : List ℕ} → Nodes next i l → i ≢ 0 → (rest : List ℕ) × (l ≡ i ∷ rest) × Nodes next (next i) rest
nodes_first (end e) n = absurd (n e)
nodes_first (node {l = rest} n c) o = (rest, refl, c)

-- to write the next of a node that is not among them changes nothing
pub nodes_kept : {next : ℕ → ℕ} {i : ℕ} {l : List ℕ} (o v : ℕ) → (Memᴰ o l → ⊥) → Nodes next i l → Nodes (upd next o v) i l
nodes_kept o v out (end e) = end e
nodes_kept {next} o v out (node {i = i} {l = l} n c) =
    let kept : Nodes (upd next o v) (next i) l = nodes_kept o v (λ m. out (Memᴰ.tail m)) c in
    node n (subst (λ x. Nodes (upd next o v) x l) (sym (upd_there next o v (λ e. out (Memᴰ.head (sym e))))) kept)

-- a walk that may be as long as they are finds them
pub nodes_walk : {next : ℕ → ℕ} {i : ℕ} {l : List ℕ} (count : ℕ) → Nodes next i l → length l ≤ count → walk next i count ≡ l
unfolding walk
nodes_walk zero (end e) h = refl
nodes_walk (suc count) (end e) h = rw (equal_same e, pick_true)
nodes_walk zero (node n c) h = absurd (omega arith)
nodes_walk (suc count) (node {i = i} n c) h = rw (unequal_same n, pick_false) (ap (λ l. i ∷ l) (nodes_walk count c (omega arith)))
