-- The items that are left, node by node. Assumes nothing.
use mathlib.Core.Path.{◌≡◌, refl, ap, subst, sym, ◌∙◌}
use mathlib.Core.Logic.{◌≢◌, ⊎_elim}
use Prim.Native.Nat.{ℕ, zero, suc, ◌-◌, ◌≤◌}
use native.Mathlib.Omega.{arith}
use mathlib.Core.Bool.{Bool, true, false}
use mathlib.Core.List.{List, [], ◌∷◌}
use lib.ListN.{length}
use Rattle.basics.proofs.Choice.{test_elim, split, pick_then, pick_else, equal_same, unequal_same}
use Rattle.rows.specs.Nodes.{nexts, marks}
use Rattle.job.specs.declared.Kind.{Kind}
use Rattle.machine.specs.Effects.{sift}
use Rattle.machine.specs.Left.{walk}
use Rattle.lines.specs.Members.{stays, left_from}

module _ (object : Kind) (nodes : List ℕ) where
  -- no node: nothing is left
  pub left_end : (node more : ℕ) → node ≡ 0 → left_from object nodes node more ≡ []
  unfolding left_from sift walk
  left_end node zero e = refl
  left_end node (suc more) e = ap (sift (λ i. stays object (marks nodes i))) (pick_then [] (node ∷ walk (nexts nodes) (nexts nodes node) more) (equal_same e))

  -- no further node is asked for
  pub left_none : (node : ℕ) {more : ℕ} → more ≡ 0 → left_from object nodes node more ≡ []
  unfolding left_from sift walk
  left_none node e = ap (left_from object nodes node) e

  walk_on : (node : ℕ) {more : ℕ} → more ≢ 0 → node ≢ 0 → walk (nexts nodes) node more ≡ node ∷ walk (nexts nodes) (nexts nodes node) (more - 1)
  unfolding walk
  walk_on node {more} h z =
      ap (walk (nexts nodes) node) (let e : more ≡ suc (more - 1) = omega arith in e)
      ∙ pick_else [] (node ∷ walk (nexts nodes) (nexts nodes node) (more - 1)) (unequal_same z)

-- a node that was walked past, where the walk goes from it, and whether it stays
module _ (object : Kind) (nodes : List ℕ) {more i next : ℕ} {stay : Bool} (asked : more ≢ 0) (some : i ≢ 0) (goes : next ≡ nexts nodes i) (told : stay ≡ stays object (marks nodes i)) where
  -- one that stays comes first
  pub left_first : stay ≡ true → left_from object nodes i more ≡ i ∷ left_from object nodes next (more - 1)
  unfolding left_from sift
  left_first y =
      ap (sift (λ i. stays object (marks nodes i))) (walk_on object nodes i asked some)
      ∙ pick_then _ _ (sym told ∙ y)
      ∙ ap (λ (n : ℕ). i ∷ left_from object nodes n (more - 1)) (sym goes)

  -- one that does not is passed
  pub left_past : stay ≡ false → left_from object nodes i more ≡ left_from object nodes next (more - 1)
  unfolding left_from sift
  left_past y =
      ap (sift (λ i. stays object (marks nodes i))) (walk_on object nodes i asked some)
      ∙ pick_else _ _ (sym told ∙ y)
      ∙ ap (λ (n : ℕ). left_from object nodes n (more - 1)) (sym goes)

-- there are no more than may come
pub left_few : (object : Kind) (nodes : List ℕ) (node more : ℕ) → length (left_from object nodes node more) ≤ more
left_few object nodes node zero = omega (arith, ap length (left_none object nodes node {more = 0} refl))
left_few object nodes node (suc more) =
    let rest : length (left_from object nodes (nexts nodes node) (suc more - 1)) ≤ more = subst (λ (n : ℕ). length (left_from object nodes (nexts nodes node) n) ≤ more) (let e : more ≡ suc more - 1 = omega arith in e) (left_few object nodes (nexts nodes node) more) in
    ⊎_elim (λ e. omega (arith, ap length (left_end object nodes node (suc more) e)))
    (λ some.
    test_elim (λ b. (b ≡ stays object (marks nodes node)) → length (left_from object nodes node (suc more)) ≤ suc more) (stays object (marks nodes node))
    (λ y t. omega (arith, rest, ap length (left_first object nodes {more = suc more} (λ z. let no : ⊥ = omega arith in no) some refl refl y)))
    (λ y t. omega (arith, rest, ap length (left_past object nodes {more = suc more} (λ z. let no : ⊥ = omega arith in no) some refl refl y))) refl)
    (split node 0)
