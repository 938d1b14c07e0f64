-- What holds of the memory of a two-way linked stack: the tower is there, every linked and live node is of it, and a dead node has no upper. So a
-- node without upper that is live is the uppermost; a put links its node on top of the tower, and the tower loses no node but a dead uppermost
-- one. Assumes nothing.
use mathlib.Core.Path.{◌≡◌, ap, ◌∙◌}
use mathlib.Core.Logic.{◌≢◌, ◌⊎◌, inl, inr}
use Prim.Native.Nat.{ℕ, ◌≤◌}
use mathlib.Core.List.{List, [], reverse, reverse-reverse, Memᴰ}
use native.Mathlib.Omega.{arith}
use lib.ListN.{length, length-reverse}
use Rattle.basics.specs.Choice.{same}
use Rattle.basics.proofs.Choice.{split}
use Rattle.job.specs.declared.Kind.TheVariants.{TwoWay}
use Rattle.machine.specs.Memory.{Memory}
use Rattle.machine.specs.Effects.{sift}
use Rattle.machine.specs.Left.{left_in, walk}
use Rattle.machine.specs.Explained.{IsOperation}
use Rattle.machine.proofs.Lists.{Distinct, distinct_at_most}
use Rattle.theory.proofs.Nodes.{IsLinked, end, nodes_walk}
use Rattle.theory.proofs.Life.{operation_some}
use Rattle.theory.proofs.TwoWay.Tower.{top_of, Tower, Spot, above, tower_down, tower_up}

-- the nodes of a list whose flag is live
abbrev pub live : (ℕ → ℕ) → List ℕ → List ℕ
live mark l = sift (λ i. same (mark i) 0) l

-- `born` is the step that linked a node, 0 for none
pub record Sound (count : ℕ) (born upper next mark : ℕ → ℕ) (list : List ℕ) : Type 0 where
  pub tower : Tower upper next list
  pub uppermost : upper (top_of list) ≡ 0
  pub distinct : Distinct list
  pub born_in : (i : ℕ) → Memᴰ i list → born i ≢ 0
  pub operation : (i : ℕ) → born i ≢ 0 → IsOperation count i
  -- whatever has an upper is the sentinel or of the tower
  pub holds : (i : ℕ) → upper i ≢ 0 → Spot i list
  -- linked and live means of the tower
  pub live_in : (i : ℕ) → born i ≢ 0 → mark i ≡ 0 → Memᴰ i list
  pub dead_born : (i : ℕ) → mark i ≢ 0 → born i ≢ 0
  pub dead_bare : (i : ℕ) → mark i ≢ 0 → upper i ≡ 0
  pub lowers : (i : ℕ) → IsLinked born (next i)

module _ {count : ℕ} {born upper next mark : ℕ → ℕ} {list : List ℕ} (d : Sound count born upper next mark list) where
  -- without an upper, the sentinel or a node of the tower is the uppermost
  pub is_uppermost : {i : ℕ} → Spot i list → upper i ≡ 0 → i ≡ top_of list
  is_uppermost {i} s z = go (above d.tower s)
    where
      go : (i ≡ top_of list) ⊎ ((upper i ≢ 0) × Memᴰ (upper i) list) → i ≡ top_of list
      go (inl e) = e
      go (inr (n, m)) = absurd (n z)

  pub live_spot : {t : ℕ} → IsLinked born t → mark t ≡ 0 → Spot t list
  live_spot {t} l z = go (split t 0)
    where
      go : (t ≡ 0) ⊎ (t ≢ 0) → Spot t list
      go (inl e) = inl e
      go (inr n) = inr (d.live_in t (l n) z)

  -- an upper is of the tower, so it is linked
  pub upper_in : (i : ℕ) → upper i ≢ 0 → Memᴰ (upper i) list
  upper_in i n = go (above d.tower (d.holds i n))
    where
      go : (i ≡ top_of list) ⊎ ((upper i ≢ 0) × Memᴰ (upper i) list) → Memᴰ (upper i) list
      go (inl e) = absurd (n (ap upper e ∙ d.uppermost))
      go (inr (m, in_List)) = in_List

  pub upper_linked : (i : ℕ) → upper i ≢ 0 → born (upper i) ≢ 0
  upper_linked i n = d.born_in (upper i) (upper_in i n)

  pub dead_some : (t : ℕ) → mark t ≢ 0 → t ≢ 0
  dead_some t n = operation_some (d.operation t (d.dead_born t n))

  pub few : length list ≤ count
  few = distinct_at_most count d.distinct (λ i m. let op : IsOperation count i = d.operation i (d.born_in i m) in (op.from_one, op.to_count))

-- what is left is the tower's live nodes, the uppermost first
pub left_live : {count : ℕ} {born : ℕ → ℕ} (m : Memory) {list : List ℕ} → Sound count born m.upper m.next m.mark list → left_in TwoWay count m ≡ live m.mark list
unfolding left_in
left_live {count} m {list} d =
    let up : walk m.upper (m.upper 0) count ≡ reverse list = nodes_walk count (tower_up d.tower d.uppermost) (omega (arith, few d, length-reverse list)) in
    ap (λ l. live m.mark (reverse l)) up ∙ ap (live m.mark) (reverse-reverse list)

-- and a walk down from the uppermost finds the tower
pub walk_down : {count : ℕ} {born upper next mark : ℕ → ℕ} {list : List ℕ} → Sound count born upper next mark list → walk next (top_of list) count ≡ list
walk_down {count} d = nodes_walk count (tower_down d.tower) (few d)

-- nothing is left where the sentinel has no upper
pub left_none : (count : ℕ) (m : Memory) → m.upper 0 ≡ 0 → left_in TwoWay count m ≡ []
unfolding left_in sift
left_none count m z = ap (λ l. live m.mark (reverse l)) (nodes_walk count (end z) (omega arith))
