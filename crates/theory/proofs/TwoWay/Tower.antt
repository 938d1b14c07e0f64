-- The tower: the nodes that stand on the sentinel, the uppermost first. Each node's lower is the one below it, whose upper it is. A walk up from the
-- sentinel and a walk down from the uppermost find the same nodes. Assumes nothing.
use mathlib.Core.Path.{◌≡◌, refl, sym, ap, subst, ◌∙◌}
use mathlib.Core.Logic.{◌≢◌, ◌⊎◌, inl, inr}
use Prim.Native.Nat.{ℕ}
use mathlib.Core.List.Memᴰ
use mathlib.Core.List.{List, [], ◌∷◌, reverse, reverse_aux, Memᴰ}
use Rattle.machine.proofs.Lists.{Distinct, distinct_first, distinct_rest}
use Rattle.theory.proofs.Nodes.{Nodes, end, node}

-- the uppermost node, or the sentinel
abbrev pub top_of : List ℕ → ℕ
top_of [] = 0
top_of (x ∷ l) = x

pub data Tower (upper next : ℕ → ℕ) : List ℕ → Type 0 where
  ground : Tower upper next []
  floor : {x : ℕ} {l : List ℕ} → x ≢ 0 → next x ≡ top_of l → upper (top_of l) ≡ x → Tower upper next l → Tower upper next (x ∷ l)

-- the sentinel, or a node of the tower
abbrev pub Spot : ℕ → List ℕ → Type 0
Spot i l = (i ≡ 0) ⊎ Memᴰ i l

spot_more : {i x : ℕ} {l : List ℕ} → Spot i l → Spot i (x ∷ l)
spot_more (inl z) = inl z
spot_more (inr m) = inr (Memᴰ.tail m)

pub spot_top : (l : List ℕ) → Spot (top_of l) l
spot_top [] = inl refl
spot_top (x ∷ l) = inr (Memᴰ.head refl)

-- what the upper of a spot is: none may be known of the uppermost, and every other's is of the tower
pub above : {upper next : ℕ → ℕ} {i : ℕ} {l : List ℕ} → Tower upper next l → Spot i l → (i ≡ top_of l) ⊎ ((upper i ≢ 0) × Memᴰ (upper i) l)
above ground (inl z) = inl z
above ground (inr m) = absurd (Memᴰ.not-nil m)
above {upper} {i} (floor {x = x} {l = l} some lower up t) s = by_spot (λ b. above t b) s
  where
    from_below : (i ≡ top_of l) ⊎ ((upper i ≢ 0) × Memᴰ (upper i) l) → (i ≡ x) ⊎ ((upper i ≢ 0) × Memᴰ (upper i) (x ∷ l))
    from_below (inl e) = let is : upper i ≡ x = ap upper e ∙ up in inr ((λ z. some (sym is ∙ z)), Memᴰ.head is)
    from_below (inr (n, m)) = inr (n, Memᴰ.tail m)

    by_member : (Spot i l → (i ≡ top_of l) ⊎ ((upper i ≢ 0) × Memᴰ (upper i) l)) → (i ≡ x) ⊎ Memᴰ i l → (i ≡ x) ⊎ ((upper i ≢ 0) × Memᴰ (upper i) (x ∷ l))
    by_member below (inl e) = inl e
    by_member below (inr m) = from_below (below (inr m))

    by_spot : (Spot i l → (i ≡ top_of l) ⊎ ((upper i ≢ 0) × Memᴰ (upper i) l)) → Spot i (x ∷ l) → (i ≡ x) ⊎ ((upper i ≢ 0) × Memᴰ (upper i) (x ∷ l))
    by_spot below (inl z) = from_below (below (inl z))
    by_spot below (inr m) = by_member below (Memᴰ.cases_cons m)

-- a tower stays where no upper below its uppermost changes and no lower of it does
pub tower_kept : {upper next upper' next' : ℕ → ℕ} {l : List ℕ} → Distinct l → ((i : ℕ) → Spot i l → i ≢ top_of l → upper' i ≡ upper i) → ((i : ℕ) → Memᴰ i l → next' i ≡ next i) → Tower upper next l → Tower upper' next' l
tower_kept d ups lowers ground = ground
tower_kept {upper} {next} {upper'} {next'} d ups lowers (floor {x = x} {l = l} some lower up t) =
    floor some (lowers x (Memᴰ.head refl) ∙ lower) (below (top_of l) (spot_top l) ∙ up)
    (tower_kept (distinct_rest d) (λ i s n. below i s) (λ i m. lowers i (Memᴰ.tail m)) t)
  where
    not_x : (i : ℕ) → Spot i l → i ≢ x
    not_x i (inl z) e = some (sym e ∙ z)
    not_x i (inr m) e = distinct_first d (Memᴰ.cast (sym e) m)

    below : (i : ℕ) → Spot i l → upper' i ≡ upper i
    below i s = ups i (spot_more s) (not_x i s)

-- down from the uppermost
pub tower_down : {upper next : ℕ → ℕ} {l : List ℕ} → Tower upper next l → Nodes next (top_of l) l
tower_down ground = end refl
tower_down {next} (floor {x = x} {l = l} some lower up t) = node some (subst (λ i. Nodes next i l) (sym lower) (tower_down t))

-- up from the sentinel, through the tower and on
up_onto : {upper next : ℕ → ℕ} {l on : List ℕ} → Tower upper next l → Nodes upper (upper (top_of l)) on → Nodes upper (upper 0) (reverse_aux l on)
up_onto ground n = n
up_onto {upper} {on} (floor {x = x} {l = l} some lower up t) n = up_onto t (subst (λ i. Nodes upper i (x ∷ on)) (sym up) (node some n))

pub tower_up : {upper next : ℕ → ℕ} {l : List ℕ} → Tower upper next l → upper (top_of l) ≡ 0 → Nodes upper (upper 0) (reverse l)
tower_up t z = up_onto t (end z)
