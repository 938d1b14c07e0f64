-- Items come from puts: what a machine's lines hand out, and what they leave, was put by one of them. Assumes nothing.
use mathlib.Core.Path.{◌≡◌, refl, sym, subst}
use mathlib.Core.Logic.{◌⊎◌, inl, inr}
use Prim.Native.Nat.{ℕ}
use mathlib.Core.Bool.{true, false}
use mathlib.Core.List.Memᴰ
use mathlib.Core.List.{List, [], ◌∷◌, Memᴰ}
use mathlib.Core.Option.{Option, none, some}
use native.Mathlib.Omega.{arith}
use Rattle.basics.specs.Choice.{pick, same}
use Rattle.basics.proofs.Choice.{both, pick_then, pick_else, same_equal}
use Rattle.job.specs.declared.Kind.{Kind}
use Rattle.machine.specs.Multiplicity.{Line, add, remove, find_empty, apply, then, play}
use Rattle.machine.specs.Multiplicity.Line.{put, takes, empty}
use Rattle.machine.proofs.ByKind.{add_member}

-- every member of a list has a property
abbrev All : (ℕ → Type 0) → List ℕ → Type 0
All P l = (x : ℕ) → Memᴰ x l → P x

-- a line that a machine allows has a member, and an item with a property hands out such an item
pub data FromPuts (P : ℕ → Type 0) : Line → Type 0 where
  of_put : {o : ℕ} → P o → FromPuts P (put o)
  of_takes : {item taker : ℕ} {takers : List ℕ} → P item → FromPuts P (takes item (taker ∷ takers))
  of_empty : {o : ℕ} → FromPuts P (empty o)

pub handed_out : (P : ℕ → Type 0) {item : ℕ} {takers : List ℕ} → FromPuts P (takes item takers) → P item
handed_out P (of_takes p) = p

module _ (P : ℕ → Type 0) (object : Kind) where
  add_all : (o : ℕ) (c : List ℕ) → P o → All P c → All P (add object o c)
  add_all o c p all x m = go (add_member object o c m)
    where
      go : (x ≡ o) ⊎ Memᴰ x c → P x
      go (inl h) = subst P (sym h) p
      go (inr h) = all x h

  -- one line
  applied : (line : Line) (c d : List ℕ) → apply object line c ≡ some d → ((o : ℕ) → line ≡ put o → P o) → All P c → FromPuts P line × All P d
  unfolding apply remove find_empty
  applied (put o) c d e p all =
      let is : add object o c ≡ d = cc in
      (of_put (p o refl), subst (All P) is (add_all o c (p o refl) all))
  applied (takes item []) c d e p all = let z : ◌≡◌ {A = ℕ} 0 1 = cc in absurd (omega arith)
  applied (takes item (taker ∷ takers)) [] d e p all = let z : ◌≡◌ {A = ℕ} 0 1 = cc in absurd (omega arith)
  applied (takes item (taker ∷ takers)) (front ∷ c) d e p all = go (both (same front item))
    where
      go : (same front item ≡ true) ⊎ (same front item ≡ false) → FromPuts P (takes item (taker ∷ takers)) × All P d
      go (inl t) =
          let holds : pick (same front item) (some c) none ≡ some c = pick_then _ _ t in
          let is : c ≡ d = cc in
          (of_takes (subst P (same_equal t) (all front (Memᴰ.head refl))), subst (All P) is (λ x m. all x (Memᴰ.tail m)))
      go (inr t) =
          let fails : pick (same front item) (some c) none ≡ none = pick_else _ _ t in
          let z : ◌≡◌ {A = ℕ} 0 1 = cc in absurd (omega arith)
  applied (empty o) [] d e p all =
      let is : ◌≡◌ {A = List ℕ} [] d = cc in
      (of_empty, subst (All P) is all)
  applied (empty o) (front ∷ c) d e p all = let z : ◌≡◌ {A = ℕ} 0 1 = cc in absurd (omega arith)

  -- all lines
  pub played : (lines : List Line) (c d : List ℕ) → play object lines c ≡ some d → ((o : ℕ) → Memᴰ (put o) lines → P o) → All P c → ((line : Line) → Memᴰ line lines → FromPuts P line) × All P d
  unfolding play then
  played [] c d e p all =
      let is : c ≡ d = cc in
      (λ line m. absurd (Memᴰ.not-nil m), subst (All P) is all)
  played (first ∷ lines) c d e p all = go (apply object first c) refl e (λ b h a. played lines b d h (λ o m. p o (Memᴰ.tail m)) a)
    where
      go : (r : Option (List ℕ)) → apply object first c ≡ r → then r (play object lines) ≡ some d → ((b : List ℕ) → play object lines b ≡ some d → All P b → ((line : Line) → Memᴰ line lines → FromPuts P line) × All P d) → ((line : Line) → Memᴰ line (first ∷ lines) → FromPuts P line) × All P d
      go none q h rest = let z : ◌≡◌ {A = ℕ} 0 1 = cc in absurd (omega arith)
      go (some b) q h rest =
          let here : FromPuts P first × All P b = applied first c b q (λ o is. p o (Memᴰ.head (sym is))) all in
          let later : ((line : Line) → Memᴰ line lines → FromPuts P line) × All P d = rest b h here.1 in
          (λ line m. of_line here.0 later.0 line (Memᴰ.cases_cons m), later.1)
        where
          of_line : FromPuts P first → ((line : Line) → Memᴰ line lines → FromPuts P line) → (line : Line) → (line ≡ first) ⊎ Memᴰ line lines → FromPuts P line
          of_line s later line (inl is) = subst (FromPuts P) (sym is) s
          of_line s later line (inr m) = later line m
