-- A list made of pieces of one length, one behind the other: the payloads of a file and the blocks of a stream. Assumes nothing.
use mathlib.Core.Path.{◌≡◌, refl, sym, ap, ap₂, ◌∙◌}
use Prim.Native.Nat.{ℕ, zero, suc, ◌+◌, ◌-◌, ◌*◌, ◌≤◌, ◌<◌}
use native.Mathlib.Nat.{mul-suc, mul-zero, add-zero, zero-add, add-suc, add_comm}
use native.Mathlib.Omega.{arith}
use mathlib.Core.List.{List, [], ◌++◌}
use lib.ListN.{length, take, drop, length-append}
use lib.Seq.{take_at, drop_at, drop-drop, take-add}

-- `n` pieces from number `i` up
unfoldable pub pieces : (ℕ → List ℕ) → ℕ → ℕ → List ℕ
pieces f i zero = []
pieces f i (suc n) = f i ++ pieces f (suc i) n

times_suc : (k n : ℕ) → k * suc n ≡ k + k * n
times_suc k n = mul-suc k n ∙ add_comm (k * n) k

pub pieces_alike : (f g : ℕ → List ℕ) (i n : ℕ) → ((j : ℕ) → i ≤ j → j < i + n → f j ≡ g j) → pieces f i n ≡ pieces g i n
unfolding pieces
pieces_alike f g i zero h = refl
pieces_alike f g i (suc n) h = ap₂ ◌++◌ (h i (omega arith) (omega arith)) (pieces_alike f g (suc i) n (λ j a b. h j (omega arith) (omega arith)))

module _ (f : ℕ → List ℕ) (k : ℕ) where
  pub length_pieces : (i n : ℕ) → ((j : ℕ) → i ≤ j → j < i + n → length (f j) ≡ k) → length (pieces f i n) ≡ k * n
  unfolding pieces
  length_pieces i zero h = sym (mul-zero k)
  length_pieces i (suc n) h =
      length-append (f i) (pieces f (suc i) n)
      ∙ ap₂ ◌+◌ (h i (omega arith) (omega arith)) (length_pieces (suc i) n (λ j a b. h j (omega arith) (omega arith)))
      ∙ sym (times_suc k n)

  -- without the first pieces
  drop_pieces : (i j m : ℕ) → ((l : ℕ) → i ≤ l → l < i + j → length (f l) ≡ k) → drop (k * j) (pieces f i (m + j)) ≡ pieces f (i + j) m
  unfolding pieces
  drop_pieces i zero m h = ap₂ (λ (a n : ℕ). drop a (pieces f i n)) (mul-zero k) (add-zero m) ∙ ap (λ (n : ℕ). pieces f n m) (sym (add-zero i))
  drop_pieces i (suc j) m h =
      ap₂ (λ (a n : ℕ). drop a (pieces f i n)) (times_suc k j) (add-suc m j)
      ∙ sym (drop-drop (k * j) k (f i ++ pieces f (suc i) (m + j)))
      ∙ ap (drop (k * j)) (drop_at (f i) (pieces f (suc i) (m + j)) k (h i (omega arith) (omega arith)))
      ∙ drop_pieces (suc i) j m (λ l a b. h l (omega arith) (omega arith))
      ∙ ap (λ (n : ℕ). pieces f n m) (let e : suc i + j ≡ i + suc j = omega arith in e)

  pub piece_at : (n j : ℕ) → j < n → ((l : ℕ) → l < n → length (f l) ≡ k) → take k (drop (k * j) (pieces f 0 n)) ≡ f j
  unfolding pieces
  piece_at n j more h =
      let m : ℕ = n - suc j in
      ap (λ (x : ℕ). take k (drop (k * j) (pieces f 0 x))) (let e : n ≡ suc m + j = omega arith in e)
      ∙ ap (take k) (drop_pieces 0 j (suc m) (λ l a b. h l (omega arith)) ∙ ap (λ (x : ℕ). pieces f x (suc m)) (zero-add j))
      ∙ take_at (f j) (pieces f (suc j) m) k (h j more)

-- the pieces of a list are the list
pub pieces_of : (l : List ℕ) (k i n : ℕ) → pieces (λ j. take k (drop (k * j) l)) i n ≡ take (k * n) (drop (k * i) l)
unfolding pieces
pieces_of l k i zero = ap (λ (n : ℕ). take n (drop (k * i) l)) (sym (mul-zero k))
pieces_of l k i (suc n) =
    ap (λ (t : List ℕ). take k (drop (k * i) l) ++ t)
    (pieces_of l k (suc i) n ∙ ap (take (k * n)) (ap (λ (x : ℕ). drop x l) (mul-suc k i) ∙ sym (drop-drop k (k * i) l)))
    ∙ sym (take-add k (k * n) (drop (k * i) l))
    ∙ ap (λ (x : ℕ). take x (drop (k * i) l)) (sym (times_suc k n))
