-- What the tests of the code say of the conditions of a stream. Assumes nothing.
use Rattle.std.proofs.Common.{◌≡◌, ℕ, suc, ◌+◌, ◌-◌, ◌*◌, ◌≤◌, ◌<◌, Bool, true, false, ◌⊎◌, ◌||◌, ◌&&◌, not, List, [], ◌∷◌, length, get_or, take, drop, Some, None, refl, ap, ap₂, ◌∙◌, inl, inr, arith}
use Rattle.std.specs.List.{list_any}
use Rattle.std.proofs.lemmas.List.{get_or-take, get_or-drop}
use Rattle.basics.specs.Maps.{at}
use Rattle.basics.specs.Choice.{same, less}
use Rattle.basics.proofs.Choice.{both, same_equal, pick_then, pick_else, lt_less}
use Rattle.job.specs.declared.Action.TheVariants.{Put, Take}
use Rattle.job.specs.Stream.{operations, process, processes, action, action_of, value, scheduled, stream_length}
use Rattle.job.specs.Refusals.{any, outside, bad_record}

-- a stream that is all there has its six bytes of header
pub header_there : (s : List ℕ) → stream_length s ≤ length s → 6 ≤ length s
unfolding stream_length
header_there s h = omega arith

-- a stretch that begins at 1, where what is left is counted from one past its end
pub any_from_one : (f : ℕ → Bool) (n : ℕ) → any f 1 (n + 1 - 1) ≡ any f 1 n
any_from_one f n = ap (any f 1) (let p : n + 1 - 1 ≡ n = omega arith in p)

-- an entry of the schedule, where the code reads it
pub entry_byte : (s : List ℕ) (i : ℕ) {start n m : ℕ} → i < m → start ≡ 5 + 4 * n + 1 → n ≡ operations s → get_or (take m (drop start s)) i 0 ≡ scheduled s (i + 1)
unfolding scheduled at
entry_byte s i {start} {n} {m} more from count =
    get_or-take m (drop start s) i 0 more
    ∙ get_or-drop start s i 0
    ∙ ap (λ (x : ℕ). get_or s x 0) (let p : start + i ≡ 5 + 4 * operations s + (i + 1) = omega arith in p)

-- bytes behind one another, of which one has a test
pub any_byte : (test f : ℕ → Bool) (bytes : List ℕ) (i : ℕ) → ((k : ℕ) → k < length bytes → test (get_or bytes k 0) ≡ f (i + k)) → list_any test bytes ≡ any f i (length bytes)
unfolding any
any_byte test f [] i h = refl
any_byte test f (x ∷ bytes) i h =
    ap₂ ◌||◌ (h 0 (omega arith) ∙ ap f (let p : i + 0 ≡ i = omega arith in p)) (any_byte test f bytes (suc i) (λ k more. h (suc k) (omega arith) ∙ ap f (let p : i + suc k ≡ suc i + k = omega arith in p)))

-- a record whose action is a put
act_is_put : (n : ℕ) → Some Put ≡ action_of n → n ≡ 1
unfolding action_of
act_is_put n e = go (both (same n 1)) (both (same n 2))
  where
    go : (same n 1 ≡ true) ⊎ (same n 1 ≡ false) → (same n 2 ≡ true) ⊎ (same n 2 ≡ false) → n ≡ 1
    go (inl one) two = same_equal one
    go (inr not_one) (inl two) = let z : Some Put ≡ Some Take = e ∙ pick_else _ _ not_one ∙ pick_then _ _ two in cc
    go (inr not_one) (inr not_two) = let z : Some Put ≡ None = e ∙ pick_else _ _ not_one ∙ pick_else _ _ not_two in cc

by_one : (v : ℕ) → false ≡ (less 1 1 || less 2 1) || same 1 2 && not (same v 0)
unfolding less same
by_one v = refl

pub put_passes : (s : List ℕ) (o : ℕ) {p n : ℕ} → p ≡ process s o → n ≡ processes s → p < n → Some Put ≡ action_of (action s o) → false ≡ bad_record s o
unfolding bad_record outside
put_passes s o own all h put =
    let one : action s o ≡ 1 = act_is_put (action s o) put in
    simp (← own, ← all, lt_less h, one) (by_one (value s o))
