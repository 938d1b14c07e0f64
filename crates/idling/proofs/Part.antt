-- A part of a stream that is written anew is a stretch of it. Assumes nothing.
use mathlib.Core.Path.{◌≡◌, sym, ap, subst, ◌∙◌}
use Prim.Native.Nat.{ℕ, ◌+◌, ◌-◌, ◌≤◌, ◌<◌}
use native.Mathlib.Omega.{arith}
use mathlib.Core.List.{List, ◌++◌}
use borrow.Rule.Slice.PartMut.{put_mid, post_of, same_len_mid}
use lib.ListN.{length, get_or, take, drop}
use Rattle.std.proofs.Common.{length-drop}
use Rattle.std.proofs.lemmas.List.{get_or-drop, get_or-take, get_or_append_left, get_or-append_right, length-take-le}
use Rattle.basics.specs.Maps.{at}
use Rattle.idling.specs.Rewritten.{Rewritten}

-- the part of a list from one place up to another
abbrev pub part : ℕ → ℕ → List ℕ → List ℕ
part from to s = take (to - from) (drop from s)

part_long : (from to : ℕ) (s : List ℕ) → from ≤ to → to ≤ length s → length (part from to s) ≡ to - from
part_long from to s h fits = length-take-le (to - from) (drop from s) (let long : length (drop from s) ≡ length s - from = length-drop from s in omega arith)

part_at : (from to : ℕ) (s : List ℕ) (j : ℕ) → j < to - from → at (part from to s) j ≡ at s (from + j)
unfolding at
part_at from to s j h = get_or-take (to - from) (drop from s) j 0 h ∙ get_or-drop from s j 0

-- what holds of each byte of the stretch holds of each of the part
pub part_each : (P : ℕ → Type 0) {from to : ℕ} (s : List ℕ) → from ≤ to → to ≤ length s → ((i : ℕ) → from ≤ i → i < to → P (at s i))
    → (j : ℕ) → j < length (part from to s) → P (at (part from to s) j)
part_each P {from} {to} s h fits each j low =
    let short : j < to - from = omega (arith, part_long from to s h fits) in
    subst P (sym (part_at from to s j short)) (each (from + j) (omega arith) (omega arith))

module _ (f : ℕ → ℕ) {from to : ℕ} (s : List ℕ) {m : List ℕ} (h : from ≤ to) (fits : to ≤ length s) (r : Rewritten (λ i. f (at (part from to s) i)) 0 (length (part from to s)) (part from to s) m) where
  long : length m ≡ to - from
  long = r.size ∙ part_long from to s h fits

  front_long : length (take from s) ≡ from
  front_long = length-take-le from s (omega arith)

  -- behind the front
  behind : (i : ℕ) → from ≤ i → at (put_mid from (to - from) s m) i ≡ at (m ++ post_of from (to - from) s) (i - from)
  unfolding at
  behind i low = get_or-append_right (take from s) (m ++ post_of from (to - from) s) from i 0 front_long low

  inside : (i : ℕ) → from ≤ i → i < to → at (put_mid from (to - from) s m) i ≡ f (at s i)
  inside i low high =
      let short : i - from < to - from = omega arith in
      let there : at (m ++ post_of from (to - from) s) (i - from) ≡ at m (i - from) = unfold at in get_or_append_left m (post_of from (to - from) s) 0 (i - from) (omega (arith, long)) in
      behind i low
      ∙ there
      ∙ r.inside (i - from) (omega arith) (omega (arith, part_long from to s h fits))
      ∙ ap f (part_at from to s (i - from) short ∙ ap (at s) (let e : from + (i - from) ≡ i = omega arith in e))

  back : (i : ℕ) → to ≤ i → at (put_mid from (to - from) s m) i ≡ at s i
  unfolding at
  back i high =
      behind i (omega arith)
      ∙ get_or-append_right m (post_of from (to - from) s) (to - from) (i - from) 0 long (omega arith)
      ∙ get_or-drop (to - from) (drop from s) (i - from - (to - from)) 0
      ∙ get_or-drop from s (to - from + (i - from - (to - from))) 0
      ∙ ap (λ (n : ℕ). get_or s n 0) (let e : from + (to - from + (i - from - (to - from))) ≡ i = omega arith in e)

  front : (i : ℕ) → i < from → at (put_mid from (to - from) s m) i ≡ at s i
  unfolding at
  front i low =
      get_or_append_left (take from s) (m ++ post_of from (to - from) s) 0 i (omega (arith, front_long)) ∙ get_or-take from s i 0 low

  pub rewritten_part : Rewritten (λ i. f (at s i)) from to s (put_mid from (to - from) s m)
  rewritten_part =
      record {
        size = same_len_mid from (to - from) s m r.size;
        front = front;
        inside = inside;
        back = back;
      }
