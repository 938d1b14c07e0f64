-- The members of all lines of a record: no operation is among them twice, so they are at most as many as the operations; and so are
-- the items left. Assumes nothing.
use mathlib.Core.Path.{◌≡◌, refl, sym, subst}
use mathlib.Core.Logic.{◌≢◌, ◌⊎◌, inl, inr}
use Prim.Native.Nat.{ℕ, ◌≤◌}
use mathlib.Core.Bool.{true, false}
use mathlib.Core.List.Memᴰ
use mathlib.Core.List.{List, [], ◌∷◌, ◌++◌, Memᴰ}
use native.Mathlib.Omega.{arith}
use lib.ListN.{length, length-append}
use Rattle.basics.proofs.Choice.{both, split}
use Rattle.job.specs.Job.{Job}
use Rattle.machine.specs.Multiplicity.{Line}
use Rattle.machine.specs.Multiplicity.Line.{put, takes, empty}
use Rattle.machine.specs.Notes.{note}
use Rattle.machine.specs.Journal.{last}
use Rattle.machine.specs.Effects.{took_effect}
use Rattle.machine.specs.Record.{Recorded, the_record, lines_of}
use Rattle.machine.specs.Left.{left}
use Rattle.machine.specs.Explained.{members, occurrences, times, put_lines, IsOperation, Explained}
use Rattle.machine.proofs.Lists.{distinct_at_most, occurring_once, occurrences_append}
use Rattle.wording.proofs.Sizes.Items.{FromPuts, played}
use Rattle.wording.proofs.Sizes.Items.FromPuts.{of_put, of_takes, of_empty}

-- the members of all lines, one line's behind another's
unfoldable pub all_members : List Recorded → List ℕ
all_members [] = []
all_members (r ∷ l) = members r.line ++ all_members l

times_is : (x : ℕ) (l : List Recorded) → occurrences x (all_members l) ≡ times x l
unfolding all_members times occurrences
times_is x [] = refl
times_is x (r ∷ l) = omega (arith, occurrences_append x (members r.line) (all_members l), times_is x l)

line_of_member : (l : List Recorded) {x : ℕ} → Memᴰ x (all_members l) → (r : Recorded) × Memᴰ r l × Memᴰ x (members r.line)
unfolding all_members
line_of_member [] m = absurd (Memᴰ.not-nil m)
line_of_member (r ∷ l) {x} m = go (λ n. line_of_member l n) (Memᴰ.append_cases (members r.line) m)
  where
    go : (Memᴰ x (all_members l) → (q : Recorded) × Memᴰ q l × Memᴰ x (members q.line)) → Memᴰ x (members r.line) ⊎ Memᴰ x (all_members l) → (q : Recorded) × Memᴰ q (r ∷ l) × Memᴰ x (members q.line)
    go below (inl n) = (r, Memᴰ.head refl, n)
    go below (inr n) = let b = below n in (b.0, Memᴰ.tail b.1, b.2)

-- a put line has a member
put_lines_members : (l : List Recorded) → put_lines (lines_of l) ≤ length (all_members l)
unfolding put_lines lines_of members all_members
put_lines_members [] = omega arith
put_lines_members (r ∷ l) = go r.line (put_lines_members l)
  where
    go : (line : Line) → put_lines (lines_of l) ≤ length (all_members l) → put_lines (line ∷ lines_of l) ≤ length (members line ++ all_members l)
    go (put o) h = omega arith
    go (takes item takers) h = omega (arith, length-append takers (all_members l))
    go (empty o) h = omega arith

-- a line that a machine allows has a member
pub has_members : (P : ℕ → Type 0) {line : Line} → FromPuts P line → 1 ≤ length (members line)
unfolding members
has_members P (of_put p) = omega arith
has_members P (of_takes p) = omega arith
has_members P of_empty = omega arith

module _ (j : Job) (k : ℕ) (ex : Explained j k) where
  at_most_once : (o : ℕ) → IsOperation j.count o → times o (the_record j k) ≤ 1
  at_most_once o op = go (split (last (note j) k o) 0) (both (took_effect j.object (note j) k o))
    where
      go : (last (note j) k o ≡ 0) ⊎ (last (note j) k o ≢ 0) → (took_effect j.object (note j) k o ≡ true) ⊎ (took_effect j.object (note j) k o ≡ false) → times o (the_record j k) ≤ 1
      go (inr ended) t = omega (arith, (ex.answered o op ended).once)
      go (inl ongoing) (inl t) = omega (arith, (ex.in_effect o op ongoing t).once)
      go (inl ongoing) (inr t) = omega (arith, ex.without_effect o op ongoing t)

  member_operation : (o : ℕ) → Memᴰ o (all_members (the_record j k)) → IsOperation j.count o
  member_operation o m = let r = line_of_member (the_record j k) m in ex.operations r.0 r.1 o r.2

  -- the members of all lines are at most as many as the operations
  pub members_count : length (all_members (the_record j k)) ≤ j.count
  members_count = distinct_at_most j.count (occurring_once (all_members (the_record j k)) (λ o m. omega (arith, times_is o (the_record j k), at_most_once o (member_operation o m)))) (λ o m. let op : IsOperation j.count o = member_operation o m in (op.from_one, op.to_count))

  put_operation : (o : ℕ) → Memᴰ (put o) (lines_of (the_record j k)) → IsOperation j.count o
  unfolding lines_of members
  put_operation o m =
      let r : (r : Recorded) × Memᴰ r (the_record j k) × (r.line ≡ put o) = Memᴰ.of_map (λ r. r.line) (the_record j k) m in
      ex.operations r.0 r.1 o (subst (λ line. Memᴰ o (members line)) (sym r.2) (Memᴰ.head refl))

  all_from_puts : ((line : Line) → Memᴰ line (lines_of (the_record j k)) → FromPuts (IsOperation j.count) line) × ((x : ℕ) → Memᴰ x (left j k) → IsOperation j.count x)
  all_from_puts = played (IsOperation j.count) j.object (lines_of (the_record j k)) [] (left j k) ex.allowed put_operation (λ x m. absurd (Memᴰ.not-nil m))

  -- every line has a member, and hands out an operation's item
  pub line_from_puts : (r : Recorded) → Memᴰ r (the_record j k) → FromPuts (IsOperation j.count) r.line
  unfolding lines_of
  line_from_puts r m = all_from_puts.0 r.line (Memᴰ.map (λ r. r.line) m)

  -- what is left are operations
  pub left_operation : (x : ℕ) → Memᴰ x (left j k) → IsOperation j.count x
  left_operation = all_from_puts.1

  pub left_count : length (left j k) ≤ j.count
  left_count = omega (arith, ex.conserved, put_lines_members (the_record j k), members_count)
