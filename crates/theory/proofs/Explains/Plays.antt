-- A machine plays lines: one list behind another, and items put are those handed out plus those that the contents gained. Assumes nothing.
use mathlib.Core.Path.{◌≡◌, refl, sym, ap, ◌∙◌}
use Prim.Native.Nat.{ℕ, zero, suc, ◌+◌, ◌≤◌}
use mathlib.Core.List.{List, [], ◌∷◌, ◌++◌}
use mathlib.Core.Option.{Option, none, some}
use native.Mathlib.Omega.{arith}
use lib.ListN.{length}
use Rattle.basics.proofs.Choice.{pick_then, same_refl}
use Rattle.job.specs.declared.Kind.{Kind}
use Rattle.machine.specs.Multiplicity.{Line, remove, find_empty, apply, then, play}
use Rattle.machine.specs.Multiplicity.Line.{put, takes, empty}
use Rattle.machine.specs.Notes.{Note}
use Rattle.machine.specs.Record.{Recorded, line_at, lines_to, lines_of}
use Rattle.machine.specs.Left.{left_in}
use Rattle.machine.specs.Explained.{put_lines, take_lines}
use Rattle.machine.proofs.ByKind.{add_length}
use Rattle.theory.proofs.Course.{Course}
use Rattle.theory.proofs.Laws.{Applies, Laws}
use Rattle.theory.proofs.Laws.Applies.{no_line, puts, removes, finds_none}

lines_of_append : (a b : List Recorded) → lines_of (a ++ b) ≡ lines_of a ++ lines_of b
unfolding lines_of
lines_of_append [] b = refl
lines_of_append (r ∷ a) b = ap (λ l. r.line ∷ l) (lines_of_append a b)

play_append : (object : Kind) (a b : List Line) (c : List ℕ) → play object (a ++ b) c ≡ then (play object a c) (play object b)
unfolding play then
play_append object [] b c = refl
play_append object (line ∷ a) b c = go (apply object line c) (λ d. play_append object a b d)
  where
    go : (r : Option (List ℕ)) → ((d : List ℕ) → play object (a ++ b) d ≡ then (play object a d) (play object b)) → then r (play object (a ++ b)) ≡ then (then r (play object a)) (play object b)
    go none rest = refl
    go (some d) rest = rest d

-- the line at a step, if there is one, is played
play_applies : (object : Kind) {l : List Recorded} {c d : List ℕ} → Applies object l c d → play object (lines_of l) c ≡ some d
unfolding play then apply remove find_empty lines_of
play_applies object no_line = refl
play_applies object puts = refl
play_applies object (removes {item = item}) = ap (λ r. then r (λ c. some c)) (pick_then _ _ (same_refl item))
play_applies object finds_none = refl

put_lines_append : (a b : List Line) → put_lines (a ++ b) ≡ put_lines a + put_lines b
unfolding put_lines
put_lines_append [] b = omega arith
put_lines_append (put o ∷ a) b = omega (arith, put_lines_append a b)
put_lines_append (takes item takers ∷ a) b = put_lines_append a b
put_lines_append (empty o ∷ a) b = put_lines_append a b

take_lines_append : (a b : List Line) → take_lines (a ++ b) ≡ take_lines a + take_lines b
unfolding take_lines
take_lines_append [] b = omega arith
take_lines_append (put o ∷ a) b = take_lines_append a b
take_lines_append (takes item takers ∷ a) b = omega (arith, take_lines_append a b)
take_lines_append (empty o ∷ a) b = take_lines_append a b

-- the lines of one more step
pub put_lines_one_more : (kind : Kind) (log : ℕ → Note) (count k s : ℕ) → put_lines (lines_of (lines_to kind log count k (suc s))) ≡ put_lines (lines_of (lines_to kind log count k s)) + put_lines (lines_of (line_at kind log count k (suc s)))
unfolding lines_to
put_lines_one_more kind log count k s = ap put_lines (lines_of_append (lines_to kind log count k s) (line_at kind log count k (suc s))) ∙ put_lines_append _ _

-- the line at a step, and what it does to the number of items
counts_applies : (object : Kind) {l : List Recorded} {c d : List ℕ} → Applies object l c d → put_lines (lines_of l) + length c ≡ take_lines (lines_of l) + length d
unfolding put_lines take_lines lines_of
counts_applies object no_line = refl
counts_applies object (puts {o = o} {c = c}) = omega (arith, add_length object o c)
counts_applies object removes = omega arith
counts_applies object finds_none = refl

module _ {kind : Kind} (c : Course kind) (k : ℕ) (laws : Laws c k) where
  -- the lines at steps 1 to s lead from nothing to the contents after them
  plays_to : (s : ℕ) → s ≤ k → play kind (lines_of (lines_to kind c.log c.count k s)) [] ≡ some (laws.contents s)
  unfolding lines_to lines_of play then
  plays_to zero h = ap some (sym laws.begins)
  plays_to (suc s) h =
      ap (λ l. play kind l []) (lines_of_append (lines_to kind c.log c.count k s) (line_at kind c.log c.count k (suc s)))
      ∙ play_append kind (lines_of (lines_to kind c.log c.count k s)) (lines_of (line_at kind c.log c.count k (suc s))) []
      ∙ ap (λ r. then r (play kind (lines_of (line_at kind c.log c.count k (suc s))))) (plays_to s (omega arith))
      ∙ play_applies kind (laws.applies s h)

  counts_to : (s : ℕ) → s ≤ k → put_lines (lines_of (lines_to kind c.log c.count k s)) ≡ take_lines (lines_of (lines_to kind c.log c.count k s)) + length (laws.contents s)
  unfolding lines_to lines_of put_lines take_lines
  counts_to zero h = omega (arith, ap length laws.begins)
  counts_to (suc s) h =
      rw (lines_of_append, put_lines_append, take_lines_append) (omega (arith, counts_to s (omega arith), counts_applies kind (laws.applies s h)))

  pub plays : play kind (lines_of (lines_to kind c.log c.count k k)) [] ≡ some (left_in kind c.count (c.memory k))
  plays = plays_to k (omega arith) ∙ ap some laws.finishes

  pub conserves : put_lines (lines_of (lines_to kind c.log c.count k k)) ≡ take_lines (lines_of (lines_to kind c.log c.count k k)) + length (left_in kind c.count (c.memory k))
  conserves = counts_to k (omega arith) ∙ ap (λ l. take_lines (lines_of (lines_to kind c.log c.count k k)) + length l) laws.finishes
