-- What a journal says when idle entries are cut out: for every operation the same, at the places of the entries. Assumes nothing.
use mathlib.Core.Path.{◌≡◌, refl, sym, ap, fun_ext, ◌∙◌}
use mathlib.Core.Logic.{◌≢◌, ◌⊎◌, inl, inr}
use Prim.Native.Nat.{ℕ, zero, suc, ◌≤◌}
use mathlib.Core.Bool.{Bool, true, false, not, ◌&&◌, and-false}
use mathlib.Core.List.{List, [], ◌∷◌, ◌++◌, map-append, append-nil}
use native.Mathlib.Omega.{arith}
use Rattle.basics.specs.Choice.{pick, same}
use Rattle.basics.proofs.Choice.{both, split, pick_then, pick_else, equal_same, unequal_same}
use Rattle.job.specs.declared.Kind.{Kind}
use Rattle.machine.specs.Multiplicity.{Line}
use Rattle.machine.specs.Multiplicity.Line.{put, takes, empty}
use Rattle.machine.specs.Notes.{Answer, Note, idle, is_answer}
use Rattle.machine.specs.Journal.{is_round, is_linked, item_of, moved_to, made, begins_round, links, joins, ends, first, last, answer, start, link, join, taken}
use Rattle.machine.specs.Effects.{Rule, Effect, sift, numbers, largest, rule, stands_by, takers, first_move, latest_start, takes_at, is_empty, effect}
use Rattle.machine.specs.Effects.Rule.{by_move, by_round}
use Rattle.machine.specs.Effects.Effect.{none, stands}
use Rattle.machine.specs.Record.{Recorded, if_at, line_at, lines_to}
use Rattle.machine.specs.Lost.{lost}
use Rattle.machine.proofs.Searches.{earliest_le, latest_le}
use Rattle.theory.specs.Cut.{stayed, entry_of, renumber, renumbered}
use Rattle.theory.proofs.Cut.Entries.{stayed_zero, stayed_in, stayed_out, entry_zero, entry_each, entry_stands, same_zero, never_out, same_place}
use Rattle.theory.proofs.Cut.Searches.{Agree, earliest_cut, latest_cut, tally_cut, largest_cut}

-- a run whose steps are idle where `out` says so, and the run without them
pub record SameLog (out : ℕ → Bool) (S : ℕ) (long short : ℕ → Note) : Type 0 where
  pub at_zero : long 0 ≡ short 0
  pub at_out : (k : ℕ) → suc k ≤ S → out (suc k) ≡ true → long (suc k) ≡ idle
  pub at_in : (k : ℕ) → suc k ≤ S → out (suc k) ≡ false → long (suc k) ≡ short (suc (stayed out k))

-- an effect that stands elsewhere
unfoldable pub moved : (ℕ → ℕ) → Effect → Effect
moved number none = none
moved number (stands s line) = stands (number s) line

-- a choice of effects, moved
moved_pick : (number : ℕ → ℕ) (b : Bool) (x y : Effect) → moved number (pick b x y) ≡ pick b (moved number x) (moved number y)
unfolding pick
moved_pick number true x y = refl
moved_pick number false x y = refl

-- the lines with one more step
line_next : (kind : Kind) (log : ℕ → Note) (count k s : ℕ) → lines_to kind log count k (suc s) ≡ lines_to kind log count k s ++ line_at kind log count k (suc s)
unfolding lines_to
line_next kind log count k s = refl

lines_none : (kind : Kind) (log : ℕ → Note) (count k : ℕ) → lines_to kind log count k 0 ≡ []
unfolding lines_to
lines_none kind log count k = refl

renumbered_none : (number : ℕ → ℕ) → renumbered number [] ≡ []
unfolding renumbered
renumbered_none number = refl

-- one line
abbrev one : ℕ → Line → List Recorded
one s line = record { step = s; line = line } ∷ []

renumbered_one : (number : ℕ → ℕ) (s : ℕ) (line : Line) → renumbered number (one s line) ≡ one (number s) line
unfolding renumbered
renumbered_one number s line = refl

renumbered_both : (number : ℕ → ℕ) (l m : List Recorded) → renumbered number (l ++ m) ≡ renumbered number l ++ renumbered number m
unfolding renumbered
renumbered_both number l m = map-append (renumber number) l m

module _ {out : ℕ → Bool} {S : ℕ} {long short : ℕ → Note} (log : SameLog out S long short) where
  abbrev n : ℕ
  n = stayed out S

  abbrev e : ℕ → ℕ
  e i = entry_of out S i

  -- the note at a place is that of its entry
  note_at : (i : ℕ) → i ≤ n → long (e i) ≡ short i
  note_at i b = go (split i 0)
    where
      by_entry : (s : ℕ) → e i ≡ s → 1 ≤ s → s ≤ S → out s ≡ false → stayed out s ≡ i → long s ≡ short i
      by_entry zero q low high o p = absurd (omega arith)
      by_entry (suc k) q low high o p = log.at_in k high o ∙ ap short (sym (stayed_in out k o) ∙ p)

      go : (i ≡ 0) ⊎ (i ≢ 0) → long (e i) ≡ short i
      go (inl z) = ap long (ap e z ∙ entry_zero out S) ∙ log.at_zero ∙ ap short (sym z)
      go (inr m) =
          let s = entry_stands out S i (omega arith) b in
          by_entry (e i) refl s.from_one s.to_last s.is_in s.its_place

  -- a test of notes that an idle step does not meet
  agrees : (test : Note → Bool) → test idle ≡ false → Agree out S (λ s. test (long s)) (λ s. test (short s))
  agrees test quiet = record { at_out = λ k b t. ap test (log.at_out k b t) ∙ quiet; at_in = λ k b o. ap test (log.at_in k b o) }

  -- a test of an operation's step that an idle step does not meet, whoever is asked
  by_operation : (test : Note → Bool) (o : ℕ) → test idle ≡ false → (same idle.by o && test idle) ≡ false
  by_operation test o quiet = ap (λ (b : Bool). same idle.by o && b) quiet ∙ and-false (same idle.by o)

  pub first_cut : (o : ℕ) → o ≢ 0 → first long S o ≡ e (first short n o)
  unfolding first made idle
  first_cut o h = earliest_cut out S _ _ (agrees (λ x. same x.by o) (unequal_same (λ q. h (sym q)))) S (omega arith)

  pub last_cut : (o : ℕ) → last long S o ≡ e (last short n o)
  unfolding last ends made idle is_answer
  last_cut o = earliest_cut out S _ _ (agrees (λ x. same x.by o && is_answer x.answer) (by_operation (λ x. is_answer x.answer) o refl)) S (omega arith)

  pub link_cut : (o : ℕ) → link long S o ≡ e (link short n o)
  unfolding link links made idle is_linked
  link_cut o = earliest_cut out S _ _ (agrees (λ x. same x.by o && is_linked x.event) (by_operation (λ x. is_linked x.event) o refl)) S (omega arith)

  start_cut : (o : ℕ) → start long S o ≡ e (start short n o)
  unfolding start begins_round made idle is_round
  start_cut o = latest_cut out S _ _ (agrees (λ x. same x.by o && is_round x.event) (by_operation (λ x. is_round x.event) o refl)) S (omega arith)

  join_cut : (o : ℕ) → join long S o ≡ e (join short n o)
  unfolding join joins made idle item_of
  join_cut o = earliest_cut out S _ _ (agrees (λ x. same x.by o && not (same (item_of x.event) 0)) (by_operation (λ x. not (same (item_of x.event) 0)) o (ap not (equal_same refl)))) S (omega arith)

  pub lost_cut : lost long S ≡ lost short n
  unfolding lost idle
  lost_cut = tally_cut out S _ _ (agrees (λ x. x.back) refl) S (omega arith)

  pub answer_cut : (o : ℕ) → answer long S o ≡ answer short n o
  unfolding answer last
  answer_cut o = ap (λ (s : ℕ). (long s).answer) (last_cut o) ∙ ap (λ (x : Note). x.answer) (note_at (last short n o) (earliest_le (ends short o) n))

  taken_cut : (o : ℕ) → taken long S o ≡ taken short n o
  unfolding taken join
  taken_cut o = ap (λ (s : ℕ). item_of (long s).event) (join_cut o) ∙ ap (λ (x : Note). item_of x.event) (note_at (join short n o) (earliest_le (joins short o) n))

  takers_cut : (count item : ℕ) → takers long count S item ≡ takers short count n item
  unfolding takers
  takers_cut count item = ap (λ (t : ℕ → ℕ). sift (λ o. same (t o) item) (numbers count)) (fun_ext taken_cut)

  start_le : (o : ℕ) → start short n o ≤ n
  unfolding start
  start_le o = latest_le (begins_round short o) n

  stands_cut : (r : Rule) (count item : ℕ) → item ≢ 0 → stands_by r long count S item ≡ e (stands_by r short count n item)
  unfolding first_move latest_start idle moved_to
  stands_cut by_move count item h = earliest_cut out S _ _ (agrees (λ x. same (moved_to x.event) item) (unequal_same (λ q. h (sym q)))) S (omega arith)
  stands_cut by_round count item h =
      ap (λ (l : List ℕ). largest (start long S) l) (takers_cut count item)
      ∙ ap (λ (f : ℕ → ℕ). largest f (takers short count n item)) (fun_ext start_cut)
      ∙ largest_cut out S (start short n) (takers short count n item) start_le

  -- a takers' line, where there are takers
  take_cut : (kind : Kind) (count o : ℕ) (y : Effect) → pick (not (same (taken short n o) 0)) (stands (takes_at kind long count S (taken short n o)) (takes (taken short n o) (takers short count n (taken short n o)))) y ≡ pick (not (same (taken short n o) 0)) (stands (e (takes_at kind short count n (taken short n o))) (takes (taken short n o) (takers short count n (taken short n o)))) y
  unfolding takes_at
  take_cut kind count o y = go (split (taken short n o) 0)
    where
      t : ℕ
      t = taken short n o

      go : (t ≡ 0) ⊎ (t ≢ 0) → pick (not (same t 0)) (stands (stands_by (rule kind) long count S t) (takes t (takers short count n t))) y ≡ pick (not (same t 0)) (stands (e (stands_by (rule kind) short count n t)) (takes t (takers short count n t))) y
      go (inl z) = pick_else _ _ (ap not (equal_same z)) ∙ sym (pick_else _ _ (ap not (equal_same z)))
      go (inr m) = ap (λ (s : ℕ). pick (not (same t 0)) (stands s (takes t (takers short count n t))) y) (stands_cut (rule kind) count t m)

  -- what an effect is made of
  abbrev shape : ℕ → Bool → ℕ → ℕ → ℕ → List ℕ → Bool → ℕ → Effect
  shape o linked l t s l_takers bare begun = pick linked (stands l (put o)) (pick (not (same t 0)) (stands s (takes t l_takers)) (pick bare (stands begun (empty o)) none))

  effect_cut : (kind : Kind) (count o : ℕ) → effect kind long count S o ≡ moved e (effect kind short count n o)
  unfolding effect moved link
  effect_cut kind count o =
      let l : ℕ = link short n o in
      let t : ℕ = taken short n o in
      let w : List ℕ = takers short count n t in
      let b : ℕ = start short n o in
      let bare : Bool = is_empty (answer short n o) in
      ap (λ (x : ℕ). shape o (not (same x 0)) x (taken long S o) (takes_at kind long count S (taken long S o)) (takers long count S (taken long S o)) (is_empty (answer long S o)) (start long S o)) (link_cut o)
      ∙ ap (λ (x : Bool). shape o (not x) (e l) (taken long S o) (takes_at kind long count S (taken long S o)) (takers long count S (taken long S o)) (is_empty (answer long S o)) (start long S o)) (same_zero out S l (earliest_le (links short o) n))
      ∙ ap (λ (x : ℕ). shape o (not (same l 0)) (e l) x (takes_at kind long count S x) (takers long count S x) (is_empty (answer long S o)) (start long S o)) (taken_cut o)
      ∙ ap (λ (x : List ℕ). shape o (not (same l 0)) (e l) t (takes_at kind long count S t) x (is_empty (answer long S o)) (start long S o)) (takers_cut count t)
      ∙ ap (λ (x : Answer). shape o (not (same l 0)) (e l) t (takes_at kind long count S t) w (is_empty x) (start long S o)) (answer_cut o)
      ∙ ap (λ (x : ℕ). shape o (not (same l 0)) (e l) t (takes_at kind long count S t) w bare x) (start_cut o)
      ∙ ap (λ (x : Effect). pick (not (same l 0)) (stands (e l) (put o)) x) (take_cut kind count o (pick bare (stands (e b) (empty o)) none))
      ∙ sym (
      moved_pick e (not (same l 0)) (stands l (put o)) (pick (not (same t 0)) (stands (takes_at kind short count n t) (takes t w)) (pick bare (stands b (empty o)) none))
      ∙ ap (λ (x : Effect). pick (not (same l 0)) (stands (e l) (put o)) x) (moved_pick e (not (same t 0)) (stands (takes_at kind short count n t) (takes t w)) (pick bare (stands b (empty o)) none))
      ∙ ap (λ (x : Effect). pick (not (same l 0)) (stands (e l) (put o)) (pick (not (same t 0)) (stands (e (takes_at kind short count n t)) (takes t w)) x)) (moved_pick e bare (stands b (empty o)) none)
      )

  -- no line stands at an entry that is cut out
  no_line : (k : ℕ) → out (suc k) ≡ true → (x : Effect) → if_at (suc k) (moved e x) ≡ []
  unfolding if_at moved
  no_line k t none = refl
  no_line k t (stands s line) = pick_else _ _ (unequal_same (never_out out S s k t))

  -- and one at an entry that stays stands at its place
  its_line : (k : ℕ) → suc k ≤ S → out (suc k) ≡ false → (x : Effect) → if_at (suc k) (moved e x) ≡ renumbered e (if_at (suc (stayed out k)) x)
  unfolding if_at moved renumbered
  its_line k b i none = refl
  its_line k b i (stands s line) =
      ap (λ (t : Bool). pick {A = List Recorded} t (one (suc k) line) []) (same_place out S s k b i ∙ ap (same s) (stayed_in out k i))
      ∙ go (both (same s (suc (stayed out k))))
    where
      entry : e (suc (stayed out k)) ≡ suc k
      entry = ap e (sym (stayed_in out k i)) ∙ entry_each out (suc k) S (omega arith) b i

      go : (same s (suc (stayed out k)) ≡ true) ⊎ (same s (suc (stayed out k)) ≡ false) → pick {A = List Recorded} (same s (suc (stayed out k))) (one (suc k) line) [] ≡ renumbered e (pick {A = List Recorded} (same s (suc (stayed out k))) (one (suc (stayed out k)) line) [])
      go (inl t) = pick_then _ _ t ∙ ap (λ (x : ℕ). one x line) (sym entry) ∙ sym (renumbered_one e (suc (stayed out k)) line) ∙ sym (ap (renumbered e) (pick_then _ _ t))
      go (inr f) = pick_else _ _ f ∙ sym (renumbered_none e) ∙ sym (ap (renumbered e) (pick_else _ _ f))

  line_out : (kind : Kind) (count k : ℕ) → out (suc k) ≡ true → line_at kind long count S (suc k) ≡ []
  unfolding line_at
  line_out kind count k t = ap (if_at (suc k)) (effect_cut kind count (long (suc k)).by) ∙ no_line k t (effect kind short count n (long (suc k)).by)

  line_in : (kind : Kind) (count k : ℕ) → suc k ≤ S → out (suc k) ≡ false → line_at kind long count S (suc k) ≡ renumbered e (line_at kind short count n (suc (stayed out k)))
  unfolding line_at
  line_in kind count k b i =
      ap (if_at (suc k)) (effect_cut kind count (long (suc k)).by)
      ∙ ap (λ (x : Note). if_at (suc k) (moved e (effect kind short count n x.by))) (log.at_in k b i)
      ∙ its_line k b i (effect kind short count n (short (suc (stayed out k))).by)

  pub lines_cut : (kind : Kind) (count k : ℕ) → k ≤ S → lines_to kind long count S k ≡ renumbered e (lines_to kind short count n (stayed out k))
  lines_cut kind count zero b = lines_none kind long count S ∙ sym (ap (renumbered e) (ap (lines_to kind short count n) (stayed_zero out) ∙ lines_none kind short count n) ∙ renumbered_none e)
  lines_cut kind count (suc k) b = go (both (out (suc k))) (lines_cut kind count k (omega arith))
    where
      go : (out (suc k) ≡ true) ⊎ (out (suc k) ≡ false) → lines_to kind long count S k ≡ renumbered e (lines_to kind short count n (stayed out k)) → lines_to kind long count S (suc k) ≡ renumbered e (lines_to kind short count n (stayed out (suc k)))
      go (inl t) below =
          line_next kind long count S k
          ∙ ap (λ (x : List Recorded). x ++ line_at kind long count S (suc k)) below
          ∙ ap (λ (x : List Recorded). renumbered e (lines_to kind short count n (stayed out k)) ++ x) (line_out kind count k t)
          ∙ append-nil (renumbered e (lines_to kind short count n (stayed out k)))
          ∙ ap (λ (x : ℕ). renumbered e (lines_to kind short count n x)) (sym (stayed_out out k t))
      go (inr i) below =
          line_next kind long count S k
          ∙ ap (λ (x : List Recorded). x ++ line_at kind long count S (suc k)) below
          ∙ ap (λ (x : List Recorded). renumbered e (lines_to kind short count n (stayed out k)) ++ x) (line_in kind count k b i)
          ∙ sym (renumbered_both e (lines_to kind short count n (stayed out k)) (line_at kind short count n (suc (stayed out k))))
          ∙ ap (renumbered e) (sym (line_next kind short count n (stayed out k)))
          ∙ ap (λ (x : ℕ). renumbered e (lines_to kind short count n x)) (sym (stayed_in out k i))
