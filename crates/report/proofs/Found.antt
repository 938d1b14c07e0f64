-- What is found for a step in the row of the operation that made it, and that it is the run's line there. Assumes nothing.
use mathlib.Core.Path.{◌≡◌, refl, sym, ap, subst, ◌∙◌}
use mathlib.Core.Logic.{◌≢◌, ⊎_elim}
use Prim.Native.Nat.{ℕ, zero, suc, ◌≤◌, ◌<◌}
use native.Mathlib.Omega.{arith}
use mathlib.Core.Bool.{Bool}
use Rattle.std.specs.Prelude.{Option, Some, None}
use mathlib.Core.List.{List, [], ◌∷◌, ◌++◌, append_assoc, append-nil}
use Rattle.basics.specs.Choice.{pick, same}
use Rattle.basics.specs.Maps.{at}
use Rattle.basics.proofs.Choice.{pick_then, pick_else, pick_elim, test_elim, equal_same, unequal_same, same_unequal, split}
use Rattle.rows.specs.Operations.{HasOps, Cells, cells, dropped_mark}
use Rattle.rows.specs.declared.OpColumn.TheVariants.{Last, Start, Link, Taken, Stands}
use Rattle.job.specs.declared.Operation.{Operation}
use Rattle.job.specs.Job.{Job}
use Rattle.machine.specs.Multiplicity.{Line}
use Rattle.machine.specs.Multiplicity.Line.{put, takes, empty}
use Rattle.machine.specs.Notes.{note}
use Rattle.machine.specs.Journal
use Rattle.machine.specs.Effects.{Effect, effect, takes_at, takers, numbers}
use Rattle.machine.specs.Effects.Effect.{stands}
use Rattle.machine.specs.Record as Record
use Rattle.machine.specs.Record.{Recorded, if_at, run_line, lines_to, run_lines}
use Rattle.machine.specs.Explained.{IsOperation}
use Rattle.machine.proofs.Lists.{sift_agrees, numbers_out}
use Rattle.machine.proofs.Effected.{effect_of_put}
use Rattle.theory.proofs.Operations.{course}
use Rattle.theory.proofs.Lines.{effect_of_taker, effect_of_empty}
use Rattle.wording.specs.Report.{record_line, record_lines}
use Rattle.text.proofs.Each.{each_to}
use Rattle.journal.specs.Journal.{Agrees, Holds}
use Rattle.lines.specs.declared.Found.{Found}
use Rattle.lines.specs.declared.Found.TheVariants.{Put, Takers, Empty}
use Rattle.lines.specs.Members.{takers_of}
use Rattle.lines.specs.Lines.{member, found_line}
use Rattle.report.specs.Found.{here, found, found_line_if, line_at, found_lines, Within}
use Rattle.report.proofs.Facts.{item_operation, no_effect, ended_empty, maker_operation, idle_line}
use Rattle.report.proofs.Endings.{Ends, ends}
use Rattle.report.proofs.Endings.Ends.{stays_open, was_dropped, has_ended}

-- what stands at its own step, there and elsewhere
pub is_here : {own s : ℕ} (f : Found) → own ≡ s → Some f ≡ here own s f
unfolding here
is_here f e = sym (pick_then (Some f) None (equal_same e))

pub not_here : {own s : ℕ} (f : Found) → own ≢ s → None ≡ here own s f
unfolding here
not_here f e = sym (pick_else (Some f) None (unequal_same e))

-- what is found, by what was read in the row
module _ (c : Cells) (s : ℕ) (o : Operation) where
  pub found_idle : o.0 ≡ 0 → None ≡ found c s o
  unfolding found
  found_idle z = sym (pick_then None _ (equal_same z))

  module _ (acts : o.0 ≢ 0) {link : ℕ} (l : link ≡ c Link o.0) where
    pub found_put : link ≢ 0 → here link s (Put o) ≡ found c s o
    unfolding found
    found_put z =
        ap (λ (n : ℕ). here n s (Put o)) l
        ∙ sym (pick_else None _ (unequal_same acts) ∙ pick_else _ _ (unequal_same (λ y. z (l ∙ y))))

    module _ (z : link ≡ 0) {item : ℕ} (t : item ≡ c Taken o.0) where
      pub found_takers : {stood : ℕ} → item ≢ 0 → stood ≡ c Stands item → here stood s (Takers (record { 0 = item })) ≡ found c s o
      unfolding found
      found_takers some e =
          ap (λ (n : ℕ). here n s (Takers (record { 0 = item }))) e
          ∙ ap (λ (n : ℕ). here (c Stands n) s (Takers (record { 0 = n }))) t
          ∙ sym (pick_else None _ (unequal_same acts) ∙ pick_then _ _ (equal_same (sym l ∙ z)) ∙ pick_else _ _ (unequal_same (λ y. some (t ∙ y))))

      found_bare : item ≡ 0 → pick (same (c Last o.0) 0) None (pick (same (c Last o.0) dropped_mark) None (here (c Start o.0) s (Empty o))) ≡ found c s o
      unfolding found
      found_bare y =
          sym (pick_else None _ (unequal_same acts) ∙ pick_then _ _ (equal_same (sym l ∙ z)) ∙ pick_then _ _ (equal_same (sym t ∙ y)))

      pub found_open : {last : ℕ} → item ≡ 0 → last ≡ c Last o.0 → last ≡ 0 → None ≡ found c s o
      found_open y e x = sym (pick_then None _ (equal_same (sym e ∙ x))) ∙ found_bare y

      module _ {last : ℕ} (y : item ≡ 0) (e : last ≡ c Last o.0) (x : last ≢ 0) where
        found_closed : pick (same (c Last o.0) dropped_mark) None (here (c Start o.0) s (Empty o)) ≡ found c s o
        found_closed = sym (pick_else None _ (unequal_same (λ w. x (e ∙ w)))) ∙ found_bare y

        pub found_dropped : last ≡ dropped_mark → None ≡ found c s o
        found_dropped d = sym (pick_then None _ (equal_same (sym e ∙ d))) ∙ found_closed

        pub found_empty : {start : ℕ} → last ≢ dropped_mark → start ≡ c Start o.0 → here start s (Empty o) ≡ found c s o
        found_empty m f =
            ap (λ (n : ℕ). here n s (Empty o)) f
            ∙ sym (pick_else None _ (unequal_same (λ w. m (e ∙ w))))
            ∙ found_closed

-- who is found, 0 where nobody is
abbrev member_if : Option Found → ℕ
member_if None = 0
member_if (Some f) = member f

-- who is found is within the count
member_within : (c : Cells) (s : ℕ) (o : Operation) (count : ℕ) → o.0 ≤ count → (1 ≤ o.0 → c Taken o.0 ≤ count) → member_if (found c s o) ≤ count
unfolding found here member
member_within c s o count low item =
    pick_elim P (same o.0 0) None _ (λ e. omega arith) (λ acts. let some : o.0 ≢ 0 = same_unequal acts in
    pick_elim P (same (c Link o.0) 0) _ _ (λ e. pick_elim P (same (c Taken o.0) 0) _ _ (λ y. pick_elim P (same (c Last o.0) 0) None _ (λ x. omega arith) (λ x. pick_elim P (same (c Last o.0) dropped_mark) None _ (λ d. omega arith) (λ d. either (c Start o.0) (Empty o) low))) (λ y. either (c Stands (c Taken o.0)) (Takers (record { 0 = c Taken o.0 })) (item (omega (arith, some))))) (λ e. either (c Link o.0) (Put o) low))
  where
    P : Option Found → Type 0
    P f = member_if f ≤ count

    either : (own : ℕ) (f : Found) → member f ≤ count → member_if (here own s f) ≤ count
    either own f m = pick_elim P (same own s) (Some f) None (λ e. m) (λ e. omega arith)

-- the line of what is found is the effect's, if it stands at the step
here_line : (taken : ℕ → ℕ) (count own s : ℕ) (f : Found) (line : Line) → found_line taken count s f ≡ record { step = s; line = line } → found_line_if taken count s (here own s f) ≡ if_at s (stands own line)
unfolding here if_at found_line_if pick
here_line taken count own s f line e =
    test_elim (λ (t : Bool). found_line_if taken count s (pick t (Some f) None) ≡ pick t (record { step = s; line = line } ∷ []) []) (same own s) (λ y. ap (λ r. r ∷ []) e) (λ y. refl)

-- the takers by the rows are the item's takers
takers_held : (j : Job) (k : ℕ) {c : Cells} → Agrees j k c → (item : ℕ) → takers_of (c Taken) j.count item ≡ takers (note j) j.count k item
unfolding takers_of takers
takers_held j k {c} h item =
    sift_agrees (λ o. same (c Taken o) item) (λ o. same (Journal.taken (note j) k o) item) (numbers j.count) (λ x m. ap (λ (n : ℕ). same n item) (h Taken x (record { from_one = (numbers_out j.count m).0; to_count = (numbers_out j.count m).1 })))

module _ (j : Job) (k s : ℕ) {c : Cells} (h : Agrees j k c) (o : Operation) (op : IsOperation j.count o.0) where
  -- the line that the row gives is the effect's
  abbrev Right : Type 0
  Right = found_line_if (c Taken) j.count s (found c s o) ≡ if_at s (effect j.object (note j) j.count k o.0)

  acts : o.0 ≢ 0
  acts z = omega (arith, op.from_one)

  -- by what the row gives, and by the effect
  lines_agree : {f : Option Found} {e : Effect} → f ≡ found c s o → effect j.object (note j) j.count k o.0 ≡ e → found_line_if (c Taken) j.count s f ≡ if_at s e → Right
  lines_agree a b same =
      ap (found_line_if (c Taken) j.count s) (sym a) ∙ same ∙ sym (ap (if_at s) b)

  linked : c Link o.0 ≢ 0 → Right
  unfolding found_line
  linked z =
      lines_agree (found_put c s o acts refl z)
      (effect_of_put j.object (note j) j.count k o.0 (λ y. z (h Link o.0 op ∙ y))
      ∙ ap (λ (n : ℕ). stands n (put o.0)) (sym (h Link o.0 op)))
      (here_line (c Taken) j.count (c Link o.0) s (Put o) (put o.0) refl)

  module _ (l : c Link o.0 ≡ 0) where
    joined : c Taken o.0 ≢ 0 → Right
    unfolding found_line
    joined t =
        let the_item = h Taken o.0 op in
        let is : IsOperation j.count (c Taken o.0) = subst (IsOperation j.count) (sym the_item) (item_operation j k o.0 op (λ z. t (the_item ∙ z))) in
        lines_agree (found_takers c s o acts refl l refl t refl)
        (effect_of_taker (course j) k o.0 op (λ z. t (the_item ∙ z))
        ∙ ap (λ (n : ℕ). stands (takes_at j.object (note j) j.count k n) (takes n (takers (note j) j.count k n))) (sym the_item)
        ∙ ap (λ (n : ℕ). stands n (takes (c Taken o.0) (takers (note j) j.count k (c Taken o.0)))) (sym (h Stands (c Taken o.0) is))
        ∙ ap (λ (x : List ℕ). stands (c Stands (c Taken o.0)) (takes (c Taken o.0) x)) (sym (takers_held j k h (c Taken o.0))))
        (here_line (c Taken) j.count (c Stands (c Taken o.0)) s (Takers (record { 0 = c Taken o.0 })) (takes (c Taken o.0) (takers_of (c Taken) j.count (c Taken o.0))) refl)

    module _ (t : c Taken o.0 ≡ 0) where
      no_link : Journal.link (note j) k o.0 ≡ 0
      no_link = sym (h Link o.0 op) ∙ l

      no_item : Journal.taken (note j) k o.0 ≡ 0
      no_item = sym (h Taken o.0 op) ∙ t

      -- by its ending: one that was dropped is not found empty
      bare : {n : ℕ} → Ends j k o.0 n → c Last o.0 ≡ n → Right
      unfolding found_line found_line_if if_at
      bare (stays_open z d) e = lines_agree (found_open c s o acts refl l refl t refl e) (no_effect j k o.0 no_link no_item z) refl
      bare (was_dropped z d) e =
          lines_agree (found_dropped c s o acts refl l refl t refl (λ y. let never : dropped_mark ≡ 0 = sym e ∙ y in omega arith) e) (no_effect j k o.0 no_link no_item z) refl
      bare (has_ended z m) e =
          lines_agree (found_empty c s o acts refl l refl t refl (λ y. z (sym e ∙ y)) (λ y. m (sym e ∙ y)) refl)
          (effect_of_empty (course j) k o.0 op (ended_empty j k o.0 op no_link no_item z)
          ∙ ap (λ (n : ℕ). stands n (empty o.0)) (sym (h Start o.0 op)))
          (here_line (c Taken) j.count (c Start o.0) s (Empty o) (empty o.0) refl)

  row_right : k < dropped_mark → Right
  row_right short =
      ⊎_elim (λ (l : c Link o.0 ≡ 0). ⊎_elim (λ (t : c Taken o.0 ≡ 0). bare l t (ends j k o.0 short acts) (h Last o.0 op)) (joined l) (split (c Taken o.0) 0)) linked (split (c Link o.0) 0)

-- who made a step, by the list, and the line there
module _ (j : Job) {k : ℕ} {ops by : List ℕ} (h : Holds j k ops by) where
  pub maker_within : (s : ℕ) → 1 ≤ s → s ≤ k → at by s ≤ j.count
  maker_within s low high =
      ⊎_elim (λ (z : (note j s).by ≡ 0). omega (arith, h.by_at s low high)) (λ (some : (note j s).by ≢ 0). omega (arith, h.by_at s low high, (maker_operation j s low some).to_count)) (split (note j s).by 0)

  module _ (short : k < dropped_mark) where
    line_held : (s : ℕ) → 1 ≤ s → s ≤ k → line_at (cells ops) (at by) j.count s ≡ run_line j k s
    unfolding Record.line_at found_line_if
    line_held s low high = ⊎_elim idle acted (split (at by s) 0)
      where
        maker : at by s ≡ (note j s).by
        maker = h.by_at s low high

        idle : at by s ≡ 0 → line_at (cells ops) (at by) j.count s ≡ run_line j k s
        idle z =
            ap (found_line_if (cells ops Taken) j.count s) (sym (found_idle (cells ops) s (record { 0 = at by s }) z))
            ∙ sym (idle_line j k s low high (sym maker ∙ z))

        acted : at by s ≢ 0 → line_at (cells ops) (at by) j.count s ≡ run_line j k s
        acted z =
            let op : IsOperation j.count (at by s) = subst (IsOperation j.count) (sym maker) (maker_operation j s low (λ y. z (maker ∙ y))) in
            row_right j k s h.agrees (record { 0 = at by s }) op short
            ∙ ap (λ (n : ℕ). if_at s (effect j.object (note j) j.count k n)) maker

    -- so the lines found are the run's
    pub lines_held : (n : ℕ) → n ≤ k → found_lines (cells ops) (at by) j.count n ≡ run_lines j k n
    unfolding found_lines lines_to
    lines_held zero high = refl
    lines_held (suc n) high =
        ap (λ (l : List Recorded). l ++ line_at (cells ops) (at by) j.count (suc n)) (lines_held n (omega arith))
        ∙ ap (λ (l : List Recorded). run_lines j k n ++ l) (line_held (suc n) (omega arith) high)

record_lines_append : (a b : List Recorded) → record_lines (a ++ b) ≡ record_lines a ++ record_lines b
unfolding record_lines
record_lines_append [] b = refl
record_lines_append (r ∷ a) b =
    ap (λ (l : List ℕ). record_line r ++ l) (record_lines_append a b) ∙ sym (append_assoc (record_line r) (record_lines a) (record_lines b))

-- the text of the line at a step, if there is one, and the lines step by step
abbrev pub step_text : Cells → (ℕ → ℕ) → ℕ → ℕ → List ℕ
step_text c by count s = record_lines (line_at c by count s)

pub lines_are_each : (c : Cells) (by : ℕ → ℕ) (count n : ℕ) → each_to (step_text c by count) n ≡ record_lines (found_lines c by count n)
unfolding each_to found_lines record_lines
lines_are_each c by count zero = refl
lines_are_each c by count (suc n) =
    ap (λ (l : List ℕ). l ++ step_text c by count (suc n)) (lines_are_each c by count n) ∙ sym (record_lines_append (found_lines c by count n) (line_at c by count (suc n)))

-- the operation that a list names for a step, and what was found in its row
module _ {ops by : List ℕ} {count reach : ℕ} (w : Within ops by count reach) (s : ℕ) where
  pub row_there : 1 ≤ s → s ≤ reach → HasOps (at by s) ops × (1 ≤ at by s → HasOps (cells ops Taken (at by s)) ops)
  row_there low high =
      (omega (arith, w.makers s low high, w.has_ops), λ some. omega (arith, w.has_ops, w.items (at by s) some (w.makers s low high)))

  pub member_found : {f : Found} → 1 ≤ s → s ≤ reach → Some f ≡ found (cells ops) s (record { 0 = at by s }) → member f ≤ count
  unfolding member
  member_found low high e =
      subst (λ (f : Option Found). member_if f ≤ count) (sym e) (member_within (cells ops) s (record { 0 = at by s }) count (w.makers s low high) (λ some. w.items (at by s) some (w.makers s low high)))

  pub line_found : {f : Found} {same : List ℕ} → same ≡ ops → Some f ≡ found (cells ops) s (record { 0 = at by s }) → record_line (found_line (cells same Taken) count s f) ≡ step_text (cells ops) (at by) count s
  unfolding found_line_if record_lines
  line_found {f} is e =
      ap (λ (l : List ℕ). record_line (found_line (cells l Taken) count s f)) is
      ∙ sym (append-nil _)
      ∙ ap (λ (f : Option Found). record_lines (found_line_if (cells ops Taken) count s f)) e

  pub nothing_found : None ≡ found (cells ops) s (record { 0 = at by s }) → step_text (cells ops) (at by) count s ≡ []
  unfolding found_line_if record_lines
  nothing_found e = sym (ap (λ (f : Option Found). record_lines (found_line_if (cells ops Taken) count s f)) e)
