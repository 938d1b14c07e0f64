-- The record by its steps: a line is in it exactly if it is the effect, at its step, of the operation that made the step; and the steps
-- ascend. Assumes nothing.
use mathlib.Core.Path.{◌≡◌, refl, sym, ap, subst, ◌∙◌}
use mathlib.Core.Logic.{◌≢◌, ◌⊎◌, inl, inr}
use Prim.Native.Nat.{ℕ, zero, suc, ◌≤◌, ◌<◌}
use mathlib.Core.List.{List, [], ◌∷◌, ◌++◌, append-nil, Memᴰ}
use native.Mathlib.Omega.{arith}
use Rattle.basics.proofs.Choice.{split}
use Rattle.job.specs.declared.Kind.{Kind}
use Rattle.job.specs.Job.{Job}
use Rattle.machine.specs.Multiplicity.{Line}
use Rattle.machine.specs.Notes.{Note, note}
use Rattle.machine.specs.Effects.{Effect, effect}
use Rattle.machine.specs.Effects.Effect.{none, stands}
use Rattle.machine.specs.Record.{Recorded, line_at, lines_to, the_record}
use Rattle.machine.specs.Explained.{Ascending}
use Rattle.machine.proofs.Effected.{line_of_effect, line_without_effect}

-- the line at a step: none, or the effect there of the operation that made the step
pub data AtStep (kind : Kind) (log : ℕ → Note) (count k s : ℕ) : Type 0 where
  no_line : ((line : Line) → effect kind log count k (log s).by ≡ stands s line → ⊥) → line_at kind log count k s ≡ [] → AtStep kind log count k s
  a_line : (line : Line) → effect kind log count k (log s).by ≡ stands s line → line_at kind log count k s ≡ record { step = s; line = line } ∷ [] → AtStep kind log count k s

pub at_step : (kind : Kind) (log : ℕ → Note) (count k s : ℕ) → AtStep kind log count k s
at_step kind log count k s = go (effect kind log count k (log s).by) refl
  where
    none_here : ((line : Line) → effect kind log count k (log s).by ≡ stands s line → ⊥) → AtStep kind log count k s
    none_here no_effect = no_line no_effect (line_without_effect kind log count k s no_effect)

    go : (e : Effect) → effect kind log count k (log s).by ≡ e → AtStep kind log count k s
    go none h = none_here (λ line e. let z : ◌≡◌ {A = ℕ} 0 1 = cc in omega arith)
    go (stands at line) h = at_or_not (split at s)
      where
        at_or_not : (at ≡ s) ⊎ (at ≢ s) → AtStep kind log count k s
        at_or_not (inl p) = let e : effect kind log count k (log s).by ≡ stands s line = h ∙ ap (λ a. stands a line) p in a_line line e (line_of_effect kind log count k s line e)
        at_or_not (inr n) = none_here (λ other e. n (cc))

-- a recorded line, and whose effect it is
pub record Placed (kind : Kind) (log : ℕ → Note) (count k n : ℕ) (r : Recorded) : Type 0 where
  pub from_one : 1 ≤ r.step
  pub to_end : r.step ≤ n
  pub of_maker : effect kind log count k (log r.step).by ≡ stands r.step r.line

module _ (kind : Kind) (log : ℕ → Note) (count k : ℕ) where
  -- what stands in the lines at steps 1 to n
  placed_in : (n : ℕ) (r : Recorded) → Memᴰ r (lines_to kind log count k n) → Placed kind log count k n r
  unfolding lines_to
  placed_in zero r m = absurd (mathlib.Core.List.Memᴰ.not-nil m)
  placed_in (suc n) r m =
      let below : Memᴰ r (lines_to kind log count k n) → Placed kind log count k n r = λ h. placed_in n r h in
      go below (at_step kind log count k (suc n)) (mathlib.Core.List.Memᴰ.append_cases (lines_to kind log count k n) m)
    where
      go : (Memᴰ r (lines_to kind log count k n) → Placed kind log count k n r) → AtStep kind log count k (suc n) → Memᴰ r (lines_to kind log count k n) ⊎ Memᴰ r (line_at kind log count k (suc n)) → Placed kind log count k (suc n) r
      go below a (inl h) = let b : Placed kind log count k n r = below h in record { from_one = b.from_one; to_end = omega arith; of_maker = b.of_maker }
      go below (no_line n e) (inr h) = absurd (mathlib.Core.List.Memᴰ.not-nil (subst (Memᴰ r) e h))
      go below (a_line line f e) (inr h) =
          let is : r ≡ record { step = suc n; line = line } = mathlib.Core.List.Memᴰ.eq_of_singleton (subst (Memᴰ r) e h) in
          subst (Placed kind log count k (suc n)) (sym is) (record { from_one = omega arith; to_end = omega arith; of_maker = f })

  in_placed : (n s : ℕ) (line : Line) → 1 ≤ s → s ≤ n → effect kind log count k (log s).by ≡ stands s line → Memᴰ (record { step = s; line = line }) (lines_to kind log count k n)
  unfolding lines_to
  in_placed zero s line low high e = absurd (omega arith)
  in_placed (suc n) s line low high e =
      let below : s ≤ n → Memᴰ (record { step = s; line = line }) (lines_to kind log count k n) = λ h. in_placed n s line low h e in
      go below (split s (suc n))
    where
      go : (s ≤ n → Memᴰ (record { step = s; line = line }) (lines_to kind log count k n)) → (s ≡ suc n) ⊎ (s ≢ suc n) → Memᴰ (record { step = s; line = line }) (lines_to kind log count k n ++ line_at kind log count k (suc n))
      go below (inl p) =
          let here : line_at kind log count k (suc n) ≡ record { step = s; line = line } ∷ [] = subst (λ t. line_at kind log count k t ≡ record { step = s; line = line } ∷ []) p (line_of_effect kind log count k s line e) in
          mathlib.Core.List.Memᴰ.append_right (lines_to kind log count k n) (subst (Memᴰ (record { step = s; line = line })) (sym here) (mathlib.Core.List.Memᴰ.head refl))
      go below (inr d) = mathlib.Core.List.Memᴰ.append_left (line_at kind log count k (suc n)) (below (omega arith))

-- one more line at a later step keeps a record ascending
ascending_more : (l : List Recorded) (x : Recorded) → Ascending l → ((r : Recorded) → Memᴰ r l → r.step < x.step) → Ascending (l ++ (x ∷ []))
ascending_more [] x a h = Ascending.one
ascending_more (r ∷ []) x a h = Ascending.more (h r (mathlib.Core.List.Memᴰ.head refl)) Ascending.one
ascending_more (r ∷ s ∷ l) x (Ascending.more lt a) h = Ascending.more lt (ascending_more (s ∷ l) x a (λ q m. h q (mathlib.Core.List.Memᴰ.tail m)))

pub ascends_to : (kind : Kind) (log : ℕ → Note) (count k n : ℕ) → Ascending (lines_to kind log count k n)
unfolding lines_to
ascends_to kind log count k zero = Ascending.none
ascends_to kind log count k (suc n) = go (ascends_to kind log count k n) (at_step kind log count k (suc n))
  where
    go : Ascending (lines_to kind log count k n) → AtStep kind log count k (suc n) → Ascending (lines_to kind log count k n ++ line_at kind log count k (suc n))
    go a (no_line h e) = subst (λ l. Ascending (lines_to kind log count k n ++ l)) (sym e) (subst Ascending (sym (append-nil (lines_to kind log count k n))) a)
    go a (a_line line h e) = subst (λ l. Ascending (lines_to kind log count k n ++ l)) (sym e) (ascending_more (lines_to kind log count k n) (record { step = suc n; line = line }) a (λ r m. let p : Placed kind log count k n r = placed_in kind log count k n r m in omega arith))

-- the record of a job's run
module _ (j : Job) (k : ℕ) where
  pub placed : (r : Recorded) → Memᴰ r (the_record j k) → Placed j.object (note j) j.count k k r
  unfolding the_record
  placed r m = placed_in j.object (note j) j.count k k r m

  pub recorded : (s : ℕ) (line : Line) → 1 ≤ s → s ≤ k → effect j.object (note j) j.count k (note j s).by ≡ stands s line → Memᴰ (record { step = s; line = line }) (the_record j k)
  unfolding the_record
  recorded s line low high e = in_placed j.object (note j) j.count k k s line low high e
