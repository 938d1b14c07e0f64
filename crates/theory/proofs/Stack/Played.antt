-- The line at every step turns the contents before it into those after it. Assumes nothing.
use mathlib.Core.Path.{◌≡◌, sym, ap, subst, ◌∙◌}
use mathlib.Core.Logic.{◌≢◌, ◌⊎◌, inl, inr}
use Prim.Native.Nat.{ℕ, suc, ◌<◌}
use mathlib.Core.List.{[]}
use native.Mathlib.Omega.{arith}
use Rattle.basics.proofs.Choice.{split}
use Rattle.job.specs.declared.Kind.TheVariants.{Stack}
use Rattle.machine.specs.declared.Event.{Event}
use Rattle.machine.specs.declared.Event.TheVariants.{Round}
use Rattle.machine.specs.Multiplicity.{add}
use Rattle.machine.specs.Notes.{Answer, is_answer}
use Rattle.machine.specs.Journal.{last, answer, start, taken}
use Rattle.machine.specs.Effects.{latest_start, takes_at}
use Rattle.machine.specs.Record.{line_at}
use Rattle.machine.proofs.Effected.{Lineless, taker_in, line_of_none}
use Rattle.theory.proofs.Course.{Course}
use Rattle.theory.proofs.Life.{ends_last, starts_last}
use Rattle.theory.proofs.Lines.{line_of_link, line_of_takers, line_of_empty, line_of_round}
use Rattle.theory.proofs.Laws.{Applies}
use Rattle.theory.proofs.Applies.{applies_none, applies_put, applies_empty, applies_takes}
use Rattle.theory.proofs.Stack.Steps.{Happens, Begins, rests, pushes, pops, raises, begins}
use Rattle.theory.proofs.Stack.Keeps.{happens}
use Rattle.theory.proofs.Stack.Deeds.{empty_read_none}
use Rattle.theory.proofs.Stack.Takers.{TakersLine, takers_line}
use Rattle.theory.proofs.Stack.Contents.{NoLine, contents, contents_none, contents_stay, contents_pushed, contents_popped, contents_taken, line_at_top, line_at_round}

module _ (c : Course Stack) (k s : ℕ) (below : s < k) where
  -- what step s + 1 has to show
  abbrev AppliesHere : Type 0
  AppliesHere = Applies Stack (line_at Stack c.log c.count k (suc s)) (contents c k s) (contents c k (suc s))

  no_line_unless_round : {e : Event} → (c.log (suc s)).event ≡ e → (e ≡ Round → ⊥) → NoLine c k s
  no_line_unless_round h n t some e = n (sym h ∙ line_at_round c k s t some e)

  no_line : Lineless (c.log (suc s)).event → line_at Stack c.log c.count k (suc s) ≡ []
  no_line e = line_of_none Stack c.log c.count k (suc s) (omega arith) e

  -- an R1 that reads none: its operation answers empty by it
  applies_bare : (o : ℕ) → Begins c s o → (c.memory s).top ≡ 0 → AppliesHere
  unfolding answer is_answer
  applies_bare o b z =
      let end : last c.log k o ≡ suc s = ends_last c k s below o b.operation b.by (ap is_answer (b.finds_none z)) in
      let empty_answer : answer c.log k o ≡ Answer.empty = ap (λ i. (c.log i).answer) end ∙ b.finds_none z in
      let round : start c.log k o ≡ suc s = starts_last c k s below o b.operation b.by b.event end in
      applies_empty (line_of_empty c k (suc s) (omega arith) (omega arith) o b.operation b.by empty_answer round) (contents_none c k s z) (contents_none c k (suc s) (ap (λ m. m.top) b.memory_kept ∙ z))

  -- an R1 that is the latest of the last R1 steps of Top's takers: their line stands here
  applies_top : (o : ℕ) → Begins c s o → (c.memory s).top ≢ 0 → latest_start c.log c.count k (c.memory s).top ≡ suc s → AppliesHere
  unfolding takes_at
  applies_top o b some line =
      let t : ℕ = (c.memory s).top in
      let l : TakersLine c k t = takers_line c k t some (λ z. omega arith) in
      let own : l.taker ≡ o = sym l.step.by ∙ ap (λ i. (c.log i).by) line ∙ b.by in
      let takes_it : taken c.log k o ≡ t = ap (taken c.log k) (sym own) ∙ l.takes_it in
      applies_takes (line_of_takers c k (suc s) (omega arith) (omega arith) o b.operation b.by t takes_it some line) (taker_in c.log c.count k o t b.operation takes_it) (contents_taken c k s b.memory_kept some line)

  -- any other R1
  applies_round : (o : ℕ) → Begins c s o → (c.memory s).top ≢ 0 → latest_start c.log c.count k (c.memory s).top ≢ suc s → AppliesHere
  applies_round o b some other =
      applies_none
      (line_of_round c k (suc s) (omega arith) (omega arith) o b.operation b.by b.event (no_empty (split (start c.log k o) (suc s))) (λ by_round. none (taken c.log k o)))
      (contents_stay c k s none (ap (λ m. m.next) b.memory_kept) (ap (λ m. m.top) b.memory_kept))
    where
      none : NoLine c k s
      none t node e = other (ap (latest_start c.log c.count k) (sym (ap (λ m. m.top) b.memory_kept) ∙ line_at_top c k s t node e) ∙ e)

      no_empty : (start c.log k o ≡ suc s) ⊎ (start c.log k o ≢ suc s) → (answer c.log k o ≢ Answer.empty) ⊎ (start c.log k o ≢ suc s)
      no_empty (inl e) = inl (λ a. some (sym (ap (λ i. (c.memory i).top) e ∙ ap (λ m. m.top) b.memory_kept) ∙ empty_read_none c k o b.operation a))
      no_empty (inr n) = inr n

  applies_begin : (o : ℕ) → Begins c s o → AppliesHere
  applies_begin o b = go (split (c.memory s).top 0) (split (latest_start c.log c.count k (c.memory s).top) (suc s))
    where
      go : ((c.memory s).top ≡ 0) ⊎ ((c.memory s).top ≢ 0) → (latest_start c.log c.count k (c.memory s).top ≡ suc s) ⊎ (latest_start c.log c.count k (c.memory s).top ≢ suc s) → AppliesHere
      go (inl z) l = applies_bare o b z
      go (inr n) (inl l) = applies_top o b n l
      go (inr n) (inr l) = applies_round o b n l

  applies_by : Happens c s → AppliesHere
  unfolding add
  applies_by (rests r) =
      let none : NoLine c k s = no_line_unless_round r.event (λ e. (let z : ◌≡◌ {A = ℕ} 0 1 = cc in omega arith)) in
      applies_none (no_line (subst Lineless (sym r.event) Lineless.quiet)) (contents_stay c k s none (ap (λ m. m.next) r.memory_kept) (ap (λ m. m.top) r.memory_kept))
  applies_by (pushes o p) =
      let none : NoLine c k s = no_line_unless_round p.event (λ e. (let z : ◌≡◌ {A = ℕ} 0 1 = cc in omega arith)) in
      applies_put (line_of_link c k (suc s) (omega arith) (omega arith) o p.operation p.by p.event) (contents_pushed c k s o none p)
  applies_by (pops p) =
      let none : NoLine c k s = no_line_unless_round p.event (λ e. (let z : ◌≡◌ {A = ℕ} 0 1 = cc in omega arith)) in
      applies_none (no_line (subst Lineless (sym p.event) Lineless.quiet)) (contents_popped c k s below none p)
  applies_by (raises o t r) =
      let none : NoLine c k s = no_line_unless_round r.event (λ e. (let z : ◌≡◌ {A = ℕ} 0 1 = cc in omega arith)) in
      applies_none (no_line (subst Lineless (sym r.event) Lineless.raised)) (contents_stay c k s none r.next r.top)
  applies_by (begins o b) = applies_begin o b

  pub stack_applies : AppliesHere
  stack_applies = applies_by (happens c s)
