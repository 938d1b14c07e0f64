-- The line at every step turns what is left before it into what is left after it. Assumes nothing.
use mathlib.Core.Path.{◌≡◌, sym, ap, subst, ◌∙◌}
use mathlib.Core.Logic.{◌≢◌, ◌⊎◌, inl, inr}
use Prim.Native.Nat.{ℕ, suc, ◌<◌}
use mathlib.Core.Bool.{false}
use mathlib.Core.List.{[]}
use native.Mathlib.Omega.{arith}
use Rattle.basics.proofs.Choice.{split}
use Rattle.job.specs.declared.Kind.TheVariants.{TwoWay}
use Rattle.machine.specs.Multiplicity.{add}
use Rattle.machine.specs.Notes.{Answer, is_answer}
use Rattle.machine.specs.Journal.{item_of, last, answer, start, taken}
use Rattle.machine.specs.Effects.{is_empty, first_move, takes_at}
use Rattle.machine.specs.Record.{line_at}
use Rattle.machine.specs.Left.{left_in}
use Rattle.machine.proofs.Stamps.{first_move_le, first_move_new, first_move_stays}
use Rattle.machine.proofs.Effected.{Lineless, found_empty, taker_in, line_of_none}
use Rattle.theory.proofs.Course.{Course}
use Rattle.theory.proofs.Life.{ends_last, starts_last}
use Rattle.theory.proofs.Lines.{line_of_link, line_of_takers, line_of_taker_elsewhere, line_of_empty, line_of_round, joiner_took}
use Rattle.theory.proofs.Laws.{Applies}
use Rattle.theory.proofs.Applies.{applies_none, applies_put, applies_empty, applies_takes}
use Rattle.theory.proofs.TwoWay.Sound.{left_none}
use Rattle.theory.proofs.TwoWay.Standing.{contents, rests_left, links_left, cuts_left, clears_left, clears_left_again}
use Rattle.theory.proofs.TwoWay.Steps.{Happens, Begins, Clears, rests, begins, links, cuts, clears}
use Rattle.theory.proofs.TwoWay.Keeps.{keeps, happens}
use Rattle.theory.proofs.TwoWay.Results.{empty_at_end}

module _ (c : Course TwoWay) (k s : ℕ) (below : s < k) where
  -- what step s + 1 has to show
  abbrev AppliesHere : Type 0
  AppliesHere = Applies TwoWay (line_at TwoWay c.log c.count k (suc s)) (contents c s) (contents c (suc s))

  no_line : Lineless (c.log (suc s)).event → line_at TwoWay c.log c.count k (suc s) ≡ []
  no_line e = line_of_none TwoWay c.log c.count k (suc s) (omega arith) e

  module _ (o : ℕ) (b : Begins c s o) where
    same_left : contents c (suc s) ≡ contents c s
    same_left = ap (λ m. left_in TwoWay c.count m) b.memory_kept

    -- a W2 that ends its operation: nothing is left
    applies_bare : (c.log (suc s)).answer ≡ Answer.empty → AppliesHere
    unfolding answer is_answer
    applies_bare a =
        let end : last c.log k o ≡ suc s = ends_last c k s below o b.operation b.by (ap is_answer a) in
        let empty_answer : answer c.log k o ≡ Answer.empty = ap (λ i. (c.log i).answer) end ∙ a in
        let round : start c.log k o ≡ suc s = starts_last c k s below o b.operation b.by b.event end in
        let none : contents c s ≡ [] = left_none c.count (c.memory s) (b.finds_none a) in
        applies_empty (line_of_empty c k (suc s) (omega arith) (omega arith) o b.operation b.by empty_answer round) none (same_left ∙ none)

    -- any other W2
    applies_round : (c.log (suc s)).answer ≢ Answer.empty → AppliesHere
    unfolding answer
    applies_round n = applies_none (line_of_round c k (suc s) (omega arith) (omega arith) o b.operation b.by b.event (no_empty (split (start c.log k o) (suc s))) (λ r. let z : ◌≡◌ {A = ℕ} 0 1 = cc in absurd (omega arith))) same_left
      where
        no_empty : (start c.log k o ≡ suc s) ⊎ (start c.log k o ≢ suc s) → (answer c.log k o ≢ Answer.empty) ⊎ (start c.log k o ≢ suc s)
        no_empty (inl e) = inl (λ a. n (ap (λ i. (c.log i).answer) (sym e ∙ empty_at_end c k o b.operation a) ∙ a))
        no_empty (inr d) = inr d

    applies_begin : AppliesHere
    applies_begin = go (found_empty (c.log (suc s)).answer)
      where
        go : ((c.log (suc s)).answer ≡ Answer.empty) ⊎ (((c.log (suc s)).answer ≢ Answer.empty) × (is_empty (c.log (suc s)).answer ≡ false)) → AppliesHere
        go (inl a) = applies_bare a
        go (inr n) = applies_round n.0

  -- a W4: the first on its node, where the line of the node's takers stands, or a later one
  module _ (o t : ℕ) (x : Clears c s o t) where
    took : taken c.log k o ≡ t
    unfolding item_of
    took = (joiner_took c k (suc s) x.operation x.by (ap item_of x.event) x.some_node (omega arith) (omega arith)).1

    applies_first : (c.memory s).mark t ≡ 0 → AppliesHere
    unfolding takes_at
    applies_first live =
        let at_once : first_move c.log (suc s) t ≡ suc s = first_move_new c.log t s x.event (not_yet (split (first_move c.log s t) 0)) in
        let at : first_move c.log k t ≡ suc s = first_move_stays c.log t (suc s) k (omega arith) (λ z. omega arith) ∙ at_once in
        applies_takes (line_of_takers c k (suc s) (omega arith) (omega arith) o x.operation x.by t took x.some_node at) (taker_in c.log c.count k o t x.operation took) (clears_left c s (keeps c s).sound o t x live)
      where
        not_yet : (first_move c.log s t ≡ 0) ⊎ (first_move c.log s t ≢ 0) → first_move c.log s t ≡ 0
        not_yet (inl z) = z
        not_yet (inr n) = absurd ((keeps c s).killed_dead t x.some_node n live)

    applies_again : (c.memory s).mark t ≢ 0 → AppliesHere
    unfolding takes_at
    applies_again dead =
        let before : first_move c.log s t ≢ 0 = (keeps c s).dead_killed t dead in
        let at : first_move c.log k t ≡ first_move c.log s t = first_move_stays c.log t s k (omega arith) before in
        applies_none (line_of_taker_elsewhere c k (suc s) (omega arith) (omega arith) o x.operation x.by t took x.some_node (λ e. omega (arith, first_move_le c.log t s))) (clears_left_again c s (keeps c s).sound o t x dead)

    applies_clear : AppliesHere
    applies_clear = go (split ((c.memory s).mark t) 0)
      where
        go : ((c.memory s).mark t ≡ 0) ⊎ ((c.memory s).mark t ≢ 0) → AppliesHere
        go (inl z) = applies_first z
        go (inr n) = applies_again n

  applies_by : Happens c s → AppliesHere
  unfolding add
  applies_by (rests r) = applies_none (no_line (subst Lineless (sym r.event) Lineless.quiet)) (rests_left c s (keeps c s).sound r)
  applies_by (begins o b) = applies_begin o b
  applies_by (links o t l) = applies_put (line_of_link c k (suc s) (omega arith) (omega arith) o l.operation l.by l.event) (links_left c s (keeps c s).sound o t l)
  applies_by (cuts t x) = applies_none (no_line (subst Lineless (sym x.event) Lineless.quiet)) (cuts_left c s (keeps c s).sound t x)
  applies_by (clears o t x) = applies_clear o t x

  pub two_way_applies : AppliesHere
  two_way_applies = applies_by (happens c s)
