-- What an operation on a two-way linked stack took or answered, with what it knows by that: the first W4 on the item of a taker is after its last W2
-- and not after its own W4, and one that answers empty ended at its last W2. Assumes nothing.
use mathlib.Core.Path.{◌≡◌, refl, sym, ap, subst, ◌∙◌}
use mathlib.Core.Logic.{◌≢◌}
use Prim.Native.Nat.{ℕ, zero, suc, ◌≤◌, ◌<◌}
use native.Mathlib.Omega.{arith}
use Rattle.job.specs.declared.Kind.TheVariants.{TwoWay}
use Rattle.machine.specs.declared.Event.TheVariants.{Moved}
use Rattle.machine.specs.Notes.{Answer}
use Rattle.machine.specs.Journal.{item_of, first, start, join, taken, answer, last}
use Rattle.machine.specs.Effects.{first_move}
use Rattle.machine.specs.Explained.{IsOperation}
use Rattle.machine.proofs.Turns.Locals.{Local}
use Rattle.machine.proofs.Turns.TwoWay.{On}
use Rattle.machine.proofs.Turns.TwoWay.On.{at_v1, at_v2, at_v3, at_v4, at_v5, at_v6, at_v7, at_v8, at_w1, at_w2, at_w3, at_w4, at_w5, at_w6, at_w7, at_w8, at_w9, at_done, at_item, at_empty}
use Rattle.machine.proofs.Stamps.{taken_none, join_le, first_move_least}
use Rattle.theory.proofs.Course.{Course}
use Rattle.theory.proofs.Deeds.{deeds}
use Rattle.theory.proofs.Life.{life, start_from_first}
use Rattle.theory.proofs.Outcomes.{Known, taker_knows, empty_knows, item_known}
use Rattle.theory.proofs.TwoWay.Listing.{phase}
use Rattle.theory.proofs.TwoWay.Rows.{Knows, Before}
use Rattle.theory.proofs.TwoWay.Steps.{Happens, rests, begins, links, cuts, clears}
use Rattle.theory.proofs.TwoWay.Keeps.{keeps, happens}

known_at : {born killed mark : ℕ → ℕ} {start last : ℕ} {l : Local} (x : On l) → Knows born killed mark start last l → Known (λ t. Before start (killed t)) (start ≡ last) (phase x)
known_at at_v1 p = tt
known_at at_v2 p = tt
known_at at_v3 p = tt
known_at at_v4 p = tt
known_at at_v5 p = tt
known_at at_v6 p = tt
known_at at_v7 p = tt
known_at at_v8 p = tt
known_at at_w1 p = tt
known_at at_w2 p = tt
known_at (at_w3 some) p = tt
known_at (at_w4 some) p = tt
known_at (at_w5 some) (Knows.w5 b dead) = (b, some)
known_at (at_w6 some) (Knows.w6 b dead) = (b, some)
known_at (at_w7 some) p = tt
known_at at_w8 p = tt
known_at (at_w9 some) p = tt
known_at at_done p = tt
known_at at_item (Knows.item b some) = (b, some)
known_at at_empty (Knows.empty n e) = e

-- a step for an item is a W4 on it
moved_by : (c : Course TwoWay) (k t : ℕ) → Happens c k → item_of (c.log (suc k)).event ≡ t → t ≢ 0 → (c.log (suc k)).event ≡ Moved t
unfolding item_of
moved_by c k t (rests r) e n = absurd (n (sym e ∙ ap item_of r.event))
moved_by c k t (begins o b) e n = absurd (n (sym e ∙ ap item_of b.event))
moved_by c k t (links o u l) e n = absurd (n (sym e ∙ ap item_of l.event))
moved_by c k t (cuts u x) e n = absurd (n (sym e ∙ ap item_of x.event))
moved_by c k t (clears o u x) e n = x.event ∙ ap Moved (sym (ap item_of x.event) ∙ e)

module _ (c : Course TwoWay) (k o : ℕ) (op : IsOperation c.count o) where
  -- its last W2 is before the first W4 on the item
  abbrev BeforeHere : ℕ → Type 0
  BeforeHere t = Before (start c.log k o) (first_move c.log k t)

  abbrev EndedThere : Type 0
  EndedThere = start c.log k o ≡ last c.log k o

  known : Known BeforeHere EndedThere (phase (life c k o op).on)
  known = known_at (life c k o op).on ((keeps c k).rows o op)

  -- one that answers empty ended at its last W2
  pub empty_at_end : answer c.log k o ≡ Answer.empty → start c.log k o ≡ last c.log k o
  unfolding deeds
  empty_at_end e = empty_knows BeforeHere EndedThere TwoWay (deeds c.log k o) (phase (life c k o op).on) (life c k o op).did known e

  pub item_is_node : (n : ℕ) → answer c.log k o ≡ Answer.item n → n ≢ 0
  unfolding deeds
  item_is_node n e = item_known BeforeHere EndedThere TwoWay (deeds c.log k o) (phase (life c k o op).on) (life c k o op).did known n e

  -- a taker of item t
  module _ (t : ℕ) (took : taken c.log k o ≡ t) (some : t ≢ 0) where
    result : BeforeHere t × (start c.log k o ≢ 0)
    unfolding deeds
    result =
        let w : BeforeHere (taken c.log k o) × (start c.log k o ≢ 0) = taker_knows BeforeHere EndedThere TwoWay (deeds c.log k o) (phase (life c k o op).on) (life c k o op).did known (λ z. some (sym took ∙ z)) in
        (subst BeforeHere took w.0, w.1)

    -- the first W4 on its item is not after its own
    pub killed_to_join : (first_move c.log k t ≢ 0) × (first_move c.log k t ≤ join c.log k o)
    unfolding taken
    killed_to_join = go (join c.log k o) refl
      where
        go : (s : ℕ) → join c.log k o ≡ s → (first_move c.log k t ≢ 0) × (first_move c.log k t ≤ join c.log k o)
        go zero z = absurd (some (sym took ∙ taken_none c.log o c.log_first k z))
        go (suc s) h =
            let moved : (c.log (suc s)).event ≡ Moved t = moved_by c s t (happens c s) (ap (λ s. item_of (c.log s).event) (sym h) ∙ took) some in
            let least : (first_move c.log k t ≢ 0) × (first_move c.log k t ≤ suc s) = first_move_least c.log t k (suc s) moved (omega arith) (omega (arith, join_le c.log k o)) in
            (least.0, omega (arith, least.1))

    -- and after its last W2
    pub after_round : start c.log k o < first_move c.log k t
    after_round = result.0 killed_to_join.0

    pub killed_from_first : first c.log k o ≤ first_move c.log k t
    killed_from_first = omega (arith, start_from_first c k o result.1, after_round)
