-- What a queue operation took or answered after k steps, with what it knows by that: Head moved to the item of a taker after its last T1
-- and not after its T5, and one that answers empty had nothing behind Head at its last T1. Assumes nothing.
use mathlib.Core.Path.{◌≡◌, ◌∙◌}
use mathlib.Core.Logic.{◌≢◌}
use Prim.Native.Nat.{ℕ, ◌≤◌}
use native.Mathlib.Omega.{arith}
use Rattle.job.specs.declared.Kind.TheVariants.{Queue}
use Rattle.machine.specs.Notes.{Answer}
use Rattle.machine.specs.Journal.{made, first, start, join, taken, answer}
use Rattle.machine.specs.Effects.{first_move}
use Rattle.machine.specs.Explained.{IsOperation}
use Rattle.machine.proofs.Turns.Locals.{Local}
use Rattle.machine.proofs.Turns.Queue.{On}
use Rattle.machine.proofs.Turns.Queue.On.{at_q1, at_q2, at_q3, at_q4, at_q5, at_t1, at_t2, at_t3, at_t4, at_t5, at_done, at_item, at_empty}
use Rattle.theory.proofs.Course.{Course}
use Rattle.theory.proofs.Deeds.{deeds}
use Rattle.theory.proofs.Life.{operation_some, life, start_from_first}
use Rattle.theory.proofs.Outcomes.{Known, taker_knows, empty_knows, item_known}
use Rattle.theory.proofs.Queue.Listing.{phase}
use Rattle.theory.proofs.Queue.Memory.{Now}
use Rattle.theory.proofs.Queue.Rows.{Served, Knows}
use Rattle.theory.proofs.Queue.Rows.Knows.{in_item, in_empty}
use Rattle.theory.proofs.Queue.Now.{moved, moved_is, now, front}
use Rattle.theory.proofs.Queue.Always.{always}

known_at : {front : ℕ → ℕ} {o start join : ℕ} {v : Now} {l : Local} (x : On l) → Knows front o start join v l → Known (λ n. Served n start join v) (front start ≡ 0) (phase x)
known_at at_q1 p = tt
known_at at_q2 p = tt
known_at at_q3 p = tt
known_at at_q4 p = tt
known_at at_q5 p = tt
known_at at_t1 p = tt
known_at at_t2 p = tt
known_at at_t3 p = tt
known_at at_t4 p = tt
known_at at_t5 p = tt
known_at at_done p = tt
known_at at_item (in_item p) = (p, p.some_item)
known_at at_empty (in_empty p) = p

module _ (c : Course Queue) (k o : ℕ) (op : IsOperation c.count o) where
  -- what is known of its item
  abbrev ServedHere : ℕ → Type 0
  ServedHere n = Served n (start c.log k o) (join c.log k o) (now c k)

  abbrev FrontGone : Type 0
  FrontGone = front c (start c.log k o) ≡ 0

  known : Known ServedHere FrontGone (phase (life c k o op).on)
  known = known_at (life c k o op).on ((always c k).knows o (operation_some op))

  -- who answers empty had nothing behind Head at its last T1
  pub empty_found_none : answer c.log k o ≡ Answer.empty → front c (start c.log k o) ≡ 0
  unfolding deeds
  empty_found_none e = empty_knows ServedHere FrontGone Queue (deeds c.log k o) (phase (life c k o op).on) (life c k o op).did known e

  pub item_is_node : (n : ℕ) → answer c.log k o ≡ Answer.item n → n ≢ 0
  unfolding deeds
  item_is_node n e = item_known ServedHere FrontGone Queue (deeds c.log k o) (phase (life c k o op).on) (life c k o op).did known n e

  -- a taker
  module _ (took : taken c.log k o ≢ 0) where
    taken_result : Served (taken c.log k o) (start c.log k o) (join c.log k o) (now c k) × (start c.log k o ≢ 0)
    unfolding deeds
    taken_result = taker_knows ServedHere FrontGone Queue (deeds c.log k o) (phase (life c k o op).on) (life c k o op).did known took

    moved_first : moved c.log k (taken c.log k o) ≡ first_move c.log k (taken c.log k o)
    moved_first = moved_is c.log k took

    pub moved_from_first : first c.log k o ≤ first_move c.log k (taken c.log k o)
    unfolding made
    moved_from_first =
        let began : start c.log k o ≢ 0 = taken_result.1 in
        let from : first c.log k o ≤ start c.log k o = start_from_first c k o began in
        omega (arith, moved_first, taken_result.0.after_start)

    pub moved_to_join : first_move c.log k (taken c.log k o) ≤ join c.log k o
    moved_to_join = omega (arith, moved_first, taken_result.0.to_join)

    pub item_moved : first_move c.log k (taken c.log k o) ≢ 0
    item_moved z = taken_result.0.has_moved (moved_first ∙ z)
