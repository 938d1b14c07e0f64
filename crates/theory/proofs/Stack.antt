-- The stack meets the laws, and where the line of an item's takers stands. Assumes nothing.
pub mod Listing
pub mod Raised
pub mod Rows
pub mod Steps
pub mod Keeps
pub mod Chain
pub mod Deeds
pub mod Takers
pub mod Contents
pub mod Played
use mathlib.Core.Path.{◌≡◌, refl, ap, ◌∙◌}
use mathlib.Core.Logic.{◌≢◌}
use Prim.Native.Nat.{ℕ, ◌≤◌, ◌<◌}
use native.Mathlib.Omega.{arith}
use Rattle.job.specs.declared.Kind.TheVariants.{Stack}
use Rattle.machine.specs.Journal.{first, start, join, taken}
use Rattle.machine.specs.Effects.{takes_at}
use Rattle.machine.specs.Explained.{IsOperation}
use Rattle.theory.proofs.Course.{Course}
use Rattle.theory.proofs.Deeds.{deeds}
use Rattle.theory.proofs.Life.{start_from_first}
use Rattle.theory.proofs.Laws.{Laws}
use Rattle.theory.proofs.Stack.Deeds.{item_is_node, taker_of}
use Rattle.theory.proofs.Stack.Takers.{TakersLine, takers_line, taken_has_line, line_after_rounds, raised_to_join}
use Rattle.theory.proofs.Stack.Contents.{contents, contents_fresh, contents_left}
use Rattle.theory.proofs.Stack.Played.{stack_applies}

-- "The line stands at the latest among the members' last R1 steps, not at R3." It is not before the last R1 of any member, and it is the last R1
-- of a member, before every member's R3.
pub record LatestRound (c : Course Stack) (k t : ℕ) : Type 0 where
  pub after_all : (o : ℕ) → IsOperation c.count o → taken c.log k o ≡ t → start c.log k o ≤ takes_at Stack c.log c.count k t
  pub before_joins : (o : ℕ) → IsOperation c.count o → taken c.log k o ≡ t → takes_at Stack c.log c.count k t < join c.log k o
  pub member : ℕ
  pub operation : IsOperation c.count member
  pub takes_it : taken c.log k member ≡ t
  pub its_round : start c.log k member ≡ takes_at Stack c.log c.count k t
  pub its_step : (c.log (takes_at Stack c.log c.count k t)).by ≡ member

module _ (c : Course Stack) (k : ℕ) where
  -- an item that an operation took has such a line
  pub line_at_latest_round : (o t : ℕ) → IsOperation c.count o → taken c.log k o ≡ t → t ≢ 0 → LatestRound c k t
  unfolding takes_at
  line_at_latest_round o t op e some =
      let line : TakersLine c k t = takers_line c k t some (taken_has_line c k t some o op e) in
      record {
        after_all = λ q oq f. line_after_rounds c k t some q oq f;
        before_joins = λ q oq f. omega (arith, line.before_raised, (raised_to_join c k t some q f).1);
        member = line.taker;
        operation = line.operation;
        takes_it = line.takes_it;
        its_round = line.last_round;
        its_step = line.step.by;
      }

  module _ (o : ℕ) (op : IsOperation c.count o) (some : taken c.log k o ≢ 0) where
    item_line : LatestRound c k (taken c.log k o)
    item_line = line_at_latest_round o (taken c.log k o) op refl some

    has_round : start c.log k o ≢ 0
    unfolding deeds
    has_round = (taker_of c k o op (taken c.log k o) refl some).1

    from_first : first c.log k o ≤ takes_at Stack c.log c.count k (taken c.log k o)
    from_first = omega (arith, start_from_first c k o has_round, item_line.after_all o op refl)

    to_join : takes_at Stack c.log c.count k (taken c.log k o) ≤ join c.log k o
    to_join = omega (arith, item_line.before_joins o op refl)

    by_taker : taken c.log k (c.log (takes_at Stack c.log c.count k (taken c.log k o))).by ≡ taken c.log k o
    by_taker = ap (taken c.log k) item_line.its_step ∙ item_line.takes_it

  pub stack_laws : Laws c k
  stack_laws =
      record {
        contents = contents c k;
        begins = contents_fresh c k;
        applies = λ s below. stack_applies c k s below;
        finishes = contents_left c k;
        from_first = from_first;
        to_join = to_join;
        some_item = λ o n op e. item_is_node c k o op n e;
        by_taker = by_taker;
      }
