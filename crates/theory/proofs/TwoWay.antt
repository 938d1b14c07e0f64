-- The two-way linked stack meets the laws, and what is left is found by a walk down from the uppermost node. Assumes nothing.
pub mod Listing
pub mod Tower
pub mod Sound
pub mod Changes
pub mod Rows
pub mod Steps
pub mod Standing
pub mod Keeps
pub mod Results
pub mod Played
use mathlib.Core.Path.{◌≡◌, refl, ap}
use mathlib.Core.Logic.{◌≢◌}
use Prim.Native.Nat.{ℕ, ◌≤◌, ◌<◌}
use mathlib.Core.List.{List, reverse}
use lib.ListN.{length}
use Rattle.basics.specs.Choice.{same}
use Rattle.job.specs.declared.Kind.TheVariants.{TwoWay}
use Rattle.machine.specs.Memory.{Memory, fresh_memory}
use Rattle.machine.specs.Journal.{start, join, taken}
use Rattle.machine.specs.Effects.{sift, takes_at}
use Rattle.machine.specs.Left.{walk, left_in}
use Rattle.machine.specs.Explained.{IsOperation}
use Rattle.theory.proofs.Nodes.{Nodes}
use Rattle.theory.proofs.Course.{Course}
use Rattle.theory.proofs.Lines.{moved_by_taker}
use Rattle.theory.proofs.Laws.{Laws}
use Rattle.theory.proofs.TwoWay.Tower.{top_of, tower_up}
use Rattle.theory.proofs.TwoWay.Sound.{few, left_live, left_none, walk_down}
use Rattle.theory.proofs.TwoWay.Standing.{contents, SoundAt}
use Rattle.theory.proofs.TwoWay.Keeps.{keeps}
use Rattle.theory.proofs.TwoWay.Results.{item_is_node, killed_to_join, after_round, killed_from_first}
use Rattle.theory.proofs.TwoWay.Played.{two_way_applies}

-- "for takers at the first W4 that cleared the flag": the line of t's takers is after the last W2 of every member, not after its own W4, and at the step
-- of a member
pub record FirstClear (c : Course TwoWay) (k t : ℕ) : Type 0 where
  pub after_rounds : (o : ℕ) → IsOperation c.count o → taken c.log k o ≡ t → start c.log k o < takes_at TwoWay c.log c.count k t
  pub to_joins : (o : ℕ) → IsOperation c.count o → taken c.log k o ≡ t → takes_at TwoWay c.log c.count k t ≤ join c.log k o
  pub by_member : taken c.log k (c.log (takes_at TwoWay c.log c.count k t)).by ≡ t

-- what is left, as a list that a walk up from the sentinel finds bottom first and a walk down from the uppermost node finds top first
pub record Left (count : ℕ) (m : Memory) : Type 0 where
  pub list : List ℕ
  pub up : Nodes m.upper (m.upper 0) (reverse list)
  pub down : walk m.next (top_of list) count ≡ list
  pub few : length list ≤ count
  pub left : left_in TwoWay count m ≡ sift (λ i. same (m.mark i) 0) list

module _ (c : Course TwoWay) (k : ℕ) where
  -- an item that an operation took has such a line
  pub line_at_first_clear : (o t : ℕ) → IsOperation c.count o → taken c.log k o ≡ t → t ≢ 0 → FirstClear c k t
  unfolding takes_at
  line_at_first_clear o t op e some =
      record {
        after_rounds = λ q oq f. after_round c k q oq t f some;
        to_joins = λ q oq f. (killed_to_join c k q oq t f some).1;
        by_member = moved_by_taker c k t some (killed_to_join c k o op t e some).0;
      }

  pub two_way_left : Left c.count (c.memory k)
  two_way_left =
      let d : SoundAt c k (keeps c k).list = (keeps c k).sound in
      record { list = (keeps c k).list; up = tower_up d.tower d.uppermost; down = walk_down d; few = few d; left = left_live (c.memory k) d }

  pub two_way_laws : Laws c k
  unfolding takes_at fresh_memory
  two_way_laws =
      record {
        contents = contents c;
        begins = left_none c.count (c.memory 0) (ap (λ m. m.upper 0) c.memory_first);
        applies = two_way_applies c k;
        finishes = refl;
        from_first = λ o op some. killed_from_first c k o op (taken c.log k o) refl some;
        to_join = λ o op some. (killed_to_join c k o op (taken c.log k o) refl some).1;
        some_item = λ o n op e. item_is_node c k o op n e;
        by_taker = λ o op some. moved_by_taker c k (taken c.log k o) some (killed_to_join c k o op (taken c.log k o) refl some).0;
      }
