-- The queue meets the laws. Assumes nothing.
pub mod Listing
pub mod Order
pub mod Memory
pub mod Keeps
pub mod Grows
pub mod Rows
pub mod Steps
pub mod Contents
pub mod Now
pub mod Always
pub mod Results
pub mod Applies
use mathlib.Core.Path.{◌≡◌, refl, ap}
use Prim.Native.Nat.{ℕ}
use Rattle.job.specs.declared.Kind.TheVariants.{Queue}
use Rattle.machine.specs.Memory.{fresh_memory}
use Rattle.machine.specs.Journal.{taken}
use Rattle.machine.specs.Effects.{takes_at}
use Rattle.theory.proofs.Course.{Course}
use Rattle.theory.proofs.Lines.{moved_by_taker}
use Rattle.theory.proofs.Laws.{Laws}
use Rattle.theory.proofs.Queue.Now.{front}
use Rattle.theory.proofs.Queue.Results.{item_is_node, moved_from_first, moved_to_join, item_moved}
use Rattle.theory.proofs.Queue.Applies.{contents, contents_none, step_applies}

fresh_front : (c : Course Queue) → front c 0 ≡ 0
unfolding front fresh_memory
fresh_front c = ap (λ m. m.next m.head) c.memory_first

-- the line of an item's takers stands where Head moved to it first
pub queue_laws : (c : Course Queue) (k : ℕ) → Laws c k
unfolding takes_at
queue_laws c k =
    record {
      contents = contents c;
      begins = contents_none c 0 (fresh_front c);
      applies = step_applies c k;
      finishes = refl;
      from_first = moved_from_first c k;
      to_join = moved_to_join c k;
      some_item = λ o n op. item_is_node c k o op n;
      by_taker = λ o op took. moved_by_taker c k (taken c.log k o) took (item_moved c k o op took);
    }
