-- Laws of the two sums: one byte more from a list, and the end of the list. Assumes nothing.
use Rattle.std.proofs.Common.{◌≡◌, ℕ, ◌+◌, ◌<◌, ◌≤◌, List, length, get_or, drop, add-one, drop_of_length-le, drop-cons}
use Rattle.block.specs.Block.{add_byte, add_bytes}
use Rattle.block.specs.declared.Sums.{Sums}

pub add_next : (s : Sums) (l : List ℕ) (i : ℕ) → i < length l → add_bytes (add_byte s (get_or l i 0)) (drop (i + 1) l) ≡ add_bytes s (drop i l)
unfolding add_bytes
add_next s l i h = rw (add-one, drop-cons l i 0)

pub add_end : (s : Sums) (l : List ℕ) (i : ℕ) → length l ≤ i → s ≡ add_bytes s (drop i l)
unfolding add_bytes
add_end s l i h = rw (drop_of_length-le l h)
