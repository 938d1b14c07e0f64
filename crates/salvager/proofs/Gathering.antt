-- The work memory while leading blocks are taken, one payload behind the other. Assumes nothing.
use mathlib.Core.Path.{◌≡◌, sym, ap, ◌∙◌}
use mathlib.Core.Logic.{◌≢◌}
use Prim.Native.Nat.{ℕ, zero, suc, ◌+◌, ◌-◌, ◌*◌, ◌≤◌, ◌<◌}
use native.Mathlib.Nat.{sub-zero, zero-add, add-zero}
use native.Mathlib.Numerals.{add-one}
use native.Mathlib.Omega.{arith}
use mathlib.Core.List.{List, [], ◌++◌, append-nil, append_assoc}
use lib.ListN.{length, take, drop}
use lib.Seq.{drop-append-add, drop-drop}
use Rattle.basics.proofs.Laid.{Laid, laid_none, laid_piece, laid_whole}
use Rattle.memory.specs.Over.{over}
use Rattle.block.specs.Block.{block_size, payload_size, payload_of, block_refusal}
use Rattle.block.specs.Checked.{number_of, bytes_of}
use Rattle.std.specs.Prelude.{Result, Ok}
use Rattle.block.specs.declared.BlockError.{BlockError}
use Rattle.block.proofs.Accepted.{length_payload}
use Rattle.job.specs.File.{block_at, payloads}
use Rattle.job.proofs.Blocks.{length_block_at}
use Rattle.reader.proofs.Joining.{Taken, refused_keeps}
use Rattle.remains.specs.Kept.{leading}
use Rattle.remains.proofs.Leading.{leading_next, leading_here, leading_end}

-- one payload more, at the end
payloads_last : (file : List ℕ) (i n : ℕ) → payloads file i (suc n) ≡ payloads file i n ++ payload_of (block_at file (i + n))
unfolding payloads
payloads_last file i zero = append-nil _ ∙ ap (λ (k : ℕ). payload_of (block_at file k)) (sym (add-zero i))
payloads_last file i (suc n) =
    ap (λ (t : List ℕ). payload_of (block_at file i) ++ t) (payloads_last file (suc i) n)
    ∙ sym (append_assoc (payload_of (block_at file i)) (payloads file (suc i) n) (payload_of (block_at file (suc i + n))))
    ∙ ap (λ (k : ℕ). (payload_of (block_at file i) ++ payloads file (suc i) n) ++ payload_of (block_at file k)) (let e : suc i + n ≡ i + suc n = omega arith in e)

-- of `n` blocks, those below `i` are taken, and none of them would be refused
pub record Gathering (file start m : List ℕ) (n i : ℕ) : Type 0 where
  pub low : i ≤ n
  pub laid : Laid start m (payload_size * i) [] (payloads file 0 i)
  pub counted : leading file 0 n ≡ i + leading file i (n - i)

pub gathering_none : (file m : List ℕ) (n : ℕ) → Gathering file m m n 0
unfolding payload_size payloads
gathering_none file m n =
    record {
      low = omega arith;
      laid = laid_none m [];
      counted = ap (leading file 0) (sym (sub-zero n)) ∙ sym (zero-add _);
    }

module _ {file start m m' : List ℕ} {n i : ℕ} (g : Gathering file start m n i) (more : i < n) (r : Result Unit BlockError) (t : Taken file m i r m') where
  pub gathering_next : block_size * n ≤ length file → payload_size * n ≤ length m → r ≡ Ok tt → Gathering file start m' n (i + 1)
  unfolding payload_size block_size bytes_of
  gathering_next full room e =
      let b : List ℕ = block_at file i in
      let good : block_refusal i b ≡ 0 = sym t.0 ∙ ap number_of e in
      let rest = leading file (i + 1) (n - (i + 1)) in
      let longer : take (payload_size * i) m ++ (payload_of b ++ []) ≡ payloads file 0 (i + 1) =
      ap (λ (x : List ℕ). take (payload_size * i) m ++ x) (append-nil (payload_of b))
      ∙ ap (λ (x : List ℕ). x ++ payload_of b) (sym (append-nil (take (payload_size * i) m)) ∙ g.laid.front)
      ∙ ap (λ (k : ℕ). payloads file 0 i ++ payload_of (block_at file k)) (sym (zero-add i))
      ∙ sym (payloads_last file 0 i)
      ∙ ap (payloads file 0) (sym (add-one i))
      in
      record {
        low = omega arith;
        laid =
            laid_piece payload_size i m' (payload_of b)
            (record { front = longer; back = g.laid.back; size = g.laid.size })
            (length_payload b (length_block_at file i (omega arith)))
            (omega arith)
            (t.1 ∙ ap (λ (a : Result Unit BlockError). take (payload_size * i) m ++ over (bytes_of a b) (drop (payload_size * i) m)) e);
        counted = g.counted ∙ ap (λ (k : ℕ). i + k) (leading_next file more good) ∙ (let q : i + suc rest ≡ i + 1 + rest = omega arith in q);
      }

  -- a block that would be refused ends it
  pub refused_ends : number_of r ≢ 0 → i ≡ leading file 0 n
  refused_ends refused = let none : leading file i (n - i) ≡ 0 = leading_here file more (λ e. refused (t.0 ∙ e)) in omega (arith, g.counted)

  pub refused_left : number_of r ≢ 0 → payload_size * n ≤ length m → m' ≡ over (payloads file 0 i) start
  unfolding payload_size
  refused_left refused room = refused_keeps file m m' i r t refused ∙ laid_whole g.laid (omega arith)

-- all blocks are taken
module _ {file start m : List ℕ} {n i : ℕ} (g : Gathering file start m n i) (done : n ≤ i) where
  pub all_counted : i ≡ leading file 0 n
  all_counted = let none : leading file i (n - i) ≡ 0 = leading_end file done in omega (arith, g.counted)

  pub all_left : payload_size * n ≤ length m → m ≡ over (payloads file 0 i) start
  unfolding payload_size
  all_left room = laid_whole g.laid (omega (arith, g.low))

-- what stands behind a part of the memory is not changed with it
pub behind_part : (part m : List ℕ) (a b : ℕ) → length part ≡ a → a ≤ b → drop b (part ++ drop a m) ≡ drop b m
behind_part part m a b size low =
    ap (λ (k : ℕ). drop k (part ++ drop a m)) (let e : b ≡ length part + (b - a) = omega arith in e)
    ∙ drop-append-add part (drop a m) (b - a)
    ∙ drop-drop (b - a) a m
    ∙ ap (λ (k : ℕ). drop k m) (let e : a + (b - a) ≡ b = omega arith in e)
