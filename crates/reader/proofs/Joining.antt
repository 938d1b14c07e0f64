-- The work memory while blocks are taken, one payload behind the other. Assumes nothing.
use mathlib.Core.Path.{◌≡◌, sym, ap, subst, ◌∙◌}
use mathlib.Core.Logic.{◌≢◌}
use Prim.Native.Nat.{ℕ, ◌+◌, ◌-◌, ◌*◌, ◌≤◌, ◌<◌}
use native.Mathlib.Nat.{sub-zero}
use native.Mathlib.Omega.{arith}
use mathlib.Core.List.{List, ◌++◌}
use lib.ListN.{length, take, drop, take-append-drop}
use Rattle.basics.proofs.Laid.{Laid, laid_none, laid_piece, laid_whole}
use Rattle.memory.specs.Over.{over}
use Rattle.memory.proofs.Over.{drop_more}
use Rattle.block.specs.Block.{block_size, payload_size, payload_of, block_refusal}
use Rattle.block.specs.Checked.{number_of, bytes_of}
use Rattle.std.specs.Prelude.{Result, Ok}
use Rattle.block.specs.declared.BlockError.{BlockError}
use Rattle.block.proofs.Accepted.{length_payload}
use Rattle.block.proofs.Given.{refused_bytes}
use Rattle.job.specs.File.{block_at, payloads, blocks_refusal}
use Rattle.job.proofs.Blocks.{length_block_at, payloads_next, payloads_end, refusal_here, refusal_next, refusal_end}

-- of `n` blocks, those below `i` are taken: their payloads are laid, and those that are left decide
pub record Joining (file start m : List ℕ) (n i : ℕ) : Type 0 where
  pub low : i ≤ n
  pub laid : Laid start m (payload_size * i) (payloads file i (n - i)) (payloads file 0 n)
  pub decided : blocks_refusal file i (n - i) ≡ blocks_refusal file 0 n

pub joining_none : (file m : List ℕ) (n : ℕ) → Joining file m m n 0
unfolding payload_size
joining_none file m n =
    record {
      low = omega arith;
      laid = subst (λ (k : ℕ). Laid m m 0 (payloads file 0 k) (payloads file 0 n)) (sym (sub-zero n)) (laid_none m (payloads file 0 n));
      decided = ap (blocks_refusal file 0) (sub-zero n);
    }

-- what the block at `i` leaves under an answer
abbrev pub Taken : List ℕ → List ℕ → ℕ → Result Unit BlockError → List ℕ → Type 0
Taken file m i r m' =
    (number_of r ≡ block_refusal i (block_at file i))
    × (m' ≡ take (payload_size * i) m ++ over (bytes_of r (block_at file i)) (drop (payload_size * i) m))

-- a refused block leaves the memory as it was
pub refused_keeps : (file m m' : List ℕ) (i : ℕ) (r : Result Unit BlockError) → Taken file m i r m' → number_of r ≢ 0 → m' ≡ m
refused_keeps file m m' i r t refused =
    t.1
    ∙ ap (λ (x : List ℕ). take (payload_size * i) m ++ over x (drop (payload_size * i) m)) (refused_bytes r (block_at file i) refused)
    ∙ take-append-drop (payload_size * i) m

module _ {file start m m' : List ℕ} {n i : ℕ} (j : Joining file start m n i) (more : i < n) (r : Result Unit BlockError) (t : Taken file m i r m') where
  pub joining_next : length file ≡ block_size * n → payload_size * n ≤ length m → r ≡ Ok tt → Joining file start m' n (i + 1)
  unfolding payload_size block_size bytes_of
  joining_next whole room e =
      let b : List ℕ = block_at file i in
      let good : block_refusal i b ≡ 0 = sym t.0 ∙ ap number_of e in
      record {
        low = omega arith;
        laid =
            laid_piece payload_size i m' (payload_of b)
            (subst (λ (x : List ℕ). Laid start m (payload_size * i) x (payloads file 0 n)) (payloads_next file more) j.laid)
            (length_payload b (length_block_at file i (omega arith)))
            (omega arith)
            (t.1 ∙ ap (λ (a : Result Unit BlockError). take (payload_size * i) m ++ over (bytes_of a b) (drop (payload_size * i) m)) e);
        decided = refusal_next file more good ∙ j.decided;
      }

  -- a refused block decides
  pub refused_decides : number_of r ≢ 0 → number_of r ≡ blocks_refusal file 0 n
  refused_decides refused = t.0 ∙ refusal_here file more (λ e. refused (t.0 ∙ e)) ∙ j.decided

-- what is behind all payloads is as it was
pub joining_behind : {file start m : List ℕ} {n i : ℕ} → Joining file start m n i → drop (payload_size * n) m ≡ drop (payload_size * n) start
unfolding payload_size
joining_behind {start = start} {m = m} {n = n} {i = i} j = drop_more m start (payload_size * i) (payload_size * n) (omega (arith, j.low)) j.laid.back

-- all blocks are taken
module _ {file start m : List ℕ} {n i : ℕ} (j : Joining file start m n i) (done : n ≤ i) where
  pub all_accepted : 0 ≡ blocks_refusal file 0 n
  all_accepted = refusal_end file done ∙ j.decided

  pub all_joined : payload_size * n ≤ length m → m ≡ over (payloads file 0 n) start
  unfolding payload_size
  all_joined room =
      laid_whole (subst (λ (x : List ℕ). Laid start m (payload_size * i) x (payloads file 0 n)) (payloads_end file done) j.laid) (omega (arith, j.low))
