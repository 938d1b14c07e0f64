-- What a write gives and leaves, refused and done. Assumes nothing.
use mathlib.Core.Path.{◌≡◌, sym, ap, ◌∙◌}
use mathlib.Core.Bool.{false}
use Rattle.std.specs.Prelude.{Result, Ok, Err}
use Rattle.std.specs.Result.{IsErrAnd}
use Rattle.basics.specs.Choice.{same}
use Rattle.job.specs.declared.Refusal.{Refusal}
use Rattle.job.specs.Answer.{refusal_number, answer_number, answer_length}
use Rattle.job.proofs.Answered.{refusal_counts}
use Prim.Native.Nat.{ℕ, ◌*◌, ◌≤◌}
use native.Mathlib.Omega.{arith}
use mathlib.Core.List.{List}
use lib.ListN.{length}
use Rattle.basics.proofs.Choice.{pick_then, pick_else, equal_same, unequal_same}
use Rattle.memory.specs.Over.{over}
use Rattle.block.specs.Block.{block_size}
use Rattle.job.specs.declared.Limits.{Limits}
use Rattle.job.specs.Limits.{most_file, Sound}
use Rattle.job.specs.Stream.{stream_length}
use Rattle.job.specs.Refusals.{exact_count}
use Rattle.job.specs.File.{file_of}
use Rattle.job.specs.Calls.{write_number, write_length, write_out}
use Rattle.job.proofs.Accepted.{written_good}
use Rattle.job.proofs.Padded.{fine_small, length_file_of}

-- what a write gives and leaves that is refused
pub record RefusedWrite (l : Limits) (s out : List ℕ) (r : Result ℕ Refusal) : Type 0 where
  pub number : answer_number r ≡ write_number l s out
  pub size : answer_length r ≡ write_length l s out
  pub left : out ≡ write_out l s out

module _ (l : Limits) (s out : List ℕ) where
  -- at the exit of a `?`
  pub refused_written : (r : Result ℕ Refusal) (e : Refusal) → IsErrAnd r (λ x. x ≡ e) → refusal_number e ≡ write_number l s out → RefusedWrite l s out r
  unfolding write_length write_out
  refused_written (Ok n) e h number = absurd h
  refused_written (Err d) e h number =
      let refused : same (write_number l s out) 0 ≡ false = unequal_same (λ z. refusal_counts e (number ∙ z)) in
      record { number = ap refusal_number h ∙ number; size = sym (pick_else _ _ refused); left = sym (pick_else _ _ refused) }

  module _ (done : write_number l s out ≡ 0) where
    pub done_size : length s ≡ stream_length s
    done_size = (written_good l s out done).1.size

    pub done_few : Sound l → exact_count s ≤ l.blocks
    done_few sound = fine_small sound s (written_good l s out done).1.fine

    pub done_room : Sound l → block_size * exact_count s ≤ length out
    unfolding most_file block_size
    done_room sound = omega (arith, done_few sound, (written_good l s out done).0)

    pub done_length : {count : ℕ} → count ≡ exact_count s → block_size * count ≡ write_length l s out
    unfolding write_length
    done_length e = ap (λ (n : ℕ). block_size * n) e ∙ sym (length_file_of s done_size) ∙ sym (pick_then _ _ (equal_same done))

    pub done_out : over (file_of s) out ≡ write_out l s out
    unfolding write_out
    done_out = sym (pick_then _ _ (equal_same done))
