-- The length that a call gives is below 2^32, so it fits its half of the packed answer, for any limits whose report is. Assumes nothing.
use mathlib.Core.Path.{◌≡◌, sym, ◌∙◌}
use mathlib.Core.Logic.{◌⊎◌, inl, inr}
use Prim.Native.Nat.{ℕ, ◌*◌, ◌^◌, ◌<◌}
use native.Mathlib.Omega.{arith}
use mathlib.Core.Bool.{Bool, true, false}
use mathlib.Core.List.{List}
use lib.ListN.{length}
use Rattle.basics.specs.Choice.{pick, same}
use Rattle.basics.specs.Bytes.{Bytes}
use Rattle.basics.proofs.Choice.{both, pick_else, pick_elim, same_equal}
use Rattle.block.specs.Block.{block_size, payload_size}
use Rattle.job.specs.declared.Limits.{Limits}
use Rattle.job.specs.Limits.{most_stream, Sound}
use Rattle.job.specs.Refusals.{exact_count}
use Rattle.job.specs.File.{stream_of, file_of, file_refusal}
use Rattle.job.specs.Calls.{small_work, read_number, read_length, write_number, write_length}
use Rattle.job.proofs.Accepted.{GoodStream, accepted_good, written_good}
use Rattle.job.proofs.Padded.{fine_small, length_file_of}
use Rattle.job.proofs.View.{stream_fits}
use Rattle.remains.specs.Kept.{kept, shortened}
use Rattle.remains.specs.Salvage.{salvage_refusal, salvaged, small_room, salvage_number, counted, salvage_length}
use Rattle.remains.proofs.Proper.{remains, shortened_good}
use Rattle.wording.specs.Report.{report}
use Rattle.replayer.specs.Replay.{small_memory, input_refusal, job_run, report_of, replay_number, replay_length}
use Rattle.replayer.proofs.Short.{report_short}

-- a number that is 1 under a test is 0 only where the test fails
unless_one : (b : Bool) (n : ℕ) → pick b 1 n ≡ 0 → n ≡ 0
unfolding pick
unless_one true n e = absurd (let b : ⊥ = omega arith in b)
unless_one false n e = e

-- a file whose number is passed over is accepted
file_accepted : (l : Limits) (file windows : List ℕ) → input_refusal l file windows ≡ 0 → file_refusal l file ≡ 0
unfolding input_refusal
file_accepted l file windows e = go (both (same (file_refusal l file) 0))
  where
    go : (same (file_refusal l file) 0 ≡ true) ⊎ (same (file_refusal l file) 0 ≡ false) → file_refusal l file ≡ 0
    go (inl t) = same_equal t
    go (inr f) = sym (pick_else _ _ f) ∙ e

module _ {l : Limits} (sound : Sound l) where
  pub read_small : (file work : List ℕ) → read_length l file work < 2 ^ 32
  unfolding read_length read_number most_stream payload_size
  read_small file work =
      pick_elim (λ x. x < 2 ^ 32) (same (read_number l file work) 0) (length (stream_of file)) 0
      (λ e. omega (arith, sound.blocks_fit, stream_fits file (accepted_good l file (unless_one (small_work l work) (file_refusal l file) (same_equal e)))))
      (λ e. omega arith)

  file_small : (s : List ℕ) → GoodStream l s → length (file_of s) < 2 ^ 32
  unfolding block_size
  file_small s good =
      let size : length (file_of s) ≡ block_size * exact_count s = length_file_of s good.size in
      omega (arith, fine_small sound s good.fine, sound.blocks_fit)

  pub write_small : (s out : List ℕ) → write_length l s out < 2 ^ 32
  unfolding write_length
  write_small s out =
      pick_elim (λ x. x < 2 ^ 32) (same (write_number l s out) 0) (length (file_of s)) 0
      (λ e. file_small s (written_good l s out (same_equal e)).1)
      (λ e. omega arith)

  pub salvage_small : (file work out : List ℕ) → salvage_length l file work out < 2 ^ 32
  unfolding salvage_length counted salvage_number salvaged
  salvage_small file work out =
      pick_elim (λ x. x < 2 ^ 32) (same (salvage_number l file work out) 0) (length (salvaged file)) 0
      (λ e. file_small (shortened (kept file)) (shortened_good sound (kept file) (remains sound file (unless_one (small_room l work out) (salvage_refusal l file) (same_equal e)))))
      (λ e. omega arith)

  pub replay_small : (file windows work out : List ℕ) → l.report < 2 ^ 32 → Bytes file → replay_length l file windows work out < 2 ^ 32
  unfolding replay_length replay_number report_of
  replay_small file windows work out few b =
      pick_elim (λ x. x < 2 ^ 32) (same (replay_number l file windows work out) 0) (length (report (job_run file windows))) 0
      (λ e. omega (arith, report_short sound file windows (file_accepted l file windows (unless_one (small_memory l work out) (input_refusal l file windows) (same_equal e))) b))
      (λ e. omega arith)
