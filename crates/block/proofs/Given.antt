-- What an answer tells: a payload's number is 0, a refusal's is not, and a refusal gives no bytes. Assumes nothing.
use Rattle.std.proofs.Common.{◌≡◌, ℕ, ◌≤◌, ◌≢◌, List, [], length, refl, arith, Result, Ok, Err}
use Rattle.block.specs.Block.{block_size, payload_size}
use Rattle.block.specs.Checked.{error_number, number_of, bytes_of}
use Rattle.block.specs.declared.BlockError.{BlockError}
use Rattle.block.specs.declared.BlockError.TheVariants.{SumDiffers, Misplaced}
use Rattle.block.proofs.Accepted.{length_payload}

pub error_counts : (e : BlockError) → error_number e ≢ 0
error_counts SumDiffers z = omega arith
error_counts Misplaced z = omega arith

pub refused_bytes : {A : Type 0} (r : Result A BlockError) (b : List ℕ) → number_of r ≢ 0 → bytes_of r b ≡ []
unfolding bytes_of
refused_bytes (Ok x) b h = absurd (h refl)
refused_bytes (Err e) b h = refl

pub length_given : {A : Type 0} (r : Result A BlockError) (b : List ℕ) → length b ≡ block_size → length (bytes_of r b) ≤ payload_size
unfolding bytes_of
length_given (Ok x) b size = omega (arith, length_payload b size)
length_given (Err e) b size = omega arith
