-- What an answer tells: a refusal's number is not 0, so a call that gives 0 is accepted. Assumes nothing.
use Rattle.std.proofs.Common.{◌≡◌, ℕ, ◌≢◌, refl, ap, arith, Result, Ok, Err}
use Rattle.std.specs.Result.{IsErrAnd}
use Rattle.block.specs.Checked.{error_number}
use Rattle.block.specs.declared.BlockError.{BlockError}
use Rattle.job.specs.declared.Refusal.{Refusal}
use Rattle.job.specs.declared.Refusal.TheVariants.{ShortMemory, BadLength, SumDiffers, Misplaced, UnknownKind, BadProcesses, BadOperations, BadSteps, BadCount, BadRecord, BadEntry, BadPadding, BadWindows, NotWhole}
use Rattle.job.specs.Answer.{refusal_number, answer_number, answer_length}

pub refusal_counts : (e : Refusal) → refusal_number e ≢ 0
refusal_counts ShortMemory z = omega arith
refusal_counts BadLength z = omega arith
refusal_counts SumDiffers z = omega arith
refusal_counts Misplaced z = omega arith
refusal_counts UnknownKind z = omega arith
refusal_counts BadProcesses z = omega arith
refusal_counts BadOperations z = omega arith
refusal_counts BadSteps z = omega arith
refusal_counts BadCount z = omega arith
refusal_counts BadRecord z = omega arith
refusal_counts BadEntry z = omega arith
refusal_counts BadPadding z = omega arith
refusal_counts BadWindows z = omega arith
refusal_counts NotWhole z = omega arith

-- what the exit of a `?` gives: a refusal as it came, or the one that has a block's number
pub passed_on : {A : Type 0} (r : Result A Refusal) (e : Refusal) → IsErrAnd r (λ x. x ≡ e) → answer_number r ≡ refusal_number e
passed_on (Ok x) e h = absurd h
passed_on (Err d) e h = ap refusal_number h

pub block_passed_on : {A : Type 0} (r : Result A Refusal) (e : BlockError) → IsErrAnd r (λ x. refusal_number x ≡ error_number e) → answer_number r ≡ error_number e
block_passed_on (Ok x) e h = absurd h
block_passed_on (Err d) e h = h

pub none_passed_on : (r : Result ℕ Refusal) (e : Refusal) → IsErrAnd r (λ x. x ≡ e) → answer_length r ≡ 0
none_passed_on (Ok n) e h = absurd h
none_passed_on (Err d) e h = refl
