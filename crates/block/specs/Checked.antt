-- What the code's answer for a block says. Document 01, "Job files": "A block gives its 506 payload bytes or its refusal, and only
-- payload goes further."
use Rattle.std.specs.Prelude.{ℕ, ◌-◌, List, [], ◌++◌, length, replicate, Result, Ok, Err}
use Rattle.block.specs.Block.{payload_size, payload_of}
use Rattle.block.specs.declared.BlockError.{BlockError}
use Rattle.block.specs.declared.BlockError.TheVariants.{SumDiffers, Misplaced}

-- a refusal's number: "3 | a sum differs", "4 | its number is not its position"
abbrev pub error_number : BlockError → ℕ
error_number SumDiffers = 3
error_number Misplaced = 4

-- an answer's number, 0 for a payload
abbrev pub number_of : {A : Type 0} → Result A BlockError → ℕ
number_of (Ok x) = 0
number_of (Err e) = error_number e

-- the bytes that a block gives under an answer
unfoldable pub bytes_of : {A : Type 0} → Result A BlockError → List ℕ → List ℕ
bytes_of (Ok x) b = payload_of b
bytes_of (Err e) b = []

-- "zeros to the block's end": a payload of the last bytes of a stream
unfoldable pub filled : List ℕ → List ℕ
filled p = p ++ replicate (payload_size - length p) 0
