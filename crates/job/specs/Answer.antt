-- What a call answers: its value, or the refusal that turned it back. Document 01, "Where a job is turned back": "An accepted call of any
-- kind gives number 0. A refusal gives its number and length 0". "Where an answer is an enum, a definition states this paper's number and
-- values for each of its cases".
use Rattle.std.specs.Prelude.{ℕ, Result, Ok, Err}
use Rattle.job.specs.declared.Refusal.{Refusal}
use Rattle.job.specs.declared.Refusal.TheVariants.{ShortMemory, BadLength, SumDiffers, Misplaced, UnknownKind, BadProcesses, BadOperations, BadSteps, BadCount, BadRecord, BadEntry, BadPadding, BadWindows, NotWhole}

-- the number of each refusal: 1 to 12 of document 01's table, 13 and 14 of document 02
abbrev pub refusal_number : Refusal → ℕ
refusal_number ShortMemory = 1
refusal_number BadLength = 2
refusal_number SumDiffers = 3
refusal_number Misplaced = 4
refusal_number UnknownKind = 5
refusal_number BadProcesses = 6
refusal_number BadOperations = 7
refusal_number BadSteps = 8
refusal_number BadCount = 9
refusal_number BadRecord = 10
refusal_number BadEntry = 11
refusal_number BadPadding = 12
refusal_number BadWindows = 13
refusal_number NotWhole = 14

-- an answer's number: "An accepted call of any kind gives number 0."
abbrev pub answer_number : {A : Type 0} → Result A Refusal → ℕ
answer_number (Ok x) = 0
answer_number (Err e) = refusal_number e

-- an answer's length: "A refusal gives its number and length 0"
abbrev pub answer_length : Result ℕ Refusal → ℕ
answer_length (Ok n) = n
answer_length (Err e) = 0
