-- The fields of a stream. Document 01, "Job files": "Stream: byte 0 kind (1 queue, 2 stack); byte 1 processes P, 1 to 8; bytes 2
-- to 3 operations N, 1 to 256; bytes 4 to 5 schedule length S, 0 to 16,384; N records of 4 bytes, operation 1 first and so on in
-- order: process 0 to P − 1, action (1 put, 2 take), value in mm in 2 bytes (0 for a take); S bytes, each a process".
-- Operations and steps count from 1, processes from 0.
use Rattle.std.specs.Prelude.{ℕ, ◌+◌, ◌*◌, ◌≤◌, ◌<◌, List, length, Option, Some, None}
use Rattle.basics.specs.Choice.{pick, same}
use Rattle.basics.specs.Maps.{at}
use Rattle.basics.specs.Words.{word}
use Rattle.job.specs.declared.Action.{Action}
use Rattle.job.specs.declared.Action.TheVariants.{Put, Take}

-- "byte 0 kind"
unfoldable pub kind : List ℕ → ℕ
kind s = at s 0

-- "byte 1 processes P"
unfoldable pub processes : List ℕ → ℕ
processes s = at s 1

-- "bytes 2 to 3 operations N"
unfoldable pub operations : List ℕ → ℕ
operations s = word s 2

-- "bytes 4 to 5 schedule length S"
unfoldable pub schedule_length : List ℕ → ℕ
schedule_length s = word s 4

-- where the record of operation `o` stands: six bytes of header, then "N records of 4 bytes, operation 1 first"
unfoldable pub record_at : ℕ → ℕ
record_at o = 2 + 4 * o

-- "process 0 to P − 1"
unfoldable pub process : List ℕ → ℕ → ℕ
process s o = at s (record_at o)

-- "action (1 put, 2 take)"
unfoldable pub action : List ℕ → ℕ → ℕ
action s o = at s (record_at o + 1)

-- "1 put, 2 take": what an operation does
unfoldable pub action_of : ℕ → Option Action
action_of n = pick (same n 1) (Some Put) (pick (same n 2) (Some Take) None)

-- "value in mm in 2 bytes"
unfoldable pub value : List ℕ → ℕ → ℕ
value s o = word s (record_at o + 2)

-- "S bytes, each a process": the entry of step `k`
unfoldable pub scheduled : List ℕ → ℕ → ℕ
scheduled s k = at s (5 + 4 * operations s + k)

-- "Length is L = 6 + 4 × N + S"
unfoldable pub stream_length : List ℕ → ℕ
stream_length s = 6 + 4 * operations s + schedule_length s

-- operation `o` has a record, and its four bytes are there
pub record HasRecord (s : List ℕ) (o : ℕ) : Type 0 where
  pub one : o ≤ operations s
  pub there : record_at o + 3 < length s
