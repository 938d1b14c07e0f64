-- What a read and a write give and leave, for all arguments. Document 01, "Where a job is turned back": "An accepted call of any
-- kind gives number 0. A refusal gives its number and length 0, in a read or a write too".
use Rattle.std.specs.Prelude.{ℕ, Bool, not, List, [], ◌∷◌, ◌++◌, length, drop}
use Rattle.basics.specs.Choice.{pick, same, less}
use Rattle.job.specs.declared.Limits.{Limits}
use Rattle.job.specs.Limits.{most_file, most_stream}
use Rattle.job.specs.Stream.{stream_length}
use Rattle.job.specs.Refusals.{first_met, header_conditions, list_conditions}
use Rattle.job.specs.File.{file_of, file_refusal, stream_of, zeros_behind}

-- number 1 of a read: "work under 17,710"
unfoldable pub small_work : Limits → List ℕ → Bool
small_work l work = less (length work) (most_stream l)

-- "A read call has the work memory alone and refuses likewise"
unfoldable pub read_number : Limits → List ℕ → List ℕ → ℕ
read_number l file work = pick (small_work l work) 1 (file_refusal l file)

-- "accepted, it gives L"; refused, "length 0"
unfoldable pub read_length : Limits → List ℕ → List ℕ → ℕ
read_length l file work = pick (same (read_number l file work) 0) (length (stream_of file)) 0

-- work memory whose first 17,710 bytes hold some bytes and then zeros; "work bytes past them never change"
unfoldable pub held : Limits → List ℕ → List ℕ → List ℕ
held l s work = zeros_behind l s ++ drop (most_stream l) work

-- "the first 17,710 work bytes hold the stream followed by zeros"; "After number 1 nothing is touched. After […] every other
-- refused read, the first 17,710 work bytes are zero"
unfoldable pub read_work : Limits → List ℕ → List ℕ → List ℕ
read_work l file work =
    pick (small_work l work) work (held l (pick (same (file_refusal l file) 0) (stream_of file) []) work)

-- number 1 of a write: "output under 17,920 bytes"
abbrev pub small_output : Limits → List ℕ → Bool
small_output l out = less (length out) (most_file l)

-- number 2 of a write: "under 6 bytes", the length of a header
abbrev pub no_header : List ℕ → Bool
no_header s = less (length s) 6

-- number 9 of a write: "length not L"
abbrev pub wrong_length : List ℕ → Bool
wrong_length s = not (same (length s) (stream_length s))

-- "The writer takes a stream without padding. It refuses 1 (output under 17,920 bytes), 2 (under 6 bytes), then 5 to 8, 9 (length
-- not L), 10, 11"
unfoldable pub write_number : Limits → List ℕ → List ℕ → ℕ
write_number l s out =
    first_met
    ((1, small_output l out)
    ∷ (2, no_header s)
    ∷ header_conditions l s
    ++ (9, wrong_length s)
    ∷ list_conditions s)

-- "done, it gives the file's length"
unfoldable pub write_length : Limits → List ℕ → List ℕ → ℕ
write_length l s out = pick (same (write_number l s out) 0) (length (file_of s)) 0

-- "refused, output is unchanged; done, it […] leaves the bytes past the file unchanged"
unfoldable pub write_out : Limits → List ℕ → List ℕ → List ℕ
write_out l s out = pick (same (write_number l s out) 0) (file_of s ++ drop (length (file_of s)) out) out
