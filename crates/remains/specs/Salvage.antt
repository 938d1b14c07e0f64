-- A salvage: its number, its length, the entries that it counts, and the lent memories afterwards, for all arguments. Document 02, request 7: "New: 14,
-- header or records not whole, the header part before 5, the records part before 10. Work under 17,710 or output under 17,920 bytes is 1, first, and
-- touches nothing; after any other call work is as after a replay, and output is unchanged past the file, or wholly if refused."
use Rattle.std.specs.Prelude.{ℕ, Bool, ◌||◌, List, [], ◌∷◌, ◌++◌, length, drop}
use Rattle.basics.specs.Choice.{pick, same, less}
use Rattle.job.specs.declared.Limits.{Limits}
use Rattle.job.specs.Stream.{schedule_length}
use Rattle.job.specs.Refusals.{first_met, header_conditions, list_conditions}
use Rattle.job.specs.File.{file_of}
use Rattle.job.specs.Calls.{small_work, small_output, no_header, held}
use Rattle.remains.specs.Kept.{kept, records_end, entries_kept, shortened}

-- number 14 of the records: they are not all there
unfoldable pub cut_records : List ℕ → Bool
cut_records s = less (length s) (records_end s)

-- "the header part before 5, the records part before 10"; "Numbers 5 to 8, 10 and 11 apply to what is kept"
unfoldable pub kept_conditions : Limits → List ℕ → List (ℕ × Bool)
kept_conditions l s = (14, no_header s) ∷ header_conditions l s ++ (14, cut_records s) ∷ list_conditions (shortened s)

-- the number of what is kept, 0 where none of these is met
unfoldable pub kept_refusal : Limits → List ℕ → ℕ
kept_refusal l s = first_met (kept_conditions l s)

-- the number of a file, 0 where something remains of it
unfoldable pub salvage_refusal : Limits → List ℕ → ℕ
salvage_refusal l file = kept_refusal l (kept file)

-- the "proper file" that is written
unfoldable pub salvaged : List ℕ → List ℕ
salvaged file = file_of (shortened (kept file))

-- A and B of "kept A of B entries": those kept, and those that the header names
unfoldable pub kept_entries : List ℕ → ℕ
kept_entries file = entries_kept (kept file)

unfoldable pub named_entries : List ℕ → ℕ
named_entries file = schedule_length (kept file)

-- number 1: "Work under 17,710 or output under 17,920 bytes"
unfoldable pub small_room : Limits → List ℕ → List ℕ → Bool
small_room l work out = small_work l work || small_output l out

unfoldable pub salvage_number : Limits → List ℕ → List ℕ → List ℕ → ℕ
salvage_number l file work out = pick (small_room l work out) 1 (salvage_refusal l file)

-- a count of an accepted call; "A refusal gives its number and length 0"
unfoldable pub counted : Limits → List ℕ → List ℕ → List ℕ → ℕ → ℕ
counted l file work out n = pick (same (salvage_number l file work out) 0) n 0

unfoldable pub salvage_length : Limits → List ℕ → List ℕ → List ℕ → ℕ
salvage_length l file work out = counted l file work out (length (salvaged file))

-- "output is unchanged past the file, or wholly if refused"
unfoldable pub salvage_out : Limits → List ℕ → List ℕ → List ℕ → List ℕ
salvage_out l file work out =
    pick (same (salvage_number l file work out) 0) (salvaged file ++ drop (length (salvaged file)) out) out

-- "touches nothing; after any other call work is as after a replay": its first 17,710 bytes are zero
unfoldable pub salvage_work : Limits → List ℕ → List ℕ → List ℕ
salvage_work l work out = pick (small_room l work out) work (held l [] work)
