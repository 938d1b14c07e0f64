-- Document 01, "Where a job is turned back": each number's condition, for a stream that may have padding behind it. What is out of
-- range depends on the limits of a profile.
-- "The first condition met in this order decides; a job meeting none is accepted."
use Rattle.std.specs.Prelude.{ℕ, zero, suc, ◌+◌, ◌-◌, ◌/◌, Bool, false, not, ◌||◌, ◌&&◌, List, [], ◌∷◌, length}
use Rattle.basics.specs.Choice.{pick, same, less}
use Rattle.basics.specs.Maps.{at}
use Rattle.block.specs.Block.{payload_size}
use Rattle.job.specs.declared.Limits.{Limits}
use Rattle.job.specs.Kind.{kind_of, is_missing}
use Rattle.job.specs.Slot.{slot_of, process_of}
use Rattle.job.specs.Stream.{kind, processes, operations, schedule_length, process, action, value, scheduled, stream_length}

-- the number of the first condition met in a list of conditions, and 0 where none is met
unfoldable pub first_met : List (ℕ × Bool) → ℕ
first_met [] = 0
first_met (c ∷ l) =
    let later : ℕ = first_met l in
    pick c.1 c.0 later

-- is the test met at one of the `count` numbers from `start` up?
unfoldable pub any : (ℕ → Bool) → ℕ → ℕ → Bool
any f start zero = false
any f start (suc count) = f start || any f (suc start) count

-- is a number outside of the range from `low` to `high`?
unfoldable pub outside : ℕ → ℕ → ℕ → Bool
outside low high n = less n low || less high n

-- number 5: kind out of range, the number of no kind
unfoldable pub bad_kind : List ℕ → Bool
bad_kind s = is_missing (kind_of (kind s))

-- number 6: P out of range
unfoldable pub bad_processes : Limits → List ℕ → Bool
bad_processes l s = outside 1 l.processes (processes s)

-- number 7: N out of range
unfoldable pub bad_operations : Limits → List ℕ → Bool
bad_operations l s = outside 1 l.operations (operations s)

-- number 8: S out of range
unfoldable pub bad_schedule_length : Limits → List ℕ → Bool
bad_schedule_length l s = less l.steps (schedule_length s)

-- "blocks exactly L / 506 rounded up"
unfoldable pub exact_count : List ℕ → ℕ
exact_count s = (stream_length s + (payload_size - 1)) / payload_size

-- number 10, of one record: "a field out of range, or a take with a value"
unfoldable pub bad_record : List ℕ → ℕ → Bool
bad_record s o =
    not (less (process s o) (processes s)) || outside 1 2 (action s o) || same (action s o) 2 && not (same (value s o) 0)

-- number 10: "records, ascending"
unfoldable pub bad_records : List ℕ → Bool
bad_records s = any (bad_record s) 1 (operations s)

-- number 11, of one entry. Document 02, request 4: "entries whose process, after taking off 128 where it is 128 or more, is P or more"
unfoldable pub bad_entry : List ℕ → ℕ → Bool
bad_entry s k = not (less (process_of (slot_of (scheduled s k))) (processes s))

-- number 11: the schedule
unfoldable pub bad_schedule : List ℕ → Bool
bad_schedule s = any (bad_entry s) 1 (schedule_length s)

-- number 12: padding, "a byte not zero"
unfoldable pub bad_padding : List ℕ → Bool
bad_padding s = any (λ i. not (same (at s i) 0)) (stream_length s) (length s - stream_length s)

-- "header | 5, 6, 7, 8 | kind, P, N, S out of range, in that order"
unfoldable pub header_conditions : Limits → List ℕ → List (ℕ × Bool)
header_conditions l s = (5, bad_kind s) ∷ (6, bad_processes l s) ∷ (7, bad_operations l s) ∷ (8, bad_schedule_length l s) ∷ []

-- the numbers 10 and 11, in the table's order
unfoldable pub list_conditions : List ℕ → List (ℕ × Bool)
list_conditions s = (10, bad_records s) ∷ (11, bad_schedule s) ∷ []
