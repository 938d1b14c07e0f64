-- What the schedule names for a step: a process that steps, or one that drops its operation. Document 01, "Job files": "S bytes, each a
-- process". Document 02, request 4: "A schedule entry 128 + p is a numbered step in which process p drops its begun operation".
use Rattle.std.specs.Prelude.{ℕ, ◌-◌, Bool, true, false}
use Rattle.basics.specs.Choice.{pick, less}
use Rattle.job.specs.declared.Slot.{Slot}
use Rattle.job.specs.declared.Slot.TheVariants.{Acts, Drops}

-- the first entry that is a drop: that of process 0
abbrev pub drop_from : ℕ
drop_from = 128

-- what an entry names: "after taking off 128 where it is 128 or more"
unfoldable pub slot_of : ℕ → Slot
slot_of entry = pick (less entry drop_from) (Acts (record { 0 = entry })) (Drops (record { 0 = entry - drop_from }))

-- the process that is named
unfoldable pub process_of : Slot → ℕ
process_of (Acts p) = p.0
process_of (Drops p) = p.0

-- does it drop its operation?
unfoldable pub is_drop : Slot → Bool
is_drop (Acts p) = false
is_drop (Drops p) = true
