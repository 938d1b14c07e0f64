-- A slot is known by its process and by whether it is a drop. Assumes nothing.
use mathlib.Core.Path.{◌≡◌, refl, sym}
use mathlib.Core.Bool.{true, false, true≢false}
use Rattle.job.specs.declared.Slot.{Slot}
use Rattle.job.specs.declared.Slot.TheVariants.{Acts, Drops}
use Rattle.job.specs.Slot.{process_of, is_drop}

pub slot_acts : (s : Slot) → is_drop s ≡ false → s ≡ Acts (record { 0 = process_of s })
unfolding is_drop process_of
slot_acts (Acts p) e = refl
slot_acts (Drops p) e = absurd (true≢false e)

pub slot_drops : (s : Slot) → is_drop s ≡ true → s ≡ Drops (record { 0 = process_of s })
unfolding is_drop process_of
slot_drops (Acts p) e = absurd (true≢false (sym e))
slot_drops (Drops p) e = refl
