-- What becomes of the entries of a schedule. Document 02, request 6: "A step outside its process's window is idle, a drop too".
use Rattle.std.specs.Prelude.{ℕ, ◌+◌, ◌-◌, ◌*◌, ◌/◌, Bool, ◌||◌, List, get_or}
use Rattle.basics.specs.Choice.{pick}
use Rattle.basics.specs.Maps.{at}
use Rattle.job.specs.Slot.{slot_of, process_of}
use Rattle.job.specs.Stream.{operations}
use Rattle.job.specs.Idle.{nobody}
use Rattle.windows.specs.Refused.{no_block}
use Rattle.hours.specs.Open.{is_open}
use Rattle.idling.specs.declared.Window.{Window}
use Rattle.idling.specs.Minutes.{no_window, open_at}

-- an entry whose process may act is kept, any other is that of an idle step, whose process is nobody
unfoldable pub entry_kept : (ℕ → Bool) → ℕ → ℕ
entry_kept may entry = pick (may (process_of (slot_of entry))) entry nobody

-- where the entry of step 1 stands
unfoldable pub first_entry : List ℕ → ℕ
first_entry s = 6 + 4 * operations s

-- what becomes of the entry at a place of a stream, where `may k p` says whether process p may act at step k
unfoldable pub entries_kept : (ℕ → ℕ → Bool) → List ℕ → ℕ → ℕ
entries_kept may s i = entry_kept (may (1 + (i - first_entry s))) (at s i)

-- may process p act at step k? Without a block every one may
unfoldable pub booked_at : List ℕ → ℕ → ℕ → Bool
booked_at b k p = no_block b || is_open b p k

-- the same by the minute: "Step k falls k − 1 seconds after the start"
unfoldable pub may_act : List Window → ℕ → ℕ → ℕ → Bool
may_act windows second k p = open_at (get_or windows p no_window) ((second + (k - 1)) / 60)
