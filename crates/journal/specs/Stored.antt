-- What one step stores in the row of its operation, and of the item that it takes, and in that of lost rounds. It is how the code keeps the searches of the
-- definitions: `Kept` in proofs/ says that it does.
use Rattle.std.specs.Prelude.{◌≡◌, ℕ, suc, max, ◌<◌, Bool, List}
use Rattle.basics.specs.Choice.{pick, same}
use Rattle.basics.specs.Maps.{at, upd}
use Rattle.rows.specs.Operations.{HasOps, Cells, cells, stored}
use Rattle.rows.specs.declared.OpColumn.TheVariants.{First, Last, Start, Link, Taken, Stands}
use Rattle.machine.specs.Journal.{item_of}
use Rattle.machine.specs.declared.Event.{Event}
use Rattle.machine.specs.declared.Event.TheVariants.{Quiet, Round, Linked, Moved, Late, Raised}

-- a step that is kept once it is there
unfoldable pub earlier : ℕ → ℕ → ℕ
earlier old k = pick (same old 0) k old

-- the cells after step k by operation o: its first step, if it had none
unfoldable pub entered : ℕ → ℕ → Cells → Cells
entered o k c = stored First o (earlier (c First o) k) c

-- the step's event
unfoldable pub noted : Event → ℕ → ℕ → Cells → Cells
noted Quiet o k c = c
noted Round o k c = stored Start o k c
noted Linked o k c = stored Link o k c
noted (Moved n) o k c = stored Stands n (earlier (c Stands n) k) (stored Taken o n c)
noted (Late n) o k c = stored Taken o n c
noted (Raised t) o k c = stored Stands t (max (c Stands t) (c Start o)) (stored Taken o t c)

-- a lost round, if the step went back: row 0 is no operation's, and its first cell has how many are lost
unfoldable pub counted : Bool → Cells → Cells
counted back c = pick back (stored First 0 (suc (c First 0)) c) c

-- the operation's last step, if it ended there
unfoldable pub closed : Bool → ℕ → ℕ → Cells → Cells
closed ends o k c = stored Last o (pick ends k (c Last o)) c

-- all that one step stores: also who made it
pub record Stored (e : Event) (ends back : Bool) (o k : ℕ) (ops by ops' by' : List ℕ) : Type 0 where
  pub cells_stored : cells ops' ≡ closed ends o k (counted back (noted e o k (entered o k (cells ops))))
  pub by_stored : at by' ≡ upd (at by) k o

-- row 0 is there, and can count one more
pub record Countable (ops : List ℕ) : Type 0 where
  pub count_row : HasOps 0 ops
  pub room : cells ops First 0 < 65535

-- the rows of an operation and of an event's item are there
pub record HasCells (e : Event) (o : ℕ) (ops : List ℕ) : Type 0 where
  pub own_row : HasOps o ops
  pub item_row : HasOps (item_of e) ops
