-- Shared memory as the code holds it: three cells, and a list of rows for the nodes.
use Rattle.std.specs.Prelude.{ℕ, List}
use Rattle.rows.specs.Nodes.{nexts, marks, uppers}
use Rattle.machine.specs.declared.Object.{Object}
use Rattle.machine.specs.Memory.{Memory}

-- the cells Head, Tail and Top, and the nodes' rows
unfoldable pub memory_of : ℕ → ℕ → ℕ → List ℕ → Memory
memory_of head tail top nodes = record { head = head; tail = tail; top = top; next = nexts nodes; mark = marks nodes; upper = uppers nodes }

-- the same, by an object's cells
abbrev pub object_memory : Object → List ℕ → Memory
object_memory o nodes = memory_of o.head o.tail o.top nodes
