-- The kinds of object, and this paper's number of each. Document 01, "Job files": "byte 0 kind (1 queue, 2 stack)".
-- Document 02, request 3: "it becomes kind 3".
use Rattle.std.specs.Prelude.{ℕ, Bool, true, false, List, [], ◌∷◌, Option, Some, None}
use Rattle.basics.specs.Choice.{pick, same}
use Rattle.job.specs.declared.Kind.{Kind}
use Rattle.job.specs.declared.Kind.TheVariants.{Queue, Stack, TwoWay}

-- "kind (1 queue, 2 stack)", and 3, the two-way linked stack
unfoldable pub kind_number : Kind → ℕ
kind_number Queue = 1
kind_number Stack = 2
kind_number TwoWay = 3

-- every kind
unfoldable pub kinds : List Kind
kinds = Queue ∷ Stack ∷ TwoWay ∷ []

-- the first of some kinds that has a number, if one has it
unfoldable pub look_up : List Kind → ℕ → Option Kind
look_up [] n = None
look_up (k ∷ l) n = pick (same (kind_number k) n) (Some k) (look_up l n)

-- the kind that has a number, if one has it
unfoldable pub kind_of : ℕ → Option Kind
kind_of n = look_up kinds n

unfoldable pub is_missing : Option Kind → Bool
is_missing (Some k) = false
is_missing None = true

-- the kind that was found. Where none was, the stream is refused, and any kind would do
unfoldable pub kind_found : Option Kind → Kind
kind_found (Some k) = k
kind_found None = Queue
