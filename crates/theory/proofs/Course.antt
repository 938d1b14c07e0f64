-- A course: what the proofs of one object may know of a run. It knows no job, no process, no schedule and no other object: a step by anybody on
-- another object, and an idle step, are all the same to it: nothing happens.
use mathlib.Core.Path.{◌≡◌, ap}
use mathlib.Core.Logic.{◌≢◌, ◌⊎◌}
use Prim.Native.Nat.{ℕ, suc}
use mathlib.Core.Bool.{Bool}
use Rattle.job.specs.declared.Kind.{Kind}
use Rattle.job.specs.declared.Kind.TheVariants.{Queue, Stack, TwoWay}
use Rattle.machine.specs.declared.Event.TheVariants.{Quiet}
use Rattle.machine.specs.Memory.{Memory, fresh_memory}
use Rattle.machine.specs.Notes.{Note, idle}
use Rattle.machine.specs.Explained.{IsOperation}
use Rattle.machine.proofs.Turns.Locals.{Local}
use Rattle.theory.proofs.Listing.{Listing, initial}
use Rattle.theory.proofs.Queue.Listing as Queues
use Rattle.theory.proofs.Stack.Listing as Stacks
use Rattle.theory.proofs.TwoWay.Listing as TwoWays

-- the listings of each object
abbrev pub listing : (kind : Kind) → Listing kind
listing Queue = Queues.listing
listing Stack = Stacks.listing
listing TwoWay = TwoWays.listing

-- nothing happens to the object at step k + 1
pub record Passes (log : ℕ → Note) (memory : ℕ → Memory) (local : ℕ → ℕ → Local) (k : ℕ) : Type 0 where
  pub nothing : log (suc k) ≡ idle
  pub memory_kept : memory (suc k) ≡ memory k
  pub locals_kept : (o : ℕ) → o ≢ 0 → local (suc k) o ≡ local k o

-- operation o makes step k + 1, which is one turn of the object's listings
pub record Acts (kind : Kind) (count : ℕ) (log : ℕ → Note) (memory : ℕ → Memory) (local : ℕ → ℕ → Local) (k o : ℕ) : Type 0 where
  pub operation : IsOperation count o
  pub by : (log (suc k)).by ≡ o
  pub turned : (listing kind).Turn o (memory k) (local k o) (memory (suc k)) (local (suc k) o) (log (suc k)).event (log (suc k)).answer
  pub others_kept : (q : ℕ) → q ≢ o → local (suc k) q ≡ local k q

pub record Course (kind : Kind) : Type 0 where
  -- the number of operations, and which of them are puts
  pub count : ℕ
  pub is_put : ℕ → Bool
  -- what each step was for this object
  pub log : ℕ → Note
  -- its memory, and the row and the registers of each operation, after k steps
  pub memory : ℕ → Memory
  pub local : ℕ → ℕ → Local
  -- before the first step
  pub log_first : log 0 ≡ idle
  pub memory_first : memory 0 ≡ fresh_memory
  pub local_first : (o : ℕ) → local 0 o ≡ initial kind (is_put o)
  -- each step
  pub step : (k : ℕ) → Passes log memory local k ⊎ ((o : ℕ) × Acts kind count log memory local k o)

-- the same of a course
abbrev pub PassesIn : {kind : Kind} → Course kind → ℕ → Type 0
PassesIn c k = Passes c.log c.memory c.local k

abbrev pub ActsIn : {kind : Kind} → Course kind → ℕ → ℕ → Type 0
ActsIn {kind} c k o = Acts kind c.count c.log c.memory c.local k o

-- a step at which nothing happens is by nobody, and the record tells nothing of it
pub passes_by : {log : ℕ → Note} {memory : ℕ → Memory} {local : ℕ → ℕ → Local} {k : ℕ} → Passes log memory local k → (log (suc k)).by ≡ 0
unfolding idle
passes_by p = ap (λ n. n.by) p.nothing

pub passes_event : {log : ℕ → Note} {memory : ℕ → Memory} {local : ℕ → ℕ → Local} {k : ℕ} → Passes log memory local k → (log (suc k)).event ≡ Quiet
unfolding idle
passes_event p = ap (λ n. n.event) p.nothing
