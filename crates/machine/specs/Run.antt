-- The run of a job: the state after k steps. Document 01, "Where an effect stands": "The run starts with fresh memory and every process
-- before its first operation. Each step, also one that is idle or changes nothing, finds the shared memory and the places as the
-- step before left them, and nothing else writes them."
use Rattle.std.specs.Prelude.{ℕ, zero, suc, ◌-◌, Bool, true, false}
use Rattle.basics.specs.Choice.{pick, same, less}
use Rattle.basics.specs.Maps.{upd}
use Rattle.job.specs.declared.Slot.{Slot}
use Rattle.job.specs.declared.Slot.TheVariants.{Acts, Drops}
use Rattle.job.specs.Job.{Job}
use Rattle.machine.specs.declared.Row.{Row}
use Rattle.machine.specs.declared.Place.{Place}
use Rattle.machine.specs.Memory.{Memory, fresh_memory}
use Rattle.machine.specs.Table.{row_of, successor, ended, first_row}
use Rattle.machine.specs.Access.{Registers, Reached, access}

-- shared memory; "The eight places, one a process": here, of any number of processes; and which operations have begun, made a step
pub record State : Type 0 where
  pub memory : Memory
  pub places : ℕ → Place
  pub begun : ℕ → Bool

-- the first of the `count` numbers from `start` up that meets a test; if none does, the number after them
unfoldable pub seek : (ℕ → Bool) → ℕ → ℕ → ℕ
seek f start zero = start
seek f start (suc count) =
    let later : ℕ = seek f (suc start) count in
    pick (f start) start later

-- "Each process does its operations in list order": the operation of process `p` that comes after operation `o`, and N + 1 if none does
unfoldable pub operation_after : Job → ℕ → ℕ → ℕ
operation_after j p o = seek (λ i. same (j.owner i) p) (suc o) (j.count - o)

-- a place before the first step of an operation
unfoldable pub before : Job → ℕ → Place
before j o =
    record { operation = record { 0 = o }; row = first_row j.object (j.is_put o); h = 0; t = 0; n = 0 }

-- "The run starts with fresh memory and every process before its first operation."
unfoldable pub fresh_state : Job → State
fresh_state j = record { memory = fresh_memory; places = λ p. before j (operation_after j p 0); begun = λ o. false }

-- what the row of an operation does, with the operation's number, memory and registers
unfoldable pub reach : Row → ℕ → Memory → Registers → Reached
reach r own m regs = access (row_of r).access own m regs

-- the registers of a place
unfoldable pub registers : Place → Registers
registers p = record { h = p.h; t = p.t; n = p.n }

-- what the step of a place reaches
unfoldable pub reached : Memory → Place → Reached
reached m p = reach p.row p.operation.0 m (registers p)

-- the row after the step of a place, or its end
unfoldable pub row_after : Place → Reached → Row
row_after p a = successor (row_of p.row) a.outcome

-- the place after its step: the same operation further on, or before the process's next operation
unfoldable pub place_after : Job → ℕ → Place → Reached → Place
place_after j process p a =
    pick (ended (row_after p a))
    (before j (operation_after j process p.operation.0))
    (record { operation = p.operation; row = row_after p a; h = a.registers.h; t = a.registers.t; n = a.registers.n })

-- a process with no operation remaining: the next one's number is past N
unfoldable pub resting : Job → Place → Bool
resting j p = less j.count p.operation.0

-- a process steps. "a step changes the place of one process and nothing of the other seven"; "A scheduled process with no operation
-- remaining makes an idle step"
unfoldable pub acting : Job → ℕ → State → State
acting j process s =
    let p : Place = s.places process in
    let a : Reached = reached s.memory p in
    pick (resting j p) s
    (record {
      memory = a.memory;
      places = upd s.places process (place_after j process p a);
      begun = upd s.begun p.operation.0 true;
    })

-- a process drops. Document 02, request 4: "process p drops its begun operation, then stands before its next; with none begun it is idle"
unfoldable pub dropping : Job → ℕ → State → State
dropping j process s =
    let o : ℕ = (s.places process).operation.0 in
    pick (s.begun o)
    (record { memory = s.memory; places = upd s.places process (before j (operation_after j process o)); begun = s.begun })
    s

-- one step, by what the schedule names for it
unfoldable pub step : Job → Slot → State → State
step j (Acts p) s = acting j p.0 s
step j (Drops p) s = dropping j p.0 s

-- the state after k steps of the schedule
unfoldable pub state_after : Job → ℕ → State
state_after j zero = fresh_state j
state_after j (suc k) = step j (j.slot (suc k)) (state_after j k)
