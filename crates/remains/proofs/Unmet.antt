-- What no condition of a salvage being met says of the stream. Assumes nothing.
use mathlib.Core.Path.{◌≡◌}
use Prim.Native.Nat.{ℕ, ◌*◌, ◌≤◌}
use native.Mathlib.Omega.{arith}
use mathlib.Core.Bool.{false}
use mathlib.Core.List.{List}
use lib.ListN.{length}
use Rattle.basics.specs.Choice.{less}
use Rattle.basics.proofs.Choice.{less_le}
use Rattle.block.specs.Block.{payload_size}
use Rattle.job.specs.declared.Limits.{Limits}
use Rattle.job.specs.Limits.{most_stream, Sound}
use Rattle.job.specs.Stream.{operations, schedule_length, stream_length}
use Rattle.job.specs.Refusals.{first_met, outside, bad_kind, bad_processes, bad_operations, bad_schedule_length, bad_records, bad_schedule, header_conditions, list_conditions}
use Rattle.job.proofs.Conditions.{zero_unmet, or_both}
use Rattle.job.proofs.Table.{header_numbered}
use Rattle.remains.specs.Kept.{records_end, shortened}
use Rattle.remains.specs.Salvage.{cut_records, kept_conditions, kept_refusal}

-- a header in range
pub record InRange (l : Limits) (s : List ℕ) : Type 0 where
  pub kinds : bad_kind s ≡ false
  pub process_count : bad_processes l s ≡ false
  pub operation_count : bad_operations l s ≡ false
  pub step_count : bad_schedule_length l s ≡ false

-- the header and the records are there, in range, and so are the entries that are kept
pub record Remains (l : Limits) (s : List ℕ) : Type 0 where
  pub header_there : 6 ≤ length s
  pub header : InRange l s
  pub records_there : records_end s ≤ length s
  pub records : bad_records (shortened s) ≡ false
  pub schedule : bad_schedule (shortened s) ≡ false

pub header_unmet : (l : Limits) (s : List ℕ) → first_met (header_conditions l s) ≡ 0 → InRange l s
unfolding header_conditions
header_unmet l s e =
    let u = zero_unmet (header_conditions l s) (header_numbered l s) e in
    record { kinds = u.0; process_count = u.1.0; operation_count = u.1.1.0; step_count = u.1.1.1.0 }

pub all_unmet : (l : Limits) (s : List ℕ) → kept_refusal l s ≡ 0 → Remains l s
unfolding kept_refusal kept_conditions header_conditions list_conditions cut_records
all_unmet l s e =
    let u = zero_unmet (kept_conditions l s) (omega arith, (omega arith, (omega arith, (omega arith, (omega arith, (omega arith, (omega arith, (omega arith, tt)))))))) e in
    let h = u.1 in
    record {
      header_there = less_le u.0;
      header = record { kinds = h.0; process_count = h.1.0; operation_count = h.1.1.0; step_count = h.1.1.1.0 };
      records_there = less_le h.1.1.1.1.0;
      records = h.1.1.1.1.1.0;
      schedule = h.1.1.1.1.1.1.0;
    }

-- a header in range asks for no more blocks than a file may have
module _ {l : Limits} {s : List ℕ} (h : InRange l s) where
  pub few_operations : operations s ≤ l.operations
  unfolding bad_operations outside
  few_operations = less_le (or_both (less (operations s) 1) (less l.operations (operations s)) h.operation_count).1

  pub few_steps : schedule_length s ≤ l.steps
  unfolding bad_schedule_length
  few_steps = less_le h.step_count

  pub stream_small : Sound l → stream_length s ≤ payload_size * l.blocks
  unfolding stream_length most_stream payload_size
  stream_small sound = omega (arith, few_operations, few_steps, sound.stream_fits)
