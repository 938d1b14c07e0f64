-- The limits of a profile, as one value. Document 01: "byte 1 processes P, 1 to 8; bytes 2 to 3 operations N, 1 to 256; bytes 4 to 5
-- schedule length S, 0 to 16,384"; "35 at most, 17,920 bytes"; "report under 32,768 bytes, or work under 17,710".
use Rattle.std.specs.Prelude.{ℕ, ◌+◌, ◌*◌, ◌≤◌, ◌<◌}
use Rattle.block.specs.Block.{block_size, payload_size}
use Rattle.job.specs.declared.Limits.{Limits}

-- document 01's figures
abbrev pub field : Limits
field = record { processes = 8; operations = 256; steps = 16384; blocks = 35; report = 32768 }

-- the length of the longest file: for the field 17,920 bytes
unfoldable pub most_file : Limits → ℕ
most_file l = l.blocks * block_size

-- the length of the longest joined stream, what a read and a replay need as work memory: for the field 17,710 bytes
unfoldable pub most_stream : Limits → ℕ
most_stream l = l.blocks * payload_size

-- what every profile's limits have
pub record Sound (l : Limits) : Type 0 where
  -- the longest stream fits the most blocks, and a block's number its two bytes
  pub stream_fits : 6 + 4 * l.operations + l.steps ≤ most_stream l
  pub blocks_fit : l.blocks < 65536
  -- a run has a place for each process, a row for each operation and a cell for each step
  pub places : l.processes ≤ field.processes
  pub rows : l.operations ≤ field.operations
  pub cells : l.steps ≤ field.steps
  -- and the longest report fits: at most 34 bytes and 102 for each operation
  pub report_fits : 34 + 102 * l.operations ≤ l.report
