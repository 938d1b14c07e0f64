-- `report::record_lines` meets its contract. Assumes nothing.
use native.Mathlib.Omega.{arith}
use Rattle.rows.specs.Rows.{place}
use Rattle.job.specs.Limits.{field}
use Rattle.lines.specs.Members.{bound_width}
use Rattle.lines.proofs.Bounds.{zeros_small}
use Rattle.std.proofs.Common.{rules}
use Rattle.report.proofs.record_lines.Goals as goal

pub bound_takers-requires : goal.bound_takers-requires
bound_takers-requires c = record { has_ops = search rules; has_bounds = omega arith; items = c.requires.1.items; small = zeros_small (place bound_width field.operations bound_width) _ }
