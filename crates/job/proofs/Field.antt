-- The field's limits are sound. Assumes nothing.
use mathlib.Core.Path.{◌≡◌, sym, subst}
use native.Mathlib.Omega.{arith}
use Rattle.block.specs.Block.{payload_size}
use Rattle.job.specs.declared.Limits.{Limits}
use Rattle.job.specs.Limits.{field, most_stream, Sound}

pub field_sound : Sound field
unfolding most_stream payload_size
field_sound =
    record {
      stream_fits = omega arith;
      blocks_fit = omega arith;
      places = omega arith;
      rows = omega arith;
      cells = omega arith;
      report_fits = omega arith;
    }

-- what a call of `Limits::field` gives
pub given_field : {l : Limits} → l ≡ field → Sound l
given_field e = subst Sound (sym e) field_sound
