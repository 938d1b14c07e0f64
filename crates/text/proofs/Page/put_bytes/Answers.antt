-- `text::Page::put_bytes` meets its contract. Assumes nothing.
use mathlib.Core.Path.{refl}
use native.Mathlib.Omega.{arith}
use Rattle.text.proofs.Laid.{part_is_laid}
use Rattle.text.proofs.Page.put_bytes.Goals as goal

pub returns : goal.returns
returns c = record { fits = c.requires; lays = part_is_laid _ _ c.copy_from_slice.ensures.after (omega arith); behind = refl; same_memory = refl }
