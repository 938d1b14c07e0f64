-- The text of a stage. Document 02, request 2: "A `-` leads a printed negative; zero prints without one."
use Rattle.std.specs.Prelude.{ℕ, suc, List, ◌++◌, ℤ, pos, negsuc}
use Rattle.basics.specs.Text.{text, decimal}
use Rattle.stage.specs.Millimetres.{millimetres}
use Rattle.stage.specs.Centimetres.{centimetres}

-- a whole number in decimal (`negsuc n` is −(n + 1), so zero has no sign)
unfoldable pub signed_decimal : ℤ → List ℕ
signed_decimal (pos n) = decimal n
signed_decimal (negsuc n) = text "-" ++ decimal (suc n)

-- what is printed of the stage in a field
unfoldable pub stage_text : ℕ → List ℕ
stage_text field = signed_decimal (centimetres (millimetres field))
