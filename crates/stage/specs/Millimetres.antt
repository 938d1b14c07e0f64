-- What the value field of a put says, and the facts to check it by.
use Rattle.std.specs.Prelude.{◌≡◌, ◌⊎◌, ℕ, ℤ, pos, negsuc, ◌-ℤ◌, ◌≤ℤ◌}
use Rattle.basics.specs.Choice.{pick, less}

-- Document 02, request 2: "a signed 16-bit number in two's complement": the field itself, or 65,536 less
unfoldable pub millimetres : ℕ → ℤ
millimetres field = pick (less field 32768) (pos field) (pos field -ℤ pos 65536)

-- "−32,768 to 32,767 mm" (`negsuc n` is −(n + 1)), and the field itself or 65,536 less
pub record Signed (field : ℕ) (mm : ℤ) : Type 0 where
  pub from : negsuc 32767 ≤ℤ mm
  pub to : mm ≤ℤ pos 32767
  pub complement : (mm ≡ pos field) ⊎ (mm ≡ pos field -ℤ pos 65536)
