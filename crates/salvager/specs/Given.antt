-- What a salvage's answer gives: the length of the proper file, the entries kept and those named. Document 01: "A refusal gives its number
-- and length 0"; it counts no entries either.
use Rattle.std.specs.Prelude.{ℕ, Result, Ok, Err}
use Rattle.job.specs.declared.Refusal.{Refusal}
use Rattle.salvager.specs.declared.Salvaged.{Salvaged}

abbrev pub given_length : Result Salvaged Refusal → ℕ
given_length (Ok g) = g.length
given_length (Err e) = 0

abbrev pub given_kept : Result Salvaged Refusal → ℕ
given_kept (Ok g) = g.kept
given_kept (Err e) = 0

abbrev pub given_named : Result Salvaged Refusal → ℕ
given_named (Ok g) = g.named
given_named (Err e) = 0
