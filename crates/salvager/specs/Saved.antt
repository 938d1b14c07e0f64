-- What is answered and written for a stream of leading payloads: its number, and where that is 0 the file of the shortened stream with its two counts.
use Rattle.std.specs.Prelude.{◌≡◌, ℕ, List, length, Result}
use Rattle.basics.specs.Choice.{pick, same}
use Rattle.memory.specs.Over.{over}
use Rattle.job.specs.declared.Limits.{Limits}
use Rattle.job.specs.Stream.{schedule_length}
use Rattle.job.specs.File.{file_of}
use Rattle.remains.specs.Kept.{entries_kept, shortened}
use Rattle.remains.specs.Salvage.{kept_refusal}
use Rattle.job.specs.declared.Refusal.{Refusal}
use Rattle.job.specs.Answer.{answer_number}
use Rattle.salvager.specs.declared.Salvaged.{Salvaged}
use Rattle.salvager.specs.Given.{given_length, given_kept, given_named}

-- a value of a stream that is accepted, another of one that is refused
unfoldable pub accepted_or : {A : Type 0} → Limits → List ℕ → A → A → A
accepted_or l s value other = pick (same (kept_refusal l s) 0) value other

pub record Saved (l : Limits) (s before after : List ℕ) (r : Result Salvaged Refusal) : Type 0 where
  pub number : answer_number r ≡ kept_refusal l s
  pub size : given_length r ≡ accepted_or l s (length (file_of (shortened s))) 0
  pub kept : given_kept r ≡ accepted_or l s (entries_kept s) 0
  pub named : given_named r ≡ accepted_or l s (schedule_length s) 0
  pub left : after ≡ accepted_or l s (over (file_of (shortened s)) before) before
