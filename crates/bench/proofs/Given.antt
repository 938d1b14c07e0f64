-- A salvage's answer with its length alone: the same number, and the same length. Assumes nothing.
use Rattle.std.proofs.Common.{◌≡◌, ℕ, refl, ap, Result, Ok, Err, MatchResult}
use Rattle.std.specs.Result.{IsOkAnd}
use Rattle.job.specs.declared.Refusal.{Refusal}
use Rattle.job.specs.Answer.{answer_number, answer_length}
use Rattle.salvager.specs.declared.Salvaged.{Salvaged}
use Rattle.salvager.specs.Given.{given_length}

pub length_alone : (P : Salvaged → ℕ → Type 0) (r : Result Salvaged Refusal) (q : Result ℕ Refusal) → MatchResult r (λ x. IsOkAnd q (P x)) (λ e. q ≡ Err e)
    → ((x : Salvaged) (n : ℕ) → P x n → n ≡ x.length) → (answer_number q ≡ answer_number r) × (answer_length q ≡ given_length r)
length_alone P (Ok x) (Ok n) h same = (refl, same x n h)
length_alone P (Ok x) (Err e) h same = absurd h
length_alone P (Err d) q h same = (ap answer_number h, ap answer_length h)
