-- What a salvage gives and leaves: refused, written, and for the whole file by the sizes of the lent memories. Assumes nothing.
use mathlib.Core.Path.{◌≡◌, refl, sym, ap, ◌∙◌}
use mathlib.Core.Logic.{◌⊎◌, inl, inr}
use Prim.Native.Nat.{ℕ, ◌≤◌, ◌<◌}
use native.Mathlib.Nat.{sub-zero}
use native.Mathlib.Omega.{arith}
use mathlib.Core.Bool.{true, false, or-true}
use mathlib.Core.List.{List, ◌++◌}
use lib.ListN.{length, drop}
use Rattle.basics.specs.Bytes.{Bytes}
use Rattle.basics.specs.Choice.{pick, same}
use Rattle.basics.proofs.Choice.{both, pick_then, pick_else, unequal_same, equal_same, same_equal, lt_less, le_less}
use Rattle.memory.specs.Over.{over}
use Rattle.job.specs.declared.Limits.{Limits}
use Rattle.std.specs.Prelude.{Result, Ok, Err}
use Rattle.std.specs.Result.{IsErrAnd}
use Rattle.job.specs.declared.Refusal.{Refusal}
use Rattle.job.specs.declared.Refusal.TheVariants.{ShortMemory}
use Rattle.job.specs.Answer.{refusal_number, answer_number}
use Rattle.job.proofs.Answered.{refusal_counts}
use Rattle.job.specs.Limits.{most_file, most_stream, Sound}
use Rattle.job.specs.Stream.{schedule_length}
use Rattle.job.specs.File.{zeros, file_of, file_refusal, stream_of, zeros_behind}
use Rattle.job.specs.Job.{job_of}
use Rattle.job.specs.Calls.{small_work, held, write_number, write_length, write_out}
use Rattle.remains.specs.Kept.{entries_kept, shortened}
use Rattle.remains.specs.Salvage.{kept_refusal, salvage_refusal, salvaged, kept_entries, named_entries, small_room, salvage_number, counted, salvage_length, salvage_out, salvage_work}
use Rattle.remains.specs.Looked.{looked}
use Rattle.remains.specs.Claims.{Undamaged, Proper, BlocksOf}
use Rattle.theory.specs.Short.{KeptRun}
use Rattle.remains.proofs.Undamaged.{undamaged}
use Rattle.remains.proofs.Proper.{proper}
use Rattle.remains.proofs.SameAnswers.{answers_kept}
use Rattle.remains.proofs.Looked.{refusal_looked, shortened_looked, entries_looked, named_looked}
use Rattle.salvager.specs.declared.Salvaged.{Salvaged}
use Rattle.salvager.specs.Given.{given_length, given_kept, given_named}
use Rattle.salvager.specs.Saved.{accepted_or, Saved}

-- equal numbers choose alike
alike : {A : Type 0} (m n : ℕ) (x y z : A) → m ≡ n → (n ≡ 0 → x ≡ y) → pick (same m 0) x z ≡ pick (same n 0) y z
alike m n x y z e same_value = ap (λ (k : ℕ). pick (same k 0) x z) e ∙ go (both (same n 0))
  where
    go : (same n 0 ≡ true) ⊎ (same n 0 ≡ false) → pick (same n 0) x z ≡ pick (same n 0) y z
    go (inl t) = ap (λ x. pick (same n 0) x z) (same_value (same_equal t))
    go (inr t) = pick_else x z t ∙ sym (pick_else y z t)

-- a stream that is refused leaves the output as it was
pub refused_saved : (l : Limits) (s before after : List ℕ) (e : Refusal) → refusal_number e ≡ kept_refusal l s → after ≡ before → Saved l s before after (Err e)
unfolding accepted_or
refused_saved l s before after e number same_out =
    let not_zero : same (kept_refusal l s) 0 ≡ false = unequal_same (λ z. refusal_counts e (number ∙ z)) in
    record {
      number = number;
      size = sym (pick_else _ _ not_zero);
      kept = sym (pick_else _ _ not_zero);
      named = sym (pick_else _ _ not_zero);
      left = same_out ∙ sym (pick_else _ _ not_zero);
    }

-- the same at the exit of a `?`
pub refused_saved_on : (l : Limits) (s before after : List ℕ) (r : Result Salvaged Refusal) (e : Refusal) → IsErrAnd r (λ x. x ≡ e) → refusal_number e ≡ kept_refusal l s → after ≡ before → Saved l s before after r
refused_saved_on l s before after (Ok g) e h number same_out = absurd h
refused_saved_on l s before after (Err d) e h number same_out = refused_saved l s before after d (ap refusal_number h ∙ number) same_out

-- the same where a write of the shortened stream is refused
pub write_refused : (l : Limits) (s t before : List ℕ) {after : List ℕ} (r : Result Salvaged Refusal) (e : Refusal) → t ≡ shortened s → write_number l (shortened s) before ≡ kept_refusal l s
    → refusal_number e ≡ write_number l t before → after ≡ write_out l t before → IsErrAnd r (λ x. x ≡ e) → Saved l s before after r
unfolding write_out
write_refused l s t before r e same_stream decides number left exit =
    refused_saved_on l s before _ r e exit (number ∙ ap (λ (x : List ℕ). write_number l x before) same_stream ∙ decides)
    (left ∙ pick_else _ _ (unequal_same (λ z. refusal_counts e (number ∙ z))))

-- a stream whose shortened one a write took
pub written_saved : (l : Limits) (s before after : List ℕ) (g : Salvaged) → write_number l (shortened s) before ≡ kept_refusal l s
    → (0 ≡ write_number l (shortened s) before) × (g.length ≡ write_length l (shortened s) before) × (after ≡ write_out l (shortened s) before)
    → g.kept ≡ entries_kept s → g.named ≡ schedule_length s → Saved l s before after (Ok g)
unfolding accepted_or write_length write_out
written_saved l s before after g e done count named =
    let number : 0 ≡ kept_refusal l s = done.0 ∙ e in
    let zero : same (kept_refusal l s) 0 ≡ true = equal_same (sym number) in
    record {
      number = number;
      size = done.1 ∙ alike _ _ _ _ 0 e (λ z. refl);
      kept = count ∙ sym (pick_then _ _ zero);
      named = named ∙ sym (pick_then _ _ zero);
      left = done.2 ∙ alike _ _ _ _ before e (λ z. refl);
    }

-- what is true of every salvage
abbrev pub Claimed : Limits → List ℕ → Type 0
Claimed l file =
    (file_refusal l file ≡ 0 → Undamaged l file)
    × ((salvage_refusal l file ≡ 0 → Proper l file)
    × (salvage_refusal l file ≡ 0 → (whole : List ℕ) → file_refusal l whole ≡ 0 → BlocksOf whole file → KeptRun (job_of (stream_of whole)) (job_of (stream_of (salvaged file)))))

-- all that a call is told: the number, the counts, both memories, and what is true of every salvage
abbrev pub Told : Limits → List ℕ → List ℕ → List ℕ → List ℕ → List ℕ → Result Salvaged Refusal → Type 0
Told l file work₀ out₀ work' out' r = record {
  number : answer_number r ≡ salvage_number l file work₀ out₀;
  size : given_length r ≡ salvage_length l file work₀ out₀;
  kept : given_kept r ≡ counted l file work₀ out₀ (kept_entries file);
  named : given_named r ≡ counted l file work₀ out₀ (named_entries file);
  out : out' ≡ salvage_out l file work₀ out₀;
  work : work' ≡ salvage_work l work₀ out₀;
  undamaged : file_refusal l file ≡ 0 → Undamaged l file;
  proper : salvage_refusal l file ≡ 0 → Proper l file;
  answers : salvage_refusal l file ≡ 0 → (whole : List ℕ) → file_refusal l whole ≡ 0 → BlocksOf whole file → KeptRun (job_of (stream_of whole)) (job_of (stream_of (salvaged file)));
}

pub claimed : {l : Limits} → Sound l → (file : List ℕ) → Bytes file → Claimed l file
claimed sound file bytes = (undamaged sound file bytes, (proper sound file, λ accepted whole good same. answers_kept sound file whole accepted good same))

-- a memory is too small: number 1, and nothing is touched
pub small_told : (l : Limits) (file work out : List ℕ) → small_room l work out ≡ true → Claimed l file → Told l file work out work out (Err ShortMemory)
unfolding salvage_length salvage_out salvage_work counted salvage_number
small_told l file work out small claims =
    let one : salvage_number l file work out ≡ 1 = pick_then _ _ small in
    let not_zero : same (salvage_number l file work out) 0 ≡ false = unequal_same (λ z. let q : ◌≡◌ {A = ℕ} 1 0 = sym one ∙ z in omega arith) in
    record {
      number = sym one;
      size = sym (pick_else _ _ not_zero);
      kept = sym (pick_else _ _ not_zero);
      named = sym (pick_else _ _ not_zero);
      out = sym (pick_else _ _ not_zero);
      work = sym (pick_then _ _ small);
      undamaged = claims.0;
      proper = claims.1.0;
      answers = claims.1.1;
    }

pub small_work_room : (l : Limits) (work out : List ℕ) → length work < most_stream l → small_room l work out ≡ true
unfolding small_room small_work
small_work_room l work out h = simp (lt_less h)

pub small_out_room : (l : Limits) (work out : List ℕ) → length out < most_file l → small_room l work out ≡ true
unfolding small_room
small_out_room l work out h = simp (lt_less h, or-true)

-- both are large enough: what the leading blocks give, and a clear work memory
pub large_told : {l : Limits} → Sound l → (file work out work' out' : List ℕ) (r : Result Salvaged Refusal) → most_stream l ≤ length work → most_file l ≤ length out
    → work' ≡ zeros (most_stream l) ++ drop (most_stream l) work → Saved l (looked l file) out out' r → Claimed l file → Told l file work out work' out' r
unfolding salvage_length salvage_out salvage_work counted salvage_number small_room small_work held zeros_behind accepted_or salvaged
large_told {l} sound file work out work' out' r room large cleared s claims =
    let free : small_room l work out ≡ false = simp (le_less room, le_less large) in
    let number : kept_refusal l (looked l file) ≡ salvage_number l file work out = refusal_looked sound file ∙ sym (pick_else _ _ free) in
    let accepted : salvage_number l file work out ≡ 0 → salvage_refusal l file ≡ 0 = λ z. sym (pick_else _ _ free) ∙ z in
    let files : salvage_number l file work out ≡ 0 → file_of (shortened (looked l file)) ≡ salvaged file = λ z. ap file_of (shortened_looked sound file (accepted z)) in
    let clear : zeros (most_stream l) ++ drop (most_stream l) work ≡ salvage_work l work out = ap (λ (n : ℕ). zeros n ++ drop (most_stream l) work) (sym (sub-zero (most_stream l))) ∙ sym (pick_else _ _ free) in
    record {
      number = s.number ∙ number;
      size = s.size ∙ alike _ _ _ _ 0 number (λ z. ap length (files z));
      kept = s.kept ∙ alike _ _ _ _ 0 number (λ z. entries_looked sound file (accepted z));
      named = s.named ∙ alike _ _ _ _ 0 number (λ z. named_looked sound file (accepted z));
      out = s.left ∙ alike _ _ _ _ out number (λ z. ap (λ (x : List ℕ). over x out) (files z));
      work = cleared ∙ clear;
      undamaged = claims.0;
      proper = claims.1.0;
      answers = claims.1.1;
    }
