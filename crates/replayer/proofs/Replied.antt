-- The four ways in which a replay ends, each with all that its contract says. Assumes nothing.
use mathlib.Core.Path.{◌≡◌, sym, ap, subst, ◌∙◌}
use mathlib.Core.Logic.{◌≢◌, ◌⊎◌, inl, inr}
use Prim.Native.Nat.{ℕ, ◌-◌, ◌≤◌, ◌<◌}
use native.Mathlib.Nat.{zero-add}
use native.Mathlib.Omega.{arith}
use mathlib.Core.Bool.{true, false, ◌||◌}
use mathlib.Core.List.{List, [], ◌++◌}
use lib.ListN.{length, take, drop, replicate}
use lib.Seq.{take_at, drop_at}
use Rattle.basics.specs.Bytes.{Bytes}
use Rattle.basics.specs.Choice.{pick, same}
use Rattle.basics.proofs.Choice.{both, pick_then, pick_else, equal_same, unequal_same, lt_less, le_less, less_le}
use Rattle.job.specs.declared.Kind.TheVariants.{Queue}
use Rattle.job.specs.declared.Limits.{Limits}
use Rattle.job.specs.Limits.{most_stream, Sound}
use Rattle.job.specs.File.{zeros, file_refusal, stream_of, zeros_behind, zero_filled}
use Rattle.job.specs.Job.{Job, job_of}
use Rattle.job.specs.Idle.{idle_at}
use Rattle.job.specs.Calls.{small_work, held, read_number, read_length, read_work}
use Rattle.job.specs.Ready.{Ready, Named}
use Rattle.job.proofs.Accepted.{GoodFile, accepted_good}
use Rattle.job.proofs.View.{filled_long, filled_ready, filled_named, filled_job}
use Rattle.windows.specs.Refused.{bad_windows}
use Rattle.hours.specs.Windowed.{windowed}
use Rattle.wording.specs.Report.{report}
use Rattle.machine.specs.Explained.{Explained}
use Rattle.theory.specs.Bounded.{Bounded}
use Rattle.theory.specs.Cut.{SameAsCut}
use Rattle.theory.proofs.Theorem.{explained}
use Rattle.theory.proofs.Lost.{lost_bounded}
use Rattle.theory.proofs.Cut.{same_as_cut}
use Rattle.text.specs.Laid.{laid}
use Rattle.report.specs.Reported.{Reported}
use Rattle.replayer.proofs.Short.{report_short}
use Rattle.replayer.proofs.Owned.{owned, free}
use Rattle.replayer.specs.Replay.{small_memory, input_refusal, job_in, processes_in, job_run, shut_in, report_of, replay_number, replay_length, replay_report, replay_work}

-- what a replay says and leaves
abbrev pub Replied : Limits → List ℕ → List ℕ → List ℕ → List ℕ → ℕ → ℕ → List ℕ → List ℕ → Type 0
Replied l file windows work₀ out n length' out' work' = record {
  number : n ≡ replay_number l file windows work₀ out;
  size : length' ≡ replay_length l file windows work₀ out;
  report : out' ≡ replay_report l file windows work₀ out;
  work : work' ≡ replay_work l work₀ out;
  explained : n ≡ 0 → Explained (job_run file windows) (job_run file windows).steps;
  bounded : n ≡ 0 → (job_in file).object ≡ Queue → Bounded (job_run file windows) (job_run file windows).steps (processes_in file);
  cut : n ≡ 0 → SameAsCut (shut_in file windows) (job_in file);
}

module _ (l : Limits) (file windows work out : List ℕ) where
  -- what follows from the number alone
  refused : {number size : ℕ} {work' : List ℕ} → number ≡ replay_number l file windows work out → number ≢ 0 → size ≡ 0 → work' ≡ replay_work l work out → Replied l file windows work out number size out work'
  unfolding replay_length replay_report
  refused e n z w =
      let no : same (replay_number l file windows work out) 0 ≡ false = unequal_same (λ q. n (e ∙ q)) in
      record {
        number = e;
        size = z ∙ sym (pick_else _ _ no);
        report = sym (pick_else _ _ no);
        work = w;
        explained = λ a. absurd (n a);
        bounded = λ a. absurd (n a);
        cut = λ a. absurd (n a);
      }

  -- the report memory is too small: nothing is touched
  pub small_refused : {number size : ℕ} → length out < l.report → number ≡ 1 → size ≡ 0 → Replied l file windows work out number size out work
  unfolding replay_number replay_work small_memory
  small_refused {number} h one z =
      let small : small_memory l work out ≡ true = ap (λ b. b || small_work l work) (lt_less h) in
      refused (one ∙ sym (pick_then _ _ small)) (λ q. let b : ⊥ = omega arith in b) z (sym (pick_then _ _ small))

  module _ (big : l.report ≤ length out) where
    -- with enough report memory a replay is refused as a read is, or by its windows
    memory_as_read : small_memory l work out ≡ small_work l work
    unfolding small_memory
    memory_as_read = ap (λ b. b || small_work l work) (le_less big)

    number_by_work : replay_number l file windows work out ≡ pick (small_work l work) 1 (input_refusal l file windows)
    unfolding replay_number
    number_by_work = ap (λ b. pick b 1 (input_refusal l file windows)) memory_as_read

    number_as_read : read_number l file work ≢ 0 → replay_number l file windows work out ≡ read_number l file work
    unfolding read_number input_refusal
    number_as_read n = number_by_work ∙ go (both (small_work l work))
      where
        go : (small_work l work ≡ true) ⊎ (small_work l work ≡ false) → pick (small_work l work) 1 (input_refusal l file windows) ≡ pick (small_work l work) 1 (file_refusal l file)
        go (inl small) = pick_then _ _ small ∙ sym (pick_then _ _ small)
        go (inr large) = ap (pick (small_work l work) 1) (pick_else _ _ (unequal_same (λ q. n (pick_else _ _ large ∙ q))))

    -- a refused read leaves the work memory as a refused replay does
    work_as_read : read_number l file work ≢ 0 → read_work l file work ≡ replay_work l work out
    unfolding read_number read_work replay_work
    work_as_read n = go (both (small_work l work)) ∙ sym (ap (λ b. pick b work (held l [] work)) memory_as_read)
      where
        bytes : List ℕ
        bytes = pick (same (file_refusal l file) 0) (stream_of file) []

        go : (small_work l work ≡ true) ⊎ (small_work l work ≡ false) → pick (small_work l work) work (held l bytes work) ≡ pick (small_work l work) work (held l [] work)
        go (inl small) = pick_then _ _ small ∙ sym (pick_then _ _ small)
        go (inr large) =
            ap (λ (b : List ℕ). pick (small_work l work) work (held l b work))
            (pick_else _ _ (unequal_same (λ q. n (pick_else _ _ large ∙ q))))

    pub read_refused : {number size : ℕ} {work' : List ℕ} → number ≡ read_number l file work → number ≢ 0 → size ≡ read_length l file work → work' ≡ read_work l file work → Replied l file windows work out number size out work'
    unfolding read_length
    read_refused e n z w =
        refused (e ∙ sym (number_as_read (λ q. n (e ∙ q)))) n
        (z ∙ pick_else _ _ (unequal_same (λ q. n (e ∙ q))))
        (w ∙ work_as_read (λ q. n (e ∙ q)))

    -- an accepted file
    module _ (accepted : read_number l file work ≡ 0) where
      not_small : small_work l work ≡ false
      unfolding read_number
      not_small = go (both (small_work l work))
        where
          go : (small_work l work ≡ true) ⊎ (small_work l work ≡ false) → small_work l work ≡ false
          go (inl small) = absurd (let z : 1 ≡ 0 = sym (pick_then _ _ small) ∙ accepted in let b : ⊥ = omega arith in b)
          go (inr large) = large

      file_accepted : file_refusal l file ≡ 0
      unfolding read_number
      file_accepted = sym (pick_else _ _ not_small) ∙ accepted

      good : GoodFile l file
      good = accepted_good l file file_accepted

      -- then its windows decide
      number_by_windows : replay_number l file windows work out ≡ pick (bad_windows windows) 13 0
      unfolding input_refusal
      number_by_windows = number_by_work ∙ pick_else _ _ not_small ∙ pick_then _ _ (equal_same file_accepted)

      -- the work memory after the read
      work_read : read_work l file work ≡ zero_filled l file ++ drop (most_stream l) work
      unfolding read_work held zero_filled
      work_read = pick_else _ _ not_small ∙ ap (λ b. held l b work) (pick_then _ _ (equal_same file_accepted))

      front_read : take (most_stream l) (read_work l file work) ≡ zero_filled l file
      front_read = ap (take (most_stream l)) work_read ∙ take_at (zero_filled l file) (drop (most_stream l) work) (most_stream l) (filled_long file good)

      back_read : drop (most_stream l) (read_work l file work) ≡ drop (most_stream l) work
      back_read = ap (drop (most_stream l)) work_read ∙ drop_at (zero_filled l file) (drop (most_stream l) work) (most_stream l) (filled_long file good)

      read_job : job_of (take (most_stream l) (read_work l file work)) ≡ job_in file
      unfolding job_in
      read_job = ap job_of front_read ∙ filled_job file good

      -- a cleared work memory is that of a replay that is over
      work_cleared : {work' : List ℕ} (work₁ : List ℕ) → work₁ ≡ read_work l file work → work' ≡ zeros (most_stream l) ++ drop (most_stream l) work₁ → work' ≡ replay_work l work out
      unfolding replay_work held zeros_behind zeros
      work_cleared work₁ r w =
          w
          ∙ ap (λ rest. replicate (most_stream l) 0 ++ rest) (ap (drop (most_stream l)) r ∙ back_read)
          ∙ ap (λ n. replicate n 0 ++ drop (most_stream l) work) (let z : most_stream l ≡ most_stream l - 0 = omega arith in z)
          ∙ sym (pick_else _ _ (memory_as_read ∙ not_small))

      pub read_room : (work₁ : List ℕ) → length work₁ ≡ length work → most_stream l ≤ length work₁
      unfolding small_work
      read_room work₁ size = let h : most_stream l ≤ length work = less_le not_small in omega arith

      -- a block that is not right
      pub windows_refused : {number size : ℕ} {work' : List ℕ} (work₁ : List ℕ) → work₁ ≡ read_work l file work → bad_windows windows ≡ true → number ≡ 13 → size ≡ 0 → work' ≡ zeros (most_stream l) ++ drop (most_stream l) work₁ → Replied l file windows work out number size out work'
      windows_refused work₁ r bad e z w =
          refused (e ∙ sym (number_by_windows ∙ pick_then _ _ bad)) (λ q. let b : ⊥ = omega arith in b) z (work_cleared work₁ r w)

      -- an accepted job: the work memory after the read, and the report memory, are what it needs
      pub held_ready : Sound l → Bytes file → (work₁ : List ℕ) → work₁ ≡ read_work l file work → length work₁ ≡ length work → (most_stream l ≤ length work₁) × Ready (take (most_stream l) work₁) × Named (take (most_stream l) work₁) × (length (report (windowed windows (job_of (take (most_stream l) work₁)))) ≤ length out)
      unfolding job_run
      held_ready sound b work₁ e size =
          let front : zero_filled l file ≡ take (most_stream l) work₁ = sym (ap (take (most_stream l)) e ∙ front_read) in
          let same_job : job_of (take (most_stream l) work₁) ≡ job_in file = ap (λ (w : List ℕ). job_of (take (most_stream l) w)) e ∙ read_job in (
            read_room work₁ size,
            subst Ready front (filled_ready file good sound),
            subst Named front (filled_named file good sound),
            omega (arith, ap (λ (j : Job). length (report (windowed windows j))) same_job, report_short sound file windows file_accepted b),
          )

      -- what holds of the run of its job
      run_holds : Sound l → Explained (job_run file windows) (job_run file windows).steps × (((job_in file).object ≡ Queue → Bounded (job_run file windows) (job_run file windows).steps (processes_in file)) × SameAsCut (shut_in file windows) (job_in file))
      unfolding job_run windowed idle_at
      run_holds sound = (
        explained (job_run file windows) (job_run file windows).steps,
        (
          λ queue. lost_bounded (job_run file windows) (job_run file windows).steps (processes_in file) queue (owned file good windows),
          same_as_cut (shut_in file windows) (job_in file) (free sound file good),
        ),
      )

      pub accepted_replied : Sound l → {number size : ℕ} {out' work' : List ℕ} (work₁ : List ℕ) → work₁ ≡ read_work l file work → bad_windows windows ≡ false → number ≡ 0 → Reported out out' size (report (windowed windows (job_of (take (most_stream l) work₁)))) → work' ≡ zeros (most_stream l) ++ drop (most_stream l) work₁ → Replied l file windows work out number size out' work'
      unfolding replay_length replay_report report_of job_run laid
      accepted_replied sound work₁ r fine e told w =
          let none : replay_number l file windows work out ≡ 0 = number_by_windows ∙ pick_else _ _ fine in
          let met : same (replay_number l file windows work out) 0 ≡ true = equal_same none in
          let text : report (windowed windows (job_of (take (most_stream l) work₁))) ≡ report (windowed windows (job_in file)) = ap (λ w. report (windowed windows (job_of (take (most_stream l) w)))) r ∙ ap (λ j. report (windowed windows j)) read_job in
          let holds = run_holds sound in
          record {
            number = e ∙ sym none;
            size = told.tells ∙ ap length text ∙ sym (pick_then _ _ met);
            report =
                told.writes
                ∙ (λ i. text i ++ drop (zero-add (length (text i)) i) out)
                ∙ sym (pick_then _ _ met);
            work = work_cleared work₁ r w;
            explained = λ a. holds.0;
            bounded = λ a. holds.1.0;
            cut = λ a. holds.1.1;
          }
