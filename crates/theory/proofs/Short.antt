-- A job whose schedule is another's first entries runs as the other does so far, whoever ended there has the other's answer, and its lines are lines of the
-- other's record, but for takers that came later: for every job and however many entries are kept. Assumes nothing.
pub mod Runs
pub mod Alike
pub mod Stays
pub mod Lines
use mathlib.Core.Path.{◌≡◌, sym, subst, ◌∙◌}
use mathlib.Core.Logic.{◌≢◌}
use Prim.Native.Nat.{ℕ}
use mathlib.Core.List.{Memᴰ}
use native.Mathlib.Omega.{arith}
use Rattle.job.specs.Job.{Job}
use Rattle.machine.specs.Notes.{note}
use Rattle.machine.specs.Journal.{last}
use Rattle.machine.specs.Record.{lines_to, the_record}
use Rattle.machine.proofs.Stamps.{first_stays}
use Rattle.theory.specs.Short.{CutShort, KeptAnswer, TakesStand, KeptRun}
use Rattle.theory.proofs.Short.Runs.{state_kept, note_kept}
use Rattle.theory.proofs.Short.Alike.{first_alike, last_alike, answer_alike, lines_alike}
use Rattle.theory.proofs.Short.Stays.{ended_begun, last_stays, answer_stays}
use Rattle.theory.proofs.Short.Lines.{put_stands, empty_stands, takes_stand}

module _ (whole kept : Job) (short : CutShort whole kept) where
  abbrev k : ℕ
  k = kept.steps

  abbrev l : ℕ
  l = whole.steps

  kept_answer : (o : ℕ) → last (note kept) k o ≢ 0 → KeptAnswer whole kept o
  kept_answer o ended =
      let alike = note_kept whole kept short in
      let there : last (note whole) k o ≢ 0 = λ z. ended (last_alike (note kept) (note whole) k alike o ∙ z) in
      record {
        its_answer = answer_alike (note kept) (note whole) k alike o ∙ sym (answer_stays (note whole) k l short.fewer o there);
        its_first = first_alike (note kept) (note whole) k alike o ∙ sym (first_stays (note whole) k o l short.fewer (ended_begun (note whole) k o there));
        its_last = last_alike (note kept) (note whole) k alike o ∙ sym (last_stays (note whole) k l short.fewer o there);
      }

  -- the kept record is that of the whole job after as many steps
  record_kept : the_record kept k ≡ the_record whole k
  unfolding the_record
  record_kept =
      lines_alike (note kept) (note whole) k (note_kept whole kept short) kept.object kept.count k (omega arith)
      ∙ (λ i. lines_to (short.objects i) (note whole) (short.counts i) k k)

  pub kept_run : KeptRun whole kept
  kept_run =
      record {
        states = state_kept whole kept short;
        notes = note_kept whole kept short;
        answers = kept_answer;
        puts_stand = λ s o m. put_stands whole k l short.fewer s o (subst (Memᴰ _) record_kept m);
        empties_stand = λ s o m. empty_stands whole k l short.fewer s o (subst (Memᴰ _) record_kept m);
        takes_stand = λ s item takers m. subst (λ x. TakesStand x (the_record whole l) s item takers) (sym short.objects) (takes_stand whole k l short.fewer s item takers (subst (Memᴰ _) record_kept m));
      }
