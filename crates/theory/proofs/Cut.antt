-- A job whose entries are idle here and there does what the job with them cut out does, step numbers kept: for every job none of whose operations is
-- nobody's, every schedule and whatever entries. Assumes nothing else.
pub mod Entries
pub mod Searches
pub mod Logs
pub mod Runs
use mathlib.Core.Path.{ap}
use Prim.Native.Nat.{ℕ}
use mathlib.Core.Bool.{Bool}
use native.Mathlib.Omega.{arith}
use Rattle.job.specs.Job.{Job}
use Rattle.job.specs.Idle.{idle_at}
use Rattle.machine.specs.Run.{State}
use Rattle.machine.specs.Drops.{drop}
use Rattle.machine.specs.Record.{the_record}
use Rattle.machine.specs.Left.{left_in, left}
use Rattle.theory.specs.Cut.{cut, SameAsCut}
use Rattle.theory.proofs.Cut.Entries.{entry_each, entry_stands, entry_order}
use Rattle.theory.proofs.Cut.Searches.{earliest_cut}
use Rattle.theory.proofs.Cut.Logs.{first_cut, last_cut, answer_cut, lost_cut, lines_cut}
use Rattle.theory.proofs.Nobody.{Free}
use Rattle.theory.proofs.Cut.Runs.{state_cut, notes_cut, drops_cut}

pub same_as_cut : (out : ℕ → Bool) (j : Job) → Free j → SameAsCut out j
unfolding idle_at cut drop the_record left
same_as_cut out j free =
    let log = notes_cut out j free in
    record {
      stays = λ i low high. (let s = entry_stands out j.steps i low high in (s.from_one, s.to_last, s.is_in));
      in_order = entry_order out j.steps;
      each = λ s low high. entry_each out s j.steps low high;
      answers = answer_cut log;
      firsts = first_cut log;
      lasts = last_cut log;
      drops = λ o h. earliest_cut out j.steps _ _ (drops_cut out j free o h) j.steps (omega arith);
      lines = lines_cut log j.object j.count j.steps (omega arith);
      rounds = lost_cut log;
      remains = ap (λ (s : State). left_in j.object j.count s.memory) (state_cut out j free j.steps (omega arith));
    }
