-- Lost rounds. Document 02, request 5: "A lost round is a return to Q1 or T1. […] the count of such returns in the run. It must equal the
-- count by the step table". What it is held against: `Bounded.antt` of crate theory.
use Rattle.std.specs.Prelude.{ℕ, zero, suc, ◌+◌, Bool, true, false}
use Rattle.basics.specs.Choice.{pick}
use Rattle.machine.specs.declared.Access.{Access}
use Rattle.machine.specs.declared.Access.TheVariants.{ReadHead, ReadTail, ReadNextOfH, ReadNextOfT, Link, TailToOwn, TailToN, HeadToN, ReadTop, ReadTopToTake, ReadMark, Push, RaiseMark, TopToNext, ReadUpper, ReadUpperToTake, LinkAbove, TopToOwn, TopToN, Cut, ClearFlag}
use Rattle.machine.specs.declared.Outcome.{Outcome}
use Rattle.machine.specs.declared.Outcome.TheVariants.{Yes, No, Bare}
use Rattle.machine.specs.Notes.{Note}

-- how many of the steps 1 to k meet a test
unfoldable pub tally : (ℕ → Bool) → ℕ → ℕ
tally f zero = 0
tally f (suc k) = tally f k + pick (f (suc k)) 1 0

-- the returns to Q1 or T1 among the first k steps: by the step table, since a step is noted to go back if its row's successor is one of the two
unfoldable pub lost : (ℕ → Note) → ℕ → ℕ
lost log k = tally (λ s. (log s).back) k

-- the steps that go back are a Q3 that fails, a Q5 and a T4, and no other (`Returns.antt` in proofs/ proves it): Q3 alone links, Q5 and T4 alone set
-- Tail to n. An access by how it came out; one that found the object empty ends
abbrev pub goes_back : Access → Outcome → Bool
goes_back ReadHead o = false
goes_back ReadTail o = false
goes_back ReadNextOfH o = false
goes_back ReadNextOfT o = false
goes_back Link Yes = false
goes_back Link No = true
goes_back Link Bare = false
goes_back TailToOwn o = false
goes_back TailToN Yes = true
goes_back TailToN No = true
goes_back TailToN Bare = false
goes_back HeadToN o = false
goes_back ReadTop o = false
goes_back ReadTopToTake o = false
goes_back ReadMark o = false
goes_back Push o = false
goes_back RaiseMark o = false
goes_back TopToNext o = false
goes_back ReadUpper o = false
goes_back ReadUpperToTake o = false
goes_back LinkAbove o = false
goes_back TopToOwn o = false
goes_back TopToN o = false
goes_back Cut o = false
goes_back ClearFlag o = false
