-- The line of an operation, by the cells of its row.
use Rattle.std.specs.Prelude.{ℕ, List, ◌++◌}
use Rattle.basics.specs.Choice.{pick, same}
use Rattle.basics.specs.Text.{text, decimal}
use Rattle.rows.specs.Operations.{HasOps, Cells, cells, dropped_mark}
use Rattle.rows.specs.declared.OpColumn.TheVariants.{First, Last, Link, Taken}
use Rattle.job.specs.Stream.{HasRecord}
use Rattle.job.specs.Job.{Job}
use Rattle.machine.specs.Notes.{Answer}
use Rattle.wording.specs.Report.{action_text, answer_text}

-- the answer of an ended operation, by the step at which it linked and the item that it took: done if it linked, else the item, or empty
-- where it took none
unfoldable pub said : ℕ → ℕ → Answer
said link item = pick (same link 0) (pick (same item 0) Answer.empty (Answer.item item)) Answer.done

-- an operation has a row, and its record and its item's are in the stream
pub record InStream (stream ops : List ℕ) (o : ℕ) : Type 0 where
  pub row : HasOps o ops
  pub its_record : HasRecord stream o
  pub item_record : HasRecord stream (cells ops Taken o)

-- the front of an operation's line: `op 1 process 0 put 50`
unfoldable pub front_text : Job → ℕ → List ℕ
front_text j o = text "op " ++ decimal o ++ text " process " ++ decimal (j.owner o) ++ action_text j o

-- the answer of an ended operation: ` done`, ` item 1 value 50`, ` empty`
abbrev pub answer_told : Job → Cells → ℕ → List ℕ
answer_told j c o = answer_text j (said (c Link o) (c Taken o))

-- how an operation that has begun ended, if it did: ` last 4 done`, ` last - open`, ` last - dropped`
unfoldable pub end_told : Job → Cells → ℕ → List ℕ
end_told j c o =
    pick (same (c Last o) 0) (text " last - open")
    (pick (same (c Last o) dropped_mark) (text " last - dropped")
    (text " last " ++ decimal (c Last o) ++ answer_told j c o))

-- how far it has come: ` first 1` and what follows, or ` first - last - waiting`
unfoldable pub progress_told : Job → Cells → ℕ → List ℕ
progress_told j c o =
    pick (same (c First o) 0) (text " first - last - waiting") (text " first " ++ decimal (c First o) ++ end_told j c o)

-- the whole line
unfoldable pub line_told : Job → Cells → ℕ → List ℕ
line_told j c o = front_text j o ++ progress_told j c o ++ text "\n"
