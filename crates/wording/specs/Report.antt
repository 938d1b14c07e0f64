-- The report as bytes. Document 01, "The report, whole": operation lines in number order, record lines in step order, then `lost` for a queue,
-- then `left`. "Each line ends in a newline."
use Rattle.std.specs.Prelude.{ℕ, zero, suc, List, [], ◌∷◌, ◌++◌, length}
use Rattle.basics.specs.Choice.{pick, same}
use Rattle.basics.specs.Text.{text, decimal}
use Rattle.stage.specs.Printed.{stage_text}
use Rattle.job.specs.declared.Kind.{Kind}
use Rattle.job.specs.declared.Kind.TheVariants.{Queue, Stack, TwoWay}
use Rattle.job.specs.Job.{Job}
use Rattle.machine.specs.Multiplicity.{Line}
use Rattle.machine.specs.Multiplicity.Line.{put, takes, empty}
use Rattle.machine.specs.Notes.{Answer, note}
use Rattle.machine.specs.Journal.{first, last, answer}
use Rattle.machine.specs.Drops.{drop}
use Rattle.machine.specs.Record.{Recorded, the_record}
use Rattle.machine.specs.Left.{left}
use Rattle.machine.specs.Lost.{lost}

-- `object queue`; "Kind 2 prints `object stack`."; document 02, request 3: "it becomes kind 3, printed `object linked`"
unfoldable pub object_line : Kind → List ℕ
object_line Queue = text "object queue\n"
object_line Stack = text "object stack\n"
object_line TwoWay = text "object linked\n"

-- `put 50` or `take`; "put and value in whole cm"
unfoldable pub action_text : Job → ℕ → List ℕ
action_text j o = pick (j.is_put o) (text " put " ++ stage_text (j.field o)) (text " take")

-- `done`, `item 1 value 50` or "An empty take ends `empty`"
unfoldable pub answer_text : Job → Answer → List ℕ
answer_text j Answer.none = []
answer_text j Answer.done = text " done"
answer_text j (Answer.item n) = text " item " ++ decimal n ++ text " value " ++ stage_text (j.field n)
answer_text j Answer.empty = text " empty"

-- `last 4 done`; "An open one reads `last - open`"; document 02, request 4: "A dropped operation prints `last - dropped`"
unfoldable pub end_text : Job → ℕ → ℕ → List ℕ
end_text j k o =
    pick (same (last (note j) k o) 0) (pick (same (drop j k o) 0) (text "- open") (text "- dropped"))
    (decimal (last (note j) k o) ++ answer_text j (answer (note j) k o))

-- `first 1 last 4 done`; "one not begun `first - last - waiting`."
unfoldable pub progress_text : Job → ℕ → ℕ → List ℕ
progress_text j k o =
    pick (same (first (note j) k o) 0) (text " first - last - waiting")
    (text " first "
    ++ decimal (first (note j) k o)
    ++ text " last "
    ++ end_text j k o)

-- `op 1 process 0 put 50 first 1 last 4 done`
unfoldable pub operation_line : Job → ℕ → ℕ → List ℕ
operation_line j k o =
    text "op "
    ++ decimal o
    ++ text " process "
    ++ decimal (j.owner o)
    ++ action_text j o
    ++ progress_text j k o
    ++ text "\n"

-- "Operation lines in number order": those of operations 1 to o
unfoldable pub operation_lines : Job → ℕ → ℕ → List ℕ
operation_lines j k zero = []
operation_lines j k (suc o) = operation_lines j k o ++ operation_line j k (suc o)

-- numbers, each behind a space
unfoldable pub spaced : List ℕ → List ℕ
spaced [] = []
spaced (x ∷ l) = text " " ++ decimal x ++ spaced l

-- `put 1`, `take 1 by 2 3`, `empty by 1`
unfoldable pub effect_text : Line → List ℕ
effect_text (put o) = text " put " ++ decimal o
effect_text (takes item takers) = text " take " ++ decimal item ++ text " by" ++ spaced takers
effect_text (empty o) = text " empty by " ++ decimal o

-- `at 3 put 1`
unfoldable pub record_line : Recorded → List ℕ
record_line r = text "at " ++ decimal r.step ++ effect_text r.line ++ text "\n"

-- "Record lines in step order"
unfoldable pub record_lines : List Recorded → List ℕ
record_lines [] = []
record_lines (r ∷ l) = record_line r ++ record_lines l

-- `lost 0`; document 02, request 5: "For kind 1 the report gains, before `left`, a line `lost` with the count of such returns in the run."
unfoldable pub lost_line : Kind → ℕ → List ℕ
lost_line Queue n = text "lost " ++ decimal n ++ text "\n"
lost_line Stack n = []
lost_line TwoWay n = []

-- `left 1 3`: "It gives the count, then items front or top first."
unfoldable pub left_line : List ℕ → List ℕ
left_line items = text "left " ++ decimal (length items) ++ spaced items ++ text "\n"

-- the whole report of a job
unfoldable pub report : Job → List ℕ
report j =
    object_line j.object
    ++ operation_lines j j.steps j.count
    ++ record_lines (the_record j j.steps)
    ++ lost_line j.object (lost (note j) j.steps)
    ++ left_line (left j j.steps)
