-- What a run leaves gives each part of its report, and the parts are the whole. Assumes nothing.
use mathlib.Core.Path.{◌≡◌, refl, sym, ap, subst, ◌∙◌}
use Prim.Native.Nat.{ℕ, ◌+◌, ◌≤◌, ◌<◌}
use native.Mathlib.Nat.{zero-add}
use native.Mathlib.Omega.{arith}
use mathlib.Core.List.{List, ◌++◌, append_assoc}
use lib.ListN.{length, take}
use lib.Seq.{length-take-le}
use Rattle.basics.specs.Maps.{at}
use Rattle.rows.specs.Nodes.{HasNodes}
use Rattle.rows.specs.Operations.{cells, dropped_mark}
use Rattle.text.specs.Laid.{laid}
use Rattle.text.specs.declared.Page.{Page}
use Rattle.std.specs.Borrow.{MutBor}
use Rattle.text.specs.Pages.{Opens, HasRoom, Wrote}
use Rattle.text.proofs.Pages.{room_of, within}
use Rattle.job.specs.declared.Heading.{Heading}
use Rattle.job.specs.Job.{Job, heading_of}
use Rattle.machine.specs.declared.Finish.{Finish}
use Rattle.machine.specs.Record.{the_record}
use Rattle.wording.specs.Report.{object_line, operation_lines, record_lines, lost_line, left_line, report}
use Rattle.journal.specs.Journal.{Agrees}
use Rattle.lines.specs.Members.{first_node, left_from, NodesThere, UppersThere}
use Rattle.report.specs.Found.{found_lines, Within}
use Rattle.report.specs.Reported.{Leaves, Reported}
use Rattle.report.proofs.Facts.{all_lines_to_reach}
use Rattle.report.proofs.Found.{maker_within, lines_held}
use Rattle.report.proofs.Operations.{item_in_range}
use Rattle.report.proofs.Left.{head_within, nodes_held, uppers_held, left_held}

-- where the items that are left begin has a row
pub head_there : {j : Job} {h : Heading} {ops by nodes : List ℕ} {end : Finish} → Leaves j h ops by nodes end → HasNodes end.object.head nodes
head_there {j} {h} {nodes} {end} l =
    omega (arith, head_within j h.steps end.object.head end.object.tail end.object.top nodes l.memory, ap (λ (x : Heading). x.count) l.heading, l.has_nodes)

-- and so has every node on the way up from the sentinel
pub uppers_there : {j : Job} {h : Heading} {ops by nodes : List ℕ} {end : Finish} → Leaves j h ops by nodes end → UppersThere nodes h.count
uppers_there {j} {h} {nodes} {end} l =
    let count : h.count ≡ j.count = ap (λ (x : Heading). x.count) l.heading in
    subst (UppersThere nodes) (sym count) (uppers_held j h.steps end.object.head end.object.tail end.object.top nodes l.memory (omega (arith, count, l.has_nodes)))

-- what the parts of a report ask, and that they are the whole in their order
pub record Parts (j : Job) (h : Heading) (ops by nodes : List ℕ) (reach lost node : ℕ) : Type 0 where
  pub count : h.count ≡ j.count
  pub short : j.steps < dropped_mark
  pub agrees : Agrees j j.steps (cells ops)
  pub within : Within ops by h.count reach
  pub nodes_there : NodesThere nodes h.count node
  pub whole : object_line h.object ++ operation_lines j j.steps h.count ++ record_lines (found_lines (cells ops) (at by) h.count reach) ++ (lost_line h.object lost ++ left_line (left_from h.object nodes node h.count)) ≡ report j

-- of the job's own heading
parts_of_job : (j : Job) {ops by nodes : List ℕ} {end : Finish} → Leaves j (heading_of j) ops by nodes end → Parts j (heading_of j) ops by nodes end.reach.0 end.lost (first_node j.object nodes end.object.head end.object.top j.count)
unfolding report the_record
parts_of_job j {ops} {by} {nodes} {end} l =
    record {
      count = refl;
      short = l.short;
      agrees = l.journal.agrees;
      within = record {
        has_ops = l.has_ops;
        has_steps = omega (arith, l.has_steps, l.behind.within);
        makers = λ s low high. maker_within j l.journal s low (omega (arith, l.behind.within));
        items = λ o low high. item_in_range j j.steps l.journal.agrees o (record { from_one = low; to_count = high });
      };
      nodes_there = nodes_held j j.steps end.object.head end.object.tail end.object.top nodes l.memory l.has_nodes;
      whole =
          let lines = lines_held j l.journal l.short end.reach.0 l.behind.within ∙ all_lines_to_reach j l.behind in
          let items = left_held j j.steps end.object.head end.object.tail end.object.top nodes l.memory in
          (λ i. object_line j.object ++ operation_lines j j.steps j.count ++ record_lines (lines i) ++ (lost_line j.object (l.lost i) ++ left_line (items i)))
          ∙ simp append_assoc;
    }

pub parts : {j : Job} {h : Heading} {ops by nodes : List ℕ} {end : Finish} {node : ℕ} → Leaves j h ops by nodes end → node ≡ first_node h.object nodes end.object.head end.object.top h.count → Parts j h ops by nodes end.reach.0 end.lost node
parts {j} {h} {ops} {by} {nodes} {end} l first =
    subst (Parts j h ops by nodes end.reach.0 end.lost) (sym first)
    (subst (λ (x : Heading). Parts j x ops by nodes end.reach.0 end.lost (first_node x.object nodes end.object.head end.object.top x.count)) (sym l.heading) (parts_of_job j (subst (λ (x : Heading). Leaves j x ops by nodes end) l.heading l)))

-- a page on a memory as long as the report has room for its parts
pub room_there : {j : Job} {h : Heading} {ops by nodes : List ℕ} {reach lost node : ℕ} {memory : MutBor (List ℕ)} {p : Page} → Parts j h ops by nodes reach lost node → Opens memory p → length (report j) ≤ length memory.now → HasRoom p (object_line h.object ++ operation_lines j j.steps h.count ++ record_lines (found_lines (cells ops) (at by) h.count reach) ++ (lost_line h.object lost ++ left_line (left_from h.object nodes node h.count)))
room_there all opens room =
    room_of all.whole (record { room = omega (arith, opens.start, ap length opens.blank, room) })

-- a page that was begun on a memory, and is given back, tells what it holds
pub reported : {p q : Page} {memory : MutBor (List ℕ)} {after shown text bytes : List ℕ} → Opens memory p → Wrote p q text → text ≡ bytes → after ≡ q.memory.now → shown ≡ take q.at q.memory.now → Reported memory.now after (length shown) bytes
reported {p} {q} {memory} {shown = shown} {text = text} opens w e back all =
    let end : q.at ≡ length text = w.behind ∙ ap (λ (n : ℕ). n + length text) opens.start ∙ zero-add (length text) in
    let told : length shown ≡ length text = ap length all ∙ length-take-le q.at q.memory.now (within w) ∙ end in
    record {
      writes = back ∙ w.lays ∙ ap (λ (n : ℕ). laid p.memory.now n text) opens.start ∙ ap (λ (m : List ℕ). laid m 0 text) opens.blank ∙ ap (laid memory.now 0) e;
      tells = told ∙ ap length e;
    }
