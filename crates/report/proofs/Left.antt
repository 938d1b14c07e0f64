-- What is left, as the nodes' rows say it, is what the definition says. Assumes nothing.
use mathlib.Core.Path.{◌≡◌, refl, sym, ap, subst, ◌∙◌}
use Prim.Native.Nat.{ℕ, ◌≤◌}
use native.Mathlib.Omega.{arith}
use mathlib.Core.List.{List}
use lib.ListN.{length-reverse}
use Rattle.rows.specs.Nodes.{HasNodes, nexts, marks, uppers}
use Rattle.job.specs.declared.Kind.{Kind}
use Rattle.job.specs.declared.Kind.TheVariants.{Queue, Stack, TwoWay}
use Rattle.job.specs.Job.{Job}
use Rattle.machine.specs.Run.{state_after}
use Rattle.machine.specs.Effects.{sift}
use Rattle.machine.specs.Left.{walk, left_in, left}
use Rattle.machine.proofs.Lists.{sift_all}
use Rattle.machine.proofs.Bounds.{MemoryWithin, within}
use Rattle.access.specs.Nodes.{memory_of}
use Rattle.theory.proofs.Course.{Course}
use Rattle.theory.proofs.Operations.{course}
use Rattle.theory.proofs.Operations.Locals.{memory}
use Rattle.theory.proofs.TwoWay.{Left, two_way_left}
use Rattle.lines.specs.Members.{climb, first_node, stays, left_from, NodesThere, UppersThere}
use Rattle.report.proofs.Climb.{climb_within, climb_top}

-- a two-way linked stack, whose nodes down from the uppermost are those upward from the sentinel
left_two_way : (count head tail top : ℕ) (nodes : List ℕ) → Left count (memory_of head tail top nodes) → left_from TwoWay nodes (climb (uppers nodes) 0 count) count ≡ left_in TwoWay count (memory_of head tail top nodes)
unfolding left_from stays memory_of
left_two_way count head tail top nodes l =
    ap (λ i. left_from TwoWay nodes i count) (climb_top l.list count l.up (omega (arith, l.few, length-reverse l.list)))
    ∙ ap (sift (λ i. stays TwoWay (marks nodes i))) l.down
    ∙ sym l.left

-- the definition's items, by one test for every object
left_tested : (kind : Kind) (c : Course kind) (k head tail top : ℕ) (nodes : List ℕ) → memory_of head tail top nodes ≡ c.memory k → left_from kind nodes (first_node kind nodes head top c.count) c.count ≡ left_in kind c.count (memory_of head tail top nodes)
unfolding left_from left_in first_node stays memory_of
left_tested Queue c k head tail top nodes m = sift_all (λ i. stays Queue (marks nodes i)) (walk (nexts nodes) (nexts nodes head) c.count) (λ x p. refl)
left_tested Stack c k head tail top nodes m = refl
left_tested TwoWay c k head tail top nodes m = left_two_way c.count head tail top nodes (subst (Left c.count) (sym m) (two_way_left c k))

first_within : (object : Kind) (n head tail top : ℕ) (nodes : List ℕ) → MemoryWithin n (memory_of head tail top nodes) → first_node object nodes head top n ≤ n
unfolding first_node memory_of
first_within Queue n head tail top nodes w = w.next head
first_within Stack n head tail top nodes w = w.top
first_within TwoWay n head tail top nodes w = climb_within n w.upper (omega arith)

-- rows that hold the memory of a job after k steps
module _ (j : Job) (k : ℕ) (head tail top : ℕ) (nodes : List ℕ) (m : memory_of head tail top nodes ≡ (state_after j k).memory) where
  memory_within : MemoryWithin j.count (memory_of head tail top nodes)
  memory_within = subst (MemoryWithin j.count) (sym m) (within j k).memory

  pub head_within : head ≤ j.count
  unfolding memory_of
  head_within = memory_within.head

  -- the walk stays within the rows
  pub nodes_held : HasNodes j.count nodes → NodesThere nodes j.count (first_node j.object nodes head top j.count)
  unfolding memory_of
  nodes_held has =
      record { has_nodes = has; within = memory_within.next; first = first_within j.object j.count head tail top nodes memory_within }

  -- so does the climb
  pub uppers_held : HasNodes j.count nodes → UppersThere nodes j.count
  unfolding memory_of
  uppers_held has = record { has_nodes = has; within = memory_within.upper }

  pub left_held : left_from j.object nodes (first_node j.object nodes head top j.count) j.count ≡ left j k
  unfolding left memory
  left_held = left_tested j.object (course j) k head tail top nodes m ∙ ap (left_in j.object j.count) m
