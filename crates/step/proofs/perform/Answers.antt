-- `step::perform` meets its contract: the arm of an access knows the access, does it and notes it. Two answers an arm, a line each: with the
-- lemmas named on the function instead, the check does not find which access the arm knows. Assumes nothing.
use mathlib.Core.Path.{refl}
use Rattle.step.proofs.Arms.{countable_noted, room, done_noted_counted, done_and_noted}
use Rattle.step.proofs.perform.Goals as goal

pub logged-requires : goal.logged-requires
logged-requires c = room c.in-ReadHead.is (c.read_head.ensures _ _) c.requires.1

pub returns-in-ReadHead : goal.returns-in-ReadHead
returns-in-ReadHead c = done_and_noted c.in-ReadHead.is (c.read_head.ensures _ _) (λ o. refl) _ _ c.logged.ensures

pub logged-requires-in-ReadTail : goal.logged-requires-in-ReadTail
logged-requires-in-ReadTail c = room c.in-ReadTail.is (c.read_tail.ensures _ _) c.requires.1

pub returns-in-ReadTail : goal.returns-in-ReadTail
returns-in-ReadTail c = done_and_noted c.in-ReadTail.is (c.read_tail.ensures _ _) (λ o. refl) _ _ c.logged-in-ReadTail.ensures

pub logged-requires-in-ReadNextOfH : goal.logged-requires-in-ReadNextOfH
logged-requires-in-ReadNextOfH c = room c.in-ReadNextOfH.is (c.read_next_of_h.ensures _) c.requires.1

pub returns-in-ReadNextOfH : goal.returns-in-ReadNextOfH
returns-in-ReadNextOfH c = done_and_noted c.in-ReadNextOfH.is (c.read_next_of_h.ensures _) (λ o. refl) _ _ c.logged-in-ReadNextOfH.ensures

pub logged-requires-in-ReadNextOfT : goal.logged-requires-in-ReadNextOfT
logged-requires-in-ReadNextOfT c = room c.in-ReadNextOfT.is (c.read_next_of_t.ensures _) c.requires.1

pub returns-in-ReadNextOfT : goal.returns-in-ReadNextOfT
returns-in-ReadNextOfT c = done_and_noted c.in-ReadNextOfT.is (c.read_next_of_t.ensures _) (λ o. refl) _ _ c.logged-in-ReadNextOfT.ensures

pub logged-requires-in-Link : goal.logged-requires-in-Link
logged-requires-in-Link c = room c.in-Link.is c.link_own.ensures c.requires.1

pub tried-requires : goal.tried-requires
tried-requires c = countable_noted _ _ _ c.requires.2 c.logged-in-Link.auto.ops c.logged-in-Link.ensures.1

pub returns-in-Link : goal.returns-in-Link
returns-in-Link c = done_noted_counted c.in-Link.is c.link_own.ensures _ _ c.logged-in-Link.ensures c.tried.ensures

pub logged-requires-in-TailToOwn : goal.logged-requires-in-TailToOwn
logged-requires-in-TailToOwn c = room c.in-TailToOwn.is (c.tail_to_own.ensures _) c.requires.1

pub returns-in-TailToOwn : goal.returns-in-TailToOwn
returns-in-TailToOwn c = done_and_noted c.in-TailToOwn.is (c.tail_to_own.ensures _) (λ o. refl) _ _ c.logged-in-TailToOwn.ensures

pub logged-requires-in-TailToN : goal.logged-requires-in-TailToN
logged-requires-in-TailToN c = room c.in-TailToN.is (c.tail_to_n.ensures _ _) c.requires.1

pub helped-requires : goal.helped-requires
helped-requires c = countable_noted _ _ _ c.requires.2 c.logged-in-TailToN.auto.ops c.logged-in-TailToN.ensures.1

pub returns-in-TailToN : goal.returns-in-TailToN
returns-in-TailToN c = done_noted_counted c.in-TailToN.is (c.tail_to_n.ensures _ _) _ _ c.logged-in-TailToN.ensures c.helped.ensures

pub logged-requires-in-HeadToN : goal.logged-requires-in-HeadToN
logged-requires-in-HeadToN c = room c.in-HeadToN.is (c.head_to_n.ensures _ _) c.requires.1

pub returns-in-HeadToN : goal.returns-in-HeadToN
returns-in-HeadToN c = done_and_noted c.in-HeadToN.is (c.head_to_n.ensures _ _) (λ o. refl) _ _ c.logged-in-HeadToN.ensures

pub logged-requires-in-ReadTop : goal.logged-requires-in-ReadTop
logged-requires-in-ReadTop c = room c.in-ReadTop.is (c.read_top.ensures _ _) c.requires.1

pub returns-in-ReadTop : goal.returns-in-ReadTop
returns-in-ReadTop c = done_and_noted c.in-ReadTop.is (c.read_top.ensures _ _) (λ o. refl) _ _ c.logged-in-ReadTop.ensures

pub logged-requires-in-ReadTopToTake : goal.logged-requires-in-ReadTopToTake
logged-requires-in-ReadTopToTake c = room c.in-ReadTopToTake.is (c.read_top_to_take.ensures _ _) c.requires.1

pub returns-in-ReadTopToTake : goal.returns-in-ReadTopToTake
returns-in-ReadTopToTake c = done_and_noted c.in-ReadTopToTake.is (c.read_top_to_take.ensures _ _) (λ o. refl) _ _ c.logged-in-ReadTopToTake.ensures

pub logged-requires-in-ReadMark : goal.logged-requires-in-ReadMark
logged-requires-in-ReadMark c = room c.in-ReadMark.is (c.read_mark.ensures _) c.requires.1

pub returns-in-ReadMark : goal.returns-in-ReadMark
returns-in-ReadMark c = done_and_noted c.in-ReadMark.is (c.read_mark.ensures _) (λ o. refl) _ _ c.logged-in-ReadMark.ensures

pub logged-requires-in-Push : goal.logged-requires-in-Push
logged-requires-in-Push c = room c.in-Push.is c.push.ensures c.requires.1

pub returns-in-Push : goal.returns-in-Push
returns-in-Push c = done_and_noted c.in-Push.is c.push.ensures (λ o. refl) _ _ c.logged-in-Push.ensures

pub logged-requires-in-RaiseMark : goal.logged-requires-in-RaiseMark
logged-requires-in-RaiseMark c = room c.in-RaiseMark.is (c.raise_mark.ensures _) c.requires.1

pub returns-in-RaiseMark : goal.returns-in-RaiseMark
returns-in-RaiseMark c = done_and_noted c.in-RaiseMark.is (c.raise_mark.ensures _) (λ o. refl) _ _ c.logged-in-RaiseMark.ensures

pub logged-requires-in-TopToNext : goal.logged-requires-in-TopToNext
logged-requires-in-TopToNext c = room c.in-TopToNext.is (c.top_to_next.ensures _) c.requires.1

pub returns-in-TopToNext : goal.returns-in-TopToNext
returns-in-TopToNext c = done_and_noted c.in-TopToNext.is (c.top_to_next.ensures _) (λ o. refl) _ _ c.logged-in-TopToNext.ensures

pub logged-requires-in-ReadUpper : goal.logged-requires-in-ReadUpper
logged-requires-in-ReadUpper c = room c.in-ReadUpper.is (c.read_upper.ensures _) c.requires.1

pub returns-in-ReadUpper : goal.returns-in-ReadUpper
returns-in-ReadUpper c = done_and_noted c.in-ReadUpper.is (c.read_upper.ensures _) (λ o. refl) _ _ c.logged-in-ReadUpper.ensures

pub logged-requires-in-ReadUpperToTake : goal.logged-requires-in-ReadUpperToTake
logged-requires-in-ReadUpperToTake c = room c.in-ReadUpperToTake.is (c.read_upper_to_take.ensures _) c.requires.1

pub returns-in-ReadUpperToTake : goal.returns-in-ReadUpperToTake
returns-in-ReadUpperToTake c = done_and_noted c.in-ReadUpperToTake.is (c.read_upper_to_take.ensures _) (λ o. refl) _ _ c.logged-in-ReadUpperToTake.ensures

pub logged-requires-in-LinkAbove : goal.logged-requires-in-LinkAbove
logged-requires-in-LinkAbove c = room c.in-LinkAbove.is c.link_above.ensures c.requires.1

pub returns-in-LinkAbove : goal.returns-in-LinkAbove
returns-in-LinkAbove c = done_and_noted c.in-LinkAbove.is c.link_above.ensures (λ o. refl) _ _ c.logged-in-LinkAbove.ensures

pub logged-requires-in-TopToOwn : goal.logged-requires-in-TopToOwn
logged-requires-in-TopToOwn c = room c.in-TopToOwn.is (c.top_to_own.ensures _) c.requires.1

pub returns-in-TopToOwn : goal.returns-in-TopToOwn
returns-in-TopToOwn c = done_and_noted c.in-TopToOwn.is (c.top_to_own.ensures _) (λ o. refl) _ _ c.logged-in-TopToOwn.ensures

pub logged-requires-in-TopToN : goal.logged-requires-in-TopToN
logged-requires-in-TopToN c = room c.in-TopToN.is (c.top_to_n.ensures _ _) c.requires.1

pub returns-in-TopToN : goal.returns-in-TopToN
returns-in-TopToN c = done_and_noted c.in-TopToN.is (c.top_to_n.ensures _ _) (λ o. refl) _ _ c.logged-in-TopToN.ensures

pub logged-requires-in-Cut : goal.logged-requires-in-Cut
logged-requires-in-Cut c = room c.in-Cut.is (c.cut.ensures _) c.requires.1

pub returns-in-Cut : goal.returns-in-Cut
returns-in-Cut c = done_and_noted c.in-Cut.is (c.cut.ensures _) (λ o. refl) _ _ c.logged-in-Cut.ensures

pub logged-requires-in-ClearFlag : goal.logged-requires-in-ClearFlag
logged-requires-in-ClearFlag c = room c.in-ClearFlag.is (c.clear_flag.ensures _) c.requires.1

pub returns-in-ClearFlag : goal.returns-in-ClearFlag
returns-in-ClearFlag c = done_and_noted c.in-ClearFlag.is (c.clear_flag.ensures _) (λ o. refl) _ _ c.logged-in-ClearFlag.ensures
