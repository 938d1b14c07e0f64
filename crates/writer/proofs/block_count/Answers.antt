-- `writer::block_count` meets its contract: the conditions in the table's order. Assumes nothing.
use Rattle.std.proofs.Common.{refl, ap, ◌∙◌, arith}
use Rattle.job.specs.Stream.{stream_length}
use Rattle.job.specs.Refusals.{first_met, header_conditions, list_conditions}
use Rattle.job.proofs.Answered.{refusal_counts, passed_on}
use Rattle.writer.proofs.Decided.{room_decides, past_room, short_decides, past_short, header_decides, past_header, length_decides, past_length}
use Rattle.writer.proofs.block_count.Goals as goal

pub returns-then-room-most-clause-number : goal.returns-then-room-most-clause-number
returns-then-room-most-clause-number c = λ out e. room_decides _ _ out (omega (arith, c.most_file-most.ensures))

pub returns-then-s-lt6-clause-number : goal.returns-then-s-lt6-clause-number
returns-then-s-lt6-clause-number c = let p = c.args in
    λ out e. past_room p.limits p.s.now out (omega (arith, c.most_file-most.ensures)) (short_decides p.limits p.s.now c.if-s-lt6.true)

pub returns-in_err-header-clause-number : goal.returns-in_err-header-clause-number
returns-in_err-header-clause-number c = let p = c.args in
    let told = c.in_err-header.ensures ∙ ap (λ s. first_met (header_conditions p.limits s)) c.over-stream.ensures in
    λ out e. past_room p.limits p.s.now out (omega (arith, c.most_file-most.ensures))
    (past_short p.limits p.s.now c.if-s-lt6.false (passed_on _ _ c.from_residual.ensures.1 ∙ header_decides p.limits p.s.now told (refusal_counts _)))

pub returns-then-s-stream_length-clause-number : goal.returns-then-s-stream_length-clause-number
returns-then-s-stream_length-clause-number c = let p = c.args in
    let told = c.in_ok-header.ensures ∙ ap (λ s. first_met (header_conditions p.limits s)) c.over-stream.ensures in
    let size = c.stream_length.ensures ∙ ap stream_length c.over-stream.ensures in
    λ out e. past_room p.limits p.s.now out (omega (arith, c.most_file-most.ensures))
    (past_short p.limits p.s.now c.if-s-lt6.false
    (past_header p.limits p.s.now told refl (length_decides p.s.now size c.if-s-stream_length.true)))

pub returns-in_err-lists-clause-number : goal.returns-in_err-lists-clause-number
returns-in_err-lists-clause-number c = let p = c.args in
    let told = c.in_ok-header.ensures ∙ ap (λ s. first_met (header_conditions p.limits s)) c.over-stream.ensures in
    let size = c.stream_length.ensures ∙ ap stream_length c.over-stream.ensures in
    let lists = c.in_err-lists.ensures ∙ ap (λ s. first_met (list_conditions s)) c.over-stream.ensures in
    λ out e. past_room p.limits p.s.now out (omega (arith, c.most_file-most.ensures))
    (past_short p.limits p.s.now c.if-s-lt6.false
    (past_header p.limits p.s.now told refl (past_length p.s.now size c.if-s-stream_length.false (passed_on _ _ c.from_residual-in_err-lists.ensures.1 ∙ lists))))

pub returns-clause-number : goal.returns-clause-number
returns-clause-number c = let p = c.args in
    let told = c.in_ok-header.ensures ∙ ap (λ s. first_met (header_conditions p.limits s)) c.over-stream.ensures in
    let size = c.stream_length.ensures ∙ ap stream_length c.over-stream.ensures in
    let lists = c.in_ok-lists.ensures ∙ ap (λ s. first_met (list_conditions s)) c.over-stream.ensures in
    λ out e. past_room p.limits p.s.now out (omega (arith, c.most_file-most.ensures))
    (past_short p.limits p.s.now c.if-s-lt6.false
    (past_header p.limits p.s.now told refl (past_length p.s.now size c.if-s-stream_length.false lists)))
