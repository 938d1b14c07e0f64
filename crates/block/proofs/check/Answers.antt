-- `block::check` meets its contract: each test is one of the table's conditions. Assumes nothing.
use Rattle.std.proofs.Common.{sym, ap, ◌∙◌, arith, length-take-le}
use Rattle.block.specs.Block.{block_size, summed_size, payload_size}
use Rattle.block.specs.declared.Sums.{Sums}
use Rattle.block.proofs.Refusal.{sum_a_differs, sum_b_differs, place_differs, good_accepted}
use Rattle.block.proofs.check.Goals as goal

pub slice_bounds-of-end : goal.slice_bounds-of-end
unfolding block_size
slice_bounds-of-end c = sym (length-take-le 508 c.args.b.now (omega arith))

pub returns-then-word_at-s-clause-number : goal.returns-then-word_at-s-clause-number
unfolding summed_size payload_size
returns-then-word_at-s-clause-number c = let p = c.args in
    sum_a_differs p.position p.b.now c.of-s.ensures c.word_at.ensures c.if-word_at-s.true

pub returns-then-word_at-s-2-clause-number : goal.returns-then-word_at-s-2-clause-number
unfolding summed_size payload_size
returns-then-word_at-s-2-clause-number c = let p = c.args in
    sum_b_differs p.position p.b.now c.of-s.ensures c.word_at-2.ensures c.if-word_at-s-2.true

pub returns-then-word_at-position-clause-number : goal.returns-then-word_at-position-clause-number
unfolding summed_size payload_size
returns-then-word_at-position-clause-number c = let p = c.args in
    let own = c.of-s.ensures in
    place_differs p.position p.b.now
    (sym c.word_at.ensures ∙ c.if-word_at-s.false ∙ ap (λ (s : Sums). s.a) own)
    (sym c.word_at-2.ensures ∙ c.if-word_at-s-2.false ∙ ap (λ (s : Sums). s.b) own)
    (λ e. c.if-word_at-position.true (c.word_at-3.ensures ∙ e))

pub returns-clause-number : goal.returns-clause-number
unfolding summed_size payload_size
returns-clause-number c = let own = c.of-s.ensures in
    good_accepted (record {
      sum_a = sym c.word_at.ensures ∙ c.if-word_at-s.false ∙ ap (λ (s : Sums). s.a) own;
      sum_b = sym c.word_at-2.ensures ∙ c.if-word_at-s-2.false ∙ ap (λ (s : Sums). s.b) own;
      place = sym c.word_at-3.ensures ∙ c.if-word_at-position.false;
    })
