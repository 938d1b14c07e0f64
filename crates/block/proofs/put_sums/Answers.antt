-- `block::put_sums` meets its contract: one word, and the other on the part behind it. Assumes nothing.
use Rattle.std.proofs.Common.{refl, arith}
use Rattle.basics.specs.Words.{word_bytes}
use Rattle.memory.proofs.Over.{over_behind}
use Rattle.block.proofs.put_sums.Goals as goal

pub returns : goal.returns
unfolding word_bytes
returns c = let p = c.args in
    over_behind p.to.now (word_bytes p.s.a) (word_bytes p.s.b) c.put_word.new.to c.put_word-2.new.to 2 c.put_word.ensures refl (omega arith) c.put_word-2.ensures
