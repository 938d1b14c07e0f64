-- `Source::puts` meets its contract. Assumes nothing.
use Rattle.job.proofs.Recorded.{has_record, none_puts}
use Rattle.hands.proofs.Hands.{counts}
use Rattle.hands.proofs.Source.puts.Goals as goal

pub returns-then-self-o : goal.returns-then-self-o
returns-then-self-o c = none_puts _ (counts c.args.self) c.if-self-o.true

pub is_put-requires : goal.is_put-requires
is_put-requires c = has_record _ (counts c.args.self) c.args.self.whole c.if-self-o.false
