-- `reader::read` meets its contract: a load, and zeros behind what it left. Assumes nothing.
use Rattle.std.proofs.Common.{◌≤◌, ◌<◌, length, arith}
use Rattle.job.specs.Limits.{most_stream}
use Rattle.reader.proofs.Left.{small_number, small_length, small_left, large_number, large_length, large_left}
use Rattle.reader.proofs.read.Goals as goal

pub returns-then-work-end : goal.returns-then-work-end
returns-then-work-end c = let p = c.args in
    let small : length p.work.now < most_stream p.limits = omega (arith, c.if-work-end.true, c.most_stream-end.ensures) in
    record { number = small_number p.limits p.file.now p.work.now small; size = small_length p.limits p.file.now p.work.now small; work = small_left p.limits p.file.now p.work.now small }

pub returns : goal.returns
returns c = let p = c.args in
    let work = c.load-answer.new.work in
    let answer = c.load-answer.result in
    let loaded = c.load-answer.ensures in
    let large : most_stream p.limits ≤ length p.work.now = omega (arith, c.if-work-end.false, c.most_stream-end.ensures) in
    record {
      number = large_number p.limits p.file.now p.work.now work answer loaded large;
      size = large_length p.limits p.file.now p.work.now work answer loaded large;
      work = large_left p.limits p.file.now p.work.now work answer loaded large c.clear.new.to c.length_of-length.ensures c.most_stream-end.ensures c.load-answer.auto.work c.clear.ensures;
    }
