-- Traces, as one table of jobs and whole reports: those that document 01 marks M ("M is proved"), as document 02 has them, and behind them
-- twenty-four of our own, so that every outcome of every row happens in some trace: seven of them are of the two-way linked stack, seven of drops and
-- five of lost rounds, of which document 02 has no trace. The reports are worked out from the papers by hand.
-- `traces_proved` of `proofs/TracesProved.antt` says that the definitions accept every job and give its report, by computation; `bounds_proved`, what the traces of lost rounds could lose at most.
use Rattle.std.specs.Prelude.{ℕ, ◌-◌, List, [], ◌∷◌}
use Prim.Native.String.{String}
use Rattle.basics.specs.Text.{text}
use Rattle.job.specs.Limits.{field}
use Rattle.job.specs.Stream.{processes, schedule_length}
use Rattle.job.specs.File.{file_of, file_refusal}
use Rattle.job.specs.Job.{job_of}
use Rattle.job.specs.Examples.{put, take, stream}
use Rattle.theory.specs.Bounded.{most_lost}
use Rattle.wording.specs.Report.{report}

-- a job, as its stream, and its whole report
pub record Trace : Type 0 where
  pub job : List ℕ
  pub expected : String

-- the value field of a stage so many mm below the datum, in two's complement
unfoldable pub below : ℕ → ℕ
below mm = 65536 - mm

unfoldable pub traces : List Trace
traces =
    -- "M the report above."
    record {
      job = stream 1 3 (put 0 500 ∷ take 1 ∷ take 2 ∷ []) (0 ∷ 0 ∷ 0 ∷ 0 ∷ 1 ∷ 2 ∷ 1 ∷ 2 ∷ 1 ∷ 2 ∷ 1 ∷ 2 ∷ []);
      expected = "object queue\nop 1 process 0 put 50 first 1 last 4 done\nop 2 process 1 take first 5 last 11 item 1 value 50\nop 3 process 2 take first 6 last 12 item 1 value 50\nat 3 put 1\nat 11 take 1 by 2 3\nlost 0\nleft 0\n";
    }
    -- "M queue, one take, schedule 0 0 0: empty, first 1, last 3, `at 1 empty by 1`."
    ∷ record {
      job = stream 1 1 (take 0 ∷ []) (0 ∷ 0 ∷ 0 ∷ []);
      expected = "object queue\nop 1 process 0 take first 1 last 3 empty\nat 1 empty by 1\nlost 0\nleft 0\n";
    }
    -- "M queue, one put, 0 0 0: open, `at 3 put 1`, `left 1 1`."
    ∷ record {
      job = stream 1 1 (put 0 500 ∷ []) (0 ∷ 0 ∷ 0 ∷ []);
      expected = "object queue\nop 1 process 0 put 50 first 1 last - open\nat 3 put 1\nlost 0\nleft 1 1\n";
    }
    -- "M S = 0: all waiting, no record, `left 0`.", for each object
    ∷ record {
      job = stream 1 2 (put 0 500 ∷ take 1 ∷ []) [];
      expected = "object queue\nop 1 process 0 put 50 first - last - waiting\nop 2 process 1 take first - last - waiting\nlost 0\nleft 0\n";
    }
    ∷ record {
      job = stream 2 2 (put 0 500 ∷ take 1 ∷ []) [];
      expected = "object stack\nop 1 process 0 put 50 first - last - waiting\nop 2 process 1 take first - last - waiting\nleft 0\n";
    }
    ∷ record {
      job = stream 3 2 (put 0 500 ∷ take 1 ∷ []) [];
      expected = "object linked\nop 1 process 0 put 50 first - last - waiting\nop 2 process 1 take first - last - waiting\nleft 0\n";
    }
    -- "M stack; 1 process 0 put; 2 process 1 take; 3 process 0 put; 0 0 1 1 0 0 0 1 1: take 2 gets item 1; `at 2 put 1`, `at 3 take 1 by 2`,
    -- `at 7 put 3`, `left 1 3`."
    ∷ record {
      job = stream 2 2 (put 0 500 ∷ take 1 ∷ put 0 700 ∷ []) (0 ∷ 0 ∷ 1 ∷ 1 ∷ 0 ∷ 0 ∷ 0 ∷ 1 ∷ 1 ∷ []);
      expected = "object stack\nop 1 process 0 put 50 first 1 last 2 done\nop 2 process 1 take first 3 last 9 item 1 value 50\nop 3 process 0 put 70 first 5 last 7 done\nat 2 put 1\nat 3 take 1 by 2\nat 7 put 3\nleft 1 3\n";
    }
    -- "M stack; put, takes 2 and 3 on processes 1, 2; 0 0 1 1 2 2 1 1 2 2: `at 5 take 1 by 2 3`."
    ∷ record {
      job = stream 2 3 (put 0 500 ∷ take 1 ∷ take 2 ∷ []) (0 ∷ 0 ∷ 1 ∷ 1 ∷ 2 ∷ 2 ∷ 1 ∷ 1 ∷ 2 ∷ 2 ∷ []);
      expected = "object stack\nop 1 process 0 put 50 first 1 last 2 done\nop 2 process 1 take first 3 last 8 item 1 value 50\nop 3 process 2 take first 5 last 10 item 1 value 50\nat 2 put 1\nat 5 take 1 by 2 3\nleft 0\n";
    }
    -- "M same, 0 0 1 1 2 1 2 2 2 1: `at 3 take 1 by 2`, `at 9 empty by 3`."
    ∷ record {
      job = stream 2 3 (put 0 500 ∷ take 1 ∷ take 2 ∷ []) (0 ∷ 0 ∷ 1 ∷ 1 ∷ 2 ∷ 1 ∷ 2 ∷ 2 ∷ 2 ∷ 1 ∷ []);
      expected = "object stack\nop 1 process 0 put 50 first 1 last 2 done\nop 2 process 1 take first 3 last 10 item 1 value 50\nop 3 process 2 take first 5 last 9 empty\nat 2 put 1\nat 3 take 1 by 2\nat 9 empty by 3\nleft 0\n";
    }
    -- "M 504 prints 50, 505 prints 51, 65,535 prints 6554.", where document 02, request 1, has: "505 mm prints 50, 515 prints 52"; and request 2:
    -- "The 65,535 trace of document 01 goes"
    ∷ record {
      job = stream 1 1 (put 0 504 ∷ put 0 505 ∷ put 0 515 ∷ []) (0 ∷ 0 ∷ 0 ∷ 0 ∷ 0 ∷ 0 ∷ 0 ∷ 0 ∷ 0 ∷ 0 ∷ 0 ∷ 0 ∷ []);
      expected = "object queue\nop 1 process 0 put 50 first 1 last 4 done\nop 2 process 0 put 50 first 5 last 8 done\nop 3 process 0 put 52 first 9 last 12 done\nat 3 put 1\nat 7 put 2\nat 11 put 3\nlost 0\nleft 3 1 2 3\n";
    }
    -- Document 02, request 2: "−5 prints 0, −15 prints −2, −25 prints −2. The field 65,535 now means −1 and prints 0."
    ∷ record {
      job = stream 1 1 (put 0 (below 5) ∷ put 0 (below 15) ∷ put 0 (below 25) ∷ put 0 65535 ∷ []) (0 ∷ 0 ∷ 0 ∷ 0 ∷ 0 ∷ 0 ∷ 0 ∷ 0 ∷ 0 ∷ 0 ∷ 0 ∷ 0 ∷ 0 ∷ 0 ∷ 0 ∷ 0 ∷ []);
      expected = "object queue\nop 1 process 0 put 0 first 1 last 4 done\nop 2 process 0 put -2 first 5 last 8 done\nop 3 process 0 put -2 first 9 last 12 done\nop 4 process 0 put 0 first 13 last 16 done\nat 3 put 1\nat 7 put 2\nat 11 put 3\nat 15 put 4\nlost 0\nleft 4 1 2 3 4\n";
    }
    -- "−32,768 to 32,767 mm": both ends, and a half beside one of them
    ∷ record {
      job = stream 1 1 (put 0 (below 32768) ∷ put 0 (below 32765) ∷ put 0 32767 ∷ []) (0 ∷ 0 ∷ 0 ∷ 0 ∷ 0 ∷ 0 ∷ 0 ∷ 0 ∷ 0 ∷ 0 ∷ 0 ∷ 0 ∷ []);
      expected = "object queue\nop 1 process 0 put -3277 first 1 last 4 done\nop 2 process 0 put -3276 first 5 last 8 done\nop 3 process 0 put 3277 first 9 last 12 done\nat 3 put 1\nat 7 put 2\nat 11 put 3\nlost 0\nleft 3 1 2 3\n";
    }
    -- From here on the traces are our own.
    -- Queue puts that help and that come too late: Q2 that reads a node, Q3 that fails, Q5 that moves Tail and Q5 that finds it moved, Q4 that
    -- finds it moved. Process 3 has no operation, so step 1 is idle; process 0 has none left at step 18.
    -- 2 fails its Q3 at step 7 and helps: Q1 Q2 Q5, then Q1 Q2 Q3 Q4. 3 stands at Q5 until Tail is at node 2: Q1 Q2, Q5 Q1 Q2 Q3 Q4.
    ∷ record {
      job = stream 1 4 (put 0 500 ∷ put 1 510 ∷ put 2 520 ∷ []) (3 ∷ 0 ∷ 0 ∷ 1 ∷ 1 ∷ 0 ∷ 1 ∷ 1 ∷ 1 ∷ 2 ∷ 2 ∷ 1 ∷ 1 ∷ 1 ∷ 1 ∷ 1 ∷ 0 ∷ 0 ∷ 2 ∷ 2 ∷ 2 ∷ 2 ∷ 2 ∷ []);
      expected = "object queue\nop 1 process 0 put 50 first 2 last 17 done\nop 2 process 1 put 51 first 4 last 16 done\nop 3 process 2 put 52 first 10 last 23 done\nat 6 put 1\nat 15 put 2\nat 22 put 3\nlost 3\nleft 3 1 2 3\n";
    }
    -- A queue take that helps: T3 that reads a node behind h = t, T4 that moves Tail, then T1 T2 T3 T5. Put 3 finds Tail moved; take 4 runs T5 for
    -- item 1 before take 2 does, whose own T5 comes when Head is two nodes further. 505 mm, taken, is 50; the two readings are equal,
    -- the items are not.
    ∷ record {
      job = stream 1 3 (put 0 505 ∷ take 1 ∷ put 2 505 ∷ take 2 ∷ take 2 ∷ []) (0 ∷ 0 ∷ 0 ∷ 1 ∷ 1 ∷ 1 ∷ 1 ∷ 2 ∷ 2 ∷ 2 ∷ 2 ∷ 1 ∷ 1 ∷ 1 ∷ 2 ∷ 2 ∷ 2 ∷ 2 ∷ 2 ∷ 2 ∷ 2 ∷ 2 ∷ 1 ∷ 0 ∷ []);
      expected = "object queue\nop 1 process 0 put 50 first 1 last 24 done\nop 2 process 1 take first 4 last 23 item 1 value 50\nop 3 process 2 put 50 first 8 last 11 done\nop 4 process 2 take first 15 last 18 item 1 value 50\nop 5 process 2 take first 19 last 22 item 3 value 50\nat 3 put 1\nat 10 put 3\nat 18 take 1 by 2 4\nat 22 take 3 by 5\nlost 1\nleft 0\n";
    }
    -- A queue take whose T4 finds Tail moved, and that goes round to find the queue empty: its line stands at its last T1, step 13.
    -- 15 mm below the datum, taken, is -2.
    ∷ record {
      job = stream 1 3 (put 0 (below 15) ∷ take 1 ∷ take 2 ∷ []) (0 ∷ 0 ∷ 0 ∷ 1 ∷ 1 ∷ 1 ∷ 0 ∷ 2 ∷ 2 ∷ 2 ∷ 2 ∷ 1 ∷ 1 ∷ 1 ∷ 1 ∷ []);
      expected = "object queue\nop 1 process 0 put -2 first 1 last 7 done\nop 2 process 1 take first 4 last 15 empty\nop 3 process 2 take first 8 last 11 item 1 value -2\nat 3 put 1\nat 11 take 1 by 3\nat 13 empty by 2\nlost 1\nleft 0\n";
    }
    -- Stack puts that meet a mark: P2 that reads it raised, P4 that moves Top (3) and P4 that finds it moved (4), P3 that fails (4). 3 goes on with
    -- P1 P3, 4 with P1 P3 P1 P2 P3. Take 2 stays open behind its R3; two items are left.
    ∷ record {
      job = stream 2 4 (put 0 500 ∷ take 1 ∷ put 2 600 ∷ put 3 700 ∷ []) (0 ∷ 0 ∷ 1 ∷ 1 ∷ 1 ∷ 2 ∷ 2 ∷ 3 ∷ 3 ∷ 2 ∷ 3 ∷ 2 ∷ 3 ∷ 2 ∷ 3 ∷ 3 ∷ 3 ∷ 3 ∷ []);
      expected = "object stack\nop 1 process 0 put 50 first 1 last 2 done\nop 2 process 1 take first 3 last - open\nop 3 process 2 put 60 first 6 last 14 done\nop 4 process 3 put 70 first 8 last 18 done\nat 2 put 1\nat 3 take 1 by 2\nat 14 put 3\nat 18 put 4\nleft 2 4 3\n";
    }
    -- Stack takes that meet a mark: R5 that moves Top (4) and R5 that finds it moved (5), each then R1 R2 R3 R4. R3 by 6, 5, 4 in this order, and
    -- the line stands at the R1 of 5, the latest of the three. The R4 of 6 moves Top, so take 7 reads none. 515 mm, taken, is 52.
    ∷ record {
      job = stream 2 4 (put 0 500 ∷ put 0 515 ∷ take 1 ∷ take 2 ∷ take 3 ∷ take 1 ∷ take 0 ∷ []) (0 ∷ 0 ∷ 0 ∷ 0 ∷ 0 ∷ 1 ∷ 1 ∷ 1 ∷ 2 ∷ 2 ∷ 3 ∷ 3 ∷ 2 ∷ 3 ∷ 1 ∷ 2 ∷ 2 ∷ 1 ∷ 1 ∷ 3 ∷ 3 ∷ 1 ∷ 3 ∷ 2 ∷ 1 ∷ 0 ∷ 3 ∷ 2 ∷ []);
      expected = "object stack\nop 1 process 0 put 50 first 1 last 2 done\nop 2 process 0 put 52 first 3 last 5 done\nop 3 process 1 take first 6 last 15 item 2 value 52\nop 4 process 2 take first 9 last 28 item 1 value 50\nop 5 process 3 take first 11 last 27 item 1 value 50\nop 6 process 1 take first 18 last 25 item 1 value 50\nop 7 process 0 take first 26 last 26 empty\nat 2 put 1\nat 5 put 2\nat 6 take 2 by 3\nat 20 take 1 by 4 5 6\nat 26 empty by 7\nleft 0\n";
    }
    -- A two-way linked stack alone: a take that finds nothing, W1 W2; a put, V1 V2 V3 V4 V5; a take, W1 W2 W3 W4 W5 W6.
    ∷ record {
      job = stream 3 1 (take 0 ∷ put 0 500 ∷ take 0 ∷ []) (0 ∷ 0 ∷ 0 ∷ 0 ∷ 0 ∷ 0 ∷ 0 ∷ 0 ∷ 0 ∷ 0 ∷ 0 ∷ 0 ∷ 0 ∷ []);
      expected = "object linked\nop 1 process 0 take first 1 last 2 empty\nop 2 process 0 put 50 first 3 last 7 done\nop 3 process 0 take first 8 last 13 item 2 value 50\nat 2 empty by 1\nat 6 put 2\nat 11 take 2 by 3\nleft 0\n";
    }
    -- Two takers of one item, a step each in turn: both pass W4, and the line stands at the first W4, step 12. The second finds the sentinel's upper gone at W5
    -- and Top moved at W6.
    ∷ record {
      job = stream 3 3 (put 0 500 ∷ take 1 ∷ take 2 ∷ []) (0 ∷ 0 ∷ 0 ∷ 0 ∷ 0 ∷ 1 ∷ 2 ∷ 1 ∷ 2 ∷ 1 ∷ 2 ∷ 1 ∷ 2 ∷ 1 ∷ 2 ∷ 1 ∷ 2 ∷ []);
      expected = "object linked\nop 1 process 0 put 50 first 1 last 5 done\nop 2 process 1 take first 6 last 16 item 1 value 50\nop 3 process 2 take first 7 last 17 item 1 value 50\nat 4 put 1\nat 12 take 1 by 2 3\nleft 0\n";
    }
    -- Puts that help and that come too late: V4 of 2 finds the sentinel's cell taken; V2 that reads an upper, V6 that moves Top (2) and V6 that finds it
    -- moved (3); V5 of 1 finds it moved. Three items are left, the last one on top.
    ∷ record {
      job = stream 3 3 (put 0 500 ∷ put 1 600 ∷ put 2 700 ∷ []) (0 ∷ 0 ∷ 0 ∷ 1 ∷ 1 ∷ 1 ∷ 0 ∷ 1 ∷ 1 ∷ 1 ∷ 2 ∷ 2 ∷ 1 ∷ 2 ∷ 0 ∷ 1 ∷ 1 ∷ 1 ∷ 1 ∷ 1 ∷ 2 ∷ 2 ∷ 2 ∷ 2 ∷ 2 ∷ []);
      expected = "object linked\nop 1 process 0 put 50 first 1 last 15 done\nop 2 process 1 put 60 first 4 last 20 done\nop 3 process 2 put 70 first 11 last 25 done\nat 7 put 1\nat 19 put 2\nat 24 put 3\nleft 3 3 2 1\n";
    }
    -- Puts that find a dead node on top: V4 of 4 finds it dead; V3 that reads the flag cleared, V7 that cuts and V8 that moves Top (3), V7 that finds it cut
    -- and V8 that finds Top moved (4). Take 2 stays open behind its W4 and took effect.
    ∷ record {
      job = stream 3 4 (put 0 500 ∷ take 1 ∷ put 2 600 ∷ put 3 700 ∷ []) (0 ∷ 0 ∷ 0 ∷ 0 ∷ 0 ∷ 3 ∷ 3 ∷ 3 ∷ 1 ∷ 1 ∷ 1 ∷ 1 ∷ 3 ∷ 2 ∷ 2 ∷ 2 ∷ 3 ∷ 3 ∷ 3 ∷ 2 ∷ 3 ∷ 2 ∷ 3 ∷ 2 ∷ 2 ∷ 2 ∷ 2 ∷ 2 ∷ 3 ∷ 3 ∷ 3 ∷ 3 ∷ 3 ∷ []);
      expected = "object linked\nop 1 process 0 put 50 first 1 last 5 done\nop 2 process 1 take first 9 last - open\nop 3 process 2 put 60 first 14 last 28 done\nop 4 process 3 put 70 first 6 last 33 done\nat 4 put 1\nat 12 take 1 by 2\nat 27 put 3\nat 32 put 4\nleft 2 4 3\n";
    }
    -- Takes that find an upper, and a dead node on top: W2 that reads an upper, W8 that moves Top (3) and W8 that finds it moved (4); W4 of 3 finds an upper, so
    -- it goes round. Take 5 clears 2's flag; W3 that reads it cleared, W7 that cuts and W9 that moves Top (3), W7 that finds it cut and W9 that finds
    -- Top moved (4). 515 mm, taken, is 52.
    ∷ record {
      job = stream 3 4 (put 0 500 ∷ put 0 515 ∷ take 1 ∷ take 2 ∷ take 3 ∷ []) (0 ∷ 0 ∷ 0 ∷ 0 ∷ 1 ∷ 1 ∷ 2 ∷ 2 ∷ 1 ∷ 2 ∷ 0 ∷ 1 ∷ 1 ∷ 1 ∷ 0 ∷ 0 ∷ 0 ∷ 0 ∷ 1 ∷ 0 ∷ 3 ∷ 3 ∷ 3 ∷ 3 ∷ 1 ∷ 1 ∷ 1 ∷ 2 ∷ 2 ∷ 2 ∷ 1 ∷ 2 ∷ 1 ∷ 2 ∷ 3 ∷ 3 ∷ 1 ∷ 1 ∷ 1 ∷ 1 ∷ 1 ∷ 1 ∷ 2 ∷ 2 ∷ []);
      expected = "object linked\nop 1 process 0 put 50 first 1 last 11 done\nop 2 process 0 put 52 first 15 last 20 done\nop 3 process 1 take first 5 last 42 item 1 value 50\nop 4 process 2 take first 7 last 44 empty\nop 5 process 3 take first 21 last 36 item 2 value 52\nat 4 put 1\nat 18 put 2\nat 24 take 2 by 5\nat 40 take 1 by 3\nat 44 empty by 4\nleft 0\n";
    }
    -- A put whose node is taken before its V5: take 2 helps Top to it, takes it and cuts it off. The put's V5 then finds Top at the sentinel again and sets it
    -- to its own node, though the sentinel's upper is none by then; so take 3 finds a dead node on top, W7 that finds it cut and W9 that moves Top.
    ∷ record {
      job = stream 3 2 (put 0 500 ∷ take 1 ∷ take 1 ∷ []) (0 ∷ 0 ∷ 0 ∷ 0 ∷ 1 ∷ 1 ∷ 1 ∷ 1 ∷ 1 ∷ 1 ∷ 1 ∷ 1 ∷ 1 ∷ 0 ∷ 1 ∷ 1 ∷ 1 ∷ 1 ∷ 1 ∷ 1 ∷ 1 ∷ []);
      expected = "object linked\nop 1 process 0 put 50 first 1 last 14 done\nop 2 process 1 take first 5 last 13 item 1 value 50\nop 3 process 1 take first 15 last 21 empty\nat 4 put 1\nat 11 take 1 by 2\nat 21 empty by 3\nleft 0\n";
    }
    -- A take that is helped and comes late: put 3 cuts its node off and links its own on the sentinel, so W5 finds another upper there, which stays, and W6
    -- finds Top moved.
    ∷ record {
      job = stream 3 2 (put 0 500 ∷ take 1 ∷ put 0 600 ∷ []) (0 ∷ 0 ∷ 0 ∷ 0 ∷ 0 ∷ 1 ∷ 1 ∷ 1 ∷ 1 ∷ 0 ∷ 0 ∷ 0 ∷ 0 ∷ 0 ∷ 0 ∷ 0 ∷ 0 ∷ 0 ∷ 0 ∷ 1 ∷ 1 ∷ []);
      expected = "object linked\nop 1 process 0 put 50 first 1 last 5 done\nop 2 process 1 take first 6 last 21 item 1 value 50\nop 3 process 0 put 60 first 10 last 19 done\nat 4 put 1\nat 9 take 1 by 2\nat 18 put 3\nleft 1 3\n";
    }
    -- Drops. Document 02, request 4: "A schedule entry 128 + p is a numbered step in which process p drops its begun operation, then stands before its
    -- next; with none begun it is idle." Put 1 is dropped behind its Q2, before its Q3, and nothing came of it. Steps 1, 2, 3, 7 and 12 drop none, for none has begun:
    -- before a first operation, by process 2, which has no operation, behind another drop, and when all of process 0 are done. None of them skips an operation.
    ∷ record {
      job = stream 1 3 (put 0 500 ∷ put 0 510 ∷ take 1 ∷ []) (128 ∷ 129 ∷ 130 ∷ 0 ∷ 0 ∷ 128 ∷ 128 ∷ 0 ∷ 0 ∷ 0 ∷ 0 ∷ 128 ∷ []);
      expected = "object queue\nop 1 process 0 put 50 first 4 last - dropped\nop 2 process 0 put 51 first 8 last 11 done\nop 3 process 1 take first - last - waiting\nat 10 put 2\nlost 0\nleft 1 2\n";
    }
    -- A queue put dropped between its changing Q3 and its Q4: its item is in, and Tail is left behind. The next of its process is dropped behind its Q1. Put 3 helps: Q1
    -- Q2 Q5, then Q1 Q2 Q3 Q4; and take 4 gets item 1, T1 T2 T3 T5.
    ∷ record {
      job = stream 1 2 (put 0 500 ∷ put 0 510 ∷ put 1 520 ∷ take 1 ∷ []) (0 ∷ 0 ∷ 0 ∷ 128 ∷ 0 ∷ 128 ∷ 1 ∷ 1 ∷ 1 ∷ 1 ∷ 1 ∷ 1 ∷ 1 ∷ 1 ∷ 1 ∷ 1 ∷ 1 ∷ []);
      expected = "object queue\nop 1 process 0 put 50 first 1 last - dropped\nop 2 process 0 put 51 first 5 last - dropped\nop 3 process 1 put 52 first 7 last 13 done\nop 4 process 1 take first 14 last 17 item 1 value 50\nat 3 put 1\nat 12 put 3\nat 17 take 1 by 4\nlost 1\nleft 1 3\n";
    }
    -- Queue takes without effect: 2 is dropped behind its T3, before its T5, and 3 takes the item; 4 is dropped behind its T2, with the queue empty, before the T3 that would
    -- have answered so.
    ∷ record {
      job = stream 1 3 (put 0 500 ∷ take 1 ∷ take 2 ∷ take 1 ∷ []) (0 ∷ 0 ∷ 0 ∷ 0 ∷ 1 ∷ 1 ∷ 1 ∷ 129 ∷ 2 ∷ 2 ∷ 2 ∷ 2 ∷ 1 ∷ 1 ∷ 129 ∷ []);
      expected = "object queue\nop 1 process 0 put 50 first 1 last 4 done\nop 2 process 1 take first 5 last - dropped\nop 3 process 2 take first 9 last 12 item 1 value 50\nop 4 process 1 take first 13 last - dropped\nat 3 put 1\nat 12 take 1 by 3\nlost 0\nleft 0\n";
    }
    -- Stack takes dropped between R3 and R4: each took its item, which nobody got. Put 3 meets the mark of 2's item, P1 P2 P4, then P1 P3; take 5 meets that of 4's, R1 R2 R5,
    -- and its next R1 reads none.
    ∷ record {
      job = stream 2 3 (put 0 500 ∷ take 1 ∷ put 0 600 ∷ take 1 ∷ take 2 ∷ []) (0 ∷ 0 ∷ 1 ∷ 1 ∷ 1 ∷ 129 ∷ 0 ∷ 0 ∷ 0 ∷ 0 ∷ 0 ∷ 1 ∷ 1 ∷ 1 ∷ 129 ∷ 2 ∷ 2 ∷ 2 ∷ 2 ∷ []);
      expected = "object stack\nop 1 process 0 put 50 first 1 last 2 done\nop 2 process 1 take first 3 last - dropped\nop 3 process 0 put 60 first 7 last 11 done\nop 4 process 1 take first 12 last - dropped\nop 5 process 2 take first 16 last 19 empty\nat 2 put 1\nat 3 take 1 by 2\nat 11 put 3\nat 12 take 3 by 4\nat 19 empty by 5\nleft 0\n";
    }
    -- Two takers of item 2, of which 3 is dropped behind its R3 and 4 ends with it: R1 R2 by each, R3 by 3, R3 R4 by 4; the line stands at the R1 of 4, the later one. Take 5 is
    -- dropped behind its R3 on item 1, and put 6, which meets that mark, P1 P2, before its P4: Top is still at node 1, which is marked, so it is not left.
    ∷ record {
      job = stream 2 3 (put 0 500 ∷ put 0 600 ∷ take 1 ∷ take 2 ∷ take 1 ∷ put 0 700 ∷ []) (0 ∷ 0 ∷ 0 ∷ 0 ∷ 0 ∷ 1 ∷ 1 ∷ 2 ∷ 2 ∷ 1 ∷ 129 ∷ 2 ∷ 2 ∷ 1 ∷ 1 ∷ 1 ∷ 129 ∷ 0 ∷ 0 ∷ 128 ∷ []);
      expected = "object stack\nop 1 process 0 put 50 first 1 last 2 done\nop 2 process 0 put 60 first 3 last 5 done\nop 3 process 1 take first 6 last - dropped\nop 4 process 2 take first 8 last 13 item 2 value 60\nop 5 process 1 take first 14 last - dropped\nop 6 process 0 put 70 first 18 last - dropped\nat 2 put 1\nat 5 put 2\nat 8 take 2 by 3 4\nat 14 take 1 by 5\nleft 0\n";
    }
    -- A two-way linked stack: put 1 is dropped between its V4 and its V5, so Top is behind. Take 2 helps, W1 W2 W8, and is dropped behind W1 W2 W3, before its W4: nothing came
    -- of it. Takes 3 and 4 read the flag live, W1 W2 W3 by each; 3 clears it and is dropped between its W4 and its W5; 4 passes W4 too and ends, W5 W6.
    ∷ record {
      job = stream 3 3 (put 0 500 ∷ take 1 ∷ take 1 ∷ take 2 ∷ []) (0 ∷ 0 ∷ 0 ∷ 0 ∷ 128 ∷ 1 ∷ 1 ∷ 1 ∷ 1 ∷ 1 ∷ 1 ∷ 129 ∷ 1 ∷ 1 ∷ 1 ∷ 2 ∷ 2 ∷ 2 ∷ 1 ∷ 129 ∷ 2 ∷ 2 ∷ 2 ∷ []);
      expected = "object linked\nop 1 process 0 put 50 first 1 last - dropped\nop 2 process 1 take first 6 last - dropped\nop 3 process 1 take first 13 last - dropped\nop 4 process 2 take first 16 last 23 item 1 value 50\nat 4 put 1\nat 19 take 1 by 3 4\nleft 0\n";
    }
    -- Take 2 is dropped between its W4 and its W5, alone, so a dead node is on top. Put 3 takes it off, V1 V2 V3 V7 V8, links, V1 V2 V3 V4, and is dropped before its V5. Take 4
    -- helps Top on, W1 W2 W8, clears the flag, W1 W2 W3 W4, and is dropped: node 3 is still linked above the sentinel, but dead, so it is not left.
    ∷ record {
      job = stream 3 2 (put 0 500 ∷ take 1 ∷ put 0 600 ∷ take 1 ∷ []) (0 ∷ 0 ∷ 0 ∷ 0 ∷ 0 ∷ 1 ∷ 1 ∷ 1 ∷ 1 ∷ 129 ∷ 0 ∷ 0 ∷ 0 ∷ 0 ∷ 0 ∷ 0 ∷ 0 ∷ 0 ∷ 0 ∷ 128 ∷ 1 ∷ 1 ∷ 1 ∷ 1 ∷ 1 ∷ 1 ∷ 1 ∷ 129 ∷ []);
      expected = "object linked\nop 1 process 0 put 50 first 1 last 5 done\nop 2 process 1 take first 6 last - dropped\nop 3 process 0 put 60 first 11 last - dropped\nop 4 process 1 take first 21 last - dropped\nat 4 put 1\nat 9 take 1 by 2\nat 19 put 3\nat 27 take 3 by 4\nleft 0\n";
    }
    -- Lost rounds. Document 02, request 5: "A lost round is a return to Q1 or T1." A failed Q3: puts 1 and 2 read the sentinel's next, none, Q1 Q2 by each; 2 links and ends, Q3 Q4;
    -- 1 fails its Q3 at step 7, and Q1 Q2 Q3 Q4.
    ∷ record {
      job = stream 1 2 (put 0 500 ∷ put 1 510 ∷ []) (0 ∷ 0 ∷ 1 ∷ 1 ∷ 1 ∷ 1 ∷ 0 ∷ 0 ∷ 0 ∷ 0 ∷ 0 ∷ []);
      expected = "object queue\nop 1 process 0 put 50 first 1 last 11 done\nop 2 process 1 put 51 first 3 last 6 done\nat 5 put 2\nat 10 put 1\nlost 1\nleft 2 2 1\n";
    }
    -- Q5: put 1 stands at its Q4, so put 2 helps at step 6, Q1 Q2 Q5, then Q1 Q2 Q3 Q4. The Q4 of 1 finds Tail moved, and is no return.
    ∷ record {
      job = stream 1 2 (put 0 500 ∷ put 1 510 ∷ []) (0 ∷ 0 ∷ 0 ∷ 1 ∷ 1 ∷ 1 ∷ 1 ∷ 1 ∷ 1 ∷ 1 ∷ 0 ∷ []);
      expected = "object queue\nop 1 process 0 put 50 first 1 last 11 done\nop 2 process 1 put 51 first 4 last 10 done\nat 3 put 1\nat 9 put 2\nlost 1\nleft 2 1 2\n";
    }
    -- T4: the same with a take, which helps at step 7, T1 T2 T3 T4, then T1 T2 T3 T5.
    ∷ record {
      job = stream 1 2 (put 0 500 ∷ take 1 ∷ []) (0 ∷ 0 ∷ 0 ∷ 1 ∷ 1 ∷ 1 ∷ 1 ∷ 1 ∷ 1 ∷ 1 ∷ 1 ∷ 0 ∷ []);
      expected = "object queue\nop 1 process 0 put 50 first 1 last 12 done\nop 2 process 1 take first 4 last 11 item 1 value 50\nat 3 put 1\nat 11 take 1 by 2\nlost 1\nleft 0\n";
    }
    -- The bound, met: two processes and one put in the record can lose 2 × 1 × 1. Put 2 reads the sentinel's next before put 1 links, Q1 Q2; it fails its Q3, and helps, Q1 Q2 Q5.
    ∷ record {
      job = stream 1 2 (put 0 500 ∷ put 1 510 ∷ []) (1 ∷ 1 ∷ 0 ∷ 0 ∷ 0 ∷ 1 ∷ 1 ∷ 1 ∷ 1 ∷ []);
      expected = "object queue\nop 1 process 0 put 50 first 3 last - open\nop 2 process 1 put 51 first 1 last - open\nat 5 put 1\nlost 2\nleft 1 1\n";
    }
    -- One process, which loses a round by its own drop: put 1 is dropped between its changing Q3 and its Q4, so put 2 helps Tail to it, Q1 Q2 Q5, then Q1 Q2 Q3 Q4. Put 3 is dropped
    -- behind its Q1, which costs nothing: 2 × 0 × 2 + 1.
    ∷ record {
      job = stream 1 1 (put 0 500 ∷ put 0 510 ∷ put 0 520 ∷ []) (0 ∷ 0 ∷ 0 ∷ 128 ∷ 0 ∷ 0 ∷ 0 ∷ 0 ∷ 0 ∷ 0 ∷ 0 ∷ 0 ∷ 128 ∷ []);
      expected = "object queue\nop 1 process 0 put 50 first 1 last - dropped\nop 2 process 0 put 51 first 5 last 11 done\nop 3 process 0 put 52 first 12 last - dropped\nat 3 put 1\nat 10 put 2\nlost 1\nleft 2 1 2\n";
    }
    ∷ []

-- the refusal of a trace's file, and the report of its job
pub record Replayed : Type 0 where
  pub number : ℕ
  pub text : List ℕ

unfoldable pub replayed : Trace → Replayed
replayed t = record { number = file_refusal field (file_of t.job); text = report (job_of t.job) }

-- accepted, with the trace's report
unfoldable pub promised : Trace → Replayed
promised t = record { number = 0; text = text t.expected }

-- of the last five traces, 2 × (P − 1) × K + D, by hand: the fourth and the fifth lose as much
unfoldable pub bound_of : Trace → ℕ
bound_of t = most_lost (job_of t.job) (schedule_length t.job) (processes t.job)
