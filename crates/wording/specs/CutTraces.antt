-- Traces of jobs cut short, as one table of jobs, of how many entries are kept, and of both whole reports, the undamaged job's and that of what is kept.
-- Document 02, request 7: "operations that ended in the kept steps have the answers of the undamaged job, though a line may have fewer takers and a stack line an
-- earlier step." The reports are worked out from the papers by hand. `cut_traces_proved` of `proofs/TracesProved.antt` says that the definitions give them, by computation.
use Rattle.std.specs.Prelude.{ℕ, ◌+◌, List, [], ◌∷◌}
use Prim.Native.String.{String}
use Rattle.std.proofs.Math.ListN as Lists
use Rattle.basics.specs.Text.{text}
use Rattle.job.specs.Limits.{field}
use Rattle.job.specs.File.{file_of, file_refusal}
use Rattle.job.specs.Job.{job_of}
use Rattle.job.specs.Examples.{put, take, stream}
use Rattle.remains.specs.Kept.{records_end, shortened}
use Rattle.wording.specs.Report.{report}

-- a job, as its stream, the entries kept, and the whole reports of the job and of what remains of it
pub record CutTrace : Type 0 where
  pub job : List ℕ
  pub kept : ℕ
  pub expected : String
  pub remains : String

unfoldable pub cut_traces : List CutTrace
cut_traces =
    -- "a line may have fewer takers": document 01's listing without its last entry. Take 2 ended and has its answer; take 3 had not made its T5, so it is no taker.
    record {
      job = stream 1 3 (put 0 500 ∷ take 1 ∷ take 2 ∷ []) (0 ∷ 0 ∷ 0 ∷ 0 ∷ 1 ∷ 2 ∷ 1 ∷ 2 ∷ 1 ∷ 2 ∷ 1 ∷ 2 ∷ []);
      kept = 11;
      expected = "object queue\nop 1 process 0 put 50 first 1 last 4 done\nop 2 process 1 take first 5 last 11 item 1 value 50\nop 3 process 2 take first 6 last 12 item 1 value 50\nat 3 put 1\nat 11 take 1 by 2 3\nlost 0\nleft 0\n";
      remains = "object queue\nop 1 process 0 put 50 first 1 last 4 done\nop 2 process 1 take first 5 last 11 item 1 value 50\nop 3 process 2 take first 6 last - open\nat 3 put 1\nat 11 take 1 by 2\nlost 0\nleft 0\n";
    }
    -- "and a stack line an earlier step": document 01's sixth trace without its last two entries. Take 3 had not made its R3, so the line stands at the R1 of take 2.
    ∷ record {
      job = stream 2 3 (put 0 500 ∷ take 1 ∷ take 2 ∷ []) (0 ∷ 0 ∷ 1 ∷ 1 ∷ 2 ∷ 2 ∷ 1 ∷ 1 ∷ 2 ∷ 2 ∷ []);
      kept = 8;
      expected = "object stack\nop 1 process 0 put 50 first 1 last 2 done\nop 2 process 1 take first 3 last 8 item 1 value 50\nop 3 process 2 take first 5 last 10 item 1 value 50\nat 2 put 1\nat 5 take 1 by 2 3\nleft 0\n";
      remains = "object stack\nop 1 process 0 put 50 first 1 last 2 done\nop 2 process 1 take first 3 last 8 item 1 value 50\nop 3 process 2 take first 5 last - open\nat 2 put 1\nat 3 take 1 by 2\nleft 0\n";
    }
    -- A two-way linked stack's line stays at the W4 that cleared the flag: W1 W2 W3 by 2 and by 3, W4 W5 W6 by 2; the W4 of 3 is cut off.
    ∷ record {
      job = stream 3 3 (put 0 500 ∷ take 1 ∷ take 2 ∷ []) (0 ∷ 0 ∷ 0 ∷ 0 ∷ 0 ∷ 1 ∷ 1 ∷ 1 ∷ 2 ∷ 2 ∷ 2 ∷ 1 ∷ 1 ∷ 1 ∷ 2 ∷ 2 ∷ 2 ∷ []);
      kept = 14;
      expected = "object linked\nop 1 process 0 put 50 first 1 last 5 done\nop 2 process 1 take first 6 last 14 item 1 value 50\nop 3 process 2 take first 9 last 17 item 1 value 50\nat 4 put 1\nat 12 take 1 by 2 3\nleft 0\n";
      remains = "object linked\nop 1 process 0 put 50 first 1 last 5 done\nop 2 process 1 take first 6 last 14 item 1 value 50\nop 3 process 2 take first 9 last - open\nat 4 put 1\nat 12 take 1 by 2\nleft 0\n";
    }
    -- Who had not ended has no answer, and an `empty` at a kept T1 whose T3 is cut off has no line: document 01's second trace without its last entry.
    ∷ record {
      job = stream 1 1 (take 0 ∷ []) (0 ∷ 0 ∷ 0 ∷ []);
      kept = 2;
      expected = "object queue\nop 1 process 0 take first 1 last 3 empty\nat 1 empty by 1\nlost 0\nleft 0\n";
      remains = "object queue\nop 1 process 0 take first 1 last - open\nlost 0\nleft 0\n";
    }
    -- A drop that is cut off leaves its operation open, in the record as before; and one that had not begun waits.
    ∷ record {
      job = stream 1 1 (put 0 500 ∷ take 0 ∷ []) (0 ∷ 0 ∷ 0 ∷ 128 ∷ 0 ∷ []);
      kept = 3;
      expected = "object queue\nop 1 process 0 put 50 first 1 last - dropped\nop 2 process 0 take first 5 last - open\nat 3 put 1\nlost 0\nleft 1 1\n";
      remains = "object queue\nop 1 process 0 put 50 first 1 last - open\nop 2 process 0 take first - last - waiting\nat 3 put 1\nlost 0\nleft 1 1\n";
    }
    ∷ []

-- the stream of the entries kept
unfoldable pub cut_stream : CutTrace → List ℕ
cut_stream t = shortened (Lists.take (records_end t.job + t.kept) t.job)

-- the refusals of both files, and the reports of both jobs
pub record Remained : Type 0 where
  pub number : ℕ
  pub text : List ℕ
  pub cut_number : ℕ
  pub cut_text : List ℕ

unfoldable pub remained : CutTrace → Remained
remained t = record { number = file_refusal field (file_of t.job); text = report (job_of t.job); cut_number = file_refusal field (file_of (cut_stream t)); cut_text = report (job_of (cut_stream t)) }

-- both accepted, with the trace's reports
unfoldable pub promised_remained : CutTrace → Remained
promised_remained t = record { number = 0; text = text t.expected; cut_number = 0; cut_text = text t.remains }
