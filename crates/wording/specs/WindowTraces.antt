-- Traces with windows, as one table of jobs, window blocks and whole reports: each edge of document 02, request 6, which has no trace of its own. The
-- weekdays are a calendar's, and the reports are worked out from the papers by hand: a put of a queue makes Q1 Q2 Q3 Q4, a step each, and links at Q3.
-- `window_traces_proved` of `proofs/TracesProved.antt` says that the definitions accept every job and every block and give the report, by computation.
use Rattle.std.specs.Prelude.{ℕ, Bool, false, List, [], ◌∷◌}
use Prim.Native.String.{String}
use Rattle.basics.specs.Text.{text}
use Rattle.job.specs.Limits.{field}
use Rattle.job.specs.File.{file_of, file_refusal}
use Rattle.job.specs.Job.{job_of}
use Rattle.job.specs.Examples.{put, take, stream}
use Rattle.windows.specs.Refused.{bad_windows}
use Rattle.hours.specs.Windowed.{windowed}
use Rattle.windows.specs.Examples.{window, windows}
use Rattle.wording.specs.Report.{report}

-- a job, as its stream, its window block, and the whole report
pub record WindowTrace : Type 0 where
  pub job : List ℕ
  pub windows : List ℕ
  pub expected : String

unfoldable pub window_traces : List WindowTrace
window_traces =
    -- "A window includes its opening second": Monday 3 January 2000, from 05:59:58; Mondays 06:00 to 07:00. Steps 1 and 2 are shut and keep their numbers.
    record {
      job = stream 1 1 (put 0 500 ∷ []) (0 ∷ 0 ∷ 0 ∷ 0 ∷ 0 ∷ 0 ∷ []);
      windows = windows 2000 1 3 21598 (window 1 360 420 ∷ []);
      expected = "object queue\nop 1 process 0 put 50 first 3 last 6 done\nat 5 put 1\nlost 0\nleft 1 1\n";
    }
    -- "and not its closing one": the same day from 06:59:57. Step 4 falls at 07:00:00 and is shut, so the put stays open behind its Q3.
    ∷ record {
      job = stream 1 1 (put 0 500 ∷ []) (0 ∷ 0 ∷ 0 ∷ 0 ∷ 0 ∷ 0 ∷ []);
      windows = windows 2000 1 3 25197 (window 1 360 420 ∷ []);
      expected = "object queue\nop 1 process 0 put 50 first 1 last - open\nat 3 put 1\nlost 0\nleft 1 1\n";
    }
    -- "A step outside its process's window is idle, a drop too": from 06:59:59 that day. The drop at step 2 falls at 07:00:00 and drops nothing.
    ∷ record {
      job = stream 1 1 (put 0 500 ∷ []) (0 ∷ 128 ∷ 0 ∷ 0 ∷ 0 ∷ []);
      windows = windows 2000 1 3 25199 (window 1 360 420 ∷ []);
      expected = "object queue\nop 1 process 0 put 50 first 1 last - open\nlost 0\nleft 0\n";
    }
    -- "A closing before its opening counts a day later; a window belongs to the weekday from whose midnight its opening counts": Monday 00:59:57. Process 0 has
    -- Sundays 22:00 to 01:00, which is open until 01:00:00, step 4; process 1 has Mondays 22:00 to 01:00, which is shut.
    ∷ record {
      job = stream 1 2 (put 0 500 ∷ put 1 510 ∷ []) (0 ∷ 1 ∷ 0 ∷ 0 ∷ []);
      windows = windows 2000 1 3 3597 (window 64 1320 60 ∷ window 1 1320 60 ∷ []);
      expected = "object queue\nop 1 process 0 put 50 first 1 last - open\nop 2 process 1 put 51 first - last - waiting\nlost 0\nleft 0\n";
    }
    -- The same window over the midnight itself: Sunday 2 January 2000, from 23:59:58 into Monday.
    ∷ record {
      job = stream 1 2 (put 0 500 ∷ put 1 510 ∷ []) (0 ∷ 0 ∷ 0 ∷ 0 ∷ 1 ∷ []);
      windows = windows 2000 1 2 86398 (window 64 1320 60 ∷ window 1 1320 60 ∷ []);
      expected = "object queue\nop 1 process 0 put 50 first 1 last 4 done\nop 2 process 1 put 51 first - last - waiting\nat 3 put 1\nlost 0\nleft 1 1\n";
    }
    -- "Equal minutes mean shut", on every weekday.
    ∷ record {
      job = stream 1 1 (put 0 500 ∷ []) (0 ∷ 0 ∷ []);
      windows = windows 2000 1 3 36000 (window 127 600 600 ∷ []);
      expected = "object queue\nop 1 process 0 put 50 first - last - waiting\nlost 0\nleft 0\n";
    }
    -- 0 to 1,440 is a whole day: Mondays, from Monday 23:59:58. Step 3 falls on Tuesday.
    ∷ record {
      job = stream 1 1 (put 0 500 ∷ []) (0 ∷ 0 ∷ 0 ∷ 0 ∷ []);
      windows = windows 2000 1 3 86398 (window 1 0 1440 ∷ []);
      expected = "object queue\nop 1 process 0 put 50 first 1 last - open\nlost 0\nleft 0\n";
    }
    -- An opening of 1,440 is the next midnight, under the weekday before: process 0 has Mondays 24:00 to 01:00, so Tuesday's first hour; process 1 has it
    -- under Tuesday's bit. From Monday 23:59:59: step 1 is shut to both, and process 0 is open from step 2 on.
    ∷ record {
      job = stream 2 2 (put 0 500 ∷ put 1 510 ∷ []) (0 ∷ 0 ∷ 1 ∷ 0 ∷ []);
      windows = windows 2000 1 3 86399 (window 1 1440 60 ∷ window 2 1440 60 ∷ []);
      expected = "object stack\nop 1 process 0 put 50 first 2 last 4 done\nop 2 process 1 put 51 first - last - waiting\nat 4 put 1\nleft 1 1\n";
    }
    -- 29 February 2000, a Tuesday, into 1 March, a Wednesday: process 0 has Tuesdays, process 1 Wednesdays. Process 0 steps at step 1, process 1 at 4 and 6.
    ∷ record {
      job = stream 1 2 (put 0 500 ∷ put 1 510 ∷ []) (0 ∷ 1 ∷ 0 ∷ 1 ∷ 0 ∷ 1 ∷ []);
      windows = windows 2000 2 29 86398 (window 2 0 1440 ∷ window 4 0 1440 ∷ []);
      expected = "object queue\nop 1 process 0 put 50 first 1 last - open\nop 2 process 1 put 51 first 4 last - open\nlost 0\nleft 0\n";
    }
    -- 29 February 2024, a Thursday, from 23:59:59 into 1 March, a Friday: process 0 has Thursdays, process 1 Fridays.
    ∷ record {
      job = stream 1 2 (put 0 500 ∷ put 1 510 ∷ []) (0 ∷ 1 ∷ []);
      windows = windows 2024 2 29 86399 (window 8 0 1440 ∷ window 16 0 1440 ∷ []);
      expected = "object queue\nop 1 process 0 put 50 first 1 last - open\nop 2 process 1 put 51 first 2 last - open\nlost 0\nleft 0\n";
    }
    -- 31 December 2000, a Sunday, into 1 January 2001, a Monday: process 0 has Sundays, process 1 Mondays.
    ∷ record {
      job = stream 1 2 (put 0 500 ∷ put 1 510 ∷ []) (0 ∷ 1 ∷ 0 ∷ 1 ∷ 0 ∷ 1 ∷ []);
      windows = windows 2000 12 31 86398 (window 64 0 1440 ∷ window 1 0 1440 ∷ []);
      expected = "object queue\nop 1 process 0 put 50 first 1 last - open\nop 2 process 1 put 51 first 4 last - open\nlost 0\nleft 0\n";
    }
    -- Windows know no first day: the midnight of Saturday 1 January 2000 lies in Friday's window, 22:00 to 01:00. The take's R1 reads none.
    ∷ record {
      job = stream 2 2 (take 0 ∷ take 1 ∷ []) (1 ∷ 0 ∷ []);
      windows = windows 2000 1 1 0 (window 16 1320 60 ∷ window 32 1320 60 ∷ []);
      expected = "object stack\nop 1 process 0 take first 2 last 2 empty\nop 2 process 1 take first - last - waiting\nat 2 empty by 1\nleft 0\n";
    }
    -- "whoever replays with windows gets what the job with those entries cut out gives, step numbers kept": document 01's whole listing, with a shut entry of
    -- process 3 before every one of its entries. Each of its step numbers is doubled.
    ∷ record {
      job = stream 1 4 (put 0 500 ∷ take 1 ∷ take 2 ∷ put 3 520 ∷ []) (3 ∷ 0 ∷ 131 ∷ 0 ∷ 3 ∷ 0 ∷ 131 ∷ 0 ∷ 3 ∷ 1 ∷ 3 ∷ 2 ∷ 3 ∷ 1 ∷ 3 ∷ 2 ∷ 3 ∷ 1 ∷ 3 ∷ 2 ∷ 3 ∷ 1 ∷ 3 ∷ 2 ∷ []);
      windows = windows 2000 1 3 0 (window 127 0 1440 ∷ window 127 0 1440 ∷ window 127 0 1440 ∷ window 126 0 1440 ∷ []);
      expected = "object queue\nop 1 process 0 put 50 first 2 last 8 done\nop 2 process 1 take first 10 last 22 item 1 value 50\nop 3 process 2 take first 12 last 24 item 1 value 50\nop 4 process 3 put 52 first - last - waiting\nat 6 put 1\nat 22 take 1 by 2 3\nlost 0\nleft 0\n";
    }
    ∷ []

-- the refusals of a trace's file and of its block, and the report of its job
pub record Booked : Type 0 where
  pub number : ℕ
  pub turned_back : Bool
  pub text : List ℕ

unfoldable pub booked : WindowTrace → Booked
booked t = record { number = file_refusal field (file_of t.job); turned_back = bad_windows t.windows; text = report (windowed t.windows (job_of t.job)) }

-- both accepted, with the trace's report
unfoldable pub promised_booked : WindowTrace → Booked
promised_booked t = record { number = 0; turned_back = false; text = text t.expected }
