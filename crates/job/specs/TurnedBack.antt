-- Small files turned back, as one table: for each number from 2 to 12 a file for each way to meet its condition, and for each two
-- neighbours a file that meets both, where the smaller number decides. The numbers are read from document 01's table by hand.
-- `refusals_proved` says that the definitions give them, by computation. Number 1 is of lent memory, not of a file.
use Rattle.std.specs.Prelude.{◌≡◌, refl, ℕ, ◌-◌, List, [], ◌∷◌, ◌++◌, map, length, set}
use Rattle.basics.specs.Choice.{pick, same, less}
use Rattle.basics.specs.Maps.{at}
use Rattle.basics.specs.Words.{word, word_bytes}
use Rattle.block.specs.Block.{block_size, payload_size, summed_size, add_byte, add_bytes, sums, block, payload_of, sum_differs, misplaced, block_refusal}
use Rattle.job.specs.Limits.{field, most_file}
use Rattle.job.specs.Kind.{kind_number, kinds, look_up, kind_of, is_missing}
use Rattle.job.specs.Slot.{slot_of, process_of}
use Rattle.job.specs.Stream.{kind, processes, operations, schedule_length, record_at, process, action, value, scheduled, stream_length}
use Rattle.job.specs.Refusals.{first_met, any, outside, bad_kind, bad_processes, bad_operations, bad_schedule_length, exact_count, bad_record, bad_records, bad_entry, bad_schedule, bad_padding, header_conditions, list_conditions}
use Rattle.job.specs.File.{zeros, block_at, block_count, payloads, joined, bad_length, blocks_refusal, bad_count, stream_refusal, file_refusal}
use Rattle.job.specs.Examples.{put, take, joined_records, header, stream}

-- the block of a number whose payload begins with some bytes and is zero behind them; its sums are right
unfoldable pub holding : ℕ → List ℕ → List ℕ
holding number front = block number (front ++ zeros (payload_size - length front))

-- a block whose last payload byte was changed after its sums were made
unfoldable pub damaged : List ℕ → List ℕ
damaged b = set b 507 1

-- a stream that meets no condition; P is 1
unfoldable pub good : List ℕ
good = stream 1 1 (put 0 500 ∷ take 0 ∷ []) (0 ∷ 0 ∷ 0 ∷ [])

-- a file and its number
pub record TurnedBack : Type 0 where
  pub file : List ℕ
  pub number : ℕ

unfoldable pub refusals : List TurnedBack
refusals =
    -- "a job meeting none is accepted"
    record { file = holding 0 good; number = 0 }
    -- "file length | 2 | 0, over 17,920, or not a multiple of 512"; 18,432 is 36 blocks
    ∷ record { file = []; number = 2 }
    ∷ record { file = zeros 18432; number = 2 }
    ∷ record { file = holding 0 good ++ 0 ∷ []; number = 2 }
    -- both 2 and 3
    ∷ record { file = damaged (holding 0 good) ++ 0 ∷ []; number = 2 }
    -- "block, ascending | 3 | a sum differs": both, a alone, b alone, and in a later block
    ∷ record { file = damaged (holding 0 good); number = 3 }
    ∷ record { file = set (holding 0 good) 509 1; number = 3 }
    ∷ record { file = set (holding 0 good) 511 1; number = 3 }
    ∷ record { file = holding 0 good ++ damaged (holding 1 []); number = 3 }
    -- both 3 and 4 in one block; 4 in block 0 and 3 in block 1, where the earlier block decides
    ∷ record { file = damaged (holding 1 good); number = 3 }
    ∷ record { file = holding 1 good ++ damaged (holding 1 []); number = 4 }
    -- "same block, next | 4 | its number is not its position"
    ∷ record { file = holding 1 good; number = 4 }
    -- both 4 and 5
    ∷ record { file = holding 1 (header 4 1 1 0 ++ put 0 500); number = 4 }
    -- "header | 5, 6, 7, 8 | kind, P, N, S out of range, in that order": kind
    ∷ record { file = holding 0 (header 0 1 1 0 ++ put 0 500); number = 5 }
    ∷ record { file = holding 0 (header 4 1 1 0 ++ put 0 500); number = 5 }
    -- document 02, request 3: "Number 5 now admits kind 3."
    ∷ record { file = holding 0 (header 3 1 1 0 ++ put 0 500); number = 0 }
    -- both 5 and 6
    ∷ record { file = holding 0 (header 4 9 1 0 ++ put 0 500); number = 5 }
    -- P
    ∷ record { file = holding 0 (header 1 0 1 0 ++ put 0 500); number = 6 }
    ∷ record { file = holding 0 (header 1 9 1 0 ++ put 0 500); number = 6 }
    -- both 6 and 7
    ∷ record { file = holding 0 (header 1 9 0 0); number = 6 }
    -- N
    ∷ record { file = holding 0 (header 1 1 0 0); number = 7 }
    ∷ record { file = holding 0 (header 1 1 257 0); number = 7 }
    -- both 7 and 8
    ∷ record { file = holding 0 (header 1 1 0 16385); number = 7 }
    -- S; both 8 and 9, since one block is too few for 16,385 steps
    ∷ record { file = holding 0 (header 1 1 1 16385 ++ put 0 500); number = 8 }
    -- "block count | 9 | not the exact count": one too many, one too few
    ∷ record { file = holding 0 good ++ holding 1 []; number = 9 }
    ∷ record { file = holding 0 (header 1 1 1 600 ++ put 0 500); number = 9 }
    -- both 9 and 10
    ∷ record { file = holding 0 (header 1 1 1 0 ++ put 1 500) ++ holding 1 []; number = 9 }
    -- "records, ascending | 10 | a field out of range, or a take with a value": process, action, value
    ∷ record { file = holding 0 (header 1 1 1 0 ++ put 1 500); number = 10 }
    ∷ record { file = holding 0 (header 1 1 1 0 ++ 0 ∷ 0 ∷ 0 ∷ 0 ∷ []); number = 10 }
    ∷ record { file = holding 0 (header 1 1 1 0 ++ 0 ∷ 3 ∷ 0 ∷ 0 ∷ []); number = 10 }
    ∷ record { file = holding 0 (header 1 1 1 0 ++ 0 ∷ 2 ∷ 0 ∷ 1 ∷ []); number = 10 }
    -- both 10 and 11
    ∷ record { file = holding 0 (stream 1 1 (put 1 500 ∷ []) (1 ∷ [])); number = 10 }
    -- "schedule | 11 | an entry of P or more"
    ∷ record { file = holding 0 (stream 1 1 (put 0 500 ∷ []) (0 ∷ 1 ∷ [])); number = 11 }
    -- document 02, request 4: "entries whose process, after taking off 128 where it is 128 or more, is P or more": 128 + p is taken for each
    -- process p, 128 + P is not; nor are 127 and 255, whose process is 127
    ∷ record { file = holding 0 (stream 1 2 (put 0 500 ∷ []) (0 ∷ 128 ∷ 129 ∷ 1 ∷ [])); number = 0 }
    ∷ record { file = holding 0 (stream 1 2 (put 0 500 ∷ []) (0 ∷ 130 ∷ [])); number = 11 }
    ∷ record { file = holding 0 (stream 1 2 (put 0 500 ∷ []) (0 ∷ 127 ∷ [])); number = 11 }
    ∷ record { file = holding 0 (stream 1 2 (put 0 500 ∷ []) (0 ∷ 255 ∷ [])); number = 11 }
    -- both 11 and 12
    ∷ record { file = holding 0 (stream 1 1 (put 0 500 ∷ []) (0 ∷ 1 ∷ []) ++ 1 ∷ []); number = 11 }
    -- "padding | 12 | a byte not zero": the first, and the last
    ∷ record { file = holding 0 (good ++ 1 ∷ []); number = 12 }
    ∷ record { file = holding 0 (good ++ zeros (payload_size - length good - 1) ++ 1 ∷ []); number = 12 }
    ∷ []

pub refusals_proved : map (λ r. file_refusal field r.file) refusals ≡ map (λ r. r.number) refusals
unfolding put take joined_records header stream holding damaged good refusals pick same less at word word_bytes block_size payload_size summed_size add_byte add_bytes sums block payload_of sum_differs misplaced block_refusal kind_number kinds look_up kind_of is_missing kind processes operations schedule_length record_at process action value scheduled stream_length first_met any outside bad_kind bad_processes bad_operations bad_schedule_length exact_count bad_record bad_records bad_entry bad_schedule bad_padding header_conditions list_conditions most_file zeros block_at block_count payloads joined bad_length blocks_refusal bad_count stream_refusal file_refusal slot_of process_of
refusals_proved = refl
