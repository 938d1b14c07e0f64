-- Spoiled files and what remains of each, as one table. Numbers, entries and files are worked out from document 02 by hand: a block has 506 bytes of the
-- stream, so one put and 496 entries fill the first block. `rows_proved` says that the definitions give them, by computation. Number 1 is of lent memory.
use Rattle.std.specs.Prelude.{◌≡◌, refl, ℕ, suc, ◌*◌, List, [], ◌∷◌, ◌++◌, map, take, drop, replicate}
use Rattle.basics.specs.Choice.{pick, same, less}
use Rattle.basics.specs.Maps.{at}
use Rattle.basics.specs.Words.{word, word_bytes}
use Rattle.block.specs.Block.{block_size, payload_size, summed_size, add_byte, add_bytes, sums, block, payload_of, sum_differs, misplaced, block_refusal}
use Rattle.job.specs.Limits.{field}
use Rattle.job.specs.Kind.{kind_number, kinds, look_up, kind_of, is_missing}
use Rattle.job.specs.Slot.{slot_of, process_of}
use Rattle.job.specs.Stream.{kind, processes, operations, schedule_length, record_at, process, action, value, scheduled, stream_length}
use Rattle.job.specs.Refusals.{first_met, any, outside, bad_kind, bad_processes, bad_operations, bad_schedule_length, exact_count, bad_record, bad_records, bad_entry, bad_schedule, header_conditions, list_conditions}
use Rattle.job.specs.File.{zeros, block_at, block_count, payloads, blocks, padded, file_of}
use Rattle.job.specs.Examples.{put, joined_records, header, stream}
use Rattle.job.specs.TurnedBack.{holding, damaged, good}
use Rattle.remains.specs.Kept.{leading, intact_blocks, intact, kept_blocks, kept, records_end, entries_kept, shortened}
use Rattle.remains.specs.Salvage.{cut_records, kept_conditions, kept_refusal, salvage_refusal, salvaged, kept_entries, named_entries}

-- what comes of a file: the number; A, B and the file, of a refused one nothing
pub record Outcome : Type 0 where
  pub number : ℕ
  pub kept : ℕ
  pub named : ℕ
  pub out : List ℕ

unfoldable pub refused : ℕ → Outcome
refused n = record { number = n; kept = 0; named = 0; out = [] }

unfoldable pub kept_of : ℕ → ℕ → List ℕ → Outcome
kept_of a b out = record { number = 0; kept = a; named = b; out = out }

-- by the definitions
unfoldable pub outcome : List ℕ → Outcome
outcome file =
    pick (same (salvage_refusal field file) 0) (kept_of (kept_entries file) (named_entries file) (salvaged file)) (refused (salvage_refusal field file))

-- one put, and so many entries of process 0: 600 take two blocks, 1,100 three
unfoldable pub long : ℕ → List ℕ
long n = stream 1 1 (put 0 500 ∷ []) (zeros n)

-- a file whose block at a position is another
unfoldable pub with_block : ℕ → List ℕ → List ℕ → List ℕ
with_block i b file = take (block_size * i) file ++ b ++ drop (block_size * suc i) file

-- a file and what must come of it
pub record Row : Type 0 where
  pub file : List ℕ
  pub expected : Outcome

unfoldable pub rows : List Row
rows =
    -- "An undamaged file comes out the same."
    record { file = holding 0 good; expected = kept_of 3 3 (holding 0 good) }
    ∷ record { file = file_of (long 600); expected = kept_of 600 600 (file_of (long 600)) }
    -- "the leading full blocks": none of an empty file, of a part of a block, of a first block with bad sums or a wrong number. "14, header […] not whole"
    ∷ record { file = []; expected = refused 14 }
    ∷ record { file = take 511 (holding 0 good); expected = refused 14 }
    ∷ record { file = damaged (holding 0 good); expected = refused 14 }
    ∷ record { file = holding 1 good; expected = refused 14 }
    -- "the header part before 5": a bad kind in a damaged block
    ∷ record { file = damaged (holding 0 (header 4 1 1 0 ++ put 0 500)); expected = refused 14 }
    -- "up to the first that would be refused 3 or 4": the second has bad sums, a wrong number, is a part, or is not there
    ∷ record { file = with_block 1 (damaged (holding 1 [])) (file_of (long 600)); expected = kept_of 496 600 (file_of (long 496)) }
    ∷ record { file = with_block 1 (holding 2 []) (file_of (long 600)); expected = kept_of 496 600 (file_of (long 496)) }
    ∷ record { file = take 1023 (file_of (long 600)); expected = kept_of 496 600 (file_of (long 496)) }
    ∷ record { file = take 512 (file_of (long 600)); expected = kept_of 496 600 (file_of (long 496)) }
    -- a good block behind a bad one is not kept
    ∷ record { file = with_block 1 (damaged (holding 1 [])) (file_of (long 1100)); expected = kept_of 496 1100 (file_of (long 496)) }
    ∷ record { file = with_block 2 (damaged (holding 2 [])) (file_of (long 1100)); expected = kept_of 1002 1100 (file_of (long 1002)) }
    -- "and at most the exact count": blocks behind it do not matter, good or bad; "padding [is] not read"
    ∷ record { file = holding 0 good ++ holding 1 (7 ∷ []); expected = kept_of 3 3 (holding 0 good) }
    ∷ record { file = holding 0 good ++ zeros 18432; expected = kept_of 3 3 (holding 0 good) }
    ∷ record { file = holding 0 (good ++ 7 ∷ []); expected = kept_of 3 3 (holding 0 good) }
    -- "Numbers 5 to 8 […] apply to what is kept"
    ∷ record { file = holding 0 (header 4 9 0 16385); expected = refused 5 }
    ∷ record { file = holding 0 (header 1 9 0 16385); expected = refused 6 }
    ∷ record { file = holding 0 (header 1 1 0 16385); expected = refused 7 }
    -- S; and "the records part before 10", but behind 8: 256 records do not fit one block
    ∷ record { file = holding 0 (header 1 1 256 16385); expected = refused 8 }
    ∷ record { file = holding 0 (header 1 1 256 16384); expected = refused 14 }
    ∷ record { file = holding 0 (header 1 1 126 600); expected = refused 14 }
    -- "14 […] the records part before 10": the first record is bad, and the last is not there
    ∷ record { file = holding 0 (header 1 1 126 600 ++ put 1 500); expected = refused 14 }
    -- 125 records fill the first block, and no entry is kept
    ∷ record { file = holding 0 (header 1 1 125 600 ++ joined_records (replicate 125 (put 0 500))); expected = kept_of 0 600 (holding 0 (header 1 1 125 0 ++ joined_records (replicate 125 (put 0 500)))) }
    -- number 10, and before 11
    ∷ record { file = holding 0 (stream 1 1 (put 1 500 ∷ []) (1 ∷ [])); expected = refused 10 }
    -- number 11, of an entry that is kept: the last one; behind it, an entry does not matter
    ∷ record { file = take 512 (file_of (stream 1 1 (put 0 500 ∷ []) (zeros 495 ++ 1 ∷ zeros 104))); expected = refused 11 }
    ∷ record { file = take 512 (file_of (stream 1 1 (put 0 500 ∷ []) (zeros 496 ++ 1 ∷ zeros 103))); expected = kept_of 496 600 (file_of (long 496)) }
    ∷ []

pub rows_proved : map (λ r. outcome r.file) rows ≡ map (λ r. r.expected) rows
unfolding refused kept_of outcome long with_block rows put joined_records header stream holding damaged good pick same less at word word_bytes block_size payload_size summed_size add_byte add_bytes sums block payload_of sum_differs misplaced block_refusal kind_number kinds look_up kind_of is_missing kind processes operations schedule_length record_at process action value scheduled stream_length first_met any outside bad_kind bad_processes bad_operations bad_schedule_length exact_count bad_record bad_records bad_entry bad_schedule header_conditions list_conditions slot_of process_of zeros block_at block_count payloads blocks padded file_of leading intact_blocks intact kept_blocks kept records_end entries_kept shortened cut_records kept_conditions kept_refusal salvage_refusal salvaged kept_entries named_entries Rattle.job.specs.Examples.take
rows_proved = refl
