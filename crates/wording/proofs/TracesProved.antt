-- The tables of traces (`crates/wording/specs`) are as the definitions have them, by computation. Assumes nothing.
use Rattle.std.specs.Prelude.{◌≡◌, refl, [], ◌∷◌, map}
use Rattle.std.proofs.Math.ListN as Lists
use Rattle.basics.specs.Choice.{pick, same, less}
use Rattle.basics.specs.Maps.{at, upd}
use Rattle.basics.specs.Words.{word, word_bytes}
use Rattle.basics.specs.Text.{text, digits, decimal}
use Rattle.block.specs.Block.{block_size, payload_size, summed_size, add_byte, add_bytes, sums, block, payload_of, sum_differs, misplaced, block_refusal}
use Rattle.stage.specs.Millimetres.{millimetres}
use Rattle.stage.specs.Centimetres.{half_way, even_one, nearest, centimetres}
use Rattle.stage.specs.Printed.{signed_decimal, stage_text}
use Rattle.job.specs.Kind.{kind_number, kinds, look_up, kind_of, is_missing, kind_found}
use Rattle.job.specs.Limits.{most_file}
use Rattle.job.specs.Slot.{slot_of, process_of}
use Rattle.job.specs.Stream.{kind, processes, operations, schedule_length, record_at, process, action, value, scheduled, stream_length}
use Rattle.job.specs.Refusals.{first_met, any, outside, bad_kind, bad_processes, bad_operations, bad_schedule_length, exact_count, bad_record, bad_records, bad_entry, bad_schedule, bad_padding, header_conditions, list_conditions}
use Rattle.job.specs.File.{zeros, block_at, block_count, payloads, joined, blocks, padded, file_of, bad_length, blocks_refusal, bad_count, stream_refusal, file_refusal}
use Rattle.job.specs.Job.{job_of}
use Rattle.job.specs.Examples.{put, take, joined_records, header, stream}
use Rattle.machine.specs.Memory.{fresh_memory, set_from_to, yes_if, with_head, with_tail, with_top, with_next, with_mark, with_upper}
use Rattle.machine.specs.Table.{row, table, position, row_of, successor, end_of, is_end, ended, is_return, first_row}
use Rattle.machine.specs.Access.{have_read, have_set, access}
use Rattle.machine.specs.Run.{seek, operation_after, before, fresh_state, reach, registers, reached, row_after, place_after, resting, acting, dropping, step, state_after}
use Rattle.machine.specs.Notes.{answer_at, answer_of, is_answer, event_of, idle, acted, note_next, note}
use Rattle.machine.specs.Journal.{is_round, is_linked, item_of, moved_to, earliest, latest, made, begins_round, links, joins, ends, first, last, answer, start, link, join, taken}
use Rattle.machine.specs.Drops.{dropped_next, dropped, drop}
use Rattle.machine.specs.Effects.{numbers, sift, largest, takers, first_move, latest_start, takes_at, is_empty, effect}
use Rattle.machine.specs.Record.{if_at, line_at, lines_to, the_record, lines_of}
use Rattle.machine.specs.Left.{walk, left_in, left}
use Rattle.machine.specs.Explained.{put_lines}
use Rattle.machine.specs.Lost.{tally, lost}
use Rattle.theory.specs.Bounded.{puts, late_drop, late_drops, most_lost}
use Rattle.block.specs.Checked.{filled}
use Rattle.job.specs.Idle.{idle_at}
use Rattle.calendar.specs.Years.{is_leap, year_length, days_of_years}
use Rattle.calendar.specs.Months.{common_lengths, month_length, days_of_months}
use Rattle.calendar.specs.Dates.{from_to, is_date, day_number}
use Rattle.calendar.specs.Weekdays.{weekday_after, weekday_before, weekday}
use Rattle.windows.specs.Fields.{year, month, day, second, entry_at, weekdays, opening, closing}
use Rattle.windows.specs.Refused.{bad_start, bad_window, bad_entries, bad_rest, bad_block, no_block, bad_windows}
use Rattle.hours.specs.Open.{closes, in_window, has_weekday, open_on, since_midnight, day_of, second_of, is_open}
use Rattle.hours.specs.Windowed.{is_shut, windowed}
use Rattle.windows.specs.Examples as Blocks
use Rattle.windows.specs.Examples.{window, windows}
use Rattle.remains.specs.Kept.{records_end, entries_kept, shortened}
use Rattle.wording.specs.WindowTraces.{window_traces, booked, promised_booked}
use Rattle.wording.specs.CutTraces.{cut_traces, cut_stream, remained, promised_remained}
use Rattle.wording.specs.Report.{object_line, action_text, answer_text, end_text, progress_text, operation_line, operation_lines, spaced, effect_text, record_line, record_lines, lost_line, left_line, report}
use Rattle.wording.specs.Traces.{below, traces, replayed, promised, bound_of}

-- the four tables, by one computation
computed : (map replayed traces ≡ map promised traces) × (map bound_of (Lists.drop 31 traces) ≡ 4 ∷ 4 ∷ 2 ∷ 2 ∷ 1 ∷ []) × (map booked window_traces ≡ map promised_booked window_traces) × (map remained cut_traces ≡ map promised_remained cut_traces)
unfolding records_end entries_kept shortened cut_traces cut_stream remained promised_remained put take below joined_records header stream traces replayed promised pick same less at upd word word_bytes text digits decimal block_size payload_size summed_size add_byte add_bytes sums block payload_of sum_differs misplaced block_refusal kind_number kinds look_up kind_of is_missing kind_found kind processes operations schedule_length record_at process action value scheduled slot_of process_of stream_length first_met any outside bad_kind bad_processes bad_operations bad_schedule_length exact_count bad_record bad_records bad_entry bad_schedule bad_padding header_conditions list_conditions most_file zeros block_at block_count payloads joined blocks padded file_of bad_length blocks_refusal bad_count stream_refusal file_refusal job_of fresh_memory set_from_to yes_if with_head with_tail with_top with_next with_mark with_upper row table position row_of successor end_of is_end ended is_return first_row have_read have_set access seek operation_after before fresh_state reach registers reached row_after place_after resting acting dropping step state_after answer_at answer_of is_answer event_of is_round is_linked item_of moved_to idle acted note_next note earliest latest made begins_round links joins ends first last answer start link join taken dropped_next dropped drop numbers sift largest takers first_move latest_start takes_at is_empty effect if_at line_at lines_to the_record walk left_in left tally lost millimetres half_way even_one nearest centimetres signed_decimal stage_text object_line action_text answer_text end_text progress_text operation_line operation_lines spaced effect_text record_line record_lines lost_line left_line report puts lines_of put_lines late_drop late_drops most_lost bound_of filled window Blocks.start windows window_traces booked promised_booked is_leap year_length days_of_years common_lengths month_length days_of_months from_to is_date day_number weekday_after weekday_before weekday year month day second entry_at weekdays opening closing bad_start bad_window bad_entries bad_rest bad_block no_block bad_windows closes in_window has_weekday open_on since_midnight day_of second_of is_open is_shut windowed idle_at
computed = (refl, refl, refl, refl)

pub traces_proved : map replayed traces ≡ map promised traces
traces_proved = computed.0

pub bounds_proved : map bound_of (Lists.drop 31 traces) ≡ 4 ∷ 4 ∷ 2 ∷ 2 ∷ 1 ∷ []
bounds_proved = computed.1

pub window_traces_proved : map booked window_traces ≡ map promised_booked window_traces
window_traces_proved = computed.2

pub cut_traces_proved : map remained cut_traces ≡ map promised_remained cut_traces
cut_traces_proved = computed.3
