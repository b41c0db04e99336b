-- Turns of the pump, computed from the definitions.
use Rattle.std.specs.Prelude.{◌≡◌, refl, false, ℕ}
use mathlib.Core.List.{List, [], ◌∷◌, ◌++◌, flatten}
use Rattle.wire.specs.Buffer.{copied, zeros}
use Rattle.slot_word.specs.Word.{taken, lowest_free, with_bit, with_slot, without_bit, without_slot}
use Rattle.record_reader.specs.Position.{in_header, advanced}
use Rattle.record.specs.Names.{STDIN}
use Rattle.record.specs.Header.{header_of, header_bytes}
use Rattle.record.specs.Body.{begin_body_of, end_body_bytes}
use Rattle.record_writer.specs.Written.{padding_of, record_bytes, chunks_in, chunks, stream_bytes}
use Rattle.pair_list.specs.List.{pairs_in, pairs_from, ending_of, well_formed}
use Rattle.pair_repeats.specs.Repeats.{repeats_in, repeats}
use Rattle.queue_slot.specs.Finishing.{spent_by}
use Rattle.machine_queue.specs.Pump.{slot_after, next_waiting}
use Rattle.connection.specs.declared.answer.Output.{Output}
use Rattle.connection.specs.Event.{Event}
use Rattle.connection.specs.Sizes.{STORE, QUERY}
use Rattle.connection.specs.Request.{counted, aborted, with_turn, with_life, faulted, turned, params_fault, params_ended, on_params, on_stdin, on_input, on_live, on_header, opened}
use Rattle.connection.specs.RequestCalls as Of
use Rattle.connection.specs.Arguments.{ForSay, ForFinish, Wrote, FinishedWith, RepliedWith}
use Rattle.connection.specs.Slots.{request_at, area_at, put_request, put_area, take_slot, free_slot, holds_id, find_from}
use Rattle.connection.specs.Shape.{id_fits, slots_fit, position_fits, in_shape}
use Rattle.connection.specs.Step.{on_inactive, on_active, judged, opens, begun, of_begin, of_request, advances, step_refusal, stepped, started}
use Rattle.connection.specs.Calls as C
use Rattle.connection.specs.Run.{start_of}
use Rattle.connection.specs.Bytewise.{showing}
use Rattle.queue_slot.specs.Wait.{mark_of, mark_stream, ends_of, mark_ends, mark_ended, anything, has_room_for, wait_data, wait_end, wait_finish, run_length, without_first, serve_run, serve_data}
use Rattle.queue.specs.Numbers.{nobody_waits, count_at, front_at, last_at, status_at, put_count, put_front, put_last, numbers_at}
use Rattle.queue.specs.Calls as T
use Rattle.queue.specs.Calls.{queue_step, QueueMemory, QUEUE, pump}
use Rattle.queue.specs.Run.{Asking, Answering, Straightly, Queued, QueueOperation, StepOver, CallFor, TurnWith, Straight, ToSay, ToEnd, ToFinish, queue_called, queue_after, final_queue, bytes_in}

-- a fresh start
abbrev pub begins : QueueMemory
begins = record { memory = start_of (zeros QUERY) (zeros STORE); waits = nobody_waits; marks = zeros QUEUE; queue = zeros QUEUE }

-- request id opened with these flags, its PARAMS ended
abbrev opening_with : ℕ → ℕ → List QueueOperation
opening_with flags id =
    StepOver (1 ∷ 1 ∷ 0 ∷ id ∷ 0 ∷ 8 ∷ 0 ∷ 0 ∷ []) ∷ StepOver (0 ∷ 1 ∷ flags ∷ 0 ∷ 0 ∷ 0 ∷ 0 ∷ 0 ∷ []) ∷ StepOver (1 ∷ 4 ∷ 0 ∷ id ∷ 0 ∷ 0 ∷ 0 ∷ 0 ∷ []) ∷ []

-- with KEEP_CONN
abbrev pub opening : ℕ → List QueueOperation
opening id = opening_with 1 id

-- 5 and 9 open; 5 says two bytes and finishes, 9 says one byte
abbrev said : QueueMemory
said =
    final_queue begins
    (opening 5 ++ (opening 9 ++ (CallFor 5 (ToSay Output.Stdout (97 ∷ 98 ∷ [])) ∷ CallFor 5 (ToFinish 7) ∷ CallFor 9 (ToSay Output.Stderr (99 ∷ [])) ∷ [])))

-- what a run is computed with
unfoldable pub computing : Unit {0}
unfolding copied taken lowest_free with_bit with_slot without_bit without_slot in_header advanced header_of header_bytes begin_body_of end_body_bytes padding_of record_bytes pairs_in pairs_from ending_of well_formed repeats_in repeats slot_after next_waiting with_turn with_life faulted turned params_fault params_ended on_params on_stdin counted aborted on_input on_live on_header opened Of.said_on Of.ended_on Of.owes_out Of.owes_err request_at area_at put_request put_area take_slot free_slot holds_id find_from id_fits slots_fit position_fits in_shape on_inactive on_active judged opens begun of_begin of_request advances step_refusal stepped started start_of showing mark_of mark_stream ends_of mark_ends mark_ended anything has_room_for wait_data wait_end wait_finish spent_by run_length without_first serve_run serve_data count_at front_at last_at status_at put_count put_front put_last numbers_at T.wait_at T.put_wait T.wait_fits T.waits_fit T.queue_in_shape T.queue_step_refusal T.queue_step T.say_refusal T.queue_say T.queue_end T.queue_finish T.write_served T.pump_slot T.turned T.pump_refusal pump queue_called queue_after final_queue bytes_in flatten T.straight_say T.straight_end T.straight_finish Of.writes Of.say_in Of.finish_bytes Of.finish_in C.lent_refusal C.call_refusal C.say C.released C.finishes C.finish C.pair_at_number Of.pair_in stream_bytes chunks chunks_in
computing = tt

-- A turn of three: a record of 5, one of 9, one of 5.
pub three_records : bytes_in said (TurnWith 3 (zeros 1560)) ≡ record_bytes 6 5 (97 ∷ 98 ∷ []) ++ (record_bytes 7 9 (99 ∷ []) ++ record_bytes 6 5 [])
unfolding computing
three_records = refl

-- what a call is refused by
abbrev pub number_of : Answering → ℕ
number_of (Straightly (Wrote n written buffer)) = n
number_of (Straightly (FinishedWith n written closed buffer)) = n
number_of (Straightly (RepliedWith r)) = 0
number_of (Queued n) = n

abbrev pub refusal_of : QueueMemory → ℕ → Asking → ℕ
refusal_of m id a = number_of (queue_called m id a).answer

-- Between finish and END: 5. While something waits: a straight call 10, but 6 first. Over 1,024 bytes: 10. A stream
-- whose end is not there: still open.
pub refusals :
    (refusal_of said 5 (ToSay Output.Stdout (1 ∷ [])) ≡ 5) × (refusal_of said 5 (ToFinish 0) ≡ 5) × (refusal_of said 5 (Straight (ForFinish 0 (zeros 64))) ≡ 5)
    × (refusal_of said 9 (Straight (ForSay Output.Stdout (1 ∷ []) (zeros 16))) ≡ 10) × (refusal_of said 9 (Straight (ForSay Output.Stdout (1 ∷ []) (zeros 15))) ≡ 6)
    × (refusal_of said 9 (ToSay Output.Stdout (zeros 1023)) ≡ 0) × (refusal_of said 9 (ToSay Output.Stdout (zeros 1024)) ≡ 10) × (refusal_of said 7 (ToEnd Output.Stdout) ≡ 3)
unfolding computing
refusals = (refl, refl, refl, refl, refl, refl, refl, refl)

-- A turn that may write more than waits: four records (data of 5, data of 9, the end of STDOUT of 5, END of 5; 9 has no
-- end), not closed; 5 is no longer active, and 9 may say straight out.
pub all_records : ((pump said 10 (zeros 5200)).records ≡ 4) × ((pump said 10 (zeros 5200)).closed ≡ false) × ((pump said 10 (zeros 5199)).refusal ≡ 6)
    × (refusal_of (pump said 10 (zeros 5200)).left 5 (ToEnd Output.Stdout) ≡ 3) × (refusal_of (pump said 10 (zeros 5200)).left 9 (Straight (ForSay Output.Stdout (1 ∷ []) (zeros 16))) ≡ 0)
    × ((pump (pump said 10 (zeros 5200)).left 1 (zeros 520)).records ≡ 0)
unfolding computing
all_records = (refl, refl, refl, refl, refl, refl)

-- ---- a queued finish
-- an ABORT_REQUEST record; a header of STDIN with two content bytes
abbrev abort : ℕ → List ℕ
abort id = 1 ∷ 2 ∷ 0 ∷ id ∷ 0 ∷ 0 ∷ 0 ∷ 0 ∷ []

abbrev two_bytes : ℕ → List ℕ
two_bytes id = 1 ∷ 5 ∷ 0 ∷ id ∷ 0 ∷ 2 ∷ 0 ∷ 0 ∷ []

-- From its finish on the records of 5 are skipped in silence; those of 9 are not. Where 9 finishes within a record, the
-- rest of it is skipped.
pub retired : ((queue_step said (abort 5)).event ≡ Event.None) × ((queue_step said (abort 9)).event ≡ Event.Abort 9)
    × ((queue_step (final_queue said (StepOver (two_bytes 9) ∷ [])) (1 ∷ 2 ∷ [])).event ≡ Event.Data 9 STDIN 2)
    × ((queue_step (final_queue said (StepOver (two_bytes 9) ∷ CallFor 9 (ToFinish 0) ∷ [])) (1 ∷ 2 ∷ [])).event ≡ Event.None)
unfolding computing
retired = (refl, refl, refl, refl)

-- ---- a close
-- 5 is open with KEEP_CONN and 9 without; a byte of 5 waits
abbrev half : QueueMemory
half = final_queue begins (opening 5 ++ (opening_with 0 9 ++ (CallFor 5 (ToSay Output.Stdout (97 ∷ [])) ∷ [])))

-- A finish of 9, straight out, closes the connection, and then nothing waits anywhere; so does the pump's END of 9.
pub dropped : (count_at half.waits 0 ≡ 1) × ((queue_after half (CallFor 9 (Straight (ForFinish 0 (zeros 64))))).waits ≡ nobody_waits)
    × ((final_queue half (CallFor 9 (ToFinish 0) ∷ TurnWith 3 (zeros 1560) ∷ [])).waits ≡ nobody_waits)
unfolding computing
dropped = (refl, refl, refl)
