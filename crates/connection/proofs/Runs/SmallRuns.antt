-- Small runs, computed: one for each way in which a wrong definition would let request 1 notice another request.
-- `whole` has both requests, `alone` what purging leaves for 1. The definitions alone are used here, no law: each
-- wrong definition of must-fail/ that is named below makes a line false.
use Rattle.std.specs.Prelude.{◌≡◌, refl, ℕ, ◌-◌, false}
use mathlib.Core.List.{List, [], ◌∷◌, ◌++◌, flatten}
use Rattle.std.proofs.Math.Option.{Option, none}
use Rattle.wire.specs.Number.{number4}
use Rattle.wire.specs.Buffer.{copied, zeros}
use Rattle.slot_word.specs.Word.{taken, lowest_free, with_bit, with_slot, without_bit, without_slot}
use Rattle.record.specs.Names.{STDIN}
use Rattle.record.specs.Header.{header_of, header_bytes}
use Rattle.record.specs.Body.{begin_body_of, end_body_bytes}
use Rattle.record_reader.specs.Position.{advanced, in_header}
use Rattle.pairs.specs.Length.{four_at, length_at}
use Rattle.wire.specs.Compare.{same_bytes}
use Rattle.pairs.specs.Pair.{pair_at}
use Rattle.pair_list.specs.List.{pairs_in, pairs_from, ending_of, well_formed, first_in, first_named, number_in, pair_number}
use Rattle.pair_repeats.specs.Repeats.{repeats_in, repeats}
use Rattle.record_writer.specs.Written.{padding_of, record_bytes, chunks_in, chunks, stream_bytes}
use Rattle.machine.specs.Timeline.{byte_items}
use Rattle.connection.specs.declared.answer.Output.{Output}
use Rattle.connection.specs.declared.request.Turn.{Turn}
use Rattle.connection.specs.Sizes.{AREA}
use Rattle.connection.specs.Event.{Event}
use Rattle.connection.specs.Request.{Held, with_turn, with_life, counted, faulted, aborted, turned, params_fault, params_ended, on_params, on_stdin, on_data, on_input, on_live, on_header, grown, opened}
use Rattle.connection.specs.RequestCalls as Of
use Rattle.connection.specs.Slots.{request_at, area_at, put_request, put_area, take_slot, free_slot, holds_id, find_from}
use Rattle.connection.specs.Shape.{id_fits, slots_fit, position_fits, in_shape}
use Rattle.connection.specs.Step.{names, query_of, queried, on_management, of_query, on_inactive, on_active, judged, opens, begun, of_begin, of_request, advances, step_refusal, stepped, started}
use Rattle.connection.specs.Calls as C
use Rattle.connection.specs.Bytewise.{Note, showing}
use Rattle.connection.specs.Arguments.{ValueOf, PairOf, ValueIs, PairAnswer, ForRead, ForSay, ForFinish, RepliedWith, FinishedWith}
use Rattle.connection.specs.Run.{Operation, StepOver, CallFor, Observed, Heard, Answered, request_of, called, memory_after, seen_in, items_of, final_memory, all_seen, timeline, start_of, seen_of}
use Rattle.connection.specs.Runs.RunParts.{fresh, header, begin, params_end, one_param, finish, one, one_shown, opened_one}

-- Both runs show this of 1, and leave 1 so.
record Alike (whole alone : List Operation) (seen : List Observed) (left : Option Held) : Type 0 where
  whole_seen : seen_of 1 (all_seen fresh whole) ≡ seen
  whole_left : request_of 1 (final_memory fresh whole) ≡ left
  alone_seen : seen_of 1 (all_seen fresh alone) ≡ seen
  alone_left : request_of 1 (final_memory fresh alone) ≡ left

-- PARAMS of one pair, the name A with a value of one byte, and its end
abbrev pair_of : ℕ → ℕ → List Operation
pair_of id b = (header 4 id 4 ∷ StepOver (1 ∷ 1 ∷ 65 ∷ b ∷ []) ∷ []) ++ params_end id

-- fifteen others
abbrev fifteen : List Operation
fifteen =
    begin 2 ++ begin 3 ++ begin 4 ++ begin 5 ++ begin 6 ++ begin 7 ++ begin 8 ++ begin 9 ++ begin 10 ++ begin 11 ++ begin 12 ++ begin 13 ++ begin 14 ++ begin 15 ++ begin 16

-- ---- the runs
pub record SmallRuns : Type 0 where
  -- 2 is finished inside its PARAMS record, of which a byte comes then; 1 opens where 2 was. (rest_not_skipped: the
  -- byte lies in the area of 1.)
  rest_skipped : Alike (begin 2 ++ (header 4 2 1 ∷ finish 2) ++ (StepOver (7 ∷ []) ∷ begin 1)) (begin 1) (opened_one ∷ []) (one 0 Turn.Params (zeros AREA))
  -- 2 is finished inside a STDIN record of 1. (anyones_rest_skipped: the byte of 1 is not shown.)
  others_rest_read : Alike (begin 2 ++ begin 1 ++ params_end 1 ++ (header 5 1 1 ∷ finish 2) ++ (StepOver (9 ∷ []) ∷ [])) (begin 1 ++ params_end 1 ++ (header 5 1 1 ∷ StepOver (9 ∷ []) ∷ []))
      (opened_one ∷ Heard (Note.Told (Event.Ready 1 0)) ∷ Heard (Note.Shown 1 STDIN 9) ∷ []) (one_shown 1 0 Turn.Stdin (zeros AREA))
  -- 2 is finished when seven header bytes of 1 are in; the eighth, which is reserved, is 1. (held_bytes_dropped: it
  -- is taken for a version, the content of 1 for the rest of a header, and nothing of 1 is shown.)
  held_bytes_stay : Alike
      (begin 2 ++ begin 1 ++ params_end 1 ++ (StepOver (1 ∷ 5 ∷ 0 ∷ 1 ∷ 0 ∷ 7 ∷ 0 ∷ []) ∷ finish 2) ++ (StepOver (1 ∷ []) ∷ StepOver (0 ∷ 0 ∷ 0 ∷ 0 ∷ 0 ∷ 0 ∷ 0 ∷ []) ∷ []))
      (begin 1 ++ params_end 1 ++ (StepOver (1 ∷ 5 ∷ 0 ∷ 1 ∷ 0 ∷ 7 ∷ 0 ∷ 1 ∷ []) ∷ StepOver (0 ∷ 0 ∷ 0 ∷ 0 ∷ 0 ∷ 0 ∷ 0 ∷ []) ∷ []))
      (opened_one ∷ Heard (Note.Told (Event.Ready 1 0)) ∷ Heard (Note.Shown 1 STDIN 0) ∷ Heard (Note.Shown 1 STDIN 0) ∷ Heard (Note.Shown 1 STDIN 0) ∷ Heard (Note.Shown 1 STDIN 0) ∷ Heard (Note.Shown 1 STDIN 0) ∷ Heard (Note.Shown 1 STDIN 0) ∷ Heard (Note.Shown 1 STDIN 0) ∷ [])
      (one_shown 7 0 Turn.Stdin (zeros AREA))
  -- 2 is begun again, which is a fault; 1 has a byte of its list. (fault_zeroes_next_area: the byte of 1 is gone.)
  faults_stay_home : Alike (begin 2 ++ begin 1 ++ one_param 1 7 ++ begin 2) (begin 1 ++ one_param 1 7) (opened_one ∷ []) (one 1 Turn.Params (7 ∷ zeros (AREA - 1)))
  -- 1 opens, then 2. (taken_slot_opened: 1 is gone.)
  slots_apart : Alike (begin 1 ++ begin 2) (begin 1) (opened_one ∷ []) (one 0 Turn.Params (zeros AREA))
  -- 2 is in the first slot, 1 in the second; the first pair of 1 is asked for. (offset_in_store: its name lies
  -- past the first area.)
  offsets_in_area : Alike (begin 2 ++ begin 1 ++ (header 4 1 2 ∷ StepOver (0 ∷ 0 ∷ []) ∷ []) ++ params_end 1 ++ (CallFor 1 (ForRead (PairOf 0)) ∷ [])) (begin 1 ++ (header 4 1 2 ∷ StepOver (0 ∷ 0 ∷ []) ∷ []) ++ params_end 1 ++ (CallFor 1 (ForRead (PairOf 0)) ∷ []))
      (opened_one ∷ Heard (Note.Told (Event.Ready 1 2))
      ∷ Answered 1 (ForRead (PairOf 0)) (RepliedWith (PairAnswer (Of.PairIs (record { name = 2; name_len = 0; value = 2; value_len = 0 })))) (one 2 Turn.Stdin (zeros AREA)) (one 2 Turn.Stdin (zeros AREA))
      ∷ [])
      (one 2 Turn.Stdin (zeros AREA))
  -- Something is said on STDERR for 2, then 1 is finished. (stderr_flag_shared: an end of STDERR is written for 1,
  -- too.)
  outputs_apart : Alike (begin 2 ++ begin 1 ++ params_end 2 ++ (CallFor 2 (ForSay Output.Stderr (65 ∷ []) (zeros 16)) ∷ finish 1)) (begin 1 ++ finish 1)
      (opened_one
      ∷ Answered 1 (ForFinish 0 (zeros 32)) (FinishedWith 0 24 false ((1 ∷ 6 ∷ 0 ∷ 1 ∷ 0 ∷ 0 ∷ 0 ∷ 0 ∷ 1 ∷ 3 ∷ 0 ∷ 1 ∷ 0 ∷ 8 ∷ 0 ∷ 0 ∷ []) ++ zeros 16)) (one 0 Turn.Params (zeros AREA)) none
      ∷ [])
      none
  -- 2 is finished with a byte in its area; 1 opens where 2 was. (area_not_zeroed: the byte lies in the area of 1.)
  areas_zeroed : Alike (begin 2 ++ one_param 2 7 ++ finish 2 ++ begin 1) (begin 1) (opened_one ∷ []) (one 0 Turn.Params (zeros AREA))
  -- A BEGIN of 2 is half gathered when 1 is asked for a pair; its rest comes before a byte of 1.
  begin_half_gathered : Alike
      (begin 1 ++ params_end 1 ++ (header 1 2 8 ∷ StepOver (0 ∷ 1 ∷ 1 ∷ []) ∷ CallFor 1 (ForRead (PairOf 0)) ∷ StepOver (0 ∷ 0 ∷ 0 ∷ 0 ∷ 0 ∷ []) ∷ []) ++ (header 5 1 1 ∷ StepOver (9 ∷ []) ∷ []))
      (begin 1 ++ params_end 1 ++ (CallFor 1 (ForRead (PairOf 0)) ∷ []) ++ (header 5 1 1 ∷ StepOver (9 ∷ []) ∷ []))
      (opened_one ∷ Heard (Note.Told (Event.Ready 1 0))
      ∷ Answered 1 (ForRead (PairOf 0)) (RepliedWith (PairAnswer (Of.PairRefused 7))) (one 0 Turn.Stdin (zeros AREA)) (one 0 Turn.Stdin (zeros AREA))
      ∷ Heard (Note.Shown 1 STDIN 9) ∷ [])
      (one_shown 1 0 Turn.Stdin (zeros AREA))
  -- A query comes in between, cut by a call of 1: its bytes are no parameters of 1.
  query_in_between : Alike
      (begin 1 ++ (header 9 0 2 ∷ StepOver (0 ∷ []) ∷ CallFor 1 (ForRead (PairOf 0)) ∷ StepOver (0 ∷ []) ∷ []) ++ one_param 1 7) (begin 1 ++ (CallFor 1 (ForRead (PairOf 0)) ∷ []) ++ one_param 1 7)
      (opened_one ∷ Answered 1 (ForRead (PairOf 0)) (RepliedWith (PairAnswer (Of.PairRefused 4))) (one 0 Turn.Params (zeros AREA)) (one 0 Turn.Params (zeros AREA)) ∷ [])
      (one 1 Turn.Params (7 ∷ zeros (AREA - 1)))
  -- 2 and 1 both have the name A, with the values B and C; each is asked for it.
  values_apart : Alike
      (begin 2 ++ begin 1 ++ pair_of 2 66 ++ pair_of 1 67 ++ (CallFor 2 (ForRead (ValueOf (65 ∷ []) [])) ∷ CallFor 1 (ForRead (ValueOf (65 ∷ []) [])) ∷ [])) (begin 1 ++ pair_of 1 67 ++ (CallFor 1 (ForRead (ValueOf (65 ∷ []) [])) ∷ []))
      (opened_one ∷ Heard (Note.Told (Event.Ready 1 4))
      ∷ Answered 1 (ForRead (ValueOf (65 ∷ []) [])) (RepliedWith (ValueIs (67 ∷ []))) (one 4 Turn.Stdin (1 ∷ 1 ∷ 65 ∷ 67 ∷ zeros (AREA - 4))) (one 4 Turn.Stdin (1 ∷ 1 ∷ 65 ∷ 67 ∷ zeros (AREA - 4)))
      ∷ [])
      (one 4 Turn.Stdin (1 ∷ 1 ∷ 65 ∷ 67 ∷ zeros (AREA - 4)))
  -- Fifteen others are active, so 1 has the last slot.
  last_slot : Alike (fifteen ++ begin 1 ++ one_param 1 7) (begin 1 ++ one_param 1 7) (opened_one ∷ []) (one 1 Turn.Params (7 ∷ zeros (AREA - 1)))

pub small_runs : SmallRuns
unfolding names query_of queried on_management of_query copied taken lowest_free with_bit with_slot without_bit without_slot header_of begin_body_of header_bytes end_body_bytes advanced in_header number4 four_at length_at pair_at same_bytes pairs_in pairs_from ending_of well_formed repeats_in repeats first_in first_named padding_of record_bytes chunks_in chunks stream_bytes flatten with_turn with_life counted faulted aborted turned params_fault params_ended on_params on_stdin on_data on_input on_live on_header grown opened Of.value_in Of.writes Of.said_on Of.say_in Of.owes_out Of.owes_err Of.finish_bytes Of.finish_in request_at area_at put_request put_area take_slot free_slot holds_id find_from id_fits slots_fit position_fits in_shape on_inactive on_active judged opens begun of_begin of_request advances step_refusal stepped started showing C.lent_refusal C.call_refusal C.value C.pair_at_number Of.pair_in pair_number number_in C.say C.released C.finishes C.finish byte_items request_of called memory_after seen_in items_of final_memory all_seen timeline start_of seen_of
small_runs =
    record {
      rest_skipped = record { whole_seen = refl; whole_left = refl; alone_seen = refl; alone_left = refl };
      others_rest_read = record { whole_seen = refl; whole_left = refl; alone_seen = refl; alone_left = refl };
      held_bytes_stay = record { whole_seen = refl; whole_left = refl; alone_seen = refl; alone_left = refl };
      faults_stay_home = record { whole_seen = refl; whole_left = refl; alone_seen = refl; alone_left = refl };
      slots_apart = record { whole_seen = refl; whole_left = refl; alone_seen = refl; alone_left = refl };
      offsets_in_area = record { whole_seen = refl; whole_left = refl; alone_seen = refl; alone_left = refl };
      outputs_apart = record { whole_seen = refl; whole_left = refl; alone_seen = refl; alone_left = refl };
      areas_zeroed = record { whole_seen = refl; whole_left = refl; alone_seen = refl; alone_left = refl };
      begin_half_gathered = record { whole_seen = refl; whole_left = refl; alone_seen = refl; alone_left = refl };
      query_in_between = record { whole_seen = refl; whole_left = refl; alone_seen = refl; alone_left = refl };
      values_apart = record { whole_seen = refl; whole_left = refl; alone_seen = refl; alone_left = refl };
      last_slot = record { whole_seen = refl; whole_left = refl; alone_seen = refl; alone_left = refl };
    }
