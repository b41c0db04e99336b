-- Why isolation and any shuffle have their premises: for each a small run that breaks it, and in which 1 does notice,
-- computed.
use Rattle.std.specs.Prelude.{◌≡◌, refl, ℕ}
use mathlib.Core.List.{List, [], ◌∷◌, ◌++◌, flatten}
use Rattle.std.proofs.Math.Option.{Option, none}
use Rattle.wire.specs.Number.{number4}
use Rattle.wire.specs.Buffer.{copied, zeros}
use Rattle.slot_word.specs.Word.{taken, lowest_free, with_bit, with_slot, without_bit, without_slot}
use Rattle.record.specs.Names.{OVERLOADED, STDIN}
use Rattle.record.specs.Header.{header_of, header_bytes}
use Rattle.record.specs.Body.{begin_body_of, end_body_bytes}
use Rattle.record_reader.specs.Position.{advanced, in_header}
use Rattle.pairs.specs.Length.{four_at, length_at}
use Rattle.wire.specs.Compare.{same_bytes}
use Rattle.pairs.specs.Pair.{pair_at}
use Rattle.pair_list.specs.List.{pairs_in, pairs_from, ending_of, well_formed, first_in, first_named, number_in, pair_number}
use Rattle.pair_repeats.specs.Repeats.{repeats_in, repeats}
use Rattle.record_writer.specs.Written.{padding_of, record_bytes, chunks_in, chunks, stream_bytes}
use Rattle.machine.specs.Timeline.{byte_items}
use Rattle.connection.specs.declared.request.Turn.{Turn}
use Rattle.connection.specs.Sizes.{AREA}
use Rattle.connection.specs.Event.{Event}
use Rattle.connection.specs.Request.{Held, counted, with_turn, with_life, faulted, aborted, turned, params_fault, params_ended, on_params, on_stdin, on_data, on_input, on_live, on_header, grown, opened}
use Rattle.connection.specs.RequestCalls as Of
use Rattle.connection.specs.Slots.{request_at, area_at, put_request, put_area, take_slot, free_slot, holds_id, find_from}
use Rattle.connection.specs.Shape.{id_fits, slots_fit, position_fits, in_shape}
use Rattle.connection.specs.Step.{closes, on_inactive, on_active, judged, opens, begun, of_begin, of_request, advances, step_refusal, stepped, started}
use Rattle.connection.specs.Calls as C
use Rattle.connection.specs.Bytewise.{Note, showing}
use Rattle.connection.specs.Arguments.{PairOf, PairAnswer, ForRead, RepliedWith}
use Rattle.connection.specs.Run.{Operation, StepOver, CallFor, Observed, Heard, Answered, request_of, called, memory_after, seen_in, items_of, final_memory, all_seen, timeline, start_of, seen_of}
use Rattle.connection.specs.Runs.RunParts.{fresh, header, begin, params_end, one, one_shown, opened_one}

-- what is told of 1
abbrev seen_of_one : List Operation → List Observed
seen_of_one os = seen_of 1 (all_seen fresh os)

-- 1 at the end
abbrev left_of_one : List Operation → Option Held
left_of_one os = request_of 1 (final_memory fresh os)

-- sixteen others
abbrev others : List Operation
others =
    begin 2 ++ begin 3 ++ begin 4 ++ begin 5 ++ begin 6 ++ begin 7 ++ begin 8 ++ begin 9 ++ begin 10 ++ begin 11 ++ begin 12 ++ begin 13 ++ begin 14 ++ begin 15 ++ begin 16 ++ begin 17

-- 1 is asked for its first pair, and has none; n of its STDIN bytes have been shown
abbrev no_pair : Operation
no_pair = CallFor 1 (ForRead (PairOf 0))

abbrev answered : ℕ → Observed
answered n =
    let held = one_shown n 0 Turn.Stdin (zeros AREA) in
    Answered 1 (ForRead (PairOf 0)) (RepliedWith (PairAnswer (Of.PairRefused 7))) held held

abbrev ready : Observed
ready = Heard (Note.Told (Event.Ready 1 0))

abbrev shown : ℕ → Observed
shown b = Heard (Note.Shown 1 STDIN b)

pub record Premises : Type 0 where
  -- The whole run ends open. Here a record of 2 has the version 2 and closes the connection; alone, 1 would still be
  -- there.
  closed_by_another : left_of_one (begin 1 ++ (StepOver (2 ∷ 1 ∷ 0 ∷ 2 ∷ 0 ∷ 8 ∷ 0 ∷ 0 ∷ []) ∷ [])) ≡ none
  not_alone : left_of_one (begin 1) ≡ one 0 Turn.Params (zeros AREA)
  -- It ends between two records. Here it ends in a header of 1, and so does the run of what is left: four bytes are
  -- held.
  cut_in_header : (final_memory fresh (StepOver (1 ∷ 1 ∷ 0 ∷ 1 ∷ []) ∷ [])).state.conn.frame.position.held ≡ 4
  -- 1 is not refused for want of a slot. Here sixteen others are active; alone, 1 would open.
  refused_for_others : seen_of_one (others ++ begin 1) ≡ Heard (Note.Told (Event.Refuse 1 OVERLOADED)) ∷ []
  opens_alone : seen_of_one (begin 1) ≡ opened_one ∷ []
  -- The second run has all of 1's items, or is closed. Here it has only the header of the BEGIN record: nothing is
  -- told of 1 yet.
  stops_early : seen_of_one (header 1 1 8 ∷ []) ≡ []
  -- Two shuffles have a call inside a record after the same byte. Here 1 is asked for a pair after the first of its two
  -- STDIN bytes, or after the second: fewer have been shown then.
  asked_after_one : seen_of_one
      (begin 1 ++ params_end 1 ++ (header 5 1 2 ∷ StepOver (9 ∷ []) ∷ no_pair ∷ StepOver (8 ∷ []) ∷ []))
      ≡ opened_one ∷ ready ∷ shown 9 ∷ answered 1 ∷ shown 8 ∷ []
  asked_after_two : seen_of_one
      (begin 1 ++ params_end 1 ++ (header 5 1 2 ∷ StepOver (9 ∷ []) ∷ StepOver (8 ∷ []) ∷ no_pair ∷ []))
      ≡ opened_one ∷ ready ∷ shown 9 ∷ shown 8 ∷ answered 2 ∷ []

pub premises : Premises
unfolding copied taken lowest_free with_bit with_slot without_bit without_slot header_of begin_body_of header_bytes end_body_bytes advanced in_header number4 four_at length_at pair_at same_bytes pairs_in pairs_from ending_of well_formed repeats_in repeats first_in first_named padding_of record_bytes chunks_in chunks stream_bytes flatten counted with_turn with_life faulted aborted turned params_fault params_ended on_params on_stdin on_data on_input on_live on_header grown opened Of.value_in Of.writes Of.said_on Of.say_in Of.owes_out Of.owes_err Of.finish_bytes Of.finish_in request_at area_at put_request put_area take_slot free_slot holds_id find_from id_fits slots_fit position_fits in_shape on_inactive on_active judged opens begun of_begin of_request advances step_refusal stepped started showing C.lent_refusal C.call_refusal C.value C.say C.released C.finishes C.finish byte_items request_of called memory_after seen_in items_of final_memory all_seen timeline start_of seen_of closes C.pair_at_number Of.pair_in pair_number number_in
premises =
    record { closed_by_another = refl; not_alone = refl; cut_in_header = refl; refused_for_others = refl; opens_alone = refl; stops_early = refl; asked_after_one = refl; asked_after_two = refl }
