-- What the calls of the web server's end that write come to, computed by the definitions alone: the bytes of each, whose
-- turn it is then, and each refusal with what comes before it.
use Rattle.std.specs.Prelude.{ℕ, ◌≡◌, refl, Bool, true, false, take}
use mathlib.Core.List.{List, [], ◌∷◌, flatten}
use Rattle.wire.specs.Buffer.{zeros}
use Rattle.slot_word.specs.Word.{taken, lowest_free, with_bit, with_slot, without_bit, without_slot}
use Rattle.record.specs.Header.{header_bytes}
use Rattle.record.specs.Body.{begin_body_bytes}
use Rattle.record_writer.specs.Written.{padding_of, record_bytes, chunks_in, chunks, stream_bytes}
use Rattle.pairs.specs.Length.{length_bytes, length_at}
use Rattle.pairs.specs.Pair.{pair_bytes, pair_at}
use Rattle.pair_list.specs.List.{pairs_in, pairs_from, ending_of, well_formed}
use Rattle.connection.specs.declared.event.Stream.{Stream}
use Rattle.connection.specs.declared.request.Turn.{Turn}
use Rattle.connection.specs.declared.request.Life.{Life}
use Rattle.connection.specs.Sizes.{QUERY}
use Rattle.connection.specs.Request.{with_turn, with_life, opened}
use Rattle.connection.specs.Slots.{request_at, put_request, take_slot, with_occupied, no_requests, holds_id, find_from}
use Rattle.connection.specs.Shape.{id_fits, slots_fit, position_fits}
use Rattle.server.specs.declared.state.Input.{Input}
use Rattle.server.specs.declared.state.Server.{Server}
use Rattle.server.specs.Shape.{in_shape}
use Rattle.server.specs.Step.{step_refusal, started}
use Rattle.server.specs.Calls.{Written, open_refusal, open_request, Part, APair, Content, EndOf, Abort, call_refusal, writes_part, write_part, ask_refusal, ask_values}

-- a fresh connection, and one with request 1 open in a role
abbrev fresh : Server
fresh = (started (zeros QUERY)).server

abbrev opens : ℕ → ℕ → Bool → ℕ → Written
opens id role keep room = open_request fresh id role keep (zeros room)

abbrev one : ℕ → Server
one role = (opens 1 role true 16).server

-- a part of request 1
abbrev gives : Server → Part → Written
gives c part = write_part c 1 part (zeros 16)

abbrev given : Server → List Part → Server
given c [] = c
given c (p ∷ ps) = given (gives c p).server ps

-- whose turn it is then
abbrev turn_in : Server → Turn
turn_in c = (request_at c.table 0).state.turn

-- what a call wrote
abbrev wrote : Written → List ℕ
wrote w = take w.written w.buffer

-- the pair A, b; and the streams that have ended
abbrev pair : Part
pair = APair (65 ∷ []) (98 ∷ [])

abbrev ends : List Input → Server → Server
ends [] c = c
ends (u ∷ us) c = ends us (gives c (EndOf u)).server

abbrev to_stdin : List Input
to_stdin = Input.Params ∷ []

abbrev to_data : List Input
to_data = Input.Params ∷ Input.Stdin ∷ []

abbrev closed : Server
closed = record { table = no_requests; frame = fresh.frame; «open» = false }

-- with no slot free, and out of shape: a slot is taken for id 0
abbrev all_taken : Server
all_taken =
    record {
      table = record {
        ids = 1 ∷ 2 ∷ 3 ∷ 4 ∷ 5 ∷ 6 ∷ 7 ∷ 8 ∷ 9 ∷ 10 ∷ 11 ∷ 12 ∷ 13 ∷ 14 ∷ 15 ∷ 16 ∷ [];
        lengths = no_requests.lengths;
        standings = no_requests.standings;
        keep = 0;
        out_ended = 0;
        err_used = 0;
        err_ended = 0;
        stdin_shown = no_requests.stdin_shown;
        data_shown = no_requests.data_shown;
        occupied = 65535;
      };
      frame = fresh.frame;
      «open» = true;
    }

abbrev id_zero : Server
id_zero = record { table = with_occupied no_requests 1; frame = fresh.frame; «open» = false }

-- ---- what is written
pub record Bytes : Type 0 where
  begin : wrote (opens 258 1 true 16) ≡ 1 ∷ 1 ∷ 1 ∷ 2 ∷ 0 ∷ 8 ∷ 0 ∷ 0 ∷ 0 ∷ 1 ∷ 1 ∷ 0 ∷ 0 ∷ 0 ∷ 0 ∷ 0 ∷ []
  begin_drop : wrote (opens 1 3 false 16) ≡ 1 ∷ 1 ∷ 0 ∷ 1 ∷ 0 ∷ 8 ∷ 0 ∷ 0 ∷ 0 ∷ 3 ∷ 0 ∷ 0 ∷ 0 ∷ 0 ∷ 0 ∷ 0 ∷ []
  a_pair : wrote (gives (one 1) pair) ≡ 1 ∷ 4 ∷ 0 ∷ 1 ∷ 0 ∷ 4 ∷ 4 ∷ 0 ∷ 1 ∷ 1 ∷ 65 ∷ 98 ∷ 0 ∷ 0 ∷ 0 ∷ 0 ∷ []
  params_end_lem : wrote (gives (one 1) (EndOf Input.Params)) ≡ 1 ∷ 4 ∷ 0 ∷ 1 ∷ 0 ∷ 0 ∷ 0 ∷ 0 ∷ []
  stdin : wrote (gives (ends to_stdin (one 1)) (Content Stream.Stdin (113 ∷ []))) ≡ 1 ∷ 5 ∷ 0 ∷ 1 ∷ 0 ∷ 1 ∷ 7 ∷ 0 ∷ 113 ∷ 0 ∷ 0 ∷ 0 ∷ 0 ∷ 0 ∷ 0 ∷ 0 ∷ []
  stdin_end : wrote (gives (ends to_stdin (one 1)) (EndOf Input.Stdin)) ≡ 1 ∷ 5 ∷ 0 ∷ 1 ∷ 0 ∷ 0 ∷ 0 ∷ 0 ∷ []
  «data» : wrote (gives (ends to_data (one 3)) (Content Stream.Data (113 ∷ []))) ≡ 1 ∷ 8 ∷ 0 ∷ 1 ∷ 0 ∷ 1 ∷ 7 ∷ 0 ∷ 113 ∷ 0 ∷ 0 ∷ 0 ∷ 0 ∷ 0 ∷ 0 ∷ 0 ∷ []
  data_end : wrote (gives (ends to_data (one 3)) (EndOf Input.Data)) ≡ 1 ∷ 8 ∷ 0 ∷ 1 ∷ 0 ∷ 0 ∷ 0 ∷ 0 ∷ []
  abort : wrote (gives (one 1) Abort) ≡ 1 ∷ 2 ∷ 0 ∷ 1 ∷ 0 ∷ 0 ∷ 0 ∷ 0 ∷ []
  -- no content is no record, and is not refused in its turn
  no_content : (gives (ends to_stdin (one 1)) (Content Stream.Stdin [])).written ≡ 0
  no_content_passes : (gives (ends to_stdin (one 1)) (Content Stream.Stdin [])).refusal ≡ 0
  -- the names with empty values, A and B
  ask : wrote (ask_values fresh (1 ∷ 0 ∷ 65 ∷ 1 ∷ 0 ∷ 66 ∷ []) (zeros 16)) ≡ 1 ∷ 9 ∷ 0 ∷ 0 ∷ 0 ∷ 6 ∷ 2 ∷ 0 ∷ 1 ∷ 0 ∷ 65 ∷ 1 ∷ 0 ∷ 66 ∷ 0 ∷ 0 ∷ []

-- ---- whose turn it is
pub record Turns : Type 0 where
  opened_so : turn_in (one 1) ≡ Turn.Params
  pair_stays : turn_in (given (one 1) (pair ∷ pair ∷ [])) ≡ Turn.Params
  responder_stdin : turn_in (ends to_stdin (one 1)) ≡ Turn.Stdin
  responder_done : turn_in (ends to_data (one 1)) ≡ Turn.Done
  authorizer_done : turn_in (ends to_stdin (one 2)) ≡ Turn.Done
  filter_stdin : turn_in (ends to_stdin (one 3)) ≡ Turn.Stdin
  filter_data : turn_in (ends to_data (one 3)) ≡ Turn.Data
  filter_done : turn_in (ends (Input.Params ∷ Input.Stdin ∷ Input.Data ∷ []) (one 3)) ≡ Turn.Done
  abort_spends : (request_at (given (one 1) (Abort ∷ [])).table 0).state.life ≡ Life.Aborted
  abort_keeps_turn : turn_in (given (one 1) (EndOf Input.Params ∷ Abort ∷ [])) ≡ Turn.Stdin

-- ---- refusals, each before what comes after it in the order
pub record Refusals : Type 0 where
  shape_9 : (open_request id_zero 0 1 true (zeros 16)).refusal ≡ 9
  part_shape_9 : (write_part id_zero 0 pair []).refusal ≡ 9
  ask_shape_9 : (ask_values id_zero (5 ∷ []) []).refusal ≡ 9
  closed_1 : (open_request closed 0 1 true (zeros 16)).refusal ≡ 1
  zero_57 : (opens 0 4 true 0).refusal ≡ 57
  open_58 : (open_request (one 1) 1 4 true (zeros 16)).refusal ≡ 58
  full_58 : (open_request all_taken 16 4 true []).refusal ≡ 58
  full_59 : (open_request all_taken 17 4 true []).refusal ≡ 59
  role_60 : (opens 1 4 true 0).refusal ≡ 60
  short_6 : (opens 1 1 true 15).refusal ≡ 6
  fits : (opens 1 1 true 16).refusal ≡ 0
  nobody_3 : (write_part (one 1) 2 (Content Stream.Stdin []) []).refusal ≡ 3
  zero_3 : (write_part (one 1) 0 pair []).refusal ≡ 3
  early_61 : (gives (one 1) (Content Stream.Stdin [])).refusal ≡ 61
  late_61 : (gives (ends to_stdin (one 1)) pair).refusal ≡ 61
  end_twice_61 : (gives (ends to_stdin (one 1)) (EndOf Input.Params)).refusal ≡ 61
  other_role_61 : (gives (ends to_stdin (one 2)) (EndOf Input.Stdin)).refusal ≡ 61
  data_of_responder_61 : (gives (ends to_data (one 1)) (EndOf Input.Data)).refusal ≡ 61
  after_abort_61 : (gives (given (one 1) (Abort ∷ [])) pair).refusal ≡ 61
  abort_twice_61 : (gives (given (one 1) (Abort ∷ [])) Abort).refusal ≡ 61
  abort_at_the_end : (gives (ends to_data (one 1)) Abort).refusal ≡ 0
  long_late_61 : (gives (ends to_stdin (one 1)) (APair (zeros 65536) [])).refusal ≡ 61
  long_name_8 : (gives (one 1) (APair (zeros 65536) [])).refusal ≡ 8
  long_value_8 : (gives (one 1) (APair [] (zeros 65536))).refusal ≡ 8
  end_short_6 : (write_part (one 1) 1 (EndOf Input.Params) (zeros 7)).refusal ≡ 6
  pair_short_6 : (write_part (one 1) 1 pair (zeros 15)).refusal ≡ 6
  malformed_62 : (ask_values fresh (5 ∷ []) []).refusal ≡ 62
  long_62 : (ask_values fresh (zeros 514) (zeros 600)).refusal ≡ 62
  closed_part_1 : (write_part closed 1 Abort []).refusal ≡ 1
  closed_ask_1 : (ask_values closed (5 ∷ []) []).refusal ≡ 1
  abort_short_6 : (write_part (one 1) 1 Abort (zeros 7)).refusal ≡ 6
  content_short_6 : (write_part (ends to_stdin (one 1)) 1 (Content Stream.Stdin (7 ∷ [])) (zeros 15)).refusal ≡ 6
  ask_short_6 : (ask_values fresh [] (zeros 7)).refusal ≡ 6
  ask_nothing : (ask_values fresh [] (zeros 8)).refusal ≡ 0
  -- a refused call changes nothing
  stays : open_request (one 1) 1 1 true (7 ∷ []) ≡ record { refusal = 58; written = 0; server = one 1; buffer = 7 ∷ [] }

unfoldable computing : Unit {0}
unfolding flatten taken lowest_free with_bit with_slot without_bit without_slot header_bytes begin_body_bytes padding_of record_bytes chunks_in chunks stream_bytes length_bytes length_at pair_bytes pair_at pairs_in pairs_from ending_of well_formed with_turn with_life opened request_at put_request take_slot holds_id find_from id_fits slots_fit position_fits in_shape step_refusal started open_refusal open_request call_refusal writes_part write_part ask_refusal ask_values
computing = tt

pub bytes : Bytes
unfolding computing
bytes =
    record {
      begin = refl;
      begin_drop = refl;
      a_pair = refl;
      params_end_lem = refl;
      stdin = refl;
      stdin_end = refl;
      «data» = refl;
      data_end = refl;
      abort = refl;
      no_content = refl;
      no_content_passes = refl;
      ask = refl;
    }

pub turns : Turns
unfolding computing
turns =
    record {
      opened_so = refl;
      pair_stays = refl;
      responder_stdin = refl;
      responder_done = refl;
      authorizer_done = refl;
      filter_stdin = refl;
      filter_data = refl;
      filter_done = refl;
      abort_spends = refl;
      abort_keeps_turn = refl;
    }

pub refusals : Refusals
unfolding computing
refusals =
    record {
      shape_9 = refl;
      part_shape_9 = refl;
      ask_shape_9 = refl;
      closed_1 = refl;
      zero_57 = refl;
      open_58 = refl;
      full_58 = refl;
      full_59 = refl;
      role_60 = refl;
      short_6 = refl;
      fits = refl;
      nobody_3 = refl;
      zero_3 = refl;
      early_61 = refl;
      late_61 = refl;
      end_twice_61 = refl;
      other_role_61 = refl;
      data_of_responder_61 = refl;
      after_abort_61 = refl;
      abort_twice_61 = refl;
      abort_at_the_end = refl;
      long_late_61 = refl;
      long_name_8 = refl;
      long_value_8 = refl;
      end_short_6 = refl;
      pair_short_6 = refl;
      malformed_62 = refl;
      long_62 = refl;
      closed_part_1 = refl;
      closed_ask_1 = refl;
      abort_short_6 = refl;
      content_short_6 = refl;
      ask_short_6 = refl;
      ask_nothing = refl;
      stays = refl;
    }
