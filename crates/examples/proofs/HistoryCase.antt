-- R's parameters by the history of a small run, computed, for request 1 beside request 2.
use Rattle.std.specs.Prelude.{◌≡◌, refl, ℕ}
use mathlib.Core.List.{List, [], ◌∷◌, ◌++◌, flatten}
use Rattle.wire.specs.Buffer.{copied, zeros}
use Rattle.slot_word.specs.Word.{taken, lowest_free, with_bit, with_slot, without_bit, without_slot}
use Rattle.record.specs.Header.{header_of, header_bytes}
use Rattle.record.specs.Body.{begin_body_of, end_body_bytes}
use Rattle.record_reader.specs.Position.{advanced, in_header}
use Rattle.record_writer.specs.Written.{padding_of, record_bytes, chunks_in, chunks, stream_bytes}
use Rattle.machine.specs.Timeline.{header_type, header_id, header_content, header_padding, scan_left}
use Rattle.connection.specs.Request.{with_life, aborted, on_params, on_input, on_live, on_header, grown, opened}
use Rattle.connection.specs.RequestCalls as Of
use Rattle.connection.specs.Slots.{request_at, area_at, put_request, put_area, take_slot, free_slot, holds_id, find_from}
use Rattle.connection.specs.Shape.{id_fits, slots_fit, position_fits, in_shape}
use Rattle.connection.specs.Sizes.{STORE, QUERY}
use Rattle.connection.specs.Step.{on_inactive, on_active, judged, opens, begun, of_begin, of_request, advances, step_refusal, stepped, started}
use Rattle.connection.specs.Calls as C
use Rattle.connection.specs.Arguments.{ForFinish}
use Rattle.connection.specs.Run.{Memory, Operation, StepOver, CallFor, called, memory_after, start_of}
use Rattle.connection.specs.History.{scan_whole_params, scan_params, with_bytes, history_from, parameters_after}

-- a start
abbrev from_zeros : Memory
from_zeros = start_of (zeros QUERY) (zeros STORE)

-- BEGIN of a responder with KEEP_CONN
abbrev begin : ℕ → List Operation
begin id = StepOver (1 ∷ 1 ∷ 0 ∷ id ∷ 0 ∷ 8 ∷ 0 ∷ 0 ∷ []) ∷ StepOver (0 ∷ 1 ∷ 1 ∷ 0 ∷ 0 ∷ 0 ∷ 0 ∷ 0 ∷ []) ∷ []

-- 1 and 2 open; 1 takes two bytes of PARAMS, of a piece whose rest is not used; 2 takes one; 1 takes a third, in a
-- record with padding
abbrev opening : List Operation
opening =
    begin 1 ++ begin 2
    ++ StepOver (1 ∷ 4 ∷ 0 ∷ 1 ∷ 0 ∷ 2 ∷ 0 ∷ 0 ∷ [])
    ∷ StepOver (1 ∷ 0 ∷ 1 ∷ 4 ∷ [])
    ∷ StepOver (1 ∷ 4 ∷ 0 ∷ 2 ∷ 0 ∷ 1 ∷ 0 ∷ 0 ∷ [])
    ∷ StepOver (55 ∷ [])
    ∷ StepOver (1 ∷ 4 ∷ 0 ∷ [])
    ∷ StepOver (1 ∷ 0 ∷ 1 ∷ 1 ∷ 0 ∷ [])
    ∷ StepOver (97 ∷ 0 ∷ [])
    ∷ StepOver (0 ∷ [])
    ∷ []

pub after_opening : parameters_after 1 from_zeros opening ≡ 1 ∷ 0 ∷ 97 ∷ []
unfolding with_bytes history_from scan_params scan_whole_params scan_left header_type header_id header_content header_padding copied taken lowest_free with_bit with_slot without_bit without_slot header_of header_bytes begin_body_of end_body_bytes advanced in_header padding_of record_bytes chunks_in chunks stream_bytes flatten with_life aborted on_params on_input on_live on_header grown opened Of.owes_out Of.owes_err Of.finish_bytes Of.finish_in Of.writes request_at area_at put_request put_area take_slot free_slot holds_id find_from id_fits slots_fit position_fits in_shape on_inactive on_active judged opens begun of_begin of_request advances step_refusal stepped started C.lent_refusal C.released C.finishes C.finish called memory_after start_of
after_opening = refl

-- 1 is aborted: the byte of PARAMS that comes then is skipped
abbrev aborting : List Operation
aborting =
    opening
    ++ StepOver (1 ∷ 2 ∷ 0 ∷ 1 ∷ 0 ∷ 0 ∷ 0 ∷ 0 ∷ []) ∷ StepOver (1 ∷ 4 ∷ 0 ∷ 1 ∷ 0 ∷ 1 ∷ 0 ∷ 0 ∷ []) ∷ StepOver (98 ∷ []) ∷ []

pub after_aborting : parameters_after 1 from_zeros aborting ≡ 1 ∷ 0 ∷ 97 ∷ []
unfolding with_bytes history_from scan_params scan_whole_params scan_left header_type header_id header_content header_padding copied taken lowest_free with_bit with_slot without_bit without_slot header_of header_bytes begin_body_of end_body_bytes advanced in_header padding_of record_bytes chunks_in chunks stream_bytes flatten with_life aborted on_params on_input on_live on_header grown opened Of.owes_out Of.owes_err Of.finish_bytes Of.finish_in Of.writes request_at area_at put_request put_area take_slot free_slot holds_id find_from id_fits slots_fit position_fits in_shape on_inactive on_active judged opens begun of_begin of_request advances step_refusal stepped started C.lent_refusal C.released C.finishes C.finish called memory_after start_of
after_aborting = refl

-- 2 is finished, and then 1
abbrev finishing : List Operation
finishing = aborting ++ CallFor 2 (ForFinish 0 (zeros 40)) ∷ []

pub after_finish_of_two : parameters_after 1 from_zeros finishing ≡ 1 ∷ 0 ∷ 97 ∷ []
unfolding with_bytes history_from scan_params scan_whole_params scan_left header_type header_id header_content header_padding copied taken lowest_free with_bit with_slot without_bit without_slot header_of header_bytes begin_body_of end_body_bytes advanced in_header padding_of record_bytes chunks_in chunks stream_bytes flatten with_life aborted on_params on_input on_live on_header grown opened Of.owes_out Of.owes_err Of.finish_bytes Of.finish_in Of.writes request_at area_at put_request put_area take_slot free_slot holds_id find_from id_fits slots_fit position_fits in_shape on_inactive on_active judged opens begun of_begin of_request advances step_refusal stepped started C.lent_refusal C.released C.finishes C.finish called memory_after start_of
after_finish_of_two = refl

pub after_finish_lem : parameters_after 1 from_zeros (finishing ++ CallFor 1 (ForFinish 0 (zeros 40)) ∷ []) ≡ []
unfolding with_bytes history_from scan_params scan_whole_params scan_left header_type header_id header_content header_padding copied taken lowest_free with_bit with_slot without_bit without_slot header_of header_bytes begin_body_of end_body_bytes advanced in_header padding_of record_bytes chunks_in chunks stream_bytes flatten with_life aborted on_params on_input on_live on_header grown opened Of.owes_out Of.owes_err Of.finish_bytes Of.finish_in Of.writes request_at area_at put_request put_area take_slot free_slot holds_id find_from id_fits slots_fit position_fits in_shape on_inactive on_active judged opens begun of_begin of_request advances step_refusal stepped started C.lent_refusal C.released C.finishes C.finish called memory_after start_of
after_finish_lem = refl
