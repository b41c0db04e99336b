-- Worked cases of the calls: the order of refusals where two rows hold, and the lengths of what is written.
use Rattle.std.specs.Prelude.{ℕ, ◌≡◌, refl, Bool, true, false, length}
use mathlib.Core.List.{List, [], ◌∷◌, flatten}
use Rattle.std.proofs.Common.{arith, lt-ltb}
use Rattle.slot_word.specs.Word.{taken, with_bit, with_slot, without_bit, without_slot}
use Rattle.record.specs.Header.{header_bytes}
use Rattle.record_writer.specs.Written.{padding_of, record_length, record_bytes, chunks_in, chunks, stream_bytes, stream_length}
use Rattle.pairs.specs.Length.{length_bytes}
use Rattle.pairs.specs.Pair.{pair_bytes}
use Rattle.pair_writer.specs.Write.{pair_written}
use Rattle.connection.specs.declared.request.Role.{Role}
use Rattle.connection.specs.declared.request.Turn.{Turn}
use Rattle.connection.specs.declared.request.Life.{Life}
use Rattle.connection.specs.declared.request.Request.{Request}
use Rattle.connection.specs.declared.state.Conn.{Conn}
use Rattle.connection.specs.declared.answer.Output.{Output}
use Rattle.connection.specs.Sizes.{CHUNK}
use Rattle.connection.specs.Slots.{request_at, put_request, take_slot, holds_id, find_from, no_requests}
use Rattle.connection.specs.Shape.{id_fits, slots_fit, position_fits, in_shape}
use Rattle.connection.specs.Step.{open_with, no_frame, closed_conn}
use Rattle.connection.specs.Request.{unshown}
use Rattle.connection.specs.RequestCalls.{writes, say_in}
use Rattle.connection.specs.Calls.{lent_refusal, call_refusal, say, values_of}

-- ---- two rows at once: the one that comes first in the order 2, 9, 1, 3, 4, 5, 7, 8, 6
-- a request whose STDOUT is ended
abbrev ended : Request
ended =
    record {
      id = 1;
      length = 0;
      state = record { role = Role.Responder; turn = Turn.Done; life = Life.Live; keep = true; out_ended = true; err_used = false; err_ended = false; shown = unshown };
    }

abbrev talking : Conn
talking = open_with (take_slot no_requests 0 ended) no_frame

-- a slot taken by a request with the id 0
abbrev odd : Bool → Conn
odd is_open = record { table = take_slot no_requests 0 (record { id = 0; length = 0; state = ended.state }); frame = no_frame; «open» = is_open }

short_store_out_of_shape : lent_refusal (odd true) [] 1 ≡ 2
unfolding lent_refusal in_shape slots_fit id_fits position_fits find_from holds_id taken take_slot put_request with_slot with_bit
short_store_out_of_shape = refl

out_of_shape_closed : call_refusal (odd false) 1 ≡ 9
unfolding call_refusal in_shape slots_fit id_fits position_fits find_from holds_id taken take_slot put_request with_slot with_bit
out_of_shape_closed = refl

closed_unknown_id : call_refusal closed_conn 5 ≡ 1
unfolding call_refusal in_shape slots_fit id_fits position_fits find_from holds_id taken
closed_unknown_id = refl

unknown_id_short_buffer : (say talking 5 Output.Stdout (65 ∷ []) []).refusal ≡ 3
unfolding say say_in writes call_refusal in_shape slots_fit id_fits position_fits find_from holds_id taken take_slot put_request with_slot with_bit request_at
unknown_id_short_buffer = refl

ended_short_buffer : (say talking 1 Output.Stdout (65 ∷ []) []).refusal ≡ 5
unfolding say say_in writes call_refusal in_shape slots_fit id_fits position_fits find_from holds_id taken take_slot put_request with_slot with_bit request_at
ended_short_buffer = refl

-- the other stream is not ended: the buffer is too short
other_stream : (say talking 1 Output.Stderr (65 ∷ []) []).refusal ≡ 6
unfolding say say_in writes call_refusal in_shape slots_fit id_fits position_fits find_from holds_id taken take_slot put_request with_slot with_bit without_slot without_bit request_at stream_bytes flatten chunks chunks_in record_bytes header_bytes padding_of
other_stream = refl

-- empty data on an ended stream is refused all the same, on the other it is not
ended_empty : (say talking 1 Output.Stdout [] []).refusal ≡ 5
unfolding say say_in writes call_refusal in_shape slots_fit id_fits position_fits find_from holds_id taken take_slot put_request with_slot with_bit request_at
ended_empty = refl

long_name_short_buffer : (name : List ℕ) → length name ≡ 65536 → (pair_written [] name []).refusal ≡ 8
unfolding pair_written
long_name_short_buffer name e = simp (lt-ltb 65535 (length name) (omega arith))

-- ---- lengths
-- say: no empty record at an exact multiple of 8,184
said : (stream_length CHUNK 0 ≡ 0) × (stream_length CHUNK 1 ≡ 16) × (stream_length CHUNK 8184 ≡ 8192) × (stream_length CHUNK 8185 ≡ 8208) × (stream_length CHUNK 16368 ≡ 16384)
unfolding stream_length record_length padding_of
said = (refl, refl, refl, refl, refl)

-- the result of a query: its content
named : (length (values_of true false false) ≡ 17)
    × (length (values_of false true false) ≡ 17)
    × (length (values_of false false true) ≡ 18)
    × (length (values_of true true false) ≡ 34)
    × (length (values_of true false true) ≡ 35)
    × (length (values_of false true true) ≡ 35)
    × (length (values_of true true true) ≡ 52)
    × (length (values_of false false false) ≡ 0)
unfolding values_of pair_bytes length_bytes
named = (refl, refl, refl, refl, refl, refl, refl, refl)

-- and with header and padding
resulted : (record_length 0 ≡ 8) × (record_length 17 ≡ 32) × (record_length 18 ≡ 32) × (record_length 35 ≡ 48) × (record_length 52 ≡ 64)
unfolding record_length padding_of
resulted = (refl, refl, refl, refl, refl)

-- the two forms of a length
forms : (length_bytes 127 ≡ 127 ∷ []) × (length_bytes 128 ≡ 128 ∷ 0 ∷ 0 ∷ 128 ∷ [])
unfolding length_bytes
forms = (refl, refl)
