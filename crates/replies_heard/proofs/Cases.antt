-- Joint runs, computed by the definitions alone: what the station means and what the server's end hears.
use Rattle.std.specs.Prelude.{ℕ, zero, suc, ◌≡◌, refl, true, false}
use mathlib.Core.List.{List, [], ◌∷◌, ◌++◌, flatten}
use Rattle.wire.specs.Number.{number4}
use Rattle.wire.specs.Buffer.{zeros, copied}
use Rattle.slot_word.specs.Word.{taken, lowest_free, with_bit, with_slot, without_bit, without_slot}
use Rattle.record.specs.Header.{header_of, header_bytes}
use Rattle.record.specs.Body.{begin_body_of, begin_body_bytes, end_body_of, end_body_bytes, unknown_type_of, unknown_type_bytes}
use Rattle.record_reader.specs.Position.{in_header, advanced}
use Rattle.record_writer.specs.Written.{padding_of, record_bytes, chunks_in, chunks, stream_bytes}
use Rattle.pairs.specs.Length.{length_bytes, length_at}
use Rattle.pairs.specs.Pair.{pair_bytes, pair_at}
use Rattle.pair_list.specs.List.{pairs_in, pairs_from, ending_of, well_formed}
use Rattle.pair_repeats.specs.Repeats.{repeats_in, repeats}
use Rattle.connection.specs.declared.answer.Output.{Output}
use Rattle.connection.specs.Sizes.{QUERY, STORE}
use Rattle.connection.specs.Event.{Event as StationEvent}
use Rattle.connection.specs.Request as Q
use Rattle.connection.specs.RequestCalls as Of
use Rattle.connection.specs.Slots.{request_at, area_at, put_request, put_area, take_slot, free_slot, holds_id, find_from}
use Rattle.connection.specs.Shape as T
use Rattle.connection.specs.Step as S
use Rattle.connection.specs.Calls as C
use Rattle.connection.specs.Arguments.{Argument, ForSay, ForEnd, ForFinish}
use Rattle.connection.specs.Run.{StepOver, CallFor, called, memory_after, start_of}
use Rattle.server.specs.declared.state.Input.{Input}
use Rattle.server.specs.Event.{Event, Note, showing}
use Rattle.server.specs.Shape.{in_shape}
use Rattle.server.specs.Step.{closes, valued, on_management, on_output, on_request, judged, of_values, taken as takenIn, step_refusal, stepped, started}
use Rattle.server.specs.Calls.{EndOf, open_refusal, open_request, call_refusal, writes_part, write_part, ask_refusal, ask_values}
use Rattle.replies_heard.specs.Moves.{Does, Replies}
use Rattle.replies_heard.specs.Joint.{Joint, JointMove, Station, Reads, Opens, Writes, Asks, without, is_in, after, ending, heard, meant, fresh}

-- ---- the moves
abbrev pub start : Joint
start = fresh (zeros QUERY) (zeros STORE) (zeros QUERY)

-- the station steps over these bytes; calls; replies
abbrev pub steps : List ℕ → JointMove
steps bytes = Station (Does (StepOver bytes))

abbrev calls : ℕ → Argument → JointMove
calls id a = Station (Does (CallFor id a))

abbrev replies : StationEvent → JointMove
replies e = Station (Replies e (zeros 64))

-- a header with n content bytes; the body of BEGIN with KEEP_CONN
abbrev pub header : ℕ → ℕ → ℕ → List ℕ
header kind id n = 1 ∷ kind ∷ 0 ∷ id ∷ 0 ∷ n ∷ 0 ∷ 0 ∷ []

abbrev pub begin : ℕ → List ℕ
begin role = 0 ∷ role ∷ 1 ∷ 0 ∷ 0 ∷ 0 ∷ 0 ∷ 0 ∷ []

-- the station reads the whole BEGIN of a responder
abbrev begun : ℕ → List JointMove
begun id = steps (header 1 id 8) ∷ steps (begin 1) ∷ []

-- so many steps, each over all that is there
abbrev read_on : ℕ → List JointMove
read_on zero = []
read_on (suc n) = Reads 100 ∷ read_on n

-- The server's end opens 1 and ends its PARAMS, and the station reads that. The station says "hi" on STDOUT; the server's
-- end reads of it, and asks for values in the midst of a record. The station says "!" on STDERR and finishes with status
-- 938; the server's end reads on, a phase with each step.
abbrev pub whole : List JointMove
whole =
    Opens 1 1 true (zeros 16)
    ∷ steps (header 1 1 8)
    ∷ steps (begin 1)
    ∷ Writes 1 (EndOf Input.Params) (zeros 8)
    ∷ steps (header 4 1 0)
    ∷ calls 1 (ForSay Output.Stdout (104 ∷ 105 ∷ []) (zeros 16))
    ∷ Reads 5
    ∷ Reads 100
    ∷ Reads 1
    ∷ Asks [] (zeros 8)
    ∷ calls 1 (ForSay Output.Stderr (33 ∷ []) (zeros 16))
    ∷ calls 1 (ForFinish 938 (zeros 32))
    ∷ read_on 9

-- The server's end reads in the midst of what was said.
abbrev partly : List JointMove
partly = Opens 1 1 true (zeros 16) ∷ begun 1 ++ (steps (header 4 1 0) ∷ calls 1 (ForSay Output.Stdout (104 ∷ 105 ∷ []) (zeros 16)) ∷ Reads 8 ∷ Reads 1 ∷ [])

-- The station opens 2 before 1, so that they lie in other slots there; each says a byte, 2 ends STDOUT, and another byte
-- is refused.
abbrev two : List JointMove
two =
    Opens 1 1 true (zeros 16) ∷ Opens 2 1 true (zeros 16) ∷ begun 2 ++ begun 1
    ++ (steps (header 4 1 0) ∷ steps (header 4 2 0) ∷ calls 1 (ForSay Output.Stdout (65 ∷ []) (zeros 16)) ∷ calls 2 (ForSay Output.Stdout (66 ∷ []) (zeros 16)) ∷ calls 2 (ForEnd Output.Stdout (zeros 8)) ∷ calls 2 (ForSay Output.Stdout (67 ∷ []) (zeros 16)) ∷ read_on 7)

-- The station reads a BEGIN of role 9 where 1 was opened, and refuses it.
abbrev pub refused : List JointMove
refused = Opens 1 1 true (zeros 16) ∷ steps (header 1 1 8) ∷ steps (begin 9) ∷ []

-- Its END_REQUEST is tried with a buffer that is too short, comes behind the answer to a query, and is followed by an
-- unknown type. Then 1 is opened again.
abbrev pub refusing : List JointMove
refusing =
    refused
    ++ (Station (Replies (StationEvent.Refuse 1 3) (zeros 15))
    ∷ replies (StationEvent.Query true false false) ∷ replies (StationEvent.Refuse 1 3) ∷ replies (StationEvent.Unknown 77)
    ∷ read_on 7 ++ (Opens 1 1 true (zeros 16) ∷ begun 1))

-- 1 has no KEEP_CONN, so the station closes when it is finished; the opening of 2 is on its way for good.
abbrev closing : List JointMove
closing = Opens 1 1 false (zeros 16) ∷ Opens 2 1 true (zeros 16) ∷ steps (header 1 1 8) ∷ steps (0 ∷ 1 ∷ 0 ∷ 0 ∷ 0 ∷ 0 ∷ 0 ∷ 0 ∷ []) ∷ calls 1 (ForFinish 7 (zeros 32)) ∷ begun 2 ++ read_on 3

-- one name for all that is computed
unfoldable pub computing : Unit {0}
unfolding number4 copied taken lowest_free with_bit with_slot without_bit without_slot header_of header_bytes begin_body_of begin_body_bytes end_body_of end_body_bytes unknown_type_of unknown_type_bytes in_header advanced padding_of record_bytes chunks_in chunks stream_bytes flatten length_bytes length_at pair_bytes pair_at pairs_in pairs_from ending_of well_formed repeats_in repeats Q.with_turn Q.with_life Q.counted Q.faulted Q.aborted Q.turned Q.params_fault Q.params_ended Q.on_params Q.on_stdin Q.on_data Q.on_input Q.on_live Q.on_header Q.grown Q.opened Of.writes Of.said_on Of.say_in Of.ended_on Of.end_in Of.owes_out Of.owes_err Of.finish_bytes Of.finish_in request_at area_at put_request put_area take_slot free_slot holds_id find_from T.id_fits T.slots_fit T.position_fits T.in_shape S.on_inactive S.on_active S.judged S.opens S.begun S.of_begin S.of_request S.advances S.step_refusal S.stepped S.started C.lent_refusal C.call_refusal C.say C.end_stream C.released C.finishes C.finish C.values_of C.owed C.replied called memory_after start_of showing in_shape closes valued on_management on_output on_request judged of_values takenIn step_refusal stepped started open_refusal open_request call_refusal writes_part write_part ask_refusal ask_values without is_in after ending heard meant
computing = tt

-- What a run came to.
pub record Outcome : Type 0 where
  pub heard : List Note
  pub meant : List Note
  pub wire : List ℕ
  pub waiting : List ℕ
  pub refused : List ℕ

abbrev outcome : List JointMove → Outcome
outcome xs = record { heard = heard start xs; meant = meant start xs; wire = (ending start xs).wire; waiting = (ending start xs).waiting; refused = (ending start xs).refused }

-- all that was meant is heard, and nothing is left
abbrev all : List Note → Outcome
all l = record { heard = l; meant = l; wire = []; waiting = []; refused = [] }

pub record Cases : Type 0 where
  whole_heard : outcome whole ≡ all (Note.Shown 1 6 104 ∷ Note.Shown 1 6 105 ∷ Note.Shown 1 7 33 ∷ Note.Told (Event.Ended 1 6) ∷ Note.Told (Event.Ended 1 7) ∷ Note.Told (Event.Finished 1 938 0) ∷ [])
  partly_heard : outcome partly ≡ record { heard = Note.Shown 1 6 104 ∷ []; meant = Note.Shown 1 6 104 ∷ Note.Shown 1 6 105 ∷ []; wire = 105 ∷ zeros 6; waiting = []; refused = [] }
  two_heard : outcome two ≡ all (Note.Shown 1 6 65 ∷ Note.Shown 2 6 66 ∷ Note.Told (Event.Ended 2 6) ∷ [])
  refused_owed : outcome refused ≡ record { heard = []; meant = []; wire = []; waiting = []; refused = 1 ∷ [] }
  refusing_heard : outcome refusing
      ≡ all (Note.Listed (14 ∷ 1 ∷ 70 ∷ 67 ∷ 71 ∷ 73 ∷ 95 ∷ 77 ∷ 65 ∷ 88 ∷ 95 ∷ 67 ∷ 79 ∷ 78 ∷ 78 ∷ 83 ∷ 49 ∷ []) ∷ Note.Told (Event.Finished 1 0 3) ∷ Note.Told (Event.Unknown 77) ∷ [])
  closing_heard : outcome closing
      ≡ record { heard = Note.Told (Event.Ended 1 6) ∷ Note.Told (Event.Finished 1 7 0) ∷ []; meant = Note.Told (Event.Ended 1 6) ∷ Note.Told (Event.Finished 1 7 0) ∷ []; wire = []; waiting = 2 ∷ []; refused = [] }

pub cases : Cases
unfolding computing
cases = record { whole_heard = refl; partly_heard = refl; two_heard = refl; refused_owed = refl; refusing_heard = refl; closing_heard = refl }
