-- What the web server's end hears, computed from bytes by the definitions alone: flows of the specification's appendix B,
-- each close 51 to 56 and what it comes before, and the refusals of a step and of the number of open requests.
use Rattle.std.specs.Prelude.{ℕ, zero, suc, ◌≡◌, refl, true, false, List, [], ◌∷◌, ◌++◌, map, take, drop, replicate}
use Rattle.wire.specs.Number.{number4}
use Rattle.wire.specs.Buffer.{zeros, copied}
use Rattle.slot_word.specs.Word.{taken, with_bit, with_slot, without_bit, without_slot, taken_count}
use Rattle.record.specs.Header.{header_of}
use Rattle.record.specs.Body.{end_body_of, unknown_type_of}
use Rattle.record_reader.specs.Position.{between_records, in_header, advanced}
use Rattle.pairs.specs.Length.{length_at}
use Rattle.pairs.specs.Pair.{pair_at}
use Rattle.pair_list.specs.List.{pairs_in, pairs_from, ending_of, well_formed}
use Rattle.connection.specs.declared.request.Role.{Role}
use Rattle.connection.specs.Sizes.{QUERY}
use Rattle.connection.specs.Request.{opened}
use Rattle.connection.specs.RequestCalls.{ended_on}
use Rattle.connection.specs.Slots.{request_at, put_request, take_slot, free_slot, no_requests, holds_id, find_from}
use Rattle.connection.specs.Shape.{id_fits, slots_fit, position_fits}
use Rattle.server.specs.declared.state.Target.{Target}
use Rattle.server.specs.Event.{Event, Note, showing, notes}
use Rattle.server.specs.Shape.{in_shape}
use Rattle.server.specs.Step.{State, state_at, idle, closes, valued, on_management, on_output, on_request, judged, of_values, taken as takenIn, stays, step_refusal, stepped, started}
use Rattle.server.specs.Calls.{open_count}

-- a server's end with request 1 open
abbrev one : State
one = state_at between_records (idle (take_slot no_requests 0 (opened 1 Role.Responder true)) true (zeros QUERY))

-- closed; closed and with two requests that have one id
abbrev closed : State
closed = state_at between_records (idle one.server.table false (zeros QUERY))

abbrev broken : State
broken = state_at between_records (idle (take_slot one.server.table 1 (opened 1 Role.Responder true)) false (zeros QUERY))

-- what is heard in at most so many steps, each over all that is left
unfoldable hear : ℕ → State → List ℕ → List Note
hear zero st bytes = []
hear (suc k) st bytes =
    let s = stepped st bytes in
    notes s.event (take s.used bytes) s.state.values ++ hear k s.state (drop s.used bytes)

abbrev hears : List ℕ → List Note
hears bytes = hear 16 one bytes

-- a header with n content bytes
abbrev header : ℕ → ℕ → ℕ → List ℕ
header kind id n = 1 ∷ kind ∷ 0 ∷ id ∷ 0 ∷ n ∷ 0 ∷ 0 ∷ []

-- END_REQUEST of 1 with application status 938 and this protocol status
abbrev finished : ℕ → List ℕ
finished status = header 3 1 8 ++ (0 ∷ 0 ∷ 3 ∷ 170 ∷ status ∷ 0 ∷ 0 ∷ 0 ∷ [])

-- "err" with five bytes of padding, "hi"
abbrev err : List ℕ
err = 1 ∷ 7 ∷ 0 ∷ 1 ∷ 0 ∷ 3 ∷ 5 ∷ 0 ∷ 101 ∷ 114 ∷ 114 ∷ 0 ∷ 0 ∷ 0 ∷ 0 ∷ 0 ∷ []

abbrev hi : List ℕ
hi = header 6 1 2 ++ (104 ∷ 105 ∷ [])

pub record Cases : Type 0 where
  -- output on both streams, their ends, the end of the request
  flow : hears (err ++ hi ++ header 6 1 0 ++ header 7 1 0 ++ finished 0)
      ≡ Note.Shown 1 7 101 ∷ Note.Shown 1 7 114 ∷ Note.Shown 1 7 114 ∷ Note.Shown 1 6 104 ∷ Note.Shown 1 6 105 ∷ Note.Told (Event.Ended 1 6) ∷ Note.Told (Event.Ended 1 7) ∷ Note.Told (Event.Finished 1 938 0) ∷ []
  -- behind its last byte content is for nothing more
  all_taken_lem : (stepped (stepped one (take 8 hi)).state (drop 8 hi)).state.server.frame.target ≡ Target.Skip
  -- END_REQUEST while streams run; then the id is open no more
  streams_left : hears (finished 0 ++ header 6 1 0) ≡ Note.Told (Event.Finished 1 938 0) ∷ Note.Told (Event.Closed 53) ∷ []
  -- an opening that the station refuses
  refused_opening : hears (finished 2) ≡ Note.Told (Event.Finished 1 938 2) ∷ []
  -- values, asked for or not; an empty result; an unknown type, and one more record behind it
  result : hears (header 10 0 3 ++ (1 ∷ 0 ∷ 65 ∷ [])) ≡ Note.Listed (1 ∷ 0 ∷ 65 ∷ []) ∷ []
  no_values : hears (header 10 0 0) ≡ Note.Listed [] ∷ []
  unknown : hears (header 11 0 8 ++ (42 ∷ 0 ∷ 0 ∷ 0 ∷ 0 ∷ 0 ∷ 0 ∷ 0 ∷ []) ++ hi) ≡ Note.Told (Event.Unknown 42) ∷ Note.Shown 1 6 104 ∷ Note.Shown 1 6 105 ∷ []
  -- 51: version 2, before everything else
  close_51 : hears (2 ∷ 9 ∷ 0 ∷ 9 ∷ 2 ∷ 188 ∷ 0 ∷ 0 ∷ []) ≡ Note.Told (Event.Closed 51) ∷ []
  close_51_zero : hears (0 ∷ 6 ∷ 0 ∷ 1 ∷ 0 ∷ 2 ∷ 0 ∷ 0 ∷ []) ≡ Note.Told (Event.Closed 51) ∷ []
  -- 52: a type that is no reply, before an id that is not open; each of those, of the id that is open
  close_52 : hears (header 4 9 9) ≡ Note.Told (Event.Closed 52) ∷ []
  close_52_types : map (λ kind. hears (header kind 1 2)) (0 ∷ 1 ∷ 2 ∷ 4 ∷ 5 ∷ 8 ∷ 9 ∷ 12 ∷ 255 ∷ []) ≡ replicate 9 (Note.Told (Event.Closed 52) ∷ [])
  -- 53: an id that is not open, before a wrong length; of a management record one that is not 0
  close_53 : hears (header 3 9 9) ≡ Note.Told (Event.Closed 53) ∷ []
  close_53_management : hears (header 11 1 7) ≡ Note.Told (Event.Closed 53) ∷ []
  close_53_result : hears (header 10 1 0) ≡ Note.Told (Event.Closed 53) ∷ []
  close_53_output : hears (header 6 0 0) ≡ Note.Told (Event.Closed 53) ∷ []
  -- 54: END_REQUEST of nine or seven bytes, UNKNOWN_TYPE of seven or nine
  close_54 : hears (header 3 1 9) ≡ Note.Told (Event.Closed 54) ∷ []
  close_54_short : hears (header 3 1 7) ≡ Note.Told (Event.Closed 54) ∷ []
  close_54_unknown_long : hears (header 11 0 9) ≡ Note.Told (Event.Closed 54) ∷ []
  close_54_unknown : hears (header 11 0 7) ≡ Note.Told (Event.Closed 54) ∷ []
  -- 55: a result of 513 bytes, at its header; a malformed one, at its last byte
  close_55 : hears (1 ∷ 10 ∷ 0 ∷ 0 ∷ 2 ∷ 1 ∷ 0 ∷ 0 ∷ []) ≡ Note.Told (Event.Closed 55) ∷ []
  close_55_malformed : hears (header 10 0 1 ++ (5 ∷ [])) ≡ Note.Told (Event.Closed 55) ∷ []
  -- 56: output behind its end, empty or not; the other stream runs on
  close_56 : hears (header 6 1 0 ++ header 6 1 0) ≡ Note.Told (Event.Ended 1 6) ∷ Note.Told (Event.Closed 56) ∷ []
  close_56_output : hears (header 7 1 0 ++ hi ++ header 7 1 2) ≡ Note.Told (Event.Ended 1 7) ∷ Note.Shown 1 6 104 ∷ Note.Shown 1 6 105 ∷ Note.Told (Event.Closed 56) ∷ []
  -- what comes behind a close is not heard
  nothing_more : hears (header 4 9 9 ++ hi) ≡ Note.Told (Event.Closed 52) ∷ []
  -- a start zeroes the values, a close leaves them
  start_zeroes : (started (7 ∷ 8 ∷ [])).values ≡ 0 ∷ 0 ∷ []
  close_leaves : (stepped (record { server = one.server; values = 7 ∷ 8 ∷ [] }) (header 4 9 9)).state.values ≡ 7 ∷ 8 ∷ []
  -- refused by 9 before 1, nothing is used
  step_broken : stepped broken hi ≡ stays 9 broken
  step_closed : stepped closed hi ≡ stays 1 closed
  count_broken : open_count broken.server ≡ record { refusal = 9; count = 0 }
  count_closed : open_count closed.server ≡ record { refusal = 1; count = 0 }
  count_one : open_count one.server ≡ record { refusal = 0; count = 1 }

pub cases : Cases
unfolding hear number4 copied taken with_bit with_slot without_bit without_slot header_of end_body_of unknown_type_of in_header advanced length_at pair_at pairs_in pairs_from ending_of well_formed opened ended_on request_at put_request take_slot free_slot holds_id find_from id_fits slots_fit position_fits showing in_shape closes valued on_management on_output on_request judged of_values takenIn step_refusal stepped started open_count taken_count
cases =
    record {
      flow = refl;
      all_taken_lem = refl;
      streams_left = refl;
      refused_opening = refl;
      result = refl;
      no_values = refl;
      unknown = refl;
      close_51 = refl;
      close_51_zero = refl;
      close_52 = refl;
      close_52_types = refl;
      close_53 = refl;
      close_53_management = refl;
      close_53_result = refl;
      close_53_output = refl;
      close_54 = refl;
      close_54_short = refl;
      close_54_unknown_long = refl;
      close_54_unknown = refl;
      close_55 = refl;
      close_55_malformed = refl;
      close_56 = refl;
      close_56_output = refl;
      nothing_more = refl;
      start_zeroes = refl;
      close_leaves = refl;
      step_broken = refl;
      step_closed = refl;
      count_broken = refl;
      count_closed = refl;
      count_one = refl;
    }
