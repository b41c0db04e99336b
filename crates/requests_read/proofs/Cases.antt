-- Small runs, computed by the definitions alone, with all bytes and all that is told written out: what the server's end
-- writes in the four flows of the specification's appendix B, a body that is shorter than stated and aborted, a filter,
-- and a question. `Instances` takes them to the theorems.
use Rattle.std.specs.Prelude.{ℕ, ◌≡◌, refl, true, false}
use mathlib.Core.List.{List, [], ◌∷◌, ◌++◌, flatten}
use Rattle.wire.specs.Buffer.{zeros}
use Rattle.wire.specs.Compare.{same_bytes}
use Rattle.slot_word.specs.Word.{taken, lowest_free, with_bit, with_slot, without_bit, without_slot}
use Rattle.record.specs.Header.{header_bytes}
use Rattle.record.specs.Body.{begin_body_bytes}
use Rattle.record_writer.specs.Written.{padding_of, record_bytes, chunks_in, chunks, stream_bytes}
use Rattle.pairs.specs.Length.{length_bytes, length_at}
use Rattle.pairs.specs.Pair.{pair_bytes, pair_at}
use Rattle.pair_list.specs.List.{pairs_in, pairs_from, ending_of, well_formed, first_in, first_named}
use Rattle.pair_list.proofs.ReadBackList.{Named, written}
use Rattle.decimal.specs.Decimal.{digits_after, decimal_of}
use Rattle.stated_length.specs.Stated.{stated_in}
use Rattle.connection.specs.declared.event.Measure.{Measure}
use Rattle.connection.specs.declared.event.Stream.{Stream}
use Rattle.connection.specs.declared.request.Role.{Role}
use Rattle.connection.specs.declared.request.Turn.{Turn}
use Rattle.connection.specs.declared.request.Life.{Life}
use Rattle.connection.specs.Sizes.{QUERY}
use Rattle.connection.specs.Event.{Event}
use Rattle.connection.specs.Request.{CONTENT_LENGTH, DATA_LENGTH, unshown, counted, measured, with_turn, with_life, opened}
use Rattle.connection.specs.Slots.{request_at, put_request, take_slot, holds_id, find_from}
use Rattle.connection.specs.Shape.{id_fits, slots_fit, position_fits}
use Rattle.connection.specs.Step.{MAX_CONNS, MPXS_CONNS}
use Rattle.connection.specs.Bytewise.{Note, showing}
use Rattle.server.specs.declared.state.Input.{Input}
use Rattle.server.specs.Shape.{in_shape}
use Rattle.server.specs.Step.{started as serverStarted}
use Rattle.server.specs.Calls.{Part, APair, Content, EndOf, Abort, role_of, open_refusal, open_request, call_refusal, writes_part, write_part, slot_of, ask_refusal, ask_values}
use Rattle.requests_read.specs.Parts.{SoFar, begun, all_so_far, parts_told}
use Rattle.requests_read.specs.WrittenRequest.{PartCall, WrittenRequest, parts_in, short_buffers, parts_of, whole_of, called, calls_of, bytes_written}
use Rattle.requests_read.specs.ManyRequests.{Call, Opens, Gives, nothing_known, all_written, all_told, all_known, after_all, fresh}
use Rattle.requests_read.specs.AskedNames.{is_among, query_for}

-- what the calls compute with
unfoldable pub computing : Unit {0}
unfolding flatten same_bytes taken lowest_free with_bit with_slot without_bit without_slot header_bytes begin_body_bytes padding_of record_bytes chunks_in chunks stream_bytes length_bytes length_at pair_bytes pair_at pairs_in pairs_from ending_of well_formed first_in first_named written digits_after decimal_of stated_in counted measured with_turn with_life opened request_at put_request take_slot holds_id find_from id_fits slots_fit position_fits showing in_shape serverStarted open_refusal open_request call_refusal writes_part write_part ask_refusal ask_values all_so_far parts_told parts_in short_buffers called all_written all_told all_known after_all is_among
computing = tt

-- ---- the parts
-- SERVER_PORT 80, SERVER_ADDR 199.170.183.42
abbrev pub SERVER_PORT : List ℕ
SERVER_PORT = 83 ∷ 69 ∷ 82 ∷ 86 ∷ 69 ∷ 82 ∷ 95 ∷ 80 ∷ 79 ∷ 82 ∷ 84 ∷ []

abbrev pub SERVER_ADDR : List ℕ
SERVER_ADDR = 83 ∷ 69 ∷ 82 ∷ 86 ∷ 69 ∷ 82 ∷ 95 ∷ 65 ∷ 68 ∷ 68 ∷ 82 ∷ []

abbrev pub eighty : List ℕ
eighty = 56 ∷ 48 ∷ []

abbrev pub address : List ℕ
address = 49 ∷ 57 ∷ 57 ∷ 46 ∷ 49 ∷ 55 ∷ 48 ∷ 46 ∷ 49 ∷ 56 ∷ 51 ∷ 46 ∷ 52 ∷ 50 ∷ []

abbrev pub port : Part
port = APair SERVER_PORT eighty

abbrev pub addr : Part
addr = APair SERVER_ADDR address

abbrev pairs_of_both : List Named
pairs_of_both = record { name = SERVER_PORT; value = eighty } ∷ record { name = SERVER_ADDR; value = address } ∷ []

-- quantity=100&item=3047936
abbrev pub quantity : List ℕ
quantity = 113 ∷ 117 ∷ 97 ∷ 110 ∷ 116 ∷ 105 ∷ 116 ∷ 121 ∷ 61 ∷ 49 ∷ 48 ∷ 48 ∷ 38 ∷ 105 ∷ 116 ∷ 101 ∷ 109 ∷ 61 ∷ 51 ∷ 48 ∷ 52 ∷ 55 ∷ 57 ∷ 51 ∷ 54 ∷ []

-- their records
abbrev port_record : ℕ → List ℕ
port_record id = (1 ∷ 4 ∷ 0 ∷ id ∷ 0 ∷ 15 ∷ 1 ∷ 0 ∷ 11 ∷ 2 ∷ []) ++ SERVER_PORT ++ eighty ++ zeros 1

abbrev addr_record : ℕ → List ℕ
addr_record id = (1 ∷ 4 ∷ 0 ∷ id ∷ 0 ∷ 27 ∷ 5 ∷ 0 ∷ 11 ∷ 14 ∷ []) ++ SERVER_ADDR ++ address ++ zeros 5

abbrev quantity_record : ℕ → List ℕ
quantity_record id = (1 ∷ 5 ∷ 0 ∷ id ∷ 0 ∷ 25 ∷ 7 ∷ 0 ∷ []) ++ quantity ++ zeros 7

abbrev empty_record : ℕ → ℕ → List ℕ
empty_record kind id = 1 ∷ kind ∷ 0 ∷ id ∷ 0 ∷ 0 ∷ 0 ∷ 0 ∷ []

abbrev begin_record : ℕ → ℕ → ℕ → List ℕ
begin_record id role flags = 1 ∷ 1 ∷ 0 ∷ id ∷ 0 ∷ 8 ∷ 0 ∷ 0 ∷ 0 ∷ role ∷ flags ∷ 0 ∷ 0 ∷ 0 ∷ 0 ∷ 0 ∷ []

-- a call with a buffer of so many bytes
abbrev call : Part → ℕ → PartCall
call part n = record { part = part; buffer = zeros n }

-- ---- the first flow, and the third: a responder with no body. (They differ in what is answered.)
abbrev pub first : WrittenRequest
first =
    record {
      id = 1;
      role = 1;
      keep = false;
      buffer = zeros 16;
      calls = call port 24 ∷ call addr 40 ∷ call (EndOf Input.Params) 8 ∷ call (EndOf Input.Stdin) 8 ∷ [];
    }

abbrev pub first_bytes : List ℕ
first_bytes = begin_record 1 1 0 ++ port_record 1 ++ addr_record 1 ++ empty_record 4 1 ++ empty_record 5 1

abbrev pub first_told : List Note
first_told = Note.Told (Event.Open 1 1 false) ∷ Note.Told (Event.Ready 1 42) ∷ Note.Told (Event.End 1 5 Measure.Unstated) ∷ []

-- ---- the second: with a body
abbrev pub second : WrittenRequest
second =
    record {
      id = 1;
      role = 1;
      keep = false;
      buffer = zeros 16;
      calls = call port 24 ∷ call addr 40 ∷ call (EndOf Input.Params) 8 ∷ call (Content Stream.Stdin quantity) 40 ∷ call (EndOf Input.Stdin) 8 ∷ [];
    }

abbrev pub second_bytes : List ℕ
second_bytes = begin_record 1 1 0 ++ port_record 1 ++ addr_record 1 ++ empty_record 4 1 ++ quantity_record 1 ++ empty_record 5 1

abbrev pub second_told : List Note
second_told = (Note.Told (Event.Open 1 1 false) ∷ Note.Told (Event.Ready 1 42) ∷ []) ++ showing 1 5 quantity ++ (Note.Told (Event.End 1 5 Measure.Unstated) ∷ [])

-- ---- the body is one byte shorter than its list states, and then it is aborted. (The end of PARAMS is tried first
-- with a buffer that is too short.)
abbrev pub twenty_six : List ℕ
twenty_six = 50 ∷ 54 ∷ []

abbrev pub short : WrittenRequest
short =
    record {
      id = 9;
      role = 1;
      keep = true;
      buffer = zeros 16;
      calls =
          call (APair CONTENT_LENGTH twenty_six) 32 ∷ call (EndOf Input.Params) 7 ∷ call (EndOf Input.Params) 8 ∷ call (Content Stream.Stdin quantity) 40 ∷ call (EndOf Input.Stdin) 8
          ∷ call Abort 8
          ∷ [];
    }

abbrev pub short_bytes : List ℕ
short_bytes =
    begin_record 9 1 1 ++ ((1 ∷ 4 ∷ 0 ∷ 9 ∷ 0 ∷ 18 ∷ 6 ∷ 0 ∷ 14 ∷ 2 ∷ []) ++ CONTENT_LENGTH ++ twenty_six ++ zeros 6) ++ empty_record 4 9 ++ quantity_record 9 ++ empty_record 5 9 ++ empty_record 2 9

abbrev pub short_told : List Note
short_told =
    (Note.Told (Event.Open 9 1 true) ∷ Note.Told (Event.Ready 9 18) ∷ []) ++ showing 9 5 quantity ++ (Note.Told (Event.End 9 5 Measure.Short) ∷ Note.Told (Event.Abort 9) ∷ [])

-- ---- a filter, whose DATA come in two parts and are as long as its list states
abbrev pub filter : WrittenRequest
filter =
    record {
      id = 1;
      role = 3;
      keep = true;
      buffer = zeros 16;
      calls =
          call (APair DATA_LENGTH (50 ∷ [])) 32 ∷ call (EndOf Input.Params) 8 ∷ call (EndOf Input.Stdin) 8 ∷ call (Content Stream.Data (7 ∷ [])) 16 ∷ call (Content Stream.Data (8 ∷ [])) 16
          ∷ call (EndOf Input.Data) 8
          ∷ [];
    }

abbrev pub filter_bytes : List ℕ
filter_bytes =
    begin_record 1 3 1 ++ ((1 ∷ 4 ∷ 0 ∷ 1 ∷ 0 ∷ 19 ∷ 5 ∷ 0 ∷ 16 ∷ 1 ∷ []) ++ DATA_LENGTH ++ (50 ∷ zeros 5)) ++ empty_record 4 1 ++ empty_record 5 1
    ++ ((1 ∷ 8 ∷ 0 ∷ 1 ∷ 0 ∷ 1 ∷ 7 ∷ 0 ∷ 7 ∷ []) ++ zeros 7)
    ++ ((1 ∷ 8 ∷ 0 ∷ 1 ∷ 0 ∷ 1 ∷ 7 ∷ 0 ∷ 8 ∷ []) ++ zeros 7)
    ++ empty_record 8 1

abbrev pub filter_told : List Note
filter_told =
    Note.Told (Event.Open 1 3 true) ∷ Note.Told (Event.Ready 1 19) ∷ Note.Told (Event.End 1 5 Measure.Unstated) ∷ Note.Shown 1 8 7 ∷ Note.Shown 1 8 8
    ∷ Note.Told (Event.End 1 8 Measure.Exact)
    ∷ []

-- ---- the fourth flow: two requests at once. (Refused: request 2 opened again; STDIN of 2 before its turn; the end of
-- its PARAMS without room.)
abbrev pub fourth : List Call
fourth =
    Opens 1 1 true (zeros 16)
    ∷ Gives 1 port (zeros 24)
    ∷ Gives 1 addr (zeros 40)
    ∷ Gives 1 (EndOf Input.Params) (zeros 8)
    ∷ Opens 2 1 true (zeros 16)
    ∷ Opens 2 1 true (zeros 16)
    ∷ Gives 2 port (zeros 24)
    ∷ Gives 2 (Content Stream.Stdin []) (zeros 8)
    ∷ Gives 2 addr (zeros 40)
    ∷ Gives 1 (EndOf Input.Stdin) (zeros 8)
    ∷ Gives 2 (EndOf Input.Params) (zeros 7)
    ∷ Gives 2 (EndOf Input.Params) (zeros 8)
    ∷ Gives 2 (EndOf Input.Stdin) (zeros 8)
    ∷ []

abbrev pub fourth_bytes : List ℕ
fourth_bytes =
    begin_record 1 1 1 ++ port_record 1 ++ addr_record 1 ++ empty_record 4 1 ++ begin_record 2 1 1 ++ port_record 2 ++ addr_record 2 ++ empty_record 5 1 ++ empty_record 4 2 ++ empty_record 5 2

abbrev pub fourth_told : List Note
fourth_told =
    Note.Told (Event.Open 1 1 true) ∷ Note.Told (Event.Ready 1 42) ∷ Note.Told (Event.Open 2 1 true) ∷ Note.Told (Event.End 1 5 Measure.Unstated) ∷ Note.Told (Event.Ready 2 42)
    ∷ Note.Told (Event.End 2 5 Measure.Unstated)
    ∷ []

-- a responder whose streams have ended
abbrev pub whole_one : SoFar
whole_one = record { role = Role.Responder; keep = true; turn = Turn.Done; life = Life.Live; pairs = pairs_of_both; shown = unshown }

-- ---- a question: FCGI_MAX_CONNS, FCGI_MPXS_CONNS, and a name that means nothing
abbrev pub asked : List Named
asked = record { name = MAX_CONNS; value = [] } ∷ record { name = MPXS_CONNS; value = [] } ∷ record { name = SERVER_PORT; value = [] } ∷ []

abbrev pub asked_bytes : List ℕ
asked_bytes = (1 ∷ 9 ∷ 0 ∷ 0 ∷ 0 ∷ 46 ∷ 2 ∷ 0 ∷ 14 ∷ 0 ∷ []) ++ MAX_CONNS ++ (15 ∷ 0 ∷ MPXS_CONNS) ++ (11 ∷ 0 ∷ SERVER_PORT) ++ zeros 2

-- ---- what they come to
-- Of one request: its bytes, its refusals, also as the theorem has them, what is told of it, and how it stands then.
pub record Comes (q : WrittenRequest) (bytes refusals : List ℕ) (told : List Note) (whole : SoFar) : Type 0 where
  pub writes : bytes_written (zeros QUERY) q ≡ bytes
  pub refuses : (calls_of (zeros QUERY) q).refusals ≡ refusals
  pub lacks : short_buffers q.id q.calls ≡ refusals
  pub tells : Note.Told (Event.Open q.id q.role q.keep) ∷ parts_told q.id (begun (role_of q.role) q.keep) (parts_of q) ≡ told
  pub stands : whole_of q ≡ whole

pub first_comes : Comes first first_bytes (0 ∷ 0 ∷ 0 ∷ 0 ∷ []) first_told
    (record { role = Role.Responder; keep = false; turn = Turn.Done; life = Life.Live; pairs = pairs_of_both; shown = unshown })
unfolding computing
first_comes = record { writes = refl; refuses = refl; lacks = refl; tells = refl; stands = refl }

pub second_comes : Comes second second_bytes (0 ∷ 0 ∷ 0 ∷ 0 ∷ 0 ∷ []) second_told
    (record { role = Role.Responder; keep = false; turn = Turn.Done; life = Life.Live; pairs = pairs_of_both; shown = record { stdin = 25; «data» = 0 } })
unfolding computing
second_comes = record { writes = refl; refuses = refl; lacks = refl; tells = refl; stands = refl }

pub short_comes : Comes short short_bytes (0 ∷ 6 ∷ 0 ∷ 0 ∷ 0 ∷ 0 ∷ []) short_told
    (record { role = Role.Responder; keep = true; turn = Turn.Done; life = Life.Aborted; pairs = record { name = CONTENT_LENGTH; value = twenty_six } ∷ []; shown = record { stdin = 25; «data» = 0 } })
unfolding computing
short_comes = record { writes = refl; refuses = refl; lacks = refl; tells = refl; stands = refl }

pub filter_comes : Comes filter filter_bytes (0 ∷ 0 ∷ 0 ∷ 0 ∷ 0 ∷ 0 ∷ []) filter_told
    (record { role = Role.Filter; keep = true; turn = Turn.Done; life = Life.Live; pairs = record { name = DATA_LENGTH; value = 50 ∷ [] } ∷ []; shown = record { stdin = 0; «data» = 2 } })
unfolding computing
filter_comes = record { writes = refl; refuses = refl; lacks = refl; tells = refl; stands = refl }

-- Of many: their bytes, what is told of them, and how the second stands then, in its slot.
pub record FourthComes : Type 0 where
  pub writes : all_written (fresh (zeros QUERY)) fourth ≡ fourth_bytes
  pub tells : all_told (fresh (zeros QUERY)) nothing_known fourth ≡ fourth_told
  pub stands : all_known (fresh (zeros QUERY)) nothing_known fourth 2 ≡ whole_one
  pub slot : slot_of (after_all (fresh (zeros QUERY)) fourth) 2 ≡ 1

pub fourth_comes : FourthComes
unfolding computing
fourth_comes = record { writes = refl; tells = refl; stands = refl; slot = refl }

-- Of a question: its bytes, and its query.
pub record AskedComes : Type 0 where
  pub writes : ask_values (fresh (zeros QUERY)) (written asked) (zeros 64) ≡ record { refusal = 0; written = 56; server = fresh (zeros QUERY); buffer = asked_bytes ++ zeros 8 }
  pub asks : query_for asked ≡ Event.Query true false true

pub asked_comes : AskedComes
unfolding computing
asked_comes = record { writes = refl; asks = refl }
