-- The cases marked P: one table, and one theorem, computed by the checker.
use Rattle.std.specs.Prelude.{ℕ, refl, true, false, List, [], ◌∷◌, ◌++◌, length, Some, None, Option}
use Rattle.record.specs.Names.{PARAMS, STDIN, DATA}
use Rattle.wire.specs.Number.{number4}
use Rattle.wire.specs.Buffer.{copied}
use Rattle.slot_word.specs.Word.{taken, lowest_free, with_bit, with_slot, without_bit, without_slot}
use Rattle.record.specs.Header.{header_of}
use Rattle.record.specs.Body.{begin_body_of}
use Rattle.record_reader.specs.Position.{advanced, in_header}
use Rattle.pairs.specs.Length.{four_at, length_at}
use Rattle.pairs.specs.Pair.{pair_at}
use Rattle.wire.specs.Compare.{same_bytes, places_up_to, compared}
use Rattle.pair_list.specs.List.{pairs_in, pairs_from, ending_of, well_formed, broken_at, first_named, first_in}
use Rattle.pair_repeats.specs.Repeats.{repeats_in, repeats}
use Rattle.stated_length.specs.Stated.{stated_in}
use Rattle.decimal.specs.Decimal.{digits_after, decimal_of}
use Rattle.connection.specs.declared.event.Measure.{Measure}
use Rattle.connection.specs.Request.{CONTENT_LENGTH, DATA_LENGTH, counted, measured, with_turn, with_life, faulted, turned, params_fault, params_ended, on_params, on_stdin, on_data, on_input, on_live, on_header, grown, opened}
use Rattle.connection.specs.Slots.{request_at, area_at, put_request, put_area, take_slot, holds_id, find_from}
use Rattle.connection.specs.Shape.{id_fits, slots_fit, position_fits, in_shape}
use Rattle.connection.specs.Step.{on_inactive, on_active, judged, opens, begun, of_begin, of_request, advances, step_refusal, stepped, started}
use Rattle.connection.specs.Bytewise.{Note, showing, fed}
use Rattle.examples.specs.Fed.{told, last_of, begin, empty, begins}
use Rattle.pairs.specs.declared.pair.Read.{Read}
use Rattle.pair_list.specs.declared.Ending.{Ending}
use Rattle.machine.specs.Cause.{Cause, Plain, At}
use Rattle.connection.specs.Event.{Event}
use Rattle.examples.specs.Row.{Row, ◌gives◌, Holds}

-- 0B 02 SERVER_PORT80, and the same without its last byte
abbrev pub port_cut : List ℕ
port_cut = 0x0B ∷ 0x02 ∷ 83 ∷ 69 ∷ 82 ∷ 86 ∷ 69 ∷ 82 ∷ 95 ∷ 80 ∷ 79 ∷ 82 ∷ 84 ∷ 56 ∷ []

abbrev pub port : List ℕ
port = port_cut ++ (48 ∷ [])

-- TEMP with the value -, then with none; TEMPS; a pair without name and value
abbrev temp : List ℕ
temp = 0x04 ∷ 0x01 ∷ 84 ∷ 69 ∷ 77 ∷ 80 ∷ 45 ∷ []

abbrev temp_again : List ℕ
temp_again = 0x04 ∷ 0x00 ∷ 84 ∷ 69 ∷ 77 ∷ 80 ∷ []

abbrev temps : List ℕ
temps = 0x05 ∷ 0x00 ∷ 84 ∷ 69 ∷ 77 ∷ 80 ∷ 83 ∷ []

abbrev nameless : List ℕ
nameless = 0x00 ∷ 0x00 ∷ []

abbrev no_fault : Option Cause
no_fault = None

-- CONTENT_LENGTH with that value
abbrev stating : List ℕ → List ℕ
stating value = 14 ∷ length value ∷ (CONTENT_LENGTH ++ value)

abbrev no_length : Option ℕ
no_length = None

-- A filter whose list, written out, states CONTENT_LENGTH 3 and FCGI_DATA_LENGTH 1; then two bytes of STDIN and its end,
-- and one byte of DATA and its end.
abbrev bodies : List ℕ
bodies =
    begin 1 3
    ++ (1 ∷ PARAMS ∷ 0 ∷ 1 ∷ 0 ∷ 36 ∷ 0 ∷ 0 ∷ 14 ∷ 1 ∷ 67 ∷ 79 ∷ 78 ∷ 84 ∷ 69 ∷ 78 ∷ 84 ∷ 95 ∷ 76 ∷ 69 ∷ 78 ∷ 71 ∷ 84 ∷ 72 ∷ 51 ∷ 16 ∷ 1 ∷ 70 ∷ 67 ∷ 71 ∷ 73 ∷ 95 ∷ 68 ∷ 65 ∷ 84 ∷ 65 ∷ 95 ∷ 76 ∷ 69 ∷ 78 ∷ 71 ∷ 84 ∷ 72 ∷ 49 ∷ [])
    ++ empty PARAMS 1
    ++ (1 ∷ STDIN ∷ 0 ∷ 1 ∷ 0 ∷ 2 ∷ 0 ∷ 0 ∷ 45 ∷ 49 ∷ [])
    ++ empty STDIN 1
    ++ (1 ∷ DATA ∷ 0 ∷ 1 ∷ 0 ∷ 1 ∷ 0 ∷ 0 ∷ 56 ∷ [])
    ++ empty DATA 1

-- Lengths and pairs are read at the cursor 0; `Is n k`: the number n, and the cursor k after it.
abbrev pub table : List Row
table =
    (header_of (0x01 ∷ 0x05 ∷ 0x00 ∷ 0x01 ∷ 0x00 ∷ 0x03 ∷ 0x05 ∷ 0x00 ∷ []) gives record { version = 1; kind = STDIN; id = 1; content = 3; padding = 5 })
    ∷ (length_at (0x7F ∷ []) 0 gives Some (127, 1))
    ∷ (length_at (0x80 ∷ 0x00 ∷ 0x00 ∷ 0x80 ∷ []) 0 gives Some (128, 4))
    ∷ (length_at (0x80 ∷ 0x00 ∷ 0x00 ∷ 0xC8 ∷ []) 0 gives Some (200, 4))
    ∷ (length_at (0x80 ∷ 0x00 ∷ 0x00 ∷ 0x7F ∷ []) 0 gives Some (127, 4))
    ∷ (length_at (0x80 ∷ 0x00 ∷ 0x00 ∷ 0x00 ∷ []) 0 gives Some (0, 4))
    ∷ (length_at (0x80 ∷ 0x00 ∷ 0x00 ∷ []) 0 gives None)
    ∷ (pairs_from port 0 gives record { pairs = record { name = 2; name_len = 11; value = 13; value_len = 2 } ∷ []; ending = Ending.End })
    ∷ (pair_at port 0 gives Read.Pair (record { name = 2; name_len = 11; value = 13; value_len = 2 }) 15)
    ∷ (pair_at port_cut 0 gives Read.Malformed 0)
    ∷ (well_formed port_cut gives false)
    ∷ (params_fault (temp ++ temp_again) gives Some (Plain 26))
    ∷ (params_fault (temp ++ port ++ temps ++ temp_again) gives Some (Plain 26))
    ∷ (params_fault (temp ++ temps) gives no_fault)
    ∷ (params_fault (nameless ++ temp ++ nameless) gives Some (Plain 26))
    ∷ (params_fault (nameless ++ temp) gives no_fault)
    ∷ (params_fault (temp ++ temp_again ++ port_cut) gives Some (At 25 13))
    ∷ (params_fault port_cut gives Some (At 25 0))
    ∷ (params_fault (port ++ port_cut) gives Some (At 25 15))
    ∷ (compared (84 ∷ 69 ∷ []) (84 ∷ 69 ∷ 83 ∷ []) gives record { equal = false; places = 0 })
    ∷ (compared (84 ∷ 69 ∷ 77 ∷ []) (84 ∷ 73 ∷ 77 ∷ []) gives record { equal = false; places = 2 })
    ∷ (compared (84 ∷ 69 ∷ []) (84 ∷ 69 ∷ []) gives record { equal = true; places = 2 })
    ∷ (told 3 (begin 1 1 ++ empty PARAMS 1) gives Note.Told (Event.Open 1 1 true) ∷ Note.Told (Event.Ready 1 0) ∷ [])
    ∷ (last_of (told 34 (begins 16 ++ begin 17 4)) gives Note.Told (Event.Refuse 17 3))
    ∷ (last_of (told 34 (begins 16 ++ begin 17 1)) gives Note.Told (Event.Refuse 17 2))
    ∷ (last_of (told 3 (begin 1 1 ++ empty STDIN 1)) gives Note.Told (Event.Fault 1 (Plain 22)))
    ∷ (stated_in (stating (48 ∷ 48 ∷ 55 ∷ [])) CONTENT_LENGTH gives Some 7)
    ∷ (stated_in (stating (52 ∷ 50 ∷ 57 ∷ 52 ∷ 57 ∷ 54 ∷ 55 ∷ 50 ∷ 57 ∷ 52 ∷ [])) CONTENT_LENGTH gives Some 4294967294)
    ∷ (stated_in (stating (52 ∷ 50 ∷ 57 ∷ 52 ∷ 57 ∷ 54 ∷ 55 ∷ 50 ∷ 57 ∷ 53 ∷ [])) CONTENT_LENGTH gives no_length)
    ∷ (stated_in (stating (57 ∷ 57 ∷ 57 ∷ 57 ∷ 57 ∷ 57 ∷ 57 ∷ 57 ∷ 57 ∷ 57 ∷ [])) CONTENT_LENGTH gives no_length)
    ∷ (stated_in (stating (43 ∷ 55 ∷ [])) CONTENT_LENGTH gives no_length)
    ∷ (stated_in (stating (55 ∷ 32 ∷ [])) CONTENT_LENGTH gives no_length)
    ∷ (stated_in (stating (48 ∷ 48 ∷ 48 ∷ 48 ∷ 48 ∷ 48 ∷ 48 ∷ 48 ∷ 48 ∷ 48 ∷ 55 ∷ [])) CONTENT_LENGTH gives no_length)
    ∷ (stated_in (stating ([])) CONTENT_LENGTH gives no_length)
    ∷ (stated_in port CONTENT_LENGTH gives no_length)
    ∷ (stated_in (stating (55 ∷ [])) DATA_LENGTH gives no_length)
    ∷ (measured 2 (Some 3) gives Measure.Short)
    ∷ (measured 3 (Some 3) gives Measure.Exact)
    ∷ (measured 4 (Some 3) gives Measure.Over)
    ∷ (measured 4294967295 (Some 4294967294) gives Measure.Over)
    ∷ (measured 3 no_length gives Measure.Unstated)
    ∷ (told 11 bodies
    gives Note.Told (Event.Open 1 3 true) ∷ Note.Told (Event.Ready 1 36) ∷ Note.Shown 1 STDIN 45 ∷ Note.Shown 1 STDIN 49 ∷ Note.Told (Event.End 1 STDIN Measure.Short)
    ∷ Note.Shown 1 DATA 56 ∷ Note.Told (Event.End 1 DATA Measure.Exact) ∷ [])
    ∷ (counted 4294967290 4 gives 4294967294)
    ∷ (counted 4294967290 65535 gives 4294967295)
    ∷ []

pub cases : Holds table
unfolding number4 copied taken lowest_free with_bit with_slot header_of begin_body_of advanced in_header four_at length_at pair_at same_bytes places_up_to compared first_in pairs_in pairs_from ending_of well_formed broken_at repeats_in repeats decimal_of digits_after first_named stated_in counted measured with_turn with_life faulted turned params_fault params_ended on_params on_stdin on_data on_input on_live on_header grown showing opened request_at area_at put_request put_area take_slot without_bit without_slot holds_id find_from id_fits slots_fit position_fits in_shape on_inactive on_active judged opens begun of_begin of_request advances step_refusal stepped started fed told last_of begin empty begins
cases =
    (refl, (refl, (refl, (refl, (refl, (refl, (refl, (refl, (refl, (refl, (refl, (refl, (refl, (refl, (refl, (refl, (refl, (refl, (refl, (refl, (refl, (refl, (refl, (refl, (refl, (refl, (refl, (refl, (refl, (refl, (refl, (refl, (refl, (refl, (refl, (refl, (refl, (refl, (refl, (refl, (refl, (refl, (refl, (refl, tt))))))))))))))))))))))))))))))))))))))))))))
