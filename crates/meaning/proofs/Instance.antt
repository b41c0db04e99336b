-- A worked instance, computed by the checker: what some bytes mean from a fresh start.
use Rattle.std.specs.Prelude.{ℕ, ◌≡◌, refl, true, List, [], ◌∷◌, ◌++◌}
use Rattle.wire.specs.Buffer.{zeros, copied}
use Rattle.slot_word.specs.Word.{taken, lowest_free, with_bit, with_slot}
use Rattle.record.specs.Header.{header_of}
use Rattle.record.specs.Body.{begin_body_of}
use Rattle.record.specs.Split.{front_length, whole_front, front, split_in, split}
use Rattle.pair_list.specs.List.{pairs_in, pairs_from, ending_of, well_formed}
use Rattle.pair_repeats.specs.Repeats.{repeats_in, repeats}
use Rattle.connection.specs.Sizes.{QUERY, STORE}
use Rattle.connection.specs.Event.{Event}
use Rattle.connection.specs.Request.{with_turn, with_life, faulted, turned, params_fault, params_ended, on_params, on_stdin, on_input, on_live, on_header, opened}
use Rattle.connection.specs.Slots.{request_at, area_at, put_request, put_area, take_slot, holds_id, find_from}
use Rattle.connection.specs.Step.{on_inactive, on_active, judged, opens, begun, of_begin, of_request, started}
use Rattle.connection.specs.Bytewise.{Note, showing}
use Rattle.meaning.specs.Meaning.{content_means, header_means, rest_means, records_mean, means}

-- BEGIN_REQUEST of a responder with KEEP_CONN, its content of eight bytes and two of padding; the end of PARAMS; two
-- bytes of STDIN and one of padding; and a
-- record of STDIN that is cut after the first of its three bytes
abbrev pub some : List ℕ
some =
    (1 ∷ 1 ∷ 0 ∷ 1 ∷ 0 ∷ 8 ∷ 2 ∷ 0 ∷ 0 ∷ 1 ∷ 1 ∷ 0 ∷ 0 ∷ 0 ∷ 0 ∷ 0 ∷ 7 ∷ 7 ∷ [])
    ++ ((1 ∷ 4 ∷ 0 ∷ 1 ∷ 0 ∷ 0 ∷ 0 ∷ 0 ∷ []) ++ ((1 ∷ 5 ∷ 0 ∷ 1 ∷ 0 ∷ 2 ∷ 1 ∷ 0 ∷ 97 ∷ 98 ∷ 7 ∷ []) ++ (1 ∷ 5 ∷ 0 ∷ 1 ∷ 0 ∷ 3 ∷ 0 ∷ 0 ∷ 99 ∷ [])))

pub some_mean : (means (started (zeros QUERY) (zeros STORE)).state (started (zeros QUERY) (zeros STORE)).store some).notes
    ≡ Note.Told (Event.Open 1 1 true) ∷ Note.Told (Event.Ready 1 0) ∷ Note.Shown 1 5 97 ∷ Note.Shown 1 5 98 ∷ Note.Shown 1 5 99 ∷ []
unfolding copied taken lowest_free with_bit with_slot header_of begin_body_of pairs_in pairs_from ending_of well_formed repeats_in repeats with_turn with_life faulted turned params_fault params_ended on_params on_stdin on_input on_live on_header opened request_at area_at put_request put_area take_slot holds_id find_from on_inactive on_active judged opens begun of_begin of_request started front_length whole_front front split_in split content_means header_means rest_means records_mean means showing
some_mean = refl
