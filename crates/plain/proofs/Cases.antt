-- Answers computed from bytes: which event has which number, and what the last word is.
use Rattle.std.specs.Prelude.{◌≡◌, refl, true, List, [], ◌∷◌, ◌++◌, ℕ, take}
use Rattle.wire.specs.Compare.{same_bytes}
use Rattle.pairs.specs.Pair.{pair_at}
use Rattle.pair_list.specs.List.{pairs_in, pairs_from, ending_of, well_formed, first_in, first_named}
use Rattle.pair_repeats.specs.Repeats.{repeats_in, repeats}
use Rattle.stated_length.specs.Stated.{stated_in}
use Rattle.machine.specs.Cause.{Plain}
use Rattle.connection.specs.declared.event.Measure.{Measure}
use Rattle.connection.specs.Event.{Event}
use Rattle.connection.specs.Bytewise.{Told, Shown}
use Rattle.plain.specs.Plain.{Open, Cut, Closed, Event_is, Last_is, BEGIN, PARAMS, STDIN, fault, abort, next_turn, ends, keep, bytes, show, params_end, on_params, against, measure, on_body, on_stream, on_live, place_of, on_active, opening, on_inactive, query, on_query, on_management, says, hear_in, heard, answer_in, answer}

-- request 1 is opened as a responder, with KEEP_CONN
abbrev begins : List ℕ
begins = 1 ∷ BEGIN ∷ 0 ∷ 1 ∷ 0 ∷ 8 ∷ 0 ∷ 0 ∷ 0 ∷ 1 ∷ 1 ∷ 0 ∷ 0 ∷ 0 ∷ 0 ∷ 0 ∷ []

-- its PARAMS end at once
abbrev no_params : List ℕ
no_params = 1 ∷ PARAMS ∷ 0 ∷ 1 ∷ 0 ∷ 0 ∷ 0 ∷ 0 ∷ []

-- STDIN, "-1" with a byte of padding; its end
abbrev minus_one : List ℕ
minus_one = 1 ∷ STDIN ∷ 0 ∷ 1 ∷ 0 ∷ 2 ∷ 1 ∷ 0 ∷ 45 ∷ 49 ∷ 238 ∷ []

abbrev no_more : List ℕ
no_more = 1 ∷ STDIN ∷ 0 ∷ 1 ∷ 0 ∷ 0 ∷ 0 ∷ 0 ∷ []

-- a record of version 2
abbrev wrong_version : List ℕ
wrong_version = 2 ∷ 0 ∷ 0 ∷ 0 ∷ 0 ∷ 0 ∷ 0 ∷ 0 ∷ []

abbrev body : List ℕ
body = begins ++ no_params ++ minus_one

pub record Cases : Type 0 where
  -- a close is no event, and it is the last word for every number from there on
  pub opened : answer (begins ++ wrong_version) 0 ≡ Event_is (Told (Event.Open 1 1 true))
  pub closed : answer (begins ++ wrong_version) 1 ≡ Last_is (Closed (Plain 11))
  pub closed_later : answer (begins ++ wrong_version) 2 ≡ Last_is (Closed (Plain 11))
  -- each byte of data is an event
  pub ready : answer body 1 ≡ Event_is (Told (Event.Ready 1 0))
  pub first_byte : answer body 2 ≡ Event_is (Shown 1 STDIN 45)
  pub second_byte : answer body 3 ≡ Event_is (Shown 1 STDIN 49)
  pub still_open : answer body 4 ≡ Last_is Open
  pub ended : answer (body ++ no_more) 4 ≡ Event_is (Told (Event.End 1 STDIN Measure.Unstated))
  -- cut in the padding, in the content, and in a header; nothing at all
  pub cut_in_padding : answer (take 34 body) 4 ≡ Last_is Cut
  pub cut_in_content : answer (take 33 body) 3 ≡ Last_is Cut
  pub cut_in_header : answer (take 7 begins) 0 ≡ Last_is Cut
  pub nothing : answer [] 0 ≡ Last_is Open

pub cases : Cases
unfolding same_bytes pair_at pairs_in pairs_from ending_of well_formed first_in first_named repeats_in repeats stated_in fault abort next_turn ends keep bytes show params_end on_params against measure on_body on_stream on_live place_of on_active opening on_inactive query on_query on_management says hear_in heard answer_in answer
cases =
    record {
      opened = refl;
      closed = refl;
      closed_later = refl;
      ready = refl;
      first_byte = refl;
      second_byte = refl;
      still_open = refl;
      ended = refl;
      cut_in_padding = refl;
      cut_in_content = refl;
      cut_in_header = refl;
      nothing = refl;
    }
