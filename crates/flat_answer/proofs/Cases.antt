-- Flat answers computed: the kinds of pairs, what is found and what not, closes, and the numbers of output streams.
use Rattle.std.specs.Prelude.{ℕ, ◌≡◌, refl, Bool, true, false, [], ◌∷◌, map}
use Rattle.pairs.specs.declared.pair.Pair.{Pair}
use Rattle.pairs.specs.declared.pair.Read.{Read}
use Rattle.connection.specs.declared.request.Role.{Role}
use Rattle.connection.specs.declared.request.Turn.{Turn}
use Rattle.connection.specs.declared.request.Life.{Life}
use Rattle.connection.specs.declared.request.Request.{Request}
use Rattle.connection.specs.declared.answer.Output.{Output}
use Rattle.connection.specs.RequestCalls as Of
use Rattle.connection.specs.Calls.{Finished}
use Rattle.connection.specs.Step.{closed_conn}
use Rattle.call_walk.specs.Place.{ReadIs, ReadRefused}
use Rattle.queue_place.specs.Lies.{lies_at, nowhere}
use Rattle.flat_answer.specs.declared.answer.FlatPlace.{FlatPlace}
use Rattle.flat_answer.specs.declared.answer.FlatPair.{FlatPair}
use Rattle.flat_answer.specs.ReadAnswers.{flat_place, flat_numbered, flat_read_from, flat_request}
use Rattle.flat_answer.specs.WriteAnswers.{known_output, output_of, flat_finished}

-- ---- offset, length, refusal and found
abbrev place : ℕ → ℕ → ℕ → ℕ → FlatPlace
place offset size refusal found = record { offset = offset; «length» = size; refusal = refusal; found = found }

pub places : map flat_place (lies_at 4100 0 ∷ nowhere 0 ∷ nowhere 3 ∷ [])
    ≡ place 4100 0 0 1 ∷ place 0 0 0 0 ∷ place 0 0 3 0 ∷ []
unfolding flat_place
places = refl

-- ---- name, value, the place after them, refusal and kind
abbrev pair : ℕ → ℕ → ℕ → ℕ → ℕ → ℕ → ℕ → FlatPair
pair name size value bytes next refusal kind =
    record {
      name = name;
      name_len = size;
      value = value;
      value_len = bytes;
      next = next;
      refusal = refusal;
      kind = kind;
    }

-- a name of 3 bytes from place 2 on, with a value of 4
abbrev three_four : Pair
three_four = record { name = 2; name_len = 3; value = 5; value_len = 4 }

pub by_number : map flat_numbered (Of.PairIs three_four ∷ Of.PairRefused 7 ∷ [])
    ≡ pair 2 3 5 4 0 0 1 ∷ pair 0 0 0 0 0 7 0 ∷ []
unfolding flat_numbered
by_number = refl

pub from_a_place : map flat_read_from (ReadIs (Read.Pair three_four 9)
    ∷ ReadIs Read.End
    ∷ ReadIs (Read.Malformed 9)
    ∷ ReadRefused 4
    ∷ [])
    ≡ pair 2 3 5 4 9 0 1 ∷ pair 0 0 0 0 0 0 2 ∷ pair 0 0 0 0 9 0 3 ∷ pair 0 0 0 0 0 4 0 ∷ []
unfolding flat_read_from
from_a_place = refl

-- ---- a filter that was aborted in its DATA: its STDOUT is ended, and its STDERR is used and not ended
abbrev aborted_filter : Request
aborted_filter =
    record {
      id = 9;
      «length» = 20;
      state =
          record {
            role = Role.Filter;
            turn = Turn.Data;
            life = Life.Aborted;
            keep = true;
            out_ended = true;
            err_used = true;
            err_ended = false;
            shown = record { stdin = 500; «data» = 60 };
          };
    }

pub filter_told_lem : flat_request (Of.RequestIs aborted_filter)
    ≡ record {
      stdin_shown = 500;
      data_shown = 60;
      id = 9;
      «length» = 20;
      role = 3;
      turn = 2;
      life = 2;
      keep = 1;
      out_ended = 1;
      err_used = 1;
      err_ended = 0;
      refusal = 0;
    }
unfolding flat_request
filter_told_lem = refl

-- ---- output streams: 6 and 7, and no other number
pub streams : map known_output (0 ∷ 5 ∷ 6 ∷ 7 ∷ 8 ∷ []) ≡ false ∷ false ∷ true ∷ true ∷ false ∷ []
streams = refl

pub two_streams : map output_of (6 ∷ 7 ∷ []) ≡ Output.Stdout ∷ Output.Stderr ∷ []
unfolding output_of
two_streams = refl

-- ---- a finish that leaves the connection open, and one that closes it
abbrev finished : Bool → Finished
finished closed = record { refusal = 0; written = 16; closed = closed; conn = closed_conn; store = []; buffer = [] }

pub closes : map (λ (closed : Bool). (flat_finished (finished closed)).closed) (false ∷ true ∷ []) ≡ 0 ∷ 1 ∷ []
unfolding flat_finished
closes = refl
