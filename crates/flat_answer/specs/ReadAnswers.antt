-- The answers of the calls that read, as numbers. A refusal is 0 for none.
use Rattle.std.specs.Prelude.{ℕ, Bool, true, false}
use Rattle.pairs.specs.declared.pair.Pair.{Pair}
use Rattle.pairs.specs.declared.pair.Read.{Read}
use Rattle.connection.specs.declared.request.Request.{Request}
use Rattle.connection.specs.Codes.{role_number}
use Rattle.connection.specs.RequestCalls as Of
use Rattle.connection.specs.Event.{Event}
use Rattle.connection.specs.Step.{Started, Stepped}
use Rattle.connection.specs.Calls.{Counted}
use Rattle.call_walk.specs.Place.{ReadAnswer, ReadIs, ReadRefused}
use Rattle.queue_place.specs.Lies.{Lies}
use Rattle.flat_state.specs.declared.FlatState.{FlatState}
use Rattle.flat_state.specs.Flat.{turn_number, life_number, flat_of}
use Rattle.flat_event.specs.Flat.{flat_told}
use Rattle.flat_answer.specs.declared.answer.FlatStarted.{FlatStarted}
use Rattle.flat_answer.specs.declared.answer.FlatStepped.{FlatStepped}
use Rattle.flat_answer.specs.declared.answer.FlatPlace.{FlatPlace}
use Rattle.flat_answer.specs.declared.answer.FlatPair.{FlatPair}
use Rattle.flat_answer.specs.declared.answer.FlatRequest.{FlatRequest}
use Rattle.flat_answer.specs.declared.answer.FlatCount.{FlatCount}

abbrev pub flag_number : Bool → ℕ
flag_number true = 1
flag_number false = 0

-- ---- start
unfoldable pub flat_started : Started → FlatStarted
flat_started s = record { state = flat_of s.state.conn; refusal = s.refusal }

-- ---- steps: the bytes used, what they told, the state afterwards
unfoldable pub flat_stepped : Stepped → FlatStepped
flat_stepped s =
    record { used = s.used; event = flat_told s.event; state = flat_of s.state.conn; refusal = s.refusal }

abbrev pub unstepped : FlatState → ℕ → FlatStepped
unstepped f refusal = record { used = 0; event = flat_told Event.None; state = f; refusal = refusal }

-- ---- where a value or a list lies in the store
unfoldable pub flat_place : Lies → FlatPlace
flat_place l = record { offset = l.offset; «length» = l.size; refusal = l.refusal; found = flag_number l.found }

abbrev pub no_place : ℕ → FlatPlace
no_place refusal = record { offset = 0; «length» = 0; refusal = refusal; found = 0 }

-- ---- pairs: 1 a pair, 2 the end of the list, 3 a pair that cannot be read
abbrev pub pair_flat : Pair → ℕ → FlatPair
pair_flat p next =
    record {
      name = p.name;
      name_len = p.name_len;
      value = p.value;
      value_len = p.value_len;
      next = next;
      refusal = 0;
      kind = 1;
    }

abbrev pub no_pair : ℕ → ℕ → ℕ → FlatPair
no_pair next refusal kind =
    record { name = 0; name_len = 0; value = 0; value_len = 0; next = next; refusal = refusal; kind = kind }

-- a pair by its number; the place after it is not told
unfoldable pub flat_numbered : Of.Numbered → FlatPair
flat_numbered (Of.PairIs p) = pair_flat p 0
flat_numbered (Of.PairRefused n) = no_pair 0 n 0

-- what is read at a place: with a pair the place after it, with a malformed one the place where it starts
unfoldable pub flat_read_from : ReadAnswer → FlatPair
flat_read_from (ReadIs (Read.Pair p next)) = pair_flat p next
flat_read_from (ReadIs Read.End) = no_pair 0 0 2
flat_read_from (ReadIs (Read.Malformed place)) = no_pair place 0 3
flat_read_from (ReadRefused n) = no_pair 0 n 0

-- ---- what a request is
abbrev pub request_flat : Request → FlatRequest
request_flat r =
    record {
      stdin_shown = r.state.shown.stdin;
      data_shown = r.state.shown.«data»;
      id = r.id;
      «length» = r.length;
      role = role_number r.state.role;
      turn = turn_number r.state.turn;
      life = life_number r.state.life;
      keep = flag_number r.state.keep;
      out_ended = flag_number r.state.out_ended;
      err_used = flag_number r.state.err_used;
      err_ended = flag_number r.state.err_ended;
      refusal = 0;
    }

abbrev pub no_request : ℕ → FlatRequest
no_request refusal =
    record {
      stdin_shown = 0;
      data_shown = 0;
      id = 0;
      «length» = 0;
      role = 0;
      turn = 0;
      life = 0;
      keep = 0;
      out_ended = 0;
      err_used = 0;
      err_ended = 0;
      refusal = refusal;
    }

unfoldable pub flat_request : Of.RequestAnswer → FlatRequest
flat_request (Of.RequestIs r) = request_flat r
flat_request (Of.RequestRefused n) = no_request n

-- ---- how many requests are active
unfoldable pub flat_count : Counted → FlatCount
flat_count c = record { count = c.count; refusal = c.refusal }

abbrev pub no_count : ℕ → FlatCount
no_count refusal = record { count = 0; refusal = refusal }
