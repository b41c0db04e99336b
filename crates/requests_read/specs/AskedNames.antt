-- What the web server's end asks, the station reads as just these names.
--
-- Take any state of the server's end and a call that asks for values and is not refused, with names in a list of pairs.
-- A station that is open and stands between two records, and is fed what the call wrote, cut into any pieces, tells one
-- query, with just those of the three names that are in the list; and it changes nothing but the bytes that it gathers a
-- query in. Definitions only; `QueryTheorem` proves the statement.
use Rattle.std.specs.Prelude.{ℕ, ◌≡◌, Bool, true, false, List, [], ◌∷◌, if◌then◌else◌}
use Rattle.wire.specs.Buffer.{copied}
use Rattle.wire.proofs.Bytes.{AllBytes}
use Rattle.wire.specs.Compare.{same_bytes}
use Rattle.pair_list.proofs.ReadBackList.{Named, written}
use Rattle.connection.specs.Event.{Event}
use Rattle.connection.specs.Step.{State, state_of, no_frame, open_with, MAX_CONNS, MAX_REQS, MPXS_CONNS}
use Rattle.connection.specs.Bytewise.{Note, Run, fed_pieces, joined}
use Rattle.meaning.proofs.Steps.{Between}
use Rattle.server.specs.declared.state.Server.{Server}
use Rattle.server.specs.Calls.{ask_values}
use Rattle.requests_read.specs.WrittenRequest.{bytes_in}

-- whether a name is among those of some pairs
unfoldable pub is_among : List ℕ → List Named → Bool
is_among name [] = false
is_among name (p ∷ ps) = if same_bytes p.name name then true else is_among name ps

-- the query of these names
abbrev pub query_for : List Named → Event
query_for ps = Event.Query (is_among MAX_CONNS ps) (is_among MAX_REQS ps) (is_among MPXS_CONNS ps)

-- that query is told, and the list is in the gathered bytes
abbrev pub queried_by : State → List ℕ → List Named → Run
queried_by st store ps =
    record {
      state = state_of (open_with st.conn.table no_frame) (copied st.gathered 0 (written ps));
      store = store;
      notes = Note.Told (query_for ps) ∷ [];
    }

abbrev pub NamesAreRead : Type 0
NamesAreRead =
    (c : Server) (ps : List Named) (buffer : List ℕ) (st : State) (store : List ℕ) (pieces : List (List ℕ))
    → (ask_values c (written ps) buffer).refusal ≡ 0 → AllBytes (written ps) → Between st store → joined pieces ≡ bytes_in (ask_values c (written ps) buffer)
    → fed_pieces st store pieces ≡ queried_by st store ps
