-- A request as the station has it, between two records, with nothing said for it. Definitions only.
use Rattle.std.specs.Prelude.{ℕ, ◌≡◌, false, List, length, take, Some}
use Rattle.connection.specs.declared.request.RequestState.{RequestState}
use Rattle.connection.specs.Slots.{request_at, area_at, find}
use Rattle.connection.specs.Step.{State}
use Rattle.meaning.proofs.Steps.{Between}
use Rattle.requests_read.specs.Parts.{SoFar, list_so_far}

abbrev pub state_so_far : SoFar → RequestState
state_so_far s =
    record { role = s.role; turn = s.turn; life = s.life; keep = s.keep; out_ended = false; err_used = false; err_ended = false; shown = s.shown }

-- The station is open and stands between two records; the request of that id is in slot i, as it was written so far,
-- and its area up to its length is its list.
pub record StationHas (st : State) (store : List ℕ) (id i : ℕ) (s : SoFar) : Type 0 where
  pub between : Between st store
  pub slot : find st.conn.table id ≡ Some i
  pub request : request_at st.conn.table i ≡ record { id = id; length = length (list_so_far s); state = state_so_far s }
  pub list : take (length (list_so_far s)) (area_at store i) ≡ list_so_far s
