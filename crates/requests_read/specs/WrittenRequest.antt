-- What the web server's end writes for a request, the station reads as just that request.
--
-- Take a fresh connection, and calls of the server's end that open one request and write its parts, each into a buffer
-- of its own: the id is not 0, the role is known, the parts come in their turns, the names of its pairs differ, and its
-- list fits an area. No reply is read and no call of the station is made meanwhile. Then the server's end refuses a part
-- exactly where its buffer is too short, by 6. And a fresh station that is fed what was written, cut into any pieces,
-- tells just that request: it is opened; it is ready with just these pairs; every byte of its streams comes in order;
-- their ends come with the word for what was written against what its list states; and the abort comes if there was one.
-- The writing may stop after any part. Definitions only; `RequestTheorem` proves the statement.
use Rattle.std.specs.Prelude.{ℕ, ◌≤◌, ◌<◌, ◌≡◌, Bool, true, List, [], ◌∷◌, ◌++◌, length, take, if◌then◌else◌, cond}
use Rattle.wire.specs.Test.{◌<?◌}
use Rattle.pair_list.proofs.ReadBackList.{contents}
use Rattle.connection.specs.declared.request.Life.{Life}
use Rattle.connection.specs.Sizes.{QUERY, STORE}
use Rattle.connection.specs.Event.{Event}
use Rattle.connection.specs.Step.{started}
use Rattle.connection.specs.Bytewise.{Note, Run, fed_pieces, joined}
use Rattle.server.specs.declared.state.Server.{Server}
use Rattle.server.specs.Step.{started as serverStarted}
use Rattle.server.specs.Calls.{Written, Part, begin_bytes, is_role, role_of, in_turn, part_bytes, open_request, write_part}
use Rattle.requests_read.specs.Parts.{SoFar, begun, so_far, all_so_far, list_so_far, parts_told, Proper, ListFits}
use Rattle.requests_read.specs.StationHas.{StationHas}

-- a call that writes a part, with the buffer that is lent for it
pub record PartCall : Type 0 where
  pub part : Part
  pub buffer : List ℕ

-- A request: its id, role and KEEP_CONN, with the buffer for its BEGIN_REQUEST, and then its calls.
pub record WrittenRequest : Type 0 where
  pub id : ℕ
  pub role : ℕ
  pub keep : Bool
  pub buffer : List ℕ
  pub calls : List PartCall

-- the buffer is too short
abbrev pub lacks : ℕ → PartCall → Bool
lacks id x = length x.buffer <? length (part_bytes id x.part)

-- the parts whose buffer is long enough; and the refusals, 6 where it is not
unfoldable pub parts_in : ℕ → List PartCall → List Part
parts_in id [] = []
parts_in id (x ∷ xs) = if lacks id x then parts_in id xs else (x.part ∷ parts_in id xs)

unfoldable pub short_buffers : ℕ → List PartCall → List ℕ
short_buffers id [] = []
short_buffers id (x ∷ xs) = (if lacks id x then 6 else 0) ∷ short_buffers id xs

abbrev pub parts_of : WrittenRequest → List Part
parts_of q = parts_in q.id q.calls

-- the request when all is written
abbrev pub whole_of : WrittenRequest → SoFar
whole_of q = all_so_far (begun (role_of q.role) q.keep) (parts_of q)

-- ---- what is asked of it
-- Each call comes in its turn, a refused one moving none; an abort that is written is the last.
abbrev pub InTurns : ℕ → SoFar → List PartCall → Type 0
InTurns id s [] = Unit {0}
InTurns id s (x ∷ xs) =
    (s.life ≡ Life.Live) × (in_turn s.turn x.part ≡ true) × Proper x.part
    × cond (lacks id x) (InTurns id s xs) (InTurns id (so_far s x.part) xs)

pub record InItsTurns (q : WrittenRequest) : Type 0 where
  pub some_id : q.id ≡ 0 → ⊥
  pub small_id : q.id < 65536
  pub known_role : is_role q.role ≡ true
  pub begin_fits : length (begin_bytes q.id q.role q.keep) ≤ length q.buffer
  pub turns : InTurns q.id (begun (role_of q.role) q.keep) q.calls
  pub list : ListFits (whole_of q)

-- ---- what its calls come to
-- the bytes that a call wrote
abbrev pub bytes_in : Written → List ℕ
bytes_in w = take w.written w.buffer

-- the state after calls, the bytes that they wrote, and their refusals
pub record Called : Type 0 where
  pub server : Server
  pub bytes : List ℕ
  pub refusals : List ℕ

unfoldable pub called : Server → ℕ → List PartCall → Called
called c id [] = record { server = c; bytes = []; refusals = [] }
called c id (x ∷ xs) =
    let w = write_part c id x.part x.buffer in
    let rest = called w.server id xs in
    record { server = rest.server; bytes = bytes_in w ++ rest.bytes; refusals = w.refusal ∷ rest.refusals }

abbrev pub opening : List ℕ → WrittenRequest → Written
opening values q = open_request (serverStarted values).server q.id q.role q.keep q.buffer

abbrev pub calls_of : List ℕ → WrittenRequest → Called
calls_of values q = called (opening values q).server q.id q.calls

abbrev pub bytes_written : List ℕ → WrittenRequest → List ℕ
bytes_written values q = bytes_in (opening values q) ++ (calls_of values q).bytes

-- a fresh station, fed these pieces
abbrev pub station_fed : List ℕ → List ℕ → List (List ℕ) → Run
station_fed gathered store pieces = fed_pieces (started gathered store).state (started gathered store).store pieces

pub record ReadAs (q : WrittenRequest) (values gathered store : List ℕ) (pieces : List (List ℕ)) : Type 0 where
  -- the server's end refuses only for a short buffer
  pub begins : (opening values q).refusal ≡ 0
  pub only_6 : (calls_of values q).refusals ≡ short_buffers q.id q.calls
  -- the station tells just that request
  pub told : (station_fed gathered store pieces).notes
      ≡ Note.Told (Event.Open q.id q.role q.keep) ∷ parts_told q.id (begun (role_of q.role) q.keep) (parts_of q)
  -- it has the request as it was written, and its list is the pairs that were
  pub slot : ℕ
  pub has : StationHas (station_fed gathered store pieces).state (station_fed gathered store pieces).store q.id slot (whole_of q)
  pub pairs : contents (list_so_far (whole_of q)) ≡ (whole_of q).pairs

abbrev pub RequestsAreRead : Type 0
RequestsAreRead =
    (q : WrittenRequest) (values gathered store : List ℕ) (pieces : List (List ℕ)) → InItsTurns q → length values ≡ QUERY
    → length gathered ≡ QUERY → length store ≡ STORE → joined pieces ≡ bytes_written values q
    → ReadAs q values gathered store pieces
