-- What the station says, the web server's end hears as it was meant.
--
-- Take one joint run: the station's run, in which the server's end opens requests, writes their parts, asks for values
-- and reads, each state coming back as its last call left it. What the station writes goes on the wire, and nothing else
-- does; the server's end steps over the first bytes of it, as many as it likes and whenever it likes. It is asked that a
-- request which the station opens is one that the server's end opened and the station had not, that the END_REQUEST of a
-- refused opening is written once, and that bytes, ids and statuses are such. What bytes the station is fed is not asked.
-- Then what the server's end hears is the beginning of what the station meant, in its order, and all of it once the
-- wire is empty: the bytes that it said on each stream, the ends of streams, the statuses of its finishes, its replies to
-- queries, to unknown types and to openings that it refused. No step of the server's end is refused, and it is open
-- still. Definitions only; `JointTheorem` proves the statement.
use Rattle.std.specs.Prelude.{ℕ, ◌≡◌, Bool, true, false, length, take, drop, if◌then◌else◌}
use mathlib.Core.List.{List, [], ◌∷◌, ◌++◌, Memᴰ}
use Rattle.wire.specs.Test.{◌=?◌}
use Rattle.connection.specs.Sizes.{QUERY, STORE}
use Rattle.connection.specs.Event.{Event as StationEvent}
use Rattle.connection.specs.Calls.{replied}
use Rattle.connection.specs.Run.{Memory, StepOver, CallFor, CountActive, step_of, start_of}
use Rattle.server.specs.Event.{Note, notes}
use Rattle.server.specs.Step.{State, state_of, Stepped, stepped, started}
use Rattle.server.specs.Calls.{Part, open_request, write_part, ask_values}
use Rattle.replies_heard.specs.Moves.{Move, Does, Replies, left_of, wire_of, meant_by, move_fits}

-- The station's memory; the state of the server's end; what the station wrote and the server's end has not yet read; the
-- ids that the server's end opened and the station has not yet; and those whose opening the station refused, while their
-- END_REQUEST is still owed.
pub record Joint : Type 0 where
  pub station : Memory
  pub server : State
  pub wire : List ℕ
  pub waiting : List ℕ
  pub refused : List ℕ

pub data JointMove : Type 0 where
  -- the station does something
  Station : Move → JointMove
  -- the server's end takes a step over the first so many bytes of the wire
  Reads : ℕ → JointMove
  -- it opens a request (id, role, KEEP_CONN, buffer), writes a part of one (id, part, buffer), asks for values (list,
  -- buffer)
  Opens : ℕ → ℕ → Bool → List ℕ → JointMove
  Writes : ℕ → Part → List ℕ → JointMove
  Asks : List ℕ → List ℕ → JointMove

-- ---- openings on their way
unfoldable pub without : ℕ → List ℕ → List ℕ
without id [] = []
without id (a ∷ l) = if a =? id then without id l else (a ∷ without id l)

unfoldable pub is_in : ℕ → List ℕ → Bool
is_in id [] = false
is_in id (a ∷ l) = if a =? id then true else is_in id l

-- What an event of the station says of an opening: the request of that id is opened, its opening is refused, or neither.
pub data Opening : Type 0 where
  IsOpened : ℕ → Opening
  IsRefused : ℕ → Opening
  Neither : Opening

abbrev pub opening_in : StationEvent → Opening
opening_in (StationEvent.Open id role keep) = IsOpened id
opening_in (StationEvent.Refuse id status) = IsRefused id
opening_in StationEvent.None = Neither
opening_in (StationEvent.Ready id n) = Neither
opening_in (StationEvent.Data id stream n) = Neither
opening_in (StationEvent.End id stream measure) = Neither
opening_in (StationEvent.Abort id) = Neither
opening_in (StationEvent.Fault id cause) = Neither
opening_in (StationEvent.Query conns reqs mpxs) = Neither
opening_in (StationEvent.Unknown kind) = Neither
opening_in (StationEvent.Closed cause) = Neither

-- an id that the station opens or refuses waits no longer
abbrev pub waiting_after : Opening → List ℕ → List ℕ
waiting_after (IsOpened id) l = without id l
waiting_after (IsRefused id) l = without id l
waiting_after Neither l = l

-- an id that waited and is refused is owed an END_REQUEST
abbrev pub refused_after : Opening → List ℕ → List ℕ → List ℕ
refused_after (IsOpened id) waiting l = l
refused_after (IsRefused id) waiting l = if is_in id waiting then (id ∷ l) else l
refused_after Neither waiting l = l

-- until it is written, by a reply that is not refused
abbrev pub answered_after : Opening → ℕ → List ℕ → List ℕ
answered_after (IsOpened id) n l = l
answered_after (IsRefused id) n l = if n =? 0 then without id l else l
answered_after Neither n l = l

abbrev pub station_waiting : Memory → Move → List ℕ → List ℕ
station_waiting m (Does (StepOver piece)) l = waiting_after (opening_in (step_of m piece).event) l
station_waiting m (Does (CallFor id a)) l = l
station_waiting m (Does CountActive) l = l
station_waiting m (Replies e buffer) l = l

abbrev pub station_refused : Memory → Move → List ℕ → List ℕ → List ℕ
station_refused m (Does (StepOver piece)) waiting l = refused_after (opening_in (step_of m piece).event) waiting l
station_refused m (Does (CallFor id a)) waiting l = l
station_refused m (Does CountActive) waiting l = l
station_refused m (Replies e buffer) waiting l = answered_after (opening_in e) (replied e buffer).refusal l

-- ---- one move
-- the step of the server's end over the first n bytes of the wire
abbrev pub reading_of : Joint → ℕ → Stepped
reading_of j n = stepped j.server (take n j.wire)

-- with another state of the server's end
abbrev pub with_server : Joint → State → List ℕ → Joint
with_server j st waiting =
    record { station = j.station; server = st; wire = j.wire; waiting = waiting; refused = j.refused }

-- what a move leaves
unfoldable pub after : Joint → JointMove → Joint
after j (Station m) =
    record {
      station = left_of j.station m;
      server = j.server;
      wire = j.wire ++ wire_of j.station m;
      waiting = station_waiting j.station m j.waiting;
      refused = station_refused j.station m j.waiting j.refused;
    }
after j (Reads n) =
    record {
      station = j.station;
      server = (reading_of j n).state;
      wire = drop (reading_of j n).used j.wire;
      waiting = j.waiting;
      refused = j.refused;
    }
after j (Opens id role keep buffer) =
    let w = open_request j.server.server id role keep buffer in
    with_server j (state_of w.server j.server.values) (if w.refusal =? 0 then (id ∷ j.waiting) else j.waiting)
after j (Writes id part buffer) =
    with_server j (state_of (write_part j.server.server id part buffer).server j.server.values) j.waiting
after j (Asks list buffer) =
    with_server j (state_of (ask_values j.server.server list buffer).server j.server.values) j.waiting

-- what the server's end hears at a move, and what the station means by it
abbrev pub heard_at : Joint → JointMove → List Note
heard_at j (Station m) = []
heard_at j (Reads n) =
    notes (reading_of j n).event (take (reading_of j n).used (take n j.wire)) (reading_of j n).state.values
heard_at j (Opens id role keep buffer) = []
heard_at j (Writes id part buffer) = []
heard_at j (Asks list buffer) = []

abbrev pub meant_at : Joint → JointMove → List Note
meant_at j (Station m) = meant_by j.station m
meant_at j (Reads n) = []
meant_at j (Opens id role keep buffer) = []
meant_at j (Writes id part buffer) = []
meant_at j (Asks list buffer) = []

-- ---- what is asked of a move
-- a request that the station opens waits for it; an END_REQUEST for a refused opening is owed
abbrev pub opens_waiting : Opening → List ℕ → Type 0
opens_waiting (IsOpened id) waiting = Memᴰ id waiting
opens_waiting (IsRefused id) waiting = Unit {0}
opens_waiting Neither waiting = Unit {0}

abbrev pub is_owed : Opening → List ℕ → Type 0
is_owed (IsOpened id) refused = Unit {0}
is_owed (IsRefused id) refused = Memᴰ id refused
is_owed Neither refused = Unit {0}

abbrev pub is_fair : Joint → Move → Type 0
is_fair j (Does (StepOver piece)) = opens_waiting (opening_in (step_of j.station piece).event) j.waiting
is_fair j (Does (CallFor id a)) = Unit {0}
is_fair j (Does CountActive) = Unit {0}
is_fair j (Replies e buffer) = is_owed (opening_in e) j.refused

abbrev pub Fair : Joint → JointMove → Type 0
Fair j (Station m) = move_fits m × is_fair j m
Fair j (Reads n) = Unit {0}
Fair j (Opens id role keep buffer) = Unit {0}
Fair j (Writes id part buffer) = Unit {0}
Fair j (Asks list buffer) = Unit {0}

-- ---- runs
unfoldable pub ending : Joint → List JointMove → Joint
ending j [] = j
ending j (x ∷ xs) = ending (after j x) xs

unfoldable pub heard : Joint → List JointMove → List Note
heard j [] = []
heard j (x ∷ xs) = heard_at j x ++ heard (after j x) xs

unfoldable pub meant : Joint → List JointMove → List Note
meant j [] = []
meant j (x ∷ xs) = meant_at j x ++ meant (after j x) xs

abbrev pub AllFair : Joint → List JointMove → Type 0
AllFair j [] = Unit {0}
AllFair j (x ∷ xs) = Fair j x × AllFair (after j x) xs

-- no step of the server's end is refused
abbrev pub NotRefused : Joint → JointMove → Type 0
NotRefused j (Reads n) = (reading_of j n).refusal ≡ 0
NotRefused j (Station m) = Unit {0}
NotRefused j (Opens id role keep buffer) = Unit {0}
NotRefused j (Writes id part buffer) = Unit {0}
NotRefused j (Asks list buffer) = Unit {0}

abbrev pub NeverRefused : Joint → List JointMove → Type 0
NeverRefused j [] = Unit {0}
NeverRefused j (x ∷ xs) = NotRefused j x × NeverRefused (after j x) xs

-- both ends as they start
abbrev pub fresh : List ℕ → List ℕ → List ℕ → Joint
fresh gathered store values =
    record { station = start_of gathered store; server = started values; wire = []; waiting = []; refused = [] }

pub record Understood (j : Joint) (xs : List JointMove) : Type 0 where
  -- what is heard begins what was meant
  pub rest : List Note
  pub in_order : heard j xs ++ rest ≡ meant j xs
  -- and is all of it once the wire is empty
  pub all : (ending j xs).wire ≡ [] → heard j xs ≡ meant j xs
  pub admitted : NeverRefused j xs
  pub still_open : (ending j xs).server.server.«open» ≡ true

abbrev pub RepliesAreHeard : Type 0
RepliesAreHeard =
    (gathered store values : List ℕ) (xs : List JointMove) → length gathered ≡ QUERY → length store ≡ STORE
    → length values ≡ QUERY → AllFair (fresh gathered store values) xs → Understood (fresh gathered store values) xs
