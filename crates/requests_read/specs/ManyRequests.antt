-- What the web server's end writes for many requests, in any order, the station reads as just these requests.
--
-- Take any calls of the server's end for any requests on a fresh connection, interleaved in any way, refused ones among
-- them, with no reply read and no call of the station meanwhile. Of a call that is not refused it is asked that bytes
-- are bytes, that names differ and that lists fit an area; nothing is asked about turns, since a part out of turn is
-- refused. Then a fresh station that is fed what was written, cut into any pieces, tells just what these calls said, in
-- their order, and has each request as it was written. Definitions only; `ManyTheorem` proves the statement.
use Rattle.std.specs.Prelude.{ℕ, ◌<◌, ◌≡◌, Bool, false, true, List, [], ◌∷◌, ◌++◌, length, if◌then◌else◌, cond}
use Rattle.wire.specs.Test.{◌=?◌}
use Rattle.connection.specs.declared.request.Role.{Role}
use Rattle.connection.specs.Sizes.{QUERY, STORE}
use Rattle.connection.specs.Event.{Event}
use Rattle.connection.specs.Bytewise.{Note, joined}
use Rattle.connection.specs.Slots.{find, is_found}
use Rattle.server.specs.declared.state.Server.{Server}
use Rattle.server.specs.Step.{started as serverStarted}
use Rattle.server.specs.Calls.{Written, Part, role_of, open_request, write_part, slot_of}
use Rattle.requests_read.specs.Parts.{SoFar, begun, so_far, part_told, Proper, ListFits}
use Rattle.requests_read.specs.StationHas.{StationHas}
use Rattle.requests_read.specs.WrittenRequest.{bytes_in, station_fed}

pub data Call : Type 0 where
  -- id, role, KEEP_CONN, buffer
  Opens : ℕ → ℕ → Bool → List ℕ → Call
  -- id, part, buffer
  Gives : ℕ → Part → List ℕ → Call

abbrev pub calling : Server → Call → Written
calling c (Opens id role keep buffer) = open_request c id role keep buffer
calling c (Gives id part buffer) = write_part c id part buffer

-- what was written so far, by id
abbrev pub Known : Type 0
Known = ℕ → SoFar

abbrev pub nothing_known : Known
nothing_known id = begun Role.Responder false

abbrev pub with_known : Known → ℕ → SoFar → Known
with_known f id s a = if a =? id then s else f a

abbrev pub known_after : Known → Call → Known
known_after f (Opens id role keep buffer) = with_known f id (begun (role_of role) keep)
known_after f (Gives id part buffer) = with_known f id (so_far (f id) part)

-- what is told of a call that was not refused
abbrev pub call_told : Known → Call → List Note
call_told f (Opens id role keep buffer) = Note.Told (Event.Open id role keep) ∷ []
call_told f (Gives id part buffer) = part_told id (f id) part

-- and what is asked of it
abbrev pub CallFits : Known → Call → Type 0
CallFits f (Opens id role keep buffer) = id < 65536
CallFits f (Gives id part buffer) = Proper part × ListFits (so_far (f id) part)

-- call by call: all that is written, told and asked, and what is known and left in the end
unfoldable pub all_written : Server → List Call → List ℕ
all_written c [] = []
all_written c (x ∷ xs) = bytes_in (calling c x) ++ all_written (calling c x).server xs

unfoldable pub all_told : Server → Known → List Call → List Note
all_told c f [] = []
all_told c f (x ∷ xs) =
    if (calling c x).refusal =? 0 then call_told f x ++ all_told (calling c x).server (known_after f x) xs
    else all_told (calling c x).server f xs

abbrev pub AllFit : Server → Known → List Call → Type 0
AllFit c f [] = Unit {0}
AllFit c f (x ∷ xs) =
    cond ((calling c x).refusal =? 0) (CallFits f x × AllFit (calling c x).server (known_after f x) xs)
    (AllFit (calling c x).server f xs)

unfoldable pub all_known : Server → Known → List Call → Known
all_known c f [] = f
all_known c f (x ∷ xs) =
    if (calling c x).refusal =? 0 then all_known (calling c x).server (known_after f x) xs
    else all_known (calling c x).server f xs

unfoldable pub after_all : Server → List Call → Server
after_all c [] = c
after_all c (x ∷ xs) = after_all (calling c x).server xs

abbrev pub fresh : List ℕ → Server
fresh values = (serverStarted values).server

pub record AllRead (xs : List Call) (values gathered store : List ℕ) (pieces : List (List ℕ)) : Type 0 where
  pub told : (station_fed gathered store pieces).notes ≡ all_told (fresh values) nothing_known xs
  -- each request that is open is in the same slot at both ends
  pub has : (id : ℕ) → is_found (find (after_all (fresh values) xs).table id) ≡ true
      → StationHas (station_fed gathered store pieces).state (station_fed gathered store pieces).store id (slot_of (after_all (fresh values) xs) id)
      (all_known (fresh values) nothing_known xs id)

abbrev pub CallsAreRead : Type 0
CallsAreRead =
    (xs : List Call) (values gathered store : List ℕ) (pieces : List (List ℕ)) → length values ≡ QUERY → length gathered ≡ QUERY
    → length store ≡ STORE → AllFit (fresh values) nothing_known xs → joined pieces ≡ all_written (fresh values) xs
    → AllRead xs values gathered store pieces
