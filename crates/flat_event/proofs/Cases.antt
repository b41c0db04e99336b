-- Flat forms computed: each kind of event and each of its numbers, and numbers that are of no event.
use Rattle.std.specs.Prelude.{◌≡◌, refl, true, false, [], ◌∷◌, map, replicate}
use Rattle.connection.specs.declared.request.Role.{Role}
use Rattle.connection.specs.declared.event.Stream.{Stream}
use Rattle.connection.specs.declared.event.Measure.{Measure}
use Rattle.connection.specs.declared.event.Status.{Status}
use Rattle.connection.specs.declared.event.Fault.{Fault}
use Rattle.connection.specs.declared.event.Close.{Close}
use Rattle.connection.specs.declared.event.Event.{Event}
use Rattle.flat_state.specs.Flat.{role_of}
use Rattle.flat_event.specs.Flat.{told, flat_event, stream_of, measure_of, status_of, fault_of, close_of, read_event}
use Rattle.flat_event.specs.Flat.{same_numbers, known_event}

-- ---- events of request 7, with kind, id, stream, number, keep, count and place
pub opened : map flat_event (Event.Open 7 Role.Responder false
    ∷ Event.Open 7 Role.Authorizer true
    ∷ Event.Open 7 Role.Filter true
    ∷ [])
    ≡ told 1 7 0 1 0 0 0 ∷ told 1 7 0 2 1 0 0 ∷ told 1 7 0 3 1 0 0 ∷ []
opened = refl

pub input : map flat_event (Event.Ready 7 4096 ∷ Event.Data 7 Stream.Stdin 100 ∷ Event.Data 7 Stream.Data 70000 ∷ [])
    ≡ told 2 7 0 0 0 4096 0 ∷ told 3 7 5 0 0 100 0 ∷ told 3 7 8 0 0 70000 0 ∷ []
input = refl

pub ended : map flat_event (Event.End 7 Stream.Stdin Measure.Unstated
    ∷ Event.End 7 Stream.Stdin Measure.Short
    ∷ Event.End 7 Stream.Data Measure.Exact
    ∷ Event.End 7 Stream.Data Measure.Over
    ∷ [])
    ≡ told 4 7 5 0 0 0 0 ∷ told 4 7 5 1 0 0 0 ∷ told 4 7 8 2 0 0 0 ∷ told 4 7 8 3 0 0 0 ∷ []
ended = refl

pub spent : map flat_event (Event.Abort 7
    ∷ Event.Refuse 7 Status.Overloaded
    ∷ Event.Refuse 7 Status.UnknownRole
    ∷ Event.Fault 7 Fault.BeginAgain
    ∷ Event.Fault 7 Fault.OutOfTurn
    ∷ Event.Fault 7 Fault.WrongType
    ∷ Event.Fault 7 Fault.TooLong
    ∷ Event.Fault 7 (Fault.Malformed 33)
    ∷ Event.Fault 7 Fault.Repeated
    ∷ [])
    ≡ told 5 7 0 0 0 0 0
    ∷ told 6 7 0 2 0 0 0
    ∷ told 6 7 0 3 0 0 0
    ∷ told 7 7 0 21 0 0 0
    ∷ told 7 7 0 22 0 0 0
    ∷ told 7 7 0 23 0 0 0
    ∷ told 7 7 0 24 0 0 0
    ∷ told 7 7 0 25 0 0 33
    ∷ told 7 7 0 26 0 0 0
    ∷ []
spent = refl

-- ---- events of no request
pub of_none : map flat_event (Event.Nothing
    ∷ Event.Query true false false
    ∷ Event.Query false true false
    ∷ Event.Query false false true
    ∷ Event.Query true true true
    ∷ Event.Unknown 77
    ∷ Event.Closed Close.Version
    ∷ Event.Closed Close.BeginLength
    ∷ Event.Closed Close.QueryLength
    ∷ Event.Closed (Close.QueryMalformed 33)
    ∷ [])
    ≡ told 0 0 0 0 0 0 0
    ∷ told 8 0 0 1 0 0 0
    ∷ told 8 0 0 2 0 0 0
    ∷ told 8 0 0 4 0 0 0
    ∷ told 8 0 0 7 0 0 0
    ∷ told 9 0 0 77 0 0 0
    ∷ told 10 0 0 11 0 0 0
    ∷ told 10 0 0 12 0 0 0
    ∷ told 10 0 0 13 0 0 0
    ∷ told 10 0 0 14 0 0 33
    ∷ []
of_none = refl

-- ---- numbers that are known, and others that are of no event: a role of 0 and of 4, a keep of 2, a list of 65,536
-- bytes, a stream of type 6, a measure of 4, a status of 1, faults 20 and 27, fault 24 with a place, a query of 8,
-- an unknown type with an id, close 15, a kind of 11
pub known_ones : map known_event (told 1 7 0 3 1 0 0
    ∷ told 2 7 0 0 0 65535 0
    ∷ told 7 7 0 25 0 0 0
    ∷ told 8 0 0 0 0 0 0
    ∷ [])
    ≡ replicate 4 true
unfolding read_event role_of fault_of same_numbers
known_ones = refl

pub unknown_ones : map known_event (told 1 7 0 0 1 0 0
    ∷ told 1 7 0 4 1 0 0
    ∷ told 1 7 0 3 2 0 0
    ∷ told 2 7 0 0 0 65536 0
    ∷ told 3 7 6 0 0 9 0
    ∷ told 4 7 5 4 0 0 0
    ∷ told 6 7 0 1 0 0 0
    ∷ told 7 7 0 20 0 0 0
    ∷ told 7 7 0 27 0 0 0
    ∷ told 7 7 0 24 0 0 5
    ∷ told 8 0 0 8 0 0 0
    ∷ told 9 7 0 77 0 0 0
    ∷ told 10 0 0 15 0 0 0
    ∷ told 11 0 0 11 0 0 0
    ∷ [])
    ≡ replicate 14 false
unfolding read_event role_of stream_of measure_of status_of fault_of close_of same_numbers
unknown_ones = refl
