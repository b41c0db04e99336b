-- Each case of the code's enums has numbers and values of its own: what is read in them can be read back.
use Rattle.std.specs.Prelude.{ℕ, ◌≡◌, refl, if◌then◌else◌}
use Rattle.std.proofs.Common.{sym, ap, ◌∙◌}
use Rattle.wire.specs.Test.{◌=?◌}
use Rattle.machine.specs.Cause.{Cause, Plain, At}
use Rattle.connection.specs.declared.request.Role.{Role}
use Rattle.connection.specs.declared.event.Stream.{Stream}
use Rattle.connection.specs.declared.event.Status.{Status}
use Rattle.connection.specs.declared.event.Fault.{Fault}
use Rattle.connection.specs.declared.event.Close.{Close}
use Rattle.connection.specs.declared.event.Event.{Event as CodeEvent}
use Rattle.connection.specs.declared.answer.Refusal.{Refusal}
use Rattle.connection.specs.declared.answer.Output.{Output}
use Rattle.connection.specs.Event.{Event}
use Rattle.connection.specs.Codes.{role_number, stream_type, output_type, status_number, fault_cause, close_cause, event_of, refusal_number}

-- what can be read back is told apart
told_apart : {A B : Type 0} (f : A → B) (back : B → A) → ((a : A) → back (f a) ≡ a) → (a a' : A) → f a ≡ f a' → a ≡ a'
told_apart f back e a a' h = sym (e a) ∙ ap back h ∙ e a'

-- ---- read back
abbrev role_back : ℕ → Role
role_back n = if n =? 1 then Role.Responder else if n =? 2 then Role.Authorizer else Role.Filter

role_back_lem : (r : Role) → role_back (role_number r) ≡ r
role_back_lem Role.Responder = refl
role_back_lem Role.Authorizer = refl
role_back_lem Role.Filter = refl

abbrev stream_back : ℕ → Stream
stream_back n = if n =? 5 then Stream.Stdin else Stream.Data

stream_back_lem : (s : Stream) → stream_back (stream_type s) ≡ s
stream_back_lem Stream.Stdin = refl
stream_back_lem Stream.Data = refl

abbrev output_back : ℕ → Output
output_back n = if n =? 6 then Output.Stdout else Output.Stderr

output_back_lem : (o : Output) → output_back (output_type o) ≡ o
output_back_lem Output.Stdout = refl
output_back_lem Output.Stderr = refl

abbrev status_back : ℕ → Status
status_back n = if n =? 2 then Status.Overloaded else Status.UnknownRole

status_back_lem : (s : Status) → status_back (status_number s) ≡ s
status_back_lem Status.Overloaded = refl
status_back_lem Status.UnknownRole = refl

abbrev fault_back : Cause → Fault
fault_back (At n place) = Fault.Malformed place
fault_back (Plain n) =
    if n =? 21 then Fault.BeginAgain
    else if n =? 22 then Fault.OutOfTurn
    else if n =? 23 then Fault.WrongType
    else if n =? 24 then Fault.TooLong
    else Fault.Repeated

fault_back_lem : (f : Fault) → fault_back (fault_cause f) ≡ f
fault_back_lem Fault.BeginAgain = refl
fault_back_lem Fault.OutOfTurn = refl
fault_back_lem Fault.WrongType = refl
fault_back_lem Fault.TooLong = refl
fault_back_lem (Fault.Malformed place) = refl
fault_back_lem Fault.Repeated = refl

abbrev close_back : Cause → Close
close_back (At n place) = Close.QueryMalformed place
close_back (Plain n) =
    if n =? 11 then Close.Version
    else if n =? 12 then Close.BeginLength
    else Close.QueryLength

close_back_lem : (c : Close) → close_back (close_cause c) ≡ c
close_back_lem Close.Version = refl
close_back_lem Close.BeginLength = refl
close_back_lem Close.QueryLength = refl
close_back_lem (Close.QueryMalformed place) = refl

abbrev refusal_back : ℕ → Refusal
refusal_back n =
    if n =? 1 then Refusal.Closed
    else if n =? 2 then Refusal.StoreSize
    else if n =? 3 then Refusal.NotActive
    else if n =? 4 then Refusal.NotReady
    else if n =? 5 then Refusal.Ended
    else if n =? 6 then Refusal.NoRoom
    else if n =? 7 then Refusal.NoPair
    else if n =? 8 then Refusal.TooLong
    else if n =? 9 then Refusal.OutOfShape
    else Refusal.Waiting

refusal_back_lem : (r : Refusal) → refusal_back (refusal_number r) ≡ r
refusal_back_lem Refusal.Closed = refl
refusal_back_lem Refusal.StoreSize = refl
refusal_back_lem Refusal.NotActive = refl
refusal_back_lem Refusal.NotReady = refl
refusal_back_lem Refusal.Ended = refl
refusal_back_lem Refusal.NoRoom = refl
refusal_back_lem Refusal.NoPair = refl
refusal_back_lem Refusal.TooLong = refl
refusal_back_lem Refusal.OutOfShape = refl
refusal_back_lem Refusal.Waiting = refl

abbrev event_back : Event → CodeEvent
event_back Event.None = CodeEvent.Nothing
event_back (Event.Open id role keep) = CodeEvent.Open id (role_back role) keep
event_back (Event.Ready id n) = CodeEvent.Ready id n
event_back (Event.Data id stream n) = CodeEvent.Data id (stream_back stream) n
event_back (Event.End id stream measure) = CodeEvent.End id (stream_back stream) measure
event_back (Event.Abort id) = CodeEvent.Abort id
event_back (Event.Refuse id n) = CodeEvent.Refuse id (status_back n)
event_back (Event.Fault id n) = CodeEvent.Fault id (fault_back n)
event_back (Event.Query conns reqs mpxs) = CodeEvent.Query conns reqs mpxs
event_back (Event.Unknown kind) = CodeEvent.Unknown kind
event_back (Event.Closed n) = CodeEvent.Closed (close_back n)

event_back_lem : (e : CodeEvent) → event_back (event_of e) ≡ e
event_back_lem CodeEvent.Nothing = refl
event_back_lem (CodeEvent.Open id role keep) = ap (λ (r : Role). CodeEvent.Open id r keep) (role_back_lem role)
event_back_lem (CodeEvent.Ready id n) = refl
event_back_lem (CodeEvent.Data id stream n) = ap (λ (s : Stream). CodeEvent.Data id s n) (stream_back_lem stream)
event_back_lem (CodeEvent.End id stream measure) = ap (λ s. CodeEvent.End id s measure) (stream_back_lem stream)
event_back_lem (CodeEvent.Abort id) = refl
event_back_lem (CodeEvent.Refuse id status) = ap (CodeEvent.Refuse id) (status_back_lem status)
event_back_lem (CodeEvent.Fault id fault) = ap (CodeEvent.Fault id) (fault_back_lem fault)
event_back_lem (CodeEvent.Query conns reqs mpxs) = refl
event_back_lem (CodeEvent.Unknown kind) = refl
event_back_lem (CodeEvent.Closed close) = ap CodeEvent.Closed (close_back_lem close)

-- ---- two events, refusals or streams with the same numbers and values are the same
pub events_apart : (e e' : CodeEvent) → event_of e ≡ event_of e' → e ≡ e'
events_apart = told_apart event_of event_back event_back_lem

pub refusals_apart : (r r' : Refusal) → refusal_number r ≡ refusal_number r' → r ≡ r'
refusals_apart = told_apart refusal_number refusal_back refusal_back_lem

pub outputs_apart : (o o' : Output) → output_type o ≡ output_type o' → o ≡ o'
outputs_apart = told_apart output_type output_back output_back_lem
