-- What the rules for one request do to its list, and to whether it takes PARAMS: both are told.
use Rattle.std.specs.Prelude.{◌≡◌, refl, List, [], ◌∷◌, ◌++◌, Bool, true, false, ℕ, ◌+◌, ◌≤◌, ◌<◌, length, take, drop, eqb, leb, if◌then◌else◌}
use Rattle.std.proofs.Common.{ap, arith, length-append, length-take, take_at, eq-eqb}
use Rattle.std.proofs.Math.Option.{Option, none, some}
use Rattle.wire.specs.Test.{by_test}
use Rattle.wire.proofs.BufferLaws.{copied_room}
use Rattle.record.specs.Names.{RESPONDER, AUTHORIZER, FILTER, PARAMS}
use Rattle.record.specs.Body.{begin_body_of}
use Rattle.machine.specs.Machine.{BeginOutcome, Declined, Accepted, CallOutcome, Stays, Retires, Leaves, Closes}
use Rattle.connection.specs.declared.request.Due.{Due}
use Rattle.connection.specs.declared.request.Role.{Role}
use Rattle.connection.specs.Sizes.{AREA}
use Rattle.connection.specs.Request.{Held, Ruled, list_of, is_spent, faulted, aborted, turned, on_header, grown, opened, with_life, with_turn, after_params, after_stdin}
use Rattle.connection.specs.RequestCalls as Of
use Rattle.connection.proofs.Laws.CuttingContent.{grown_room}
use Rattle.connection.specs.Bytewise.{Note}
use Rattle.connection.specs.declared.request.Request.{Request}
use Rattle.connection.specs.RequestCalls.{in_params}
use Rattle.connection.specs.Arguments.{Argument, ForRead, ForSay, ForEnd, ForFinish, Answer, FinishedWith, refused}
use Rattle.connection.specs.Runs.Receiver.{begin_as, receive_begin, finished_as, receive_call}
use Rattle.connection.proofs.Runs.ReceiverLaws.{say_same, end_same}
use Rattle.connection.specs.Runs.HistoryOnMachine.{opens_or_faults, tells_anew, is_finish, is_close, takes_after, takes_told}
use Rattle.connection.proofs.Laws.Rules.{Rule, header_rule, by_rule}

-- ---- its list
-- a header leaves the list, or empties it and tells so
abbrev pub KeepsList : Held → Ruled → Type 0
KeepsList h r = list_of r.held ≡ (if opens_or_faults r.event then [] else list_of h)

pub list_header : (n : ℕ) (h : Held) (kind : ℕ) → KeepsList h (on_header kind n h)
unfolding faulted aborted turned
list_header n h kind = by_rule (KeepsList h) h (λ d. refl) (λ cause fault. refl) refl (λ t. refl) (λ t s m. refl) kind n

-- PARAMS content is added to the list
pub list_grown : (h : Held) (b : ℕ) → h.request.length + 1 ≤ AREA → length h.area ≡ AREA → list_of (grown h (b ∷ [])) ≡ list_of h ++ b ∷ []
list_grown h b l a =
    let n = h.request.length in
    let k : length (take n h.area ++ b ∷ []) ≡ n + 1 = simp (length-append, length-take) (omega (arith, a)) in
    rw (grown_room h (b ∷ []) l, copied_room h.area n (b ∷ []) (omega (arith, a)))
    (take_at (take n h.area ++ b ∷ []) (drop (n + 1) h.area) (n + 1) k)

-- a BEGIN body is declined, or accepted with an empty list, and both are told
abbrev pub BeginsAnew : BeginOutcome (List ℕ) Held Note → Type 0
BeginsAnew (Declined e) = tells_anew e ≡ false
BeginsAnew (Accepted r e) = (tells_anew e ≡ true) × ((x : List ℕ) → list_of (r x) ≡ [])

begins_as : (id : ℕ) (body : List ℕ) (role : Role) → BeginsAnew (begin_as id (begin_body_of body) role)
unfolding opened
begins_as id body role = (refl, λ x. refl)

pub begins : (id : ℕ) (body : List ℕ) → BeginsAnew (receive_begin id body)
unfolding receive_begin
begins id body =
    by_test (eqb (begin_body_of body).role RESPONDER) (λ a. simp a (begins_as id body Role.Responder))
    (λ a. by_test (eqb (begin_body_of body).role AUTHORIZER) (λ b. simp (a, b) (begins_as id body Role.Authorizer))
    (λ b. by_test (eqb (begin_body_of body).role FILTER) (λ c. simp (a, b, c) (begins_as id body Role.Filter)) (λ c. simp (a, b, c) refl)))

-- a call keeps the list, or the request is finished
abbrev pub CallKeeps : Held → CallOutcome Held Answer → Type 0
CallKeeps h (Stays q n) = (is_finish n ≡ false) × (list_of q ≡ list_of h)
CallKeeps h (Retires q n) = ⊥
CallKeeps h (Leaves n) = (is_finish n ≡ true) × (is_close n ≡ false)
CallKeeps h (Closes n) = (is_finish n ≡ true) × (is_close n ≡ true)

finish_keeps : (keep : Bool) (h : Held) (w : Of.Writing) → CallKeeps h (finished_as keep h w)
unfolding finished_as
finish_keeps keep h w = go (eqb w.refusal 0) refl keep
  where
    go : (a : Bool) → eqb w.refusal 0 ≡ a → (k : Bool)
        → CallKeeps h
        (if a then (if k then Leaves (FinishedWith 0 w.written false w.buffer) else Closes (FinishedWith 0 w.written true w.buffer))
        else Stays h (FinishedWith w.refusal 0 false w.buffer))
    go true e true = (refl, refl)
    go true e false = (refl, refl)
    go false e k = (e, refl)

pub call_keeps : (a : Argument) (h : Held) → CallKeeps h (receive_call a h)
unfolding receive_call
call_keeps (ForRead q) h = (refl, refl)
call_keeps (ForSay output bytes buffer) h = (refl, ap (λ n. take n h.area) (say_same h.request output bytes buffer).length)
call_keeps (ForEnd output buffer) h = (refl, ap (λ n. take n h.area) (end_same h.request output buffer).length)
call_keeps (ForFinish status buffer) h = finish_keeps h.request.state.keep h (Of.finish_in h.request status buffer)

pub refused_keeps : (n : ℕ) (a : Argument) → eqb n 0 ≡ false → is_finish (refused n a) ≡ false
unfolding refused
refused_keeps n (ForRead q) e = refl
refused_keeps n (ForSay output bytes buffer) e = refl
refused_keeps n (ForEnd output buffer) e = refl
refused_keeps n (ForFinish status buffer) e = e

-- ---- whether it takes PARAMS
-- it takes PARAMS: it is not spent, and it is their turn
abbrev pub takes : Held → Bool
takes h = if is_spent h.request.state.life then false else in_params h.request.state.turn

abbrev pub takes_found : Option Held → Bool
takes_found none = false
takes_found (some h) = takes h

-- content is due to PARAMS
abbrev pub is_params_due : Due → Bool
is_params_due Due.Skip = false
is_params_due Due.Params = true
is_params_due Due.Stdin = false
is_params_due Due.Data = false

-- a header of that type: whether the request takes PARAMS is told, and content is due to PARAMS just where it still
-- takes them
pub record TakesBy (h : Held) (kind n : ℕ) (r : Ruled) : Type 0 where
  pub told : takes r.held ≡ takes_after r.event (takes h)
  pub due : 0 < n → is_params_due r.due ≡ (if eqb kind PARAMS then takes r.held else false)

pub off : (b : Bool) → false ≡ (if b then false else false)
off true = refl
off false = refl

past_params : (t : Role) → in_params (after_params t) ≡ false
past_params Role.Responder = refl
past_params Role.Authorizer = refl
past_params Role.Filter = refl

past_stdin : (t : Role) → in_params (after_stdin t) ≡ false
past_stdin Role.Responder = refl
past_stdin Role.Authorizer = refl
past_stdin Role.Filter = refl

pub takes_header : (kind n : ℕ) (h : Held) → TakesBy h kind n (on_header kind n h)
unfolding faulted aborted turned with_life with_turn
takes_header kind n h = of (on_header kind n h) (header_rule kind n h)
  where
    of : (r : Ruled) → Rule kind n h r → TakesBy h kind n r
    of r (Rule.Skips e) = record { told = refl; due = λ z. rw e (off (eqb kind PARAMS)) }
    of r (Rule.Faults k f) = record { told = refl; due = λ z. off (eqb kind PARAMS) }
    of r (Rule.Breaks t n w) = record { told = refl; due = λ z. off (eqb kind PARAMS) }
    of r (Rule.Aborts l) = record { told = refl; due = λ z. off (eqb kind PARAMS) }
    of r (Rule.Params t room) = record { told = refl; due = λ z. rw (eq-eqb kind PARAMS t.type, t.live, t.turn) }
    of r (Rule.Readies t z f) = record { told = rw (t.live, past_params h.request.state.role); due = λ k. absurd (omega arith) }
    of r (Rule.Stdin t) = record { told = refl; due = λ z. rw t.type }
    of r (Rule.StdinEnds t z) = record { told = rw (t.live, t.turn, past_stdin h.request.state.role); due = λ k. rw t.type }
    of r (Rule.Data t) = record { told = refl; due = λ z. rw t.type }
    of r (Rule.DataEnds t z) = record { told = rw (t.live, t.turn); due = λ k. rw t.type }

-- PARAMS content
pub takes_grown : (h : Held) (x : List ℕ) → takes (grown h x) ≡ takes h
unfolding grown
takes_grown h x = by_test (leb (h.request.length + length x) AREA) (λ e. simp e) (λ e. simp e)

-- a BEGIN body
abbrev pub TakesNew : BeginOutcome (List ℕ) Held Note → Type 0
TakesNew (Declined e) = (k : Bool) → takes_told e k ≡ k
TakesNew (Accepted r e) = ((k : Bool) → takes_told e k ≡ true) × ((x : List ℕ) → takes (r x) ≡ true)

takes_as : (id : ℕ) (body : List ℕ) (role : Role) → TakesNew (begin_as id (begin_body_of body) role)
unfolding opened
takes_as id body role = ((λ k. refl), λ x. refl)

pub takes_new : (id : ℕ) (body : List ℕ) → TakesNew (receive_begin id body)
unfolding receive_begin
takes_new id body =
    by_test (eqb (begin_body_of body).role RESPONDER) (λ a. simp a (takes_as id body Role.Responder))
    (λ a. by_test (eqb (begin_body_of body).role AUTHORIZER) (λ b. simp (a, b) (takes_as id body Role.Authorizer))
    (λ b. by_test (eqb (begin_body_of body).role FILTER) (λ c. simp (a, b, c) (takes_as id body Role.Filter)) (λ c. simp (a, b, c) (λ k. refl))))

-- calls
abbrev pub CallTakes : Held → CallOutcome Held Answer → Type 0
CallTakes h (Stays q n) = takes q ≡ takes h
CallTakes h (Retires q n) = ⊥
CallTakes h (Leaves n) = Unit {0}
CallTakes h (Closes n) = Unit {0}

takes_writes : (n : ℕ) (bytes : List ℕ) (after r : Request) (buffer area : List ℕ) → takes (record { request = after; area = area }) ≡ takes (record { request = r; area = area })
    → takes (record { request = (Of.writes n bytes after r buffer).request; area = area }) ≡ takes (record { request = r; area = area })
unfolding Of.writes
takes_writes n bytes after r buffer area s = by_test (eqb n 0) (λ e. simp e s) (λ e. simp e)

takes_finished : (keep : Bool) (h : Held) (w : Of.Writing) → CallTakes h (finished_as keep h w)
unfolding finished_as
takes_finished keep h w = go (eqb w.refusal 0) keep
  where
    go : (a k : Bool)
        → CallTakes h
        (if a then (if k then Leaves (FinishedWith 0 w.written false w.buffer) else Closes (FinishedWith 0 w.written true w.buffer))
        else Stays h (FinishedWith w.refusal 0 false w.buffer))
    go true true = tt
    go true false = tt
    go false k = refl

pub takes_call : (a : Argument) (h : Held) → CallTakes h (receive_call a h)
unfolding receive_call Of.say_in Of.said_on Of.end_in Of.ended_on
takes_call (ForRead q) h = refl
takes_call (ForSay output bytes buffer) h = takes_writes _ _ _ h.request buffer h.area refl
takes_call (ForEnd output buffer) h = takes_writes _ _ _ h.request buffer h.area refl
takes_call (ForFinish status buffer) h = takes_finished h.request.state.keep h (Of.finish_in h.request status buffer)
