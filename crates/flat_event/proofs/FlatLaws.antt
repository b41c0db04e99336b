-- The flat form of an event tells all of it: it is known, and it is read back as the event. What is known is the flat
-- form of the event that it is read as.
use Rattle.std.specs.Prelude.{ℕ, ◌%◌, ◌<◌, ◌≡◌, refl, Bool, true, false, ◌&&◌, eqb}
use Rattle.std.proofs.Common.{ap, ap₂, arith, mod-eq_of_lt, eqb-true, eq-eqb}
use Rattle.std.proofs.Math.Bool.{and-eq-true_iff}
use Rattle.wire.specs.Test.{by_test, ◌=?◌}
use Rattle.connection.specs.declared.request.Role.{Role}
use Rattle.connection.specs.declared.event.Stream.{Stream}
use Rattle.connection.specs.declared.event.Measure.{Measure}
use Rattle.connection.specs.declared.event.Status.{Status}
use Rattle.connection.specs.declared.event.Fault.{Fault}
use Rattle.connection.specs.declared.event.Close.{Close}
use Rattle.connection.specs.declared.event.Event.{Event as CodeEvent}
use Rattle.connection.specs.Codes.{stream_type, status_number, fault_number, fault_cause, close_number, close_cause}
use Rattle.flat_state.proofs.NumberLaws.{role_back_lem}
use Rattle.flat_event.specs.declared.FlatEvent.{FlatEvent}
use Rattle.flat_event.specs.Flat.{number_if, measure_number, query_number, place_of, flat_event}
use Rattle.flat_event.specs.Flat.{stream_of, measure_of, status_of, fault_of, close_of, query_of, read_event}
use Rattle.flat_event.specs.Flat.{same_numbers, known_event}

-- ---- the numbers, one by one
stream_back_lem : (s : Stream) → stream_of (stream_type s) ≡ s
unfolding stream_of
stream_back_lem Stream.Stdin = refl
stream_back_lem Stream.Data = refl

measure_back : (m : Measure) → measure_of (measure_number m) ≡ m
unfolding measure_of
measure_back Measure.Unstated = refl
measure_back Measure.Short = refl
measure_back Measure.Exact = refl
measure_back Measure.Over = refl

status_back_lem : (s : Status) → status_of (status_number s) ≡ s
unfolding status_of
status_back_lem Status.Overloaded = refl
status_back_lem Status.UnknownRole = refl

fault_back_lem : (f : Fault) → fault_of (fault_number f) (place_of (fault_cause f)) ≡ f
unfolding fault_of
fault_back_lem Fault.BeginAgain = refl
fault_back_lem Fault.OutOfTurn = refl
fault_back_lem Fault.WrongType = refl
fault_back_lem Fault.TooLong = refl
fault_back_lem (Fault.Malformed place) = refl
fault_back_lem Fault.Repeated = refl

close_back_lem : (c : Close) → close_of (close_number c) (place_of (close_cause c)) ≡ c
unfolding close_of
close_back_lem Close.Version = refl
close_back_lem Close.BeginLength = refl
close_back_lem Close.QueryLength = refl
close_back_lem (Close.QueryMalformed place) = refl

keep_back : (b : Bool) → (number_if b 1 =? 1) ≡ b
keep_back true = refl
keep_back false = refl

query_back : (conns reqs mpxs : Bool) → query_of (query_number conns reqs mpxs) ≡ CodeEvent.Query conns reqs mpxs
query_back true true true = refl
query_back true true false = refl
query_back true false true = refl
query_back true false false = refl
query_back false true true = refl
query_back false true false = refl
query_back false false true = refl
query_back false false false = refl

-- ---- the length of a list that is ready, 0 for other events; in the code it is two bytes
abbrev pub ready_length : CodeEvent → ℕ
ready_length CodeEvent.Nothing = 0
ready_length (CodeEvent.Open id role keep) = 0
ready_length (CodeEvent.Ready id length) = length
ready_length (CodeEvent.Data id stream count) = 0
ready_length (CodeEvent.End id stream measure) = 0
ready_length (CodeEvent.Abort id) = 0
ready_length (CodeEvent.Refuse id status) = 0
ready_length (CodeEvent.Fault id fault) = 0
ready_length (CodeEvent.Query conns reqs mpxs) = 0
ready_length (CodeEvent.Unknown kind) = 0
ready_length (CodeEvent.Closed cause) = 0

-- So it is in an event that is read from numbers.
pub length_of_back : (f : FlatEvent) → ready_length (read_event f) < 65536
unfolding read_event
length_of_back f =
    let n = f.kind in
    let two : f.count % 65536 < 65536 = omega arith in
    by_test (eqb n 0) (λ t. simp t (omega arith)) (λ a.
    by_test (eqb n 1) (λ t. simp (a, t) (omega arith)) (λ b.
    by_test (eqb n 2) (λ t. simp (a, b, t) two) (λ c.
    by_test (eqb n 3) (λ t. simp (a, b, c, t) (omega arith)) (λ d.
    by_test (eqb n 4) (λ t. simp (a, b, c, d, t) (omega arith)) (λ e.
    by_test (eqb n 5) (λ t. simp (a, b, c, d, e, t) (omega arith)) (λ g.
    by_test (eqb n 6) (λ t. simp (a, b, c, d, e, g, t) (omega arith)) (λ h.
    by_test (eqb n 7) (λ t. simp (a, b, c, d, e, g, h, t) (omega arith)) (λ i.
    by_test (eqb n 8) (λ t. simp (a, b, c, d, e, g, h, i, t) (omega arith)) (λ j.
    by_test (eqb n 9)
    (λ t. simp (a, b, c, d, e, g, h, i, j, t) (omega arith))
    (λ k. simp (a, b, c, d, e, g, h, i, j, k) (omega arith)))))))))))

-- An event is read back.
pub back_of_flat : (e : CodeEvent) → ready_length e < 65536 → read_event (flat_event e) ≡ e
unfolding read_event
back_of_flat CodeEvent.Nothing h = refl
back_of_flat (CodeEvent.Open id role keep) h =
    ap₂ (λ (r : Role) (k : Bool). CodeEvent.Open id r k) (role_back_lem role) (keep_back keep)
back_of_flat (CodeEvent.Ready id length) h = ap (λ (n : ℕ). CodeEvent.Ready id n) (mod-eq_of_lt h)
back_of_flat (CodeEvent.Data id stream count) h = ap (λ (s : Stream). CodeEvent.Data id s count) (stream_back_lem stream)
back_of_flat (CodeEvent.End id stream measure) h =
    ap₂ (λ (s : Stream) (m : Measure). CodeEvent.End id s m) (stream_back_lem stream) (measure_back measure)
back_of_flat (CodeEvent.Abort id) h = refl
back_of_flat (CodeEvent.Refuse id status) h = ap (λ (s : Status). CodeEvent.Refuse id s) (status_back_lem status)
back_of_flat (CodeEvent.Fault id fault) h = ap (λ (f : Fault). CodeEvent.Fault id f) (fault_back_lem fault)
back_of_flat (CodeEvent.Query conns reqs mpxs) h = query_back conns reqs mpxs
back_of_flat (CodeEvent.Unknown kind) h = refl
back_of_flat (CodeEvent.Closed cause) h = ap (λ (c : Close). CodeEvent.Closed c) (close_back_lem cause)

-- ---- numbers compared
same_itself : (f : FlatEvent) → same_numbers f f ≡ true
unfolding same_numbers
same_itself f =
    simp (
      eq-eqb f.count f.count refl,
      eq-eqb f.id f.id refl,
      eq-eqb f.place f.place refl,
      eq-eqb f.kind f.kind refl,
      eq-eqb f.stream f.stream refl,
      eq-eqb f.number f.number refl,
      eq-eqb f.keep f.keep refl,
    )

same_is : (f g : FlatEvent) → same_numbers f g ≡ true → f ≡ g
unfolding same_numbers
same_is f g e =
    let count = f.count =? g.count in
    let id = f.id =? g.id in
    let place = f.place =? g.place in
    let kind = f.kind =? g.kind in
    let stream = f.stream =? g.stream in
    let number = f.number =? g.number in
    let a = (and-eq-true_iff (count && id && place && kind && stream && number) (f.keep =? g.keep)).0 e in
    let b = (and-eq-true_iff (count && id && place && kind && stream) number).0 a.0 in
    let c = (and-eq-true_iff (count && id && place && kind) stream).0 b.0 in
    let d = (and-eq-true_iff (count && id && place) kind).0 c.0 in
    let h = (and-eq-true_iff (count && id) place).0 d.0 in
    let i = (and-eq-true_iff count id).0 h.0 in
    rw (
      eqb-true f.count g.count i.0,
      eqb-true f.id g.id i.1,
      eqb-true f.place g.place h.1,
      eqb-true f.kind g.kind d.1,
      eqb-true f.stream g.stream c.1,
      eqb-true f.number g.number b.1,
      eqb-true f.keep g.keep a.1,
    )

-- The flat form of an event is known.
pub known_flat : (e : CodeEvent) → ready_length e < 65536 → known_event (flat_event e) ≡ true
known_flat e h = rw (back_of_flat e h) (same_itself (flat_event e))

-- What is known comes back as it was.
pub flat_of_back : (f : FlatEvent) → known_event f ≡ true → flat_event (read_event f) ≡ f
flat_of_back f e = same_is (flat_event (read_event f)) f e
