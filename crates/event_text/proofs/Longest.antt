-- A line is at most LONGEST bytes long.
use Rattle.std.specs.Prelude.{ℕ, ◌+◌, ◌≤◌, ◌<◌, ◌≡◌, Bool, true, false, List, [], ◌∷◌, length}
use Rattle.std.proofs.Common.{arith, length-append, le-leb}
use Rattle.wire.specs.Test.{by_test, ◌=?◌}
use Rattle.wire.specs.Buffer.{put_at}
use Rattle.record_writer.specs.Written.{Placed}
use Rattle.record.specs.Names.{RESPONDER, AUTHORIZER, STDIN}
use Rattle.connection.specs.declared.event.Measure.{Measure}
use Rattle.connection.specs.Event.{Event}
use Rattle.event_text.specs.Words.{open_word, ready_word, byte_word, end_word, abort_word, refuse_word, fault_word, query_word, unknown_word, closed_word}
use Rattle.event_text.specs.Line.{LONGEST, cause_text, decimal, hex, flag, role_word, stream_word, kept_word, measure_word, line, event_line, byte_line, line_placed}
use Rattle.event_text.proofs.LineLaws.{decimal_short}
use Rattle.machine.specs.Cause.{Cause, Plain, At}

-- The numbers of an event that its line has in decimal fit in sixteen bits.
abbrev pub CauseFits : Cause → Type 0
CauseFits (Plain n) = n < 65536
CauseFits (At n place) = (n < 65536) × (place < 65536)

abbrev pub NumbersFit : Event → Type 0
NumbersFit Event.None = Unit {0}
NumbersFit (Event.Open id role keep) = id < 65536
NumbersFit (Event.Ready id n) = (id < 65536) × (n < 65536)
NumbersFit (Event.Data id stream n) = Unit {0}
NumbersFit (Event.End id stream measure) = id < 65536
NumbersFit (Event.Abort id) = id < 65536
NumbersFit (Event.Refuse id n) = (id < 65536) × (n < 65536)
NumbersFit (Event.Fault id cause) = (id < 65536) × CauseFits cause
NumbersFit (Event.Query conns reqs mpxs) = Unit {0}
NumbersFit (Event.Unknown kind) = kind < 65536
NumbersFit (Event.Closed cause) = CauseFits cause

-- lines of one, two and three fields
one_field : (w x : List ℕ) → length w + length x ≤ 25 → length (line w (x ∷ [])) ≤ LONGEST
one_field w x h = simp length-append (omega arith)

two_fields : (w x y : List ℕ) → length w + length x + length y ≤ 24 → length (line w (x ∷ y ∷ [])) ≤ LONGEST
two_fields w x y h = simp length-append (omega arith)

three_fields : (w x y z : List ℕ) → length w + length x + length y + length z ≤ 23 → length (line w (x ∷ y ∷ z ∷ [])) ≤ LONGEST
three_fields w x y z h = simp length-append (omega arith)

-- words
role_short : (role : ℕ) → length (role_word role) ≤ 10
role_short role =
    by_test (role =? RESPONDER) (λ t. simp t (omega arith)) (λ t. by_test (role =? AUTHORIZER) (λ u. simp (t, u) (omega arith)) (λ u. simp (t, u) (omega arith)))

stream_short : (stream : ℕ) → length (stream_word stream) ≤ 5
stream_short stream = by_test (stream =? STDIN) (λ t. simp t (omega arith)) (λ t. simp t (omega arith))

kept_short : (keep : Bool) → length (kept_word keep) ≤ 4
kept_short true = omega arith
kept_short false = omega arith

measure_short : (measure : Measure) → length (measure_word measure) ≤ 8
measure_short Measure.Short = omega arith
measure_short Measure.Exact = omega arith
measure_short Measure.Over = omega arith
measure_short Measure.Unstated = omega arith

cause_short : (cause : Cause) → CauseFits cause → length (cause_text cause) ≤ 14
cause_short (Plain n) h = omega (arith, decimal_short n h)
cause_short (At n place) h = simp length-append (omega (arith, decimal_short n h.0, decimal_short place h.1))

-- the line of an event, and that of a byte
pub event_line_short : (e : Event) → NumbersFit e → length (event_line e) ≤ LONGEST
unfolding event_line
event_line_short Event.None h = omega arith
event_line_short (Event.Open id role keep) h =
    three_fields open_word (decimal id) (role_word role) (kept_word keep) (omega (arith, decimal_short id h, role_short role, kept_short keep))
event_line_short (Event.Ready id n) h = two_fields ready_word (decimal id) (decimal n) (omega (arith, decimal_short id h.0, decimal_short n h.1))
event_line_short (Event.Data id stream n) h = omega arith
event_line_short (Event.End id stream measure) h =
    three_fields end_word (decimal id) (stream_word stream) (measure_word measure) (omega (arith, decimal_short id h, stream_short stream, measure_short measure))
event_line_short (Event.Abort id) h = one_field abort_word (decimal id) (omega (arith, decimal_short id h))
event_line_short (Event.Refuse id n) h = two_fields refuse_word (decimal id) (decimal n) (omega (arith, decimal_short id h.0, decimal_short n h.1))
event_line_short (Event.Fault id cause) h = two_fields fault_word (decimal id) (cause_text cause) (omega (arith, decimal_short id h.0, cause_short cause h.1))
event_line_short (Event.Query conns reqs mpxs) h = one_field query_word (flag conns ∷ flag reqs ∷ flag mpxs ∷ []) (omega arith)
event_line_short (Event.Unknown kind) h = one_field unknown_word (decimal kind) (omega (arith, decimal_short kind h))
event_line_short (Event.Closed cause) h = one_field closed_word (cause_text cause) (omega (arith, cause_short cause h))

pub byte_line_short : (id stream byte : ℕ) → id < 65536 → length (byte_line id stream byte) ≤ LONGEST
unfolding byte_line
byte_line_short id stream byte h =
    three_fields byte_word (decimal id) (stream_word stream) (hex byte) (omega (arith, decimal_short id h, stream_short stream))

-- where that many bytes are free, such a line is written
pub short_placed : (l : List ℕ) (at : ℕ) (text : List ℕ) → length text ≤ LONGEST → at + LONGEST ≤ length l
    → ◌≡◌ {A = Placed} (line_placed l at text) (record { next = at + length text; buffer = put_at l at text })
unfolding line_placed
short_placed l at text h room =
    let free : at + length text ≤ length l = omega arith in
    simp (le-leb _ _ free)
