-- The text of events: one line for an event, and one for each byte of a data event.
use Rattle.std.specs.Prelude.{ℕ, zero, suc, ◌+◌, ◌-◌, ◌/◌, ◌%◌, Bool, true, false, length, if◌then◌else◌}
use mathlib.Core.List.{List, [], ◌∷◌, ◌++◌, map, flatten}
use Rattle.wire.specs.Test.{◌<?◌, ◌=?◌}
use Rattle.wire.specs.Buffer.{has_room}
use Rattle.record_writer.specs.Written.{Placed, placed}
use Rattle.record.specs.Names.{RESPONDER, AUTHORIZER, STDIN}
use Rattle.connection.specs.declared.event.Measure.{Measure}
use Rattle.connection.specs.Event.{Event}
use Rattle.event_text.specs.Words.{at_word, open_word, ready_word, byte_word, end_word, abort_word, refuse_word, fault_word, query_word, unknown_word, closed_word, responder_word, authorizer_word, filter_word, keep_word, drop_word, stdin_word, data_word, short_word, exact_word, over_word, unstated_word}
use Rattle.machine.specs.Cause.{Cause, Plain, At}

-- The most bytes of a line, that of `open 65535 authorizer keep`. The code has the same name.
abbrev pub LONGEST : ℕ
LONGEST = 27

-- The character of a digit: 48 is 0.
abbrev pub digit : ℕ → ℕ
digit d = 48 + d

-- A number in decimal: the digits of its tenth, and after them its last. (The first argument bounds the number of
-- digits.)
unfoldable pub decimal_in : ℕ → ℕ → List ℕ
decimal_in zero n = []
decimal_in (suc k) n = if n <? 10 then digit n ∷ [] else decimal_in k (n / 10) ++ (digit (n % 10) ∷ [])

unfoldable pub decimal : ℕ → List ℕ
unfolding decimal_in
decimal n = decimal_in (suc n) n

-- A digit to the base 16: after 9 comes a, the character 97.
unfoldable pub hex_digit : ℕ → ℕ
hex_digit d = if d <? 10 then digit d else 97 + (d - 10)

-- A byte in two such digits, the high one first.
abbrev pub hex : ℕ → List ℕ
hex byte = hex_digit (byte / 16) ∷ hex_digit (byte % 16) ∷ []

-- 1 or 0
abbrev pub flag : Bool → ℕ
flag true = digit 1
flag false = digit 0

-- A role by its number, a stream by its record type.
abbrev pub role_word : ℕ → List ℕ
role_word role =
    if role =? RESPONDER then responder_word
    else if role =? AUTHORIZER then authorizer_word
    else filter_word

abbrev pub stream_word : ℕ → List ℕ
stream_word stream = if stream =? STDIN then stdin_word else data_word

abbrev pub kept_word : Bool → List ℕ
kept_word true = keep_word
kept_word false = drop_word

abbrev pub measure_word : Measure → List ℕ
measure_word Measure.Short = short_word
measure_word Measure.Exact = exact_word
measure_word Measure.Over = over_word
measure_word Measure.Unstated = unstated_word

-- What follows a line's first word: each field after a space, 32, and at the end a newline, 10.
abbrev pub fields_text : List (List ℕ) → List ℕ
fields_text [] = 10 ∷ []
fields_text (field ∷ fields) = 32 ∷ (field ++ fields_text fields)

abbrev pub line : List ℕ → List (List ℕ) → List ℕ
line word fields = word ++ fields_text fields

-- A cause: its number and, where it has one, its place.
abbrev pub cause_text : Cause → List ℕ
cause_text (Plain n) = decimal n
cause_text (At n place) = decimal n ++ 32 ∷ (at_word ++ 32 ∷ decimal place)

-- The line of an event. None has no line, and Data has one for each byte, below.
unfoldable pub event_line : Event → List ℕ
event_line Event.None = []
event_line (Event.Open id role keep) = line open_word (decimal id ∷ role_word role ∷ kept_word keep ∷ [])
event_line (Event.Ready id n) = line ready_word (decimal id ∷ decimal n ∷ [])
event_line (Event.Data id stream n) = []
event_line (Event.End id stream measure) = line end_word (decimal id ∷ stream_word stream ∷ measure_word measure ∷ [])
event_line (Event.Abort id) = line abort_word (decimal id ∷ [])
event_line (Event.Refuse id n) = line refuse_word (decimal id ∷ decimal n ∷ [])
event_line (Event.Fault id cause) = line fault_word (decimal id ∷ cause_text cause ∷ [])
event_line (Event.Query conns reqs mpxs) = line query_word ((flag conns ∷ flag reqs ∷ flag mpxs ∷ []) ∷ [])
event_line (Event.Unknown kind) = line unknown_word (decimal kind ∷ [])
event_line (Event.Closed cause) = line closed_word (cause_text cause ∷ [])

-- The line of a data byte: id, stream, byte.
unfoldable pub byte_line : ℕ → ℕ → ℕ → List ℕ
byte_line id stream byte = line byte_word (decimal id ∷ stream_word stream ∷ hex byte ∷ [])

-- All lines of an event that used these bytes: of a data event a line for each byte, else the event's line.
unfoldable pub event_lines : Event → List ℕ → List ℕ
event_lines Event.None bytes = event_line Event.None
event_lines (Event.Open id role keep) bytes = event_line (Event.Open id role keep)
event_lines (Event.Ready id n) bytes = event_line (Event.Ready id n)
event_lines (Event.Data id stream n) bytes = flatten (map (byte_line id stream) bytes)
event_lines (Event.End id stream measure) bytes = event_line (Event.End id stream measure)
event_lines (Event.Abort id) bytes = event_line (Event.Abort id)
event_lines (Event.Refuse id n) bytes = event_line (Event.Refuse id n)
event_lines (Event.Fault id n) bytes = event_line (Event.Fault id n)
event_lines (Event.Query conns reqs mpxs) bytes = event_line (Event.Query conns reqs mpxs)
event_lines (Event.Unknown kind) bytes = event_line (Event.Unknown kind)
event_lines (Event.Closed n) bytes = event_line (Event.Closed n)

-- A line put into a buffer, if there is room for all of it, and the place after it.
unfoldable pub line_placed : List ℕ → ℕ → List ℕ → Placed
line_placed buffer at text = placed (has_room buffer at (length text)) buffer at text
