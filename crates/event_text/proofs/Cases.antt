-- Lines as they are printed, worked out.
use Rattle.std.specs.Prelude.{◌≡◌, refl, true, false, length}
use mathlib.Core.List.{[], ◌∷◌, flatten}
use Rattle.connection.specs.declared.event.Measure.{Measure}
use Rattle.connection.specs.Event.{Event}
use Rattle.event_text.specs.Line.{LONGEST, decimal_in, decimal, hex_digit, event_line, byte_line, event_lines}
use Rattle.machine.specs.Cause.{Plain, At}

-- open 65535 authorizer keep
opened : event_line (Event.Open 65535 2 true) ≡ 111 ∷ 112 ∷ 101 ∷ 110 ∷ 32 ∷ 54 ∷ 53 ∷ 53 ∷ 51 ∷ 53 ∷ 32 ∷ 97 ∷ 117 ∷ 116 ∷ 104 ∷ 111 ∷ 114 ∷ 105 ∷ 122 ∷ 101 ∷ 114 ∷ 32 ∷ 107 ∷ 101 ∷ 101 ∷ 112 ∷ 10 ∷ []
unfolding decimal_in decimal event_line
opened = refl

-- no line is longer
longest : length (event_line (Event.Open 65535 2 true)) ≡ LONGEST
unfolding decimal_in decimal event_line
longest = refl

-- open 1 filter drop
dropped : event_line (Event.Open 1 3 false) ≡ 111 ∷ 112 ∷ 101 ∷ 110 ∷ 32 ∷ 49 ∷ 32 ∷ 102 ∷ 105 ∷ 108 ∷ 116 ∷ 101 ∷ 114 ∷ 32 ∷ 100 ∷ 114 ∷ 111 ∷ 112 ∷ 10 ∷ []
unfolding decimal_in decimal event_line
dropped = refl

-- ready 10 0
ready : event_line (Event.Ready 10 0) ≡ 114 ∷ 101 ∷ 97 ∷ 100 ∷ 121 ∷ 32 ∷ 49 ∷ 48 ∷ 32 ∷ 48 ∷ 10 ∷ []
unfolding decimal_in decimal event_line
ready = refl

-- end 1 stdin unstated
ended : event_line (Event.End 1 5 Measure.Unstated) ≡ 101 ∷ 110 ∷ 100 ∷ 32 ∷ 49 ∷ 32 ∷ 115 ∷ 116 ∷ 100 ∷ 105 ∷ 110 ∷ 32 ∷ 117 ∷ 110 ∷ 115 ∷ 116 ∷ 97 ∷ 116 ∷ 101 ∷ 100 ∷ 10 ∷ []
unfolding decimal_in decimal event_line
ended = refl

-- end 2 data short
ended_short : event_line (Event.End 2 8 Measure.Short) ≡ 101 ∷ 110 ∷ 100 ∷ 32 ∷ 50 ∷ 32 ∷ 100 ∷ 97 ∷ 116 ∷ 97 ∷ 32 ∷ 115 ∷ 104 ∷ 111 ∷ 114 ∷ 116 ∷ 10 ∷ []
unfolding decimal_in decimal event_line
ended_short = refl

-- end 2 data exact
ended_exact : event_line (Event.End 2 8 Measure.Exact) ≡ 101 ∷ 110 ∷ 100 ∷ 32 ∷ 50 ∷ 32 ∷ 100 ∷ 97 ∷ 116 ∷ 97 ∷ 32 ∷ 101 ∷ 120 ∷ 97 ∷ 99 ∷ 116 ∷ 10 ∷ []
unfolding decimal_in decimal event_line
ended_exact = refl

-- end 2 data over
ended_over : event_line (Event.End 2 8 Measure.Over) ≡ 101 ∷ 110 ∷ 100 ∷ 32 ∷ 50 ∷ 32 ∷ 100 ∷ 97 ∷ 116 ∷ 97 ∷ 32 ∷ 111 ∷ 118 ∷ 101 ∷ 114 ∷ 10 ∷ []
unfolding decimal_in decimal event_line
ended_over = refl

-- fault 300 24
faulted : event_line (Event.Fault 300 (Plain 24)) ≡ 102 ∷ 97 ∷ 117 ∷ 108 ∷ 116 ∷ 32 ∷ 51 ∷ 48 ∷ 48 ∷ 32 ∷ 50 ∷ 52 ∷ 10 ∷ []
unfolding decimal_in decimal event_line
faulted = refl

-- fault 1 25 at 15
broken : event_line (Event.Fault 1 (At 25 15)) ≡ 102 ∷ 97 ∷ 117 ∷ 108 ∷ 116 ∷ 32 ∷ 49 ∷ 32 ∷ 50 ∷ 53 ∷ 32 ∷ 97 ∷ 116 ∷ 32 ∷ 49 ∷ 53 ∷ 10 ∷ []
unfolding decimal_in decimal event_line
broken = refl

-- query 101
queried : event_line (Event.Query true false true) ≡ 113 ∷ 117 ∷ 101 ∷ 114 ∷ 121 ∷ 32 ∷ 49 ∷ 48 ∷ 49 ∷ 10 ∷ []
unfolding event_line
queried = refl

-- unknown 255
unknown : event_line (Event.Unknown 255) ≡ 117 ∷ 110 ∷ 107 ∷ 110 ∷ 111 ∷ 119 ∷ 110 ∷ 32 ∷ 50 ∷ 53 ∷ 53 ∷ 10 ∷ []
unfolding decimal_in decimal event_line
unknown = refl

-- closed 11
closed : event_line (Event.Closed (Plain 11)) ≡ 99 ∷ 108 ∷ 111 ∷ 115 ∷ 101 ∷ 100 ∷ 32 ∷ 49 ∷ 49 ∷ 10 ∷ []
unfolding decimal_in decimal event_line
closed = refl

-- closed 14 at 16
broken_query : event_line (Event.Closed (At 14 16)) ≡ 99 ∷ 108 ∷ 111 ∷ 115 ∷ 101 ∷ 100 ∷ 32 ∷ 49 ∷ 52 ∷ 32 ∷ 97 ∷ 116 ∷ 32 ∷ 49 ∷ 54 ∷ 10 ∷ []
unfolding decimal_in decimal event_line
broken_query = refl

-- byte 7 data 00, byte 7 data af
bytes : event_lines (Event.Data 7 8 2) (0 ∷ 175 ∷ []) ≡ 98 ∷ 121 ∷ 116 ∷ 101 ∷ 32 ∷ 55 ∷ 32 ∷ 100 ∷ 97 ∷ 116 ∷ 97 ∷ 32 ∷ 48 ∷ 48 ∷ 10 ∷ 98 ∷ 121 ∷ 116 ∷ 101 ∷ 32 ∷ 55 ∷ 32 ∷ 100 ∷ 97 ∷ 116 ∷ 97 ∷ 32 ∷ 97 ∷ 102 ∷ 10 ∷ []
unfolding decimal_in decimal hex_digit byte_line event_lines flatten
bytes = refl
