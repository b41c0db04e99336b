-- What the functions of this crate answer, read as the rules say it.
use Rattle.std.specs.Prelude.{List, ℕ}
use Rattle.connection.specs.declared.request.Request.{Request}
use Rattle.connection.specs.Codes.{event_of}
use Rattle.connection.specs.Request.{Held, Ruled}
use Rattle.request_fault.specs.declared.Ruling.{Ruling}

-- a request with its area
abbrev pub held : Request → List ℕ → Held
held r area = record { request = r; area = area }

-- a ruling, with the area as it was left
abbrev pub ruled_by : Ruling → List ℕ → Ruled
ruled_by x area = record { held = held x.request area; due = x.due; event = event_of x.event }
