-- R's parameters by the history of a run: by the bytes that its steps used, the events that they told and the answers
-- of its calls. Definitions only. `Runs/HistoryRuns` proves that R's area up to R's length holds exactly these.
--
-- R's parameters are the content of R's PARAMS records, as far as it was used since the last event `open` of R and
-- was not skipped. A fault of R, the END of a `finish` of R and a close each leave none.
--
-- Content is skipped while R takes no PARAMS. R takes them from its opening on, until it is ready, is aborted, faults
-- or is finished, or the connection closes.
use Rattle.std.specs.Prelude.{List, [], ◌∷◌, ◌++◌, Bool, true, false, ℕ, zero, suc, length, if◌then◌else◌}
use Rattle.std.proofs.Math.Option.{Option, none, some}
use Rattle.wire.specs.Test.{◌=?◌, ◌<?◌}
use Rattle.record.specs.Names.{PARAMS}
use Rattle.machine.specs.Timeline.{header_type, header_id, header_content, header_padding, Scan, ScanHeader, ScanRest, scan_left}
use Rattle.connection.specs.Event.{Event}
use Rattle.connection.specs.Request.{Held, list_of}
use Rattle.connection.specs.Shape.{◌and◌}
use Rattle.connection.specs.Arguments.{Answer, RepliedWith, Wrote, FinishedWith}
use Rattle.connection.specs.Run.{Memory, Operation, StepOver, CallFor, CountActive, called, step_of, used_of, memory_after}

-- what a request's area holds up to its length; nothing where there is no request
abbrev pub list_found : Option Held → List ℕ
list_found none = []
list_found (some h) = list_of h

-- What is known of R on the way: where the next byte stands, whether R takes PARAMS, and R's parameters.
pub record History : Type 0 where
  pub place : Scan
  pub takes : Bool
  pub parameters : List ℕ

-- At a start: the next byte begins a header, and R takes and has nothing.
abbrev pub no_history : History
no_history = record { place = ScanHeader []; takes = false; parameters = [] }

-- ---- the bytes that a step used
-- this is the header of a PARAMS record of R
abbrev pub is_params_header : ℕ → List ℕ → Bool
is_params_header R h = if header_id h =? R then header_type h =? PARAMS else false

-- after a header byte: are they fewer than eight still?
unfoldable pub scan_whole_params : Bool → ℕ → List ℕ → Scan
scan_whole_params true R h = ScanHeader h
scan_whole_params false R h = scan_left (is_params_header R h) (header_content h) (header_padding h)

-- Where the byte after b stands: in a header, with the bytes of it that are in; or past a header, with whether the
-- record is PARAMS of R and its content and padding left.
unfoldable pub scan_params : ℕ → Scan → ℕ → Scan
scan_params R (ScanHeader h) b = scan_whole_params (length (h ++ b ∷ []) <? 8) R (h ++ b ∷ [])
scan_params R (ScanRest own (suc c) p) b = scan_left own c p
scan_params R (ScanRest own zero (suc p)) b = scan_left own zero p
scan_params R (ScanRest own zero zero) b = ScanHeader []

-- the byte that stands there is content of a PARAMS record of R
abbrev pub is_params : Scan → Bool
is_params (ScanHeader h) = false
is_params (ScanRest own (suc c) p) = own
is_params (ScanRest own zero p) = false

-- A byte is added if it is content of a PARAMS record of R and R takes PARAMS.
abbrev pub with_byte : ℕ → History → ℕ → History
with_byte R h b =
    record {
      place = scan_params R h.place b;
      takes = h.takes;
      parameters = if is_params h.place and h.takes then h.parameters ++ b ∷ [] else h.parameters;
    }

-- all of them
unfoldable pub with_bytes : ℕ → History → List ℕ → History
with_bytes R h [] = h
with_bytes R h (b ∷ x) = with_bytes R (with_byte R h b) x

-- ---- events and answers
-- What an event or an answer does to R's parameters.
pub data ParamsChange : Type 0 where
  -- nothing
  Keeps : ParamsChange
  -- R is opened: it has none, and takes PARAMS
  Begins : ParamsChange
  -- R keeps those that it has, and takes no more
  Ends : ParamsChange
  -- R has none, and takes none
  Drops : ParamsChange

-- it is done
abbrev pub changed : ParamsChange → History → History
changed Keeps h = h
changed Begins h = record { place = h.place; takes = true; parameters = [] }
changed Ends h = record { place = h.place; takes = false; parameters = h.parameters }
changed Drops h = record { place = h.place; takes = false; parameters = [] }

-- An event of a step: R is opened; R is ready or aborted; R faults, or the connection closes.
abbrev pub change_of : ℕ → Event → ParamsChange
change_of R (Event.Open id role keep) = if id =? R then Begins else Keeps
change_of R (Event.Ready id n) = if id =? R then Ends else Keeps
change_of R (Event.Abort id) = if id =? R then Ends else Keeps
change_of R (Event.Fault id n) = if id =? R then Drops else Keeps
change_of R (Event.Closed n) = Drops
change_of R Event.None = Keeps
change_of R (Event.Data id stream n) = Keeps
change_of R (Event.End id stream measure) = Keeps
change_of R (Event.Refuse id n) = Keeps
change_of R (Event.Query conns reqs mpxs) = Keeps
change_of R (Event.Unknown kind) = Keeps

-- An answer to a call for an id. Only that of a finish which is not refused counts: R is finished, or the connection
-- closes.
abbrev pub change_by : ℕ → ℕ → Answer → ParamsChange
change_by R id (FinishedWith refusal n closed buffer) =
    if refusal =? 0 then (if closed then Drops else if id =? R then Drops else Keeps) else Keeps
change_by R id (RepliedWith r) = Keeps
change_by R id (Wrote refusal n buffer) = Keeps

-- ---- operations
-- One operation, from what the operations before it left. The event of a step comes with the last byte that it used.
abbrev pub history_then : ℕ → Memory → Operation → History → History
history_then R m (StepOver piece) h = changed (change_of R (step_of m piece).event) (with_bytes R h (used_of m piece))
history_then R m (CallFor id a) h = changed (change_by R id (called m id a).answer) h
history_then R m CountActive h = h

-- operations in order
unfoldable pub history_from : ℕ → Memory → History → List Operation → History
history_from R m h [] = h
history_from R m h (o ∷ os) = history_from R (memory_after m o) (history_then R m o h) os

-- R's parameters after operations from a start.
abbrev pub parameters_after : ℕ → Memory → List Operation → List ℕ
parameters_after R start os = (history_from R start no_history os).parameters
