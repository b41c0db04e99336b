-- What the code settles before it changes the table, read as what a step leaves.
use Rattle.std.specs.Prelude.{ℕ, ◌≡◌, refl, Bool, true, false, List, take, Ok, Result}
use Rattle.record_reader.specs.declared.Position.{Position}
use Rattle.record_reader.specs.declared.Phase.{Phase}
use Rattle.record_reader.specs.Position.{between_records, advanced}
use Rattle.connection.specs.declared.state.Table.{Table}
use Rattle.connection.specs.Slots.{free_slot, no_requests}
use Rattle.server.specs.declared.state.Target.{Target}
use Rattle.server.specs.declared.state.Frame.{Frame}
use Rattle.server.specs.declared.state.Server.{Server}
use Rattle.server.specs.declared.event.ServerEvent.{ServerEvent}
use Rattle.server.specs.declared.decision.Change.{Change}
use Rattle.server.specs.declared.decision.Decision.{Decision}
use Rattle.server.specs.Event.{Event}
use Rattle.server.specs.Codes.{result_event, result_refusal}
use Rattle.server.specs.Step.{Inner, inner_of, Left, no_body, told, judged, taken, Stepped, state_of, leaves, on_phase}
use Rattle.server.specs.Decision.{inner_in, stream_ended, applied}
use Rattle.server_header.specs.declared.Words.{Words}
use Rattle.server_step.specs.declared.Outcome.{Outcome}
use Rattle.server.specs.declared.answer.ServerRefusal.{ServerRefusal}

-- nothing but the position changes
abbrev pub unchanged : Frame → Decision
unchanged f = record { change = Change.Keep; target = f.target; gathered = f.gathered; body = f.body; event = ServerEvent.Nothing }

-- what the bytes of a phase leave, with so many content bytes after them
abbrev pub left_by : Phase → Inner → List ℕ → ℕ → Left
left_by Phase.Content s bytes left = taken s bytes left
left_by Phase.Padding s bytes left = told s Event.None
left_by Phase.Part s bytes left = told s Event.None
left_by (Phase.Whole h) s bytes left = judged s h

abbrev pub words_of : Table → Words
words_of t = record { occupied = t.occupied; out_ended = t.out_ended; err_ended = t.err_ended }

abbrev pub no_frame : Frame
no_frame = record { position = between_records; target = Target.Skip; gathered = 0; body = no_body }

abbrev pub server_of : Table → Frame → Bool → Server
server_of t f o = record { table = t; frame = f; «open» = o }

-- the state after a change of this table, with this frame
abbrev pub server_after : Change → Table → Bool → Frame → Server
server_after Change.Keep t o f = server_of t f o
server_after (Change.EndStream i output) t o f = server_of (stream_ended t i output) f o
server_after (Change.Free i) t o f = server_of (free_slot t i) f o
server_after Change.Close t o f = server_of no_requests no_frame false

-- what a step answers, with this state and these lent bytes after it
abbrev pub stepped_with : Outcome → Server → List ℕ → Stepped
stepped_with m c values =
    record { refusal = result_refusal m.result; used = m.used; event = result_event m.result; state = state_of c values }

abbrev pub outcome_of : Outcome → Table → Bool → List ℕ → Stepped
outcome_of m t o values = stepped_with m (server_after m.change t o m.frame) values

abbrev pub staying : Frame → Result ServerEvent ServerRefusal → Outcome
staying f result = record { used = 0; result = result; change = Change.Keep; frame = f }

abbrev pub decided : ℕ → Position → Decision → Outcome
decided used p m =
    record { used = used; result = Ok m.event; change = m.change; frame = record { position = p; target = m.target; gathered = m.gathered; body = m.body } }

-- what a step comes to that reads
unfoldable pub phased : Server → List ℕ → List ℕ → Stepped
phased c values piece =
    let a = advanced c.frame.position piece in
    on_phase a.phase (inner_of (state_of c values)) (take a.used piece) a.used a.position

-- A decision of an open connection, applied, is what its outcome is.
pub decided_leaves : (used : ℕ) (p : Position) (m : Decision) (t : Table) (values : List ℕ) → outcome_of (decided used p m) t true values ≡ leaves used p (applied m t values)
decided_leaves used p m t values = by_change m.change
  where
    by_change : (k : Change) → outcome_of (decided used p (record { change = k; target = m.target; gathered = m.gathered; body = m.body; event = m.event })) t true values
        ≡ leaves used p (applied (record { change = k; target = m.target; gathered = m.gathered; body = m.body; event = m.event }) t values)
    by_change Change.Keep = refl
    by_change (Change.EndStream i output) = refl
    by_change (Change.Free i) = refl
    by_change Change.Close = refl

-- What a phase leaves is what the definition says.
pub phase_leaves : (k : Phase) (t : Table) (f : Frame) (values bytes : List ℕ) (used : ℕ) (p : Position)
    → leaves used p (left_by k (inner_in t f values) bytes p.content) ≡ on_phase k (inner_in t f values) bytes used p
phase_leaves Phase.Content t f values bytes used p = refl
phase_leaves Phase.Padding t f values bytes used p = refl
phase_leaves Phase.Part t f values bytes used p = refl
phase_leaves (Phase.Whole h) t f values bytes used p = refl
