-- What holds of a station with a queue and the server's end all along a joint run. Every move keeps it.
use Rattle.std.specs.Prelude.{ℕ, ◌≡◌, refl, true, List, ◌∷◌, ◌++◌}
use Rattle.std.proofs.Common.{sym, ◌∙◌, append-nil}
use Rattle.wire.proofs.Bytes.{AllBytes}
use Rattle.connection.specs.declared.state.Table.{Table}
use Rattle.connection.specs.Event.{Event as StationEvent}
use Rattle.connection.specs.Slots.{no_state, request_at}
use Rattle.connection.specs.Calls.{replied}
use Rattle.server.specs.Event.{Note}
use Rattle.server.specs.Step.{State, idle}
use Rattle.server.proofs.Laws.{Ready}
use Rattle.server.proofs.WrittenBytes.{no_bytes}
use Rattle.server.proofs.Meaning.{Heard, heard_nothing}
use Rattle.queue.specs.Calls.{QueueMemory, conn_of, wait_at, queue_step}
use Rattle.queue.specs.Run.{QueueOperation, StepOver, CallFor, CountActive, TurnWith, queue_after, bytes_in}
use Rattle.queue_link.proofs.LinkedRuns.{Fine, PieceOk, op_fine}
use Rattle.queue_runs.proofs.Closing.{KeepsNothing, nothing_kept}
use Rattle.replies_heard.proofs.Agree.{Inactive, Resting}
use Rattle.replies_heard.proofs.Behind.{Behind, written_behind, server_reads}
use Rattle.replies_heard.specs.Joint.{opening_in}
use Rattle.replies_heard.specs.Moves.{event_fits}
use Rattle.replies_heard.proofs.RepliesHeard.{Unanswered, reply_heard}
use Rattle.replies_heard.proofs.MoveHeard.{All, OpeningRests, Unopened, AnswerRests, answer_open, active_unanswered}
use Rattle.replies_heard.proofs.Pending.{Pending, Apart, pending_step, apart_step, pending_reply, apart_reply, opening_rests, answer_rests, opened_rests, opened_apart}
use Rattle.replies_heard.proofs.ServerCalls.{Moved, part_moves, Opened, open_moves, ask_moves}
use Rattle.queue_heard.proofs.Accounts.{Tells, tells_none}
use Rattle.queue_heard.specs.Moves.{Move, Does, Replies, left_of, wire_of, meant_by, move_fits}
use Rattle.queue_heard.specs.Joint.{Joint, JointMove, Station, Reads, Opens, Writes, Asks, station_waiting, station_refused, with_server, after, heard_at, meant_at, is_fair, Fair, NotRefused}
use Rattle.queue_heard.proofs.Sends.{QueueAgree, sends_there}
use Rattle.queue_heard.proofs.OperationHeard.{call_heard, pump_heard, step_heard}

-- The server's end, once it has read what is on the wire, stands between two records and has heard what is left to hear.
-- There the two ends agree, and each request whose opening is on its way or was refused rests.
pub record Together (j : Joint) (left : List Note) : Type 0 where
  pub fine : Fine j.station
  pub nothing : KeepsNothing j.station
  pub table : Table
  pub values : List ℕ
  pub behind : Behind j.server j.wire left table values
  pub agree : QueueAgree j.station table
  pub rests : (id : ℕ) → Pending j.waiting j.refused id → Resting (conn_of j.station).table table id
  pub apart : Apart j.waiting j.refused

-- ---- the station moves
-- what a move opens or answers rested; and what it spares
abbrev MoveRests : QueueMemory → Table → Move → Type 0
MoveRests m t (Does (StepOver piece)) = OpeningRests (opening_in (queue_step m piece).event) (conn_of m).table t
MoveRests m t (Does (CallFor id a)) = Unit {0}
MoveRests m t (Does CountActive) = Unit {0}
MoveRests m t (Does (TurnWith allowance buffer)) = Unit {0}
MoveRests m t (Replies e buffer) = AnswerRests (opening_in e) (conn_of m).table t

abbrev Spared : QueueMemory → Move → ℕ → Type 0
Spared m (Does (StepOver piece)) = Unopened (opening_in (queue_step m piece).event)
Spared m (Does (CallFor id a)) = All
Spared m (Does CountActive) = All
Spared m (Does (TurnWith allowance buffer)) = All
Spared m (Replies e buffer) = Unanswered (opening_in e) (replied e buffer).refusal

-- what it came to, with the table t and the lent bytes v behind the wire
record MoveHeard (m : QueueMemory) (t : Table) (v : List ℕ) (x : Move) : Type 0 where
  pub table : Table
  pub values : List ℕ
  pub heard : Heard t v (wire_of m x) table values (meant_by m x)
  pub agree : QueueAgree (left_of m x) table
  pub ok : AllBytes (wire_of m x)
  pub rests : (b : ℕ) → Spared m x b → Resting (conn_of m).table t b → Resting (conn_of (left_of m x)).table table b

module _ (m : QueueMemory) (t : Table) (v : List ℕ) (fine : Fine m) (nothing : KeepsNothing m) (ready : Ready (idle t true v) 0) (a : QueueAgree m t) where
  reply_moves : (e : StationEvent) (buffer : List ℕ) → event_fits e → AnswerRests (opening_in e) (conn_of m).table t → MoveHeard m t v (Replies e buffer)
  reply_moves e buffer f rests =
      let s = (conn_of m).table in
      let k = reply_heard t v ready buffer e f (answer_open (opening_in e) s t rests) in
      record {
        table = k.table;
        values = k.values;
        heard = k.heard;
        agree = λ b i q.
            sends_there t k.table b (wait_at m i) (request_at s i).state (λ n o. k.stays b n (active_unanswered (opening_in e) (replied e buffer).refusal s t rests b i q) o) (a b i q);
        ok = k.ok;
        rests = λ b u r. record { is_open = k.stays b no_state u r.is_open; inactive = r.inactive };
      }

  move_heard : (x : Move) → move_fits x → MoveRests m t x → MoveHeard m t v x
  unfolding queue_after bytes_in
  move_heard (Does (StepOver piece)) f rests =
      let k = step_heard m t v fine nothing ready a piece rests in
      record { table = t; values = v; heard = heard_nothing t v ready; agree = k.agree; ok = no_bytes; rests = k.rests }
  move_heard (Does (CallFor id x)) f rests =
      let k = call_heard m t v fine nothing ready a id x f.0 f.1 in
      record { table = k.table; values = v; heard = k.heard; agree = k.agree; ok = k.ok; rests = λ b u r. k.rests b r }
  move_heard (Does CountActive) f rests = record { table = t; values = v; heard = heard_nothing t v ready; agree = a; ok = no_bytes; rests = λ b u r. r }
  move_heard (Does (TurnWith allowance buffer)) f rests =
      let k = pump_heard m t v fine nothing ready a allowance buffer in
      record { table = k.table; values = v; heard = k.heard; agree = k.agree; ok = k.ok; rests = λ b u r. k.rests b r }
  move_heard (Replies e buffer) f rests = reply_moves e buffer f rests

  -- what an operation writes tells of each request what it means
  operation_tells : (o : QueueOperation) → move_fits (Does o) → Tells (bytes_in m o) (meant_by m (Does o))
  unfolding bytes_in
  operation_tells (StepOver piece) f = tells_none
  operation_tells (CallFor id x) f = (call_heard m t v fine nothing ready a id x f.0 f.1).tells
  operation_tells CountActive f = tells_none
  operation_tells (TurnWith allowance buffer) f = (pump_heard m t v fine nothing ready a allowance buffer).tells

-- the piece of a step is bytes
piece_fits : (o : QueueOperation) → move_fits (Does o) → PieceOk o
piece_fits (StepOver piece) f = f
piece_fits (CallFor id a) f = tt
piece_fits CountActive f = tt
piece_fits (TurnWith allowance buffer) f = tt

move_fine : (m : QueueMemory) (x : Move) → Fine m → move_fits x → Fine (left_of m x)
move_fine m (Does o) k f = op_fine m o k (piece_fits o f)
move_fine m (Replies e buffer) k f = k

move_nothing : (m : QueueMemory) (x : Move) → KeepsNothing m → KeepsNothing (left_of m x)
move_nothing m (Does o) k = nothing_kept m o k
move_nothing m (Replies e buffer) k = k

module _ (j : Joint) where
  -- what it opens or answers rested
  move_rests : (x : Move) (t : Table) → ((id : ℕ) → Pending j.waiting j.refused id → Resting (conn_of j.station).table t id) → is_fair j x → MoveRests j.station t x
  move_rests (Does (StepOver piece)) t rests f = opening_rests j.waiting j.refused (conn_of j.station).table t rests (opening_in (queue_step j.station piece).event) f
  move_rests (Does (CallFor id a)) t rests f = tt
  move_rests (Does CountActive) t rests f = tt
  move_rests (Does (TurnWith allowance buffer)) t rests f = tt
  move_rests (Replies e buffer) t rests f = answer_rests j.waiting j.refused (conn_of j.station).table t rests (opening_in e) f

  -- what is pending behind it was pending before, and is spared
  pending_move : (x : Move) → Apart j.waiting j.refused → is_fair j x → (b : ℕ)
      → Pending (station_waiting j.station x j.waiting) (station_refused j.station x j.waiting j.refused) b → Pending j.waiting j.refused b × Spared j.station x b
  pending_move (Does (StepOver piece)) apart f b k = pending_step j.waiting j.refused apart (opening_in (queue_step j.station piece).event) f b k
  pending_move (Does (CallFor id a)) apart f b k = (k, tt)
  pending_move (Does CountActive) apart f b k = (k, tt)
  pending_move (Does (TurnWith allowance buffer)) apart f b k = (k, tt)
  pending_move (Replies e buffer) apart f b k = pending_reply j.waiting j.refused apart (opening_in e) (replied e buffer).refusal f b k

  apart_move : (x : Move) → Apart j.waiting j.refused → Apart (station_waiting j.station x j.waiting) (station_refused j.station x j.waiting j.refused)
  apart_move (Does (StepOver piece)) apart = apart_step j.waiting j.refused apart (opening_in (queue_step j.station piece).event)
  apart_move (Does (CallFor id a)) apart = apart
  apart_move (Does CountActive) apart = apart
  apart_move (Does (TurnWith allowance buffer)) apart = apart
  apart_move (Replies e buffer) apart = apart_reply j.waiting j.refused apart (opening_in e) (replied e buffer).refusal

  station_moves : (left : List Note) (x : Move) → Together j left → Fair j (Station x) → Together (after j (Station x)) (left ++ meant_at j (Station x))
  unfolding after
  station_moves left x i f =
      let s = j.station in
      let k = move_heard s i.table i.values i.fine i.nothing i.behind.ready i.agree x f.0 (move_rests x i.table i.rests f.1) in
      record {
        fine = move_fine s x i.fine f.0;
        nothing = move_nothing s x i.nothing;
        table = k.table;
        values = k.values;
        behind = written_behind j.server j.wire left i.table i.values i.behind (wire_of s x) k.table k.values (meant_by s x) k.ok k.heard;
        agree = k.agree;
        rests = λ id p. let before = pending_move x i.apart f.1 id p in k.rests id before.1 (i.rests id before.0);
        apart = apart_move x i.apart;
      }

  -- ---- the calls of the server's end
  moved : (left : List Note) (i : Together j left) (st : State) → Moved j.wire left i.table i.values st → Together (with_server j st j.waiting) left
  moved left i st m =
      let s = (conn_of j.station).table in
      record {
        fine = i.fine;
        nothing = i.nothing;
        table = m.table;
        values = i.values;
        behind = m.behind;
        agree = λ id k e. sends_there i.table m.table id (wait_at j.station k) (request_at s k).state (λ n o. m.stays_open id n o) (i.agree id k e);
        rests = λ id p. let r = i.rests id p in record { is_open = m.stays_open id no_state r.is_open; inactive = r.inactive };
        apart = i.apart;
      }

  opens : (left : List Note) (id : ℕ) (i : Together j left) (st : State) → Opened id j.wire left i.table i.values st → Together (with_server j st (id ∷ j.waiting)) left
  unfolding moved
  opens left id i st o =
      let s = (conn_of j.station).table in
      let m = moved left i st o.moved in
      let none : Inactive s id = λ a n e. o.fresh a (i.agree a n e).state (i.agree a n e).there in
      record {
        fine = i.fine;
        nothing = i.nothing;
        table = m.table;
        values = i.values;
        behind = m.behind;
        agree = m.agree;
        rests = opened_rests j.waiting j.refused s i.table i.rests o.moved.table id o.moved.stays_open o.mine o.fresh none;
        apart = opened_apart j.waiting j.refused s i.table i.rests o.moved.table id o.moved.stays_open o.mine o.fresh i.apart;
      }

-- ---- any move
-- what was left to hear and is meant is what is heard now and what is left then
pub record MovesOn (j : Joint) (x : JointMove) (left : List Note) : Type 0 where
  pub left' : List Note
  pub told : heard_at j x ++ left' ≡ left ++ meant_at j x
  pub admitted : NotRefused j x
  pub together : Together (after j x) left'

pub moves_on : (x : JointMove) (j : Joint) (left : List Note) → Together j left → Fair j x → MovesOn j x left
unfolding after
moves_on (Station x) j left i f = record { left' = left ++ meant_at j (Station x); told = refl; admitted = tt; together = station_moves j left x i f }
moves_on (Reads n) j left i f =
    let k = server_reads j.server j.wire left i.table i.values n i.behind in
    record {
      left' = k.left';
      told = sym k.told ∙ sym (append-nil left);
      admitted = k.admitted;
      together = record { fine = i.fine; nothing = i.nothing; table = i.table; values = i.values; behind = k.behind; agree = i.agree; rests = i.rests; apart = i.apart };
    }
moves_on (Opens id role keep buffer) j left i f =
    record {
      left' = left;
      told = sym (append-nil left);
      admitted = tt;
      together = open_moves (λ st waiting. Together (with_server j st waiting) left) j.server j.wire left i.table i.values j.waiting id role keep buffer i.behind (opens j left id i) i;
    }
moves_on (Writes id p buffer) j left i f =
    record { left' = left; told = sym (append-nil left); admitted = tt; together = moved j left i _ (part_moves j.server j.wire left i.table i.values id p buffer i.behind) }
moves_on (Asks list buffer) j left i f =
    record { left' = left; told = sym (append-nil left); admitted = tt; together = moved j left i _ (ask_moves j.server j.wire left i.table i.values list buffer i.behind) }

-- What an operation writes tells of each request what it means.
pub does_tells : (j : Joint) (left : List Note) (o : QueueOperation) → Together j left → move_fits (Does o) → Tells (bytes_in j.station o) (meant_by j.station (Does o))
does_tells j left o i f = operation_tells j.station i.table i.values i.fine i.nothing i.behind.ready i.agree o f
