-- What holds of the two ends all along a joint run. The station's moves, and the steps and calls of the server's end, keep
-- it.
use Rattle.std.specs.Prelude.{ℕ, ◌≡◌, Bool, List, ◌∷◌, ◌++◌}
use Rattle.connection.specs.declared.state.Table.{Table}
use Rattle.connection.specs.Run.{StepOver, CallFor, CountActive, step_of}
use Rattle.connection.specs.Slots.{no_state, request_at}
use Rattle.connection.specs.Calls.{replied}
use Rattle.connection.proofs.Runs.LinkingStep.{Steady}
use Rattle.server.specs.Event.{Note}
use Rattle.server.specs.Step.{State}
use Rattle.server.specs.Calls.{Part}
use Rattle.replies_heard.proofs.Agree.{Agree, Inactive, Resting}
use Rattle.replies_heard.proofs.Behind.{Behind, written_behind, server_reads as reads-behind}
use Rattle.replies_heard.specs.Moves.{Move, Does, Replies, wire_of, meant_by}
use Rattle.replies_heard.specs.Joint.{Joint, Station, Reads, Opens, Writes, Asks, opening_in, station_waiting, station_refused, reading_of, with_server, after, heard_at, meant_at, is_fair, Fair}
use Rattle.replies_heard.proofs.MoveHeard.{MoveRests, Spared, move_heard, move_steady}
use Rattle.replies_heard.proofs.Pending.{Pending, Apart, pending_step, apart_step, pending_reply, apart_reply, opening_rests, answer_rests, opened_rests, opened_apart}
use Rattle.replies_heard.proofs.ServerCalls.{Moved, part_moves, Opened, open_moves, ask_moves}

-- The server's end, once it has read what is on the wire, stands between two records and has heard what is left to hear.
-- There the two ends agree, and each request whose opening is on its way or was refused rests.
pub record Together (j : Joint) (left : List Note) : Type 0 where
  pub steady : Steady j.station
  pub table : Table
  pub values : List ℕ
  pub behind : Behind j.server j.wire left table values
  pub agree : Agree j.station.state.conn.table table
  pub rests : (id : ℕ) → Pending j.waiting j.refused id → Resting j.station.state.conn.table table id
  pub apart : Apart j.waiting j.refused

-- ---- the station moves
-- what it opens or answers rested
move_rests : (j : Joint) (m : Move) (t : Table) → ((id : ℕ) → Pending j.waiting j.refused id → Resting j.station.state.conn.table t id) → is_fair j m → MoveRests j.station t m
move_rests j (Does (StepOver piece)) t rests f = opening_rests j.waiting j.refused j.station.state.conn.table t rests (opening_in (step_of j.station piece).event) f
move_rests j (Does (CallFor id a)) t rests f = tt
move_rests j (Does CountActive) t rests f = tt
move_rests j (Replies e buffer) t rests f = answer_rests j.waiting j.refused j.station.state.conn.table t rests (opening_in e) f

-- what is pending behind it was pending before, and is spared
pending_move : (j : Joint) (m : Move) → Apart j.waiting j.refused → is_fair j m → (b : ℕ)
    → Pending (station_waiting j.station m j.waiting) (station_refused j.station m j.waiting j.refused) b → Pending j.waiting j.refused b × Spared j.station m b
pending_move j (Does (StepOver piece)) apart f b k = pending_step j.waiting j.refused apart (opening_in (step_of j.station piece).event) f b k
pending_move j (Does (CallFor id a)) apart f b k = (k, tt)
pending_move j (Does CountActive) apart f b k = (k, tt)
pending_move j (Replies e buffer) apart f b k = pending_reply j.waiting j.refused apart (opening_in e) (replied e buffer).refusal f b k

apart_move : (j : Joint) (m : Move) → Apart j.waiting j.refused → Apart (station_waiting j.station m j.waiting) (station_refused j.station m j.waiting j.refused)
apart_move j (Does (StepOver piece)) apart = apart_step j.waiting j.refused apart (opening_in (step_of j.station piece).event)
apart_move j (Does (CallFor id a)) apart = apart
apart_move j (Does CountActive) apart = apart
apart_move j (Replies e buffer) apart = apart_reply j.waiting j.refused apart (opening_in e) (replied e buffer).refusal

pub station_moves : (j : Joint) (left : List Note) (m : Move) → Together j left → Fair j (Station m) → Together (after j (Station m)) (left ++ meant_at j (Station m))
unfolding after
station_moves j left m i f =
    let s = j.station in
    let k = move_heard s i.table i.values i.steady i.behind.ready i.agree m f.0 (move_rests j m i.table i.rests f.1) in
    record {
      steady = move_steady s m i.steady f.0;
      table = k.table;
      values = k.values;
      behind = written_behind j.server j.wire left i.table i.values i.behind (wire_of s m) k.table k.values (meant_by s m) k.ok k.heard;
      agree = k.agree;
      rests = λ id p. let before = pending_move j m i.apart f.1 id p in k.rests id before.1 (i.rests id before.0);
      apart = apart_move j m i.apart;
    }

-- ---- the server's end reads
pub record ReadsOn (j : Joint) (n : ℕ) (left : List Note) : Type 0 where
  pub left' : List Note
  pub told : left ≡ heard_at j (Reads n) ++ left'
  pub admitted : (reading_of j n).refusal ≡ 0
  pub together : Together (after j (Reads n)) left'

pub server_reads : (j : Joint) (left : List Note) (n : ℕ) → Together j left → ReadsOn j n left
unfolding after
server_reads j left n i =
    let k = reads-behind j.server j.wire left i.table i.values n i.behind in
    record {
      left' = k.left';
      told = k.told;
      admitted = k.admitted;
      together = record { steady = i.steady; table = i.table; values = i.values; behind = k.behind; agree = i.agree; rests = i.rests; apart = i.apart };
    }

-- ---- the calls of the server's end
moved : (j : Joint) (left : List Note) (i : Together j left) (st : State) → Moved j.wire left i.table i.values st → Together (with_server j st j.waiting) left
moved j left i st m =
    record {
      steady = i.steady;
      table = m.table;
      values = i.values;
      behind = m.behind;
      agree = λ id k e. m.stays_open id (request_at j.station.state.conn.table k).state (i.agree id k e);
      rests = λ id p. let r = i.rests id p in record { is_open = m.stays_open id no_state r.is_open; inactive = r.inactive };
      apart = i.apart;
    }

opens : (j : Joint) (left : List Note) (id : ℕ) (i : Together j left) (st : State) → Opened id j.wire left i.table i.values st → Together (with_server j st (id ∷ j.waiting)) left
unfolding moved
opens j left id i st o =
    let s = j.station.state.conn.table in
    let m = moved j left i st o.moved in
    let none : Inactive s id = λ a n e. o.fresh a (request_at s n).state (i.agree a n e) in
    record {
      steady = i.steady;
      table = m.table;
      values = i.values;
      behind = m.behind;
      agree = m.agree;
      rests = opened_rests j.waiting j.refused s i.table i.rests o.moved.table id o.moved.stays_open o.mine o.fresh none;
      apart = opened_apart j.waiting j.refused s i.table i.rests o.moved.table id o.moved.stays_open o.mine o.fresh i.apart;
    }

pub server_opens : (j : Joint) (left : List Note) (id role : ℕ) (keep : Bool) (buffer : List ℕ) → Together j left → Together (after j (Opens id role keep buffer)) left
unfolding after
server_opens j left id role keep buffer i =
    open_moves (λ st waiting. Together (with_server j st waiting) left) j.server j.wire left i.table i.values j.waiting id role keep buffer i.behind (opens j left id i) i

pub server_writes : (j : Joint) (left : List Note) (id : ℕ) (p : Part) (buffer : List ℕ) → Together j left → Together (after j (Writes id p buffer)) left
unfolding after
server_writes j left id p buffer i = moved j left i _ (part_moves j.server j.wire left i.table i.values id p buffer i.behind)

pub server_asks : (j : Joint) (left : List Note) (list buffer : List ℕ) → Together j left → Together (after j (Asks list buffer)) left
unfolding after
server_asks j left list buffer i = moved j left i _ (ask_moves j.server j.wire left i.table i.values list buffer i.behind)
