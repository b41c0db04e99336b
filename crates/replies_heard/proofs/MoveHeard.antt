-- Every move of a station is heard as it was meant, and keeps what the two ends have in common.
use Rattle.std.specs.Prelude.{ℕ, ◌<◌, ◌≡◌, true, List, []}
use Rattle.std.proofs.Common.{sym, subst}
use Rattle.wire.proofs.Bytes.{AllBytes}
use Rattle.connection.specs.declared.state.Table.{Table}
use Rattle.connection.specs.Event.{Event as StationEvent}
use Rattle.connection.specs.Slots.{no_state, request_at}
use Rattle.connection.specs.Calls as C
use Rattle.connection.specs.Arguments.{Argument, ForRead, ForSay, ForEnd, ForFinish}
use Rattle.connection.specs.Run.{Memory, StepOver, CallFor, CountActive, called, step_of, memory_after}
use Rattle.connection.proofs.Laws.SlotsLaws.{Sized}
use Rattle.connection.proofs.Runs.LinkingStep.{Steady, step_linked}
use Rattle.connection.proofs.Runs.LinkingCalls.{call_linked, count_linked}
use Rattle.server.specs.Event.{Note}
use Rattle.server.specs.Step.{idle}
use Rattle.server.proofs.Laws.{Ready}
use Rattle.server.proofs.WrittenBytes.{no_bytes}
use Rattle.server.proofs.Meaning.{Heard, heard_nothing}
use Rattle.replies_heard.proofs.Agree.{Each, Agree, Inactive, OpenWith, Resting, open_on_ends}
use Rattle.replies_heard.proofs.StationSteps.{step_each}
use Rattle.replies_heard.specs.Moves.{Move, Does, Replies, left_of, wire_of, call_means, meant_by, argument_fits, event_fits, move_fits}
use Rattle.replies_heard.specs.Joint.{Opening, IsOpened, IsRefused, Neither, opening_in}
use Rattle.replies_heard.proofs.CallHeard.{CallHeard, not_called, call_agrees, call_rests}
use Rattle.replies_heard.proofs.OutputHeard.{say_heard, end_heard}
use Rattle.replies_heard.proofs.FinishHeard.{finish_heard}
use Rattle.replies_heard.proofs.RepliesHeard.{AnswerOpen, Unanswered, reply_heard}

abbrev table_of : Memory → Table
table_of m = m.state.conn.table

-- What a move came to, from the station's table s to s' and from a server's end that stands between two records with
-- table t and lent bytes v: the bytes are heard as these notes, the two ends agree, and a request that rests and is
-- spared rests still.
pub record Agreed (Spared : ℕ → Type 0) (s t : Table) (v bytes : List ℕ) (l : List Note) (s' : Table) : Type 0 where
  pub table : Table
  pub values : List ℕ
  pub heard : Heard t v bytes table values l
  pub agree : Agree s' table
  pub ok : AllBytes bytes
  pub rests : (b : ℕ) → Spared b → Resting s t b → Resting s' table b

-- a call spares all
abbrev pub All : ℕ → Type 0
All b = Unit {0}

-- a request that a step opens rested
abbrev pub OpeningRests : Opening → Table → Table → Type 0
OpeningRests (IsOpened id) s t = Resting s t id
OpeningRests (IsRefused id) s t = Unit {0}
OpeningRests Neither s t = Unit {0}

-- what a step spares: all but the id that it opens
abbrev pub Unopened : Opening → ℕ → Type 0
Unopened (IsOpened id) b = b ≡ id → ⊥
Unopened (IsRefused id) b = Unit {0}
Unopened Neither b = Unit {0}

-- a request whose refused opening is answered rested
abbrev pub AnswerRests : Opening → Table → Table → Type 0
AnswerRests (IsOpened id) s t = Unit {0}
AnswerRests (IsRefused id) s t = Resting s t id
AnswerRests Neither s t = Unit {0}

-- so it is open at the server's end, and nothing that is active at the station is answered
pub answer_open : (o : Opening) (s t : Table) → AnswerRests o s t → AnswerOpen o t
answer_open (IsOpened id) s t r = tt
answer_open (IsRefused id) s t r = r.is_open
answer_open Neither s t r = tt

pub active_unanswered : (o : Opening) (n : ℕ) (s t : Table) → AnswerRests o s t → Each s (λ b i m. Unanswered o n b)
active_unanswered (IsOpened id) n s t r b i f = tt
active_unanswered (IsRefused id) n s t r b i f = λ z. r.inactive b i f
active_unanswered Neither n s t r b i f = tt

-- what a move opens or answers rested; and what it spares
abbrev pub MoveRests : Memory → Table → Move → Type 0
MoveRests m t (Does (StepOver piece)) = OpeningRests (opening_in (step_of m piece).event) (table_of m) t
MoveRests m t (Does (CallFor id a)) = Unit {0}
MoveRests m t (Does CountActive) = Unit {0}
MoveRests m t (Replies e buffer) = AnswerRests (opening_in e) (table_of m) t

abbrev pub Spared : Memory → Move → ℕ → Type 0
Spared m (Does (StepOver piece)) = Unopened (opening_in (step_of m piece).event)
Spared m (Does (CallFor id a)) = All
Spared m (Does CountActive) = All
Spared m (Replies e buffer) = Unanswered (opening_in e) (C.replied e buffer).refusal

-- an id that is not active stays so in a step that does not open it
pub step_inactive : (m : Memory) → Sized m.state.conn.table → (b : ℕ) (piece : List ℕ) → Unopened (opening_in (step_of m piece).event) b → Inactive (table_of m) b → Inactive (step_of m piece).state.conn.table b
step_inactive m sized b piece k none =
    step_each m.state m.store (λ n i s. n ≡ b → ⊥) (λ n i s s' same ne. ne) sized none piece
    (λ id role keep q i low free z. subst (λ (x : StationEvent). Unopened (opening_in x) b) q k (sym z))

module _ (m : Memory) (t : Table) (v : List ℕ) (steady : Steady m) (ready : Ready (idle t true v) 0) (a : Agree m.state.conn.table t) where
  -- what a call came to
  called_agrees : (id : ℕ) (bytes : List ℕ) (l : List Note) (s' : Table) → CallHeard id (table_of m) t v bytes l s' → Agreed All (table_of m) t v bytes l s'
  called_agrees id bytes l s' k =
      record {
        table = k.table;
        values = v;
        heard = k.heard;
        agree = call_agrees id (table_of m) t k.table steady.sizes.table k.changes a;
        ok = k.ok;
        rests = λ b n r. call_rests id (table_of m) t k.table k.changes b r;
      }

  call_heard : (id : ℕ) (x : Argument) → id < 65536 → argument_fits x → CallHeard id (table_of m) t v (wire_of m (Does (CallFor id x))) (call_means m id x) (table_of (called m id x).memory)
  unfolding called
  call_heard id (ForRead q) hi f = not_called id (table_of m) t v ready
  call_heard id (ForSay o x buffer) hi f = say_heard m.state.conn id t v ready (a id) hi o x buffer f
  call_heard id (ForEnd o buffer) hi f = end_heard m.state.conn id t v ready (a id) hi o buffer
  call_heard id (ForFinish status buffer) hi f = finish_heard m.state.conn m.store id status buffer t v ready (a id) hi f

  step_heard : (piece : List ℕ) → MoveRests m t (Does (StepOver piece)) → Agreed (Spared m (Does (StepOver piece))) (table_of m) t v [] [] (step_of m piece).state.conn.table
  step_heard piece rests =
      let e = (step_of m piece).event in
      record {
        table = t;
        values = v;
        heard = heard_nothing t v ready;
        agree = step_each m.state m.store (λ id i. OpenWith t id) (open_on_ends t) steady.sizes.table a piece
            (λ id role keep q i low free. (subst (λ (x : StationEvent). OpeningRests (opening_in x) (table_of m) t) q rests).is_open);
        ok = no_bytes;
        rests = λ b k r. record {
          is_open = r.is_open;
          inactive = step_inactive m steady.sizes.table b piece k r.inactive;
        };
      }

  reply_agrees : (e : StationEvent) (buffer : List ℕ) → event_fits e → AnswerRests (opening_in e) (table_of m) t
      → Agreed (Unanswered (opening_in e) (C.replied e buffer).refusal) (table_of m) t v (wire_of m (Replies e buffer)) (meant_by m (Replies e buffer)) (table_of m)
  reply_agrees e buffer f rests =
      let s = table_of m in
      let k = reply_heard t v ready buffer e f (answer_open (opening_in e) s t rests) in
      record {
        table = k.table;
        values = k.values;
        heard = k.heard;
        agree = λ b i q. k.stays b (request_at s i).state (active_unanswered (opening_in e) (C.replied e buffer).refusal s t rests b i q) (a b i q);
        ok = k.ok;
        rests = λ b u r. record { is_open = k.stays b no_state u r.is_open; inactive = r.inactive };
      }

  pub move_heard : (move : Move) → move_fits move → MoveRests m t move → Agreed (Spared m move) (table_of m) t v (wire_of m move) (meant_by m move) (table_of (left_of m move))
  unfolding memory_after
  move_heard (Does (StepOver piece)) f rests = step_heard piece rests
  move_heard (Does (CallFor id x)) f rests = called_agrees id _ _ _ (call_heard id x f.0 f.1)
  move_heard (Does CountActive) f rests = called_agrees 0 _ _ _ (not_called 0 (table_of m) t v ready)
  move_heard (Replies e buffer) f rests = reply_agrees e buffer f rests

pub move_steady : (m : Memory) (move : Move) → Steady m → move_fits move → Steady (left_of m move)
move_steady m (Does (StepOver piece)) s f = (step_linked m piece s f).steady
move_steady m (Does (CallFor id x)) s f = (call_linked m id x s).steady
move_steady m (Does CountActive) s f = (count_linked m s).steady
move_steady m (Replies e buffer) s f = s
