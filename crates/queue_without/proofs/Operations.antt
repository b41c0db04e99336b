-- A run without a queue is a run with a queue in which nothing is queued.
--
-- Where nothing waits, a step, a straight call and the active number do and answer what they do and answer without a
-- queue, and nothing waits behind them: from every memory, in shape or not. So a whole run leaves, tells, answers and
-- writes the same.
use Rattle.std.specs.Prelude.{◌≡◌, List, [], ◌∷◌, Bool, true, false, if◌then◌else◌}
use Rattle.std.proofs.Math.Path.{refl, ap}
use Rattle.std.proofs.Common.{◌∙◌, arith, ne_eqb}
use Rattle.std.proofs.Math.Bool.{not}
use Prim.Native.Nat.{ℕ, zero, suc, ◌+◌}
use Rattle.std.proofs.Math.ListN.{length}
use Rattle.wire.specs.Test.{by_test, ◌<?◌, ◌=?◌}
use Rattle.slot_word.specs.Word.{taken}
use Rattle.slot_word.proofs.WordLaws.{taken_out}
use Rattle.connection.specs.declared.request.Request.{Request}
use Rattle.connection.specs.declared.state.Conn.{Conn}
use Rattle.connection.specs.declared.answer.Output.{Output}
use Rattle.connection.specs.Sizes.{SLOTS, STORE}
use Rattle.connection.specs.Shape.{in_shape, ◌and◌}
use Rattle.connection.specs.Refusal.{Row, ◌when◌, holds_in, refusal}
use Rattle.connection.specs.RequestCalls as Of
use Rattle.connection.specs.Slots.{request_at, find, is_found}
use Rattle.connection.specs.Step.{step_refusal, stepped}
use Rattle.connection.specs.Calls as C
use Rattle.connection.specs.Arguments.{Question, Argument, ForRead, ForSay, ForEnd, ForFinish}
use Rattle.connection.proofs.Runs.LinkingCalls.{replied_or_refused}
use Rattle.connection.specs.Run as Base
use Rattle.connection.specs.Run.{Memory, Operation, replied_to, called, step_of, memory_after}
use Rattle.connection.proofs.Laws.SlotsLaws.{put_same}
use Rattle.queue_slot.specs.Wait.{anything}
use Rattle.queue.specs.Numbers.{nobody_waits, last_at}
use Rattle.queue.specs.Calls as T
use Rattle.queue.specs.Calls.{QueueMemory, beside, conn_of, wait_at, wait_fits, waits_fit, queue_in_shape, queue_step_refusal, queue_step, queue_count}
use Rattle.queue.proofs.ReplyLaws.{queue_replied_or_refused}
use Rattle.queue.specs.Run.{Straight, Straightly, QueueResult, with_memory, queue_reply, queue_called, queue_after}
use Rattle.queue.specs.Isolation.{is_ten}
use Rattle.queue_link.proofs.Loaded.{nobody_count, nobody_at, kept_either}
use Rattle.queue_runs.proofs.Rows.{refused_by_lem}
use Rattle.queue_runs.proofs.Closing.{both_ways}
use Rattle.queue_without.specs.Operations.{plainly, idle, called_idle}

-- ---- nothing waits
-- Nobody is between finish and END.
pub none_leaving : (i : ℕ) → last_at nobody_waits i ≡ false
unfolding last_at
none_leaving i = taken_out 0 i 0 (omega arith) (omega arith)

-- a condition and one that holds
and_true : (a b : Bool) → b ≡ true → (a and b) ≡ a
and_true true b e = e
and_true false b e = refl

-- ---- the rows
-- the first of two refusals that is one
abbrev first : ℕ → ℕ → ℕ
first n k = if n =? 0 then k else n

-- rows 9, 1 and 3, then 4, 5 and 6
in_order : (a b c d e f : Bool)
    → refusal ((9 when a) ∷ (1 when b) ∷ (3 when c) ∷ (4 when d) ∷ (5 when e) ∷ (6 when f) ∷ (10 when false) ∷ [])
    ≡ first (refusal ((9 when a) ∷ (1 when b) ∷ (3 when c) ∷ [])) (refusal ((4 when d) ∷ (5 when e) ∷ (6 when f) ∷ []))
in_order true b c d e f = refl
in_order false true c d e f = refl
in_order false false true d e f = refl
in_order false false false d e f = refl

-- the same of a call that is lent the store: rows 2, 9, 1 and 3, then 6
lent_in_order : (s a b c f : Bool)
    → refusal ((2 when s) ∷ (9 when a) ∷ (1 when b) ∷ (3 when c) ∷ (5 when false) ∷ (6 when f) ∷ (10 when false) ∷ [])
    ≡ first (refusal ((2 when s) ∷ (9 when a) ∷ (1 when b) ∷ (3 when c) ∷ [])) (refusal ((6 when f) ∷ []))
lent_in_order true a b c f = refl
lent_in_order false true b c f = refl
lent_in_order false false true c f = refl
lent_in_order false false false true f = refl
lent_in_order false false false false f = refl

-- an output that the connection's rows let through or refuse, and then the request's
abbrev written : Conn → ℕ → ℕ → ℕ → List ℕ → List ℕ → Request → C.Written
written c i k q bytes buffer after = if k =? 0 then C.written_by c i (Of.writes q bytes after (request_at c.table i) buffer) else C.unwritten k c buffer

-- Refused first by the same rows, it is the same.
output_same : (c : Conn) (i k q n : ℕ) (bytes buffer : List ℕ) (after : Request) → n ≡ first k q
    → (if n =? 0 then written c i k q bytes buffer after else C.unwritten n c buffer) ≡ written c i k q bytes buffer after
unfolding Of.writes
output_same c i k q n bytes buffer after e =
    by_test (k =? 0)
    (λ t. by_test (q =? 0) (λ u. rw (e, t) (rw u)) (λ u. rw (e, t) (rw (u, put_same c.table i))))
    (λ t. rw (e, t) (rw t))

-- finish, likewise
abbrev finished : Conn → List ℕ → ℕ → ℕ → ℕ → List ℕ → List ℕ → Request → C.Finished
finished c store i k q bytes buffer r = if k =? 0 then C.finishes c store i r.state.keep (Of.writes q bytes r r buffer) else C.unfinished k c store buffer

-- Refused first by the same rows, it is the same.
finished_same : (c : Conn) (store : List ℕ) (i k q n : ℕ) (bytes buffer : List ℕ) (r : Request) → n ≡ first k q
    → (if n =? 0 then finished c store i k q bytes buffer r else C.unfinished n c store buffer) ≡ finished c store i k q bytes buffer r
unfolding Of.writes C.finishes
finished_same c store i k q n bytes buffer r e =
    by_test (k =? 0)
    (λ t. by_test (q =? 0) (λ u. rw (e, t) (rw u)) (λ u. rw (e, t) (rw u (rw u))))
    (λ t. rw (e, t) (rw t))

-- ---- never refused by 10
-- rows among which 10 does not hold
not_ten : (rows : List Row) → holds_in 10 rows ≡ false → (refusal rows =? 10) ≡ false
not_ten rows h = ne_eqb (refusal rows) 10 (λ e. both_ways (holds_in 10 rows) (refused_by_lem rows 9 e) h)

-- an output, and a finish, by the two refusals that it comes from
output_ten : (c : Conn) (i k q : ℕ) (bytes buffer : List ℕ) (after : Request) → (k =? 10) ≡ false → (q =? 10) ≡ false → ((written c i k q bytes buffer after).refusal =? 10) ≡ false
unfolding Of.writes
output_ten c i k q bytes buffer after a b = by_test (k =? 0) (λ t. rw t (by_test (q =? 0) (λ u. rw u) (λ u. rw u b))) (λ t. rw t a)

finished_ten : (c : Conn) (store : List ℕ) (i k q : ℕ) (bytes buffer : List ℕ) (r : Request) → (k =? 10) ≡ false → (q =? 10) ≡ false → ((finished c store i k q bytes buffer r).refusal =? 10) ≡ false
unfolding Of.writes C.finishes
finished_ten c store i k q bytes buffer r a b =
    by_test (k =? 0) (λ t. rw t (by_test (q =? 0) (λ u. rw u (by_test r.state.keep (λ v. rw v) (λ v. rw v))) (λ u. rw u (rw u b)))) (λ t. rw t a)

-- the rows of the connection, and those of the request
call_ten : (c : Conn) (id : ℕ) → (C.call_refusal c id =? 10) ≡ false
unfolding C.call_refusal
call_ten c id = not_ten ((9 when not (in_shape c)) ∷ (1 when not c.«open») ∷ (3 when not (is_found (find c.table id))) ∷ []) refl

lent_ten : (c : Conn) (store : List ℕ) (id : ℕ) → (C.lent_refusal c store id =? 10) ≡ false
unfolding C.lent_refusal
lent_ten c store id = not_ten ((2 when not (length store =? STORE)) ∷ (9 when not (in_shape c)) ∷ (1 when not c.«open») ∷ (3 when not (is_found (find c.table id))) ∷ []) refl

own_ten : (r : Request) (o : Output) (bytes buffer : List ℕ) → (Of.output_refusal r o bytes buffer =? 10) ≡ false
own_ten r o bytes buffer = not_ten ((4 when Of.no_output r) ∷ (5 when Of.is_ended o r.state) ∷ (6 when (length buffer <? length bytes)) ∷ []) refl

-- A call without a queue is never refused by 10.
pub never_ten : (m : Memory) (id : ℕ) (a : Argument) → is_ten (Straightly (called m id a).answer) ≡ false
unfolding called C.say C.end_stream C.finish Of.say_in Of.end_in Of.finish_in
never_ten m id (ForRead q) = refl
never_ten m id (ForSay o content buffer) =
    let c = m.state.conn in
    let r = request_at c.table (C.slot_of c id) in
    let bytes = Of.say_bytes r o content in
    output_ten c (C.slot_of c id) (C.call_refusal c id) (Of.output_refusal r o bytes buffer) bytes buffer (Of.said_on r o content) (call_ten c id) (own_ten r o bytes buffer)
never_ten m id (ForEnd o buffer) =
    let c = m.state.conn in
    let r = request_at c.table (C.slot_of c id) in
    let bytes = Of.end_bytes r o in
    output_ten c (C.slot_of c id) (C.call_refusal c id) (Of.output_refusal r o bytes buffer) bytes buffer (Of.ended_on r o) (call_ten c id) (own_ten r o bytes buffer)
never_ten m id (ForFinish status buffer) =
    let c = m.state.conn in
    let r = request_at c.table (C.slot_of c id) in
    let bytes = Of.finish_bytes r status in
    let rows = (6 when (length buffer <? length bytes)) ∷ [] in
    finished_ten c m.store (C.slot_of c id) (C.lent_refusal c m.store id) (refusal rows) bytes buffer r (lent_ten c m.store id) (not_ten rows refl)

-- ---- one operation, from any state and store
module _ (marks queue : List ℕ) (m : Memory) where
  abbrev still : QueueMemory
  still = idle marks queue m

  abbrev conn : Conn
  conn = m.state.conn

  -- what waits is in shape: nothing, in any slot
  slot_fits : (occupied i : ℕ) → wait_fits nobody_waits occupied i ≡ true
  unfolding wait_fits wait_at anything
  slot_fits occupied i =
      let a = nobody_at still i refl in
      by_test (taken i occupied) (λ t. rw (nobody_count i, t)) (λ t. rw (a, nobody_count i, t))

  none_fits : (n occupied i : ℕ) → waits_fit n nobody_waits occupied i ≡ true
  unfolding waits_fit
  none_fits zero occupied i = refl
  none_fits (suc n) occupied i = rw (slot_fits occupied i) (none_fits n occupied (i + 1))

  -- So all is in shape where the connection is.
  pub idle_shape : queue_in_shape still ≡ in_shape conn
  unfolding queue_in_shape
  idle_shape = and_true (in_shape conn) (waits_fit SLOTS nobody_waits conn.table.occupied 0) (none_fits SLOTS conn.table.occupied 0)

  -- ---- a step
  step_rows_lem : queue_step_refusal still ≡ step_refusal conn m.store
  unfolding queue_step_refusal step_refusal
  step_rows_lem = rw idle_shape

  -- A step is the step without a queue.
  pub step_same : (piece : List ℕ) → queue_step still piece ≡ step_of m piece
  unfolding queue_step stepped
  step_same piece = rw step_rows_lem (by_test (step_refusal conn m.store =? 0) (λ t. rw t) (λ t. rw t))

  -- ---- calls that read
  lent_rows_lem : (id : ℕ) → T.lent_refusal still id ≡ C.lent_refusal conn m.store id
  unfolding T.lent_refusal C.lent_refusal
  lent_rows_lem id = rw idle_shape

  reply_same : (id : ℕ) (q : Question) → queue_reply still id q ≡ replied_to conn m.store id q
  reply_same id q =
      rw (queue_replied_or_refused still id q, lent_rows_lem id, replied_or_refused conn m.store id q)
      (by_test (C.lent_refusal conn m.store id =? 0) (λ t. rw t) (λ t. rw t))

  -- The active number is that without a queue.
  pub count_same : queue_count still ≡ C.active_count conn
  unfolding queue_count C.active_count C.count_refusal
  count_same = rw idle_shape (by_test (refusal ((9 when not (in_shape conn)) ∷ (1 when not conn.«open») ∷ []) =? 0) (λ t. rw t) (λ t. rw t))

  -- ---- calls that write
  -- the rows of an output: those of the connection, then those of the request; nothing waits, so 10 is for nobody
  output_rows_lem : (id : ℕ) (o : Output) (bytes buffer : List ℕ)
      → refusal (T.rows_of still id (T.stream_rows still id o ((6 when (length buffer <? length bytes)) ∷ (10 when anything (wait_at still (T.slot_of still id))) ∷ [])))
      ≡ first (C.call_refusal conn id) (Of.output_refusal (T.request_of still id) o bytes buffer)
  unfolding C.call_refusal
  output_rows_lem id o bytes buffer = rw (idle_shape, none_leaving (T.slot_of still id), nobody_at still (T.slot_of still id) refl)
      (in_order (not (in_shape conn)) (not conn.«open») (not (is_found (find conn.table id))) (Of.no_output (T.request_of still id)) (Of.is_ended o (T.request_of still id).state) (length buffer <? length bytes))

  -- the rows of a finish
  finish_rows_lem : (id status : ℕ) (buffer : List ℕ)
      → refusal ((2 when not (length m.store =? STORE)) ∷ T.rows_of still id ((5 when T.is_leaving still id) ∷ (6 when (length buffer <? length (Of.finish_bytes (T.request_of still id) status))) ∷ (10 when anything (wait_at still (T.slot_of still id))) ∷ []))
      ≡ first (C.lent_refusal conn m.store id) (refusal ((6 when (length buffer <? length (Of.finish_bytes (T.request_of still id) status))) ∷ []))
  unfolding C.lent_refusal
  finish_rows_lem id status buffer = rw (idle_shape, none_leaving (T.slot_of still id), nobody_at still (T.slot_of still id) refl)
      (lent_in_order (not (length m.store =? STORE)) (not (in_shape conn)) (not conn.«open») (not (is_found (find conn.table id))) (length buffer <? length (Of.finish_bytes (T.request_of still id) status)))

  say_same : (id : ℕ) (o : Output) (content buffer : List ℕ) → T.straight_say still id o content buffer ≡ C.say conn id o content buffer
  unfolding T.straight_say C.say Of.say_in
  say_same id o content buffer =
      let r = T.request_of still id in
      let bytes = Of.say_bytes r o content in
      output_same conn (T.slot_of still id) (C.call_refusal conn id) (Of.output_refusal r o bytes buffer) _ bytes buffer (Of.said_on r o content) (output_rows_lem id o bytes buffer)

  end_same : (id : ℕ) (o : Output) (buffer : List ℕ) → T.straight_end still id o buffer ≡ C.end_stream conn id o buffer
  unfolding T.straight_end C.end_stream Of.end_in
  end_same id o buffer =
      let r = T.request_of still id in
      let bytes = Of.end_bytes r o in
      output_same conn (T.slot_of still id) (C.call_refusal conn id) (Of.output_refusal r o bytes buffer) _ bytes buffer (Of.ended_on r o) (output_rows_lem id o bytes buffer)

  finish_same : (id status : ℕ) (buffer : List ℕ) → T.straight_finish still id status buffer ≡ C.finish conn m.store id status buffer
  unfolding T.straight_finish C.finish Of.finish_in
  finish_same id status buffer =
      let r = T.request_of still id in
      let bytes = Of.finish_bytes r status in
      finished_same conn m.store (T.slot_of still id) (C.lent_refusal conn m.store id) (refusal ((6 when (length buffer <? length bytes)) ∷ [])) _ bytes buffer r (finish_rows_lem id status buffer)

  -- with another state and store nothing waits still
  with_idle : (n : Memory) → with_memory still n ≡ idle marks queue n
  with_idle n = ap (λ w. beside n w marks queue) (kept_either (λ w. w ≡ nobody_waits) conn.«open» n.state.conn.«open» nobody_waits refl refl)

  back : (r : Base.CallResult) → record { left = with_memory still r.memory; answer = Straightly r.answer } ≡ called_idle marks queue r
  back r = ap (λ l. record { left = l; answer = Straightly r.answer }) (with_idle r.memory)

  -- A straight call is the call without a queue: it leaves the same, answers the same, and nothing waits behind it.
  pub call_same : (id : ℕ) (a : Argument) → queue_called still id (Straight a) ≡ called_idle marks queue (called m id a)
  unfolding queue_called called
  call_same id (ForRead q) = rw (reply_same id q)
  call_same id (ForSay o content buffer) = rw (say_same id o content buffer) (back (called m id (ForSay o content buffer)))
  call_same id (ForEnd o buffer) = rw (end_same id o buffer) (back (called m id (ForEnd o buffer)))
  call_same id (ForFinish status buffer) = rw (finish_same id status buffer) (back (called m id (ForFinish status buffer)))

  -- Each operation leaves the same as without a queue, and nothing waits behind it.
  pub after_same : (o : Operation) → queue_after still (plainly o) ≡ idle marks queue (memory_after m o)
  unfolding queue_after memory_after
  after_same (Base.StepOver piece) = rw (step_same piece) (with_idle (Base.memory_of (step_of m piece)))
  after_same (Base.CallFor id a) = ap (λ (r : QueueResult). r.left) (call_same id a)
  after_same Base.CountActive = refl

-- ---- the same of every memory in which nothing waits
module _ (m : QueueMemory) (e : m.waits ≡ nobody_waits) where
  -- It is its state and store, with a queue beside them in which nothing waits.
  pub is_idle_lem : m ≡ idle m.marks m.queue m.memory
  is_idle_lem = ap (λ w. beside m.memory w m.marks m.queue) e

  -- A step leaves and answers the same as without a queue.
  pub unqueued_step : (piece : List ℕ) → queue_step m piece ≡ step_of m.memory piece
  unqueued_step piece = ap (λ n. queue_step n piece) is_idle_lem ∙ step_same m.marks m.queue m.memory piece

  -- So does a straight call,
  pub unqueued_call : (id : ℕ) (a : Argument) → queue_called m id (Straight a) ≡ called_idle m.marks m.queue (called m.memory id a)
  unqueued_call id a = ap (λ n. queue_called n id (Straight a)) is_idle_lem ∙ call_same m.marks m.queue m.memory id a

  -- and the active number.
  pub unqueued_count : queue_count m ≡ C.active_count (conn_of m)
  unqueued_count = ap queue_count is_idle_lem ∙ count_same m.marks m.queue m.memory

  -- Each leaves the state and store that it leaves without a queue, and nothing waits still.
  pub unqueued_after : (o : Operation) → queue_after m (plainly o) ≡ idle m.marks m.queue (memory_after m.memory o)
  unqueued_after o = ap (λ n. queue_after n (plainly o)) is_idle_lem ∙ after_same m.marks m.queue m.memory o
