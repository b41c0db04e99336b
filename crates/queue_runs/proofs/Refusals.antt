-- No refusal by 2 or 9: in any memory that is in shape, with store and queue of their sizes.
--
-- Whatever is asked of such a memory, no step, no call, straight or queued, and no turn of the pump is refused by 2 (a
-- size is wrong) or by 9 (the state or what waits is not in shape). Every memory of a run is such a memory.
use Rattle.std.specs.Prelude.{◌≡◌, List, [], ◌∷◌, Bool, true, false, ℕ, ◌*◌, length, eqb, if◌then◌else◌, Some, None, Option}
use Rattle.std.proofs.Math.Path.{refl}
use Rattle.std.proofs.Math.Bool.{not}
use Rattle.std.proofs.Common.{arith, eq-eqb}
use Rattle.wire.specs.Test.{by_test, ◌<?◌, ◌=?◌}
use Rattle.connection.specs.declared.request.Request.{Request}
use Rattle.connection.specs.declared.state.Conn.{Conn}
use Rattle.connection.specs.declared.answer.Output.{Output}
use Rattle.connection.specs.Sizes.{STORE}
use Rattle.connection.specs.Shape.{in_shape}
use Rattle.connection.specs.Refusal.{Row, ◌when◌, holds_in, refusal}
use Rattle.connection.specs.RequestCalls as Of
use Rattle.connection.specs.Slots.{request_at, held_at, area_at, put_area, find, is_found}
use Rattle.connection.specs.Step.{closed_conn}
use Rattle.wire.specs.Buffer.{zeros}
use Rattle.pair_list.specs.List as P
use Rattle.pair_list.specs.List.{first_named}
use Rattle.connection.specs.Calls as C
use Rattle.connection.specs.Arguments.{Question, ValueOf, SourceOf, PairOf, WalkOf, Reply, ValueIs, SourceIs, PairAnswer, WalkIs, refused_reply, ForRead, ForSay, ForEnd, ForFinish, RepliedWith, Wrote, FinishedWith}
use Rattle.connection.specs.Request.{Held, list_of}
use Rattle.connection.proofs.Laws.RefusalRows.{source_number, pair_refusal}
use Rattle.connection.specs.Runs.Receiver.{reply_in}
use Rattle.connection.proofs.Runs.LinkingCalls.{replied_or_refused}
use Rattle.queue.specs.Calls as T
use Rattle.queue.specs.Calls.{QUEUE, PUMPED, QueueMemory, conn_of, queue_in_shape, rows_of, queue_step_refusal, say_refusal, lent_refusal, queue_count, straight_say, straight_end, straight_finish, pump_refusal, or}
use Rattle.queue.specs.Run as D
use Rattle.queue.specs.Run.{Asking, queue_reply, queue_called}
use Rattle.queue.proofs.ReplyLaws.{queue_replied_or_refused}
use Rattle.queue_runs.proofs.Rows.{refused_by_lem}
use Rattle.queue_runs.proofs.Changes.{step_rows, straight_rows, queued_rows}
use Rattle.pairs.specs.declared.pair.Pair.{Pair}

-- The state and what waits are in shape, and store and queue have their sizes.
pub record Sound (m : QueueMemory) : Type 0 where
  pub shape : queue_in_shape m ≡ true
  pub full : length m.memory.store ≡ STORE
  pub queue : length m.queue ≡ QUEUE

-- neither 2 nor 9
abbrev pub Allowed : ℕ → Type 0
Allowed n = (n ≡ 2 → ⊥) × (n ≡ 9 → ⊥)

-- the number of the refusal in what a call that only reads answers, 0 for none
abbrev pub reply_number : Reply → ℕ
reply_number (ValueIs v) = 0
reply_number (SourceIs v) = source_number v
reply_number (PairAnswer v) = pair_refusal v
reply_number (WalkIs v) = v.refusal

-- the number of the refusal in an answer
abbrev pub number_in : D.Answering → ℕ
number_in (D.Straightly (RepliedWith r)) = reply_number r
number_in (D.Straightly (Wrote n written buffer)) = n
number_in (D.Straightly (FinishedWith n written closed buffer)) = n
number_in (D.Queued n) = n

-- What may be refused, and by what not.
pub record NeverOut (m : QueueMemory) : Type 0 where
  pub step : Allowed (queue_step_refusal m)
  pub call : (id : ℕ) (a : Asking) → Allowed (number_in (queue_called m id a).answer)
  pub count : Allowed (queue_count m).refusal
  pub pump : (allowance : ℕ) (buffer : List ℕ) → Allowed (pump_refusal m allowance buffer)

differ : (b : Bool) → b ≡ true → b ≡ false → ⊥
differ b t f = let z : ◌≡◌ {A = ℕ} 0 1 = cc in omega arith

rows_allowed : (rows : List Row) → holds_in 2 rows ≡ false → holds_in 9 rows ≡ false → Allowed (refusal rows)
rows_allowed rows a b = (λ e. differ (holds_in 2 rows) (refused_by_lem rows 1 e) a, λ e. differ (holds_in 9 rows) (refused_by_lem rows 8 e) b)

zero_allowed : Allowed 0
zero_allowed = (λ e. omega arith, λ e. omega arith)

-- a call of one request
writes_allowed : (n : ℕ) (bytes : List ℕ) (after r : Request) (buffer : List ℕ) → Allowed n → Allowed (Of.writes n bytes after r buffer).refusal
unfolding Of.writes
writes_allowed n bytes after r buffer a = by_test (n =? 0) (λ t. rw t zero_allowed) (λ t. rw t a)

say_one : (r : Request) (o : Output) (content buffer : List ℕ) → Allowed (Of.say_in r o content buffer).refusal
unfolding Of.say_in
say_one r o content buffer =
    let bytes = Of.say_bytes r o content in
    writes_allowed (Of.output_refusal r o bytes buffer) bytes (Of.said_on r o content) r buffer
    (rows_allowed ((4 when Of.no_output r) ∷ (5 when Of.is_ended o r.state) ∷ (6 when (length buffer <? length bytes)) ∷ []) refl refl)

end_one : (r : Request) (o : Output) (buffer : List ℕ) → Allowed (Of.end_in r o buffer).refusal
unfolding Of.end_in
end_one r o buffer =
    let bytes = Of.end_bytes r o in
    writes_allowed (Of.output_refusal r o bytes buffer) bytes (Of.ended_on r o) r buffer
    (rows_allowed ((4 when Of.no_output r) ∷ (5 when Of.is_ended o r.state) ∷ (6 when (length buffer <? length bytes)) ∷ []) refl refl)

finish_one : (r : Request) (status : ℕ) (buffer : List ℕ) → Allowed (Of.finish_in r status buffer).refusal
unfolding Of.finish_in
finish_one r status buffer =
    let rows = (6 when (length buffer <? length (Of.finish_bytes r status))) ∷ [] in
    writes_allowed (refusal rows) (Of.finish_bytes r status) r r buffer (rows_allowed rows refl refl)

finishes_allowed : (c : Conn) (store : List ℕ) (i : ℕ) (keep : Bool) (w : Of.Writing) → Allowed w.refusal → Allowed (C.finishes c store i keep w).refusal
unfolding C.finishes
finishes_allowed c store i keep w a = by_test (w.refusal =? 0) (λ t. rw t (go keep)) (λ t. rw t a)
  where
    kept : C.Finished
    kept = record { refusal = 0; written = w.written; closed = false; conn = C.released c i; store = put_area store i (zeros (length (area_at store i))); buffer = w.buffer }

    shut : C.Finished
    shut = record { refusal = 0; written = w.written; closed = true; conn = closed_conn; store = zeros (length store); buffer = w.buffer }

    go : (k : Bool) → Allowed (if k then kept else shut).refusal
    go true = zero_allowed
    go false = zero_allowed

four_allowed : Allowed 4
four_allowed = (λ e. omega arith, λ e. omega arith)

source_one : (h : Held) (name : List ℕ) → Allowed (source_number (Of.source_in h name))
unfolding Of.source_in
source_one h name = by_test (Of.no_list h.request) (λ t. rw t four_allowed) (λ t. rw t (go (first_named (list_of h) name)))
  where
    go : (f : Option Pair) → Allowed (source_number (Of.on_found f (λ p. Of.FromStore) Of.FromFallback))
    go (Some p) = zero_allowed
    go None = zero_allowed

pair_one : (h : Held) (k : ℕ) → Allowed (pair_refusal (Of.pair_in h k))
unfolding Of.pair_in
pair_one h k = by_test (Of.no_list h.request) (λ t. rw t four_allowed) (λ t. rw t (go (P.pair_number (list_of h) k)))
  where
    go : (f : Option Pair) → Allowed (pair_refusal (Of.on_found f Of.PairIs (Of.PairRefused 7)))
    go (Some p) = zero_allowed
    go None = (λ e. omega arith, λ e. omega arith)

walk_one : (h : Held) → Allowed (Of.walk_in h).refusal
unfolding Of.walk_in
walk_one h = by_test (Of.no_list h.request) (λ t. rw t four_allowed) (λ t. rw t zero_allowed)

-- any call that only reads, as its request answers it
reply_one : (h : Held) (q : Question) → Allowed (reply_number (reply_in h q))
reply_one h (ValueOf name fallback) = zero_allowed
reply_one h (SourceOf name) = source_one h name
reply_one h (PairOf k) = pair_one h k
reply_one h WalkOf = walk_one h

-- and as it is refused by n
refused_one : (n : ℕ) (q : Question) → Allowed n → Allowed (reply_number (refused_reply n q))
refused_one n (ValueOf name fallback) a = zero_allowed
refused_one n (SourceOf name) a = a
refused_one n (PairOf k) a = a
refused_one n WalkOf a = a

-- by the state's shape alone
shape_of_lem : (m : QueueMemory) → queue_in_shape m ≡ true → in_shape (conn_of m) ≡ true
unfolding queue_in_shape
shape_of_lem m h = by_test (in_shape (conn_of m)) (λ e. e) (λ e. let z : ◌≡◌ {A = ℕ} 0 1 = cc (simp e at h) in absurd (omega arith))

module _ (m : QueueMemory) (s : Sound m) where
  store_size : eqb (length m.memory.store) STORE ≡ true
  store_size = eq-eqb (length m.memory.store) STORE s.full

  queue_size : eqb (length m.queue) QUEUE ≡ true
  queue_size = eq-eqb (length m.queue) QUEUE s.queue

  conn_shape : in_shape (conn_of m) ≡ true
  conn_shape = shape_of_lem m s.shape

  -- the calls without a queue
  call_allowed : (id : ℕ) → Allowed (C.call_refusal (conn_of m) id)
  unfolding C.call_refusal
  call_allowed id = rows_allowed ((9 when not (in_shape (conn_of m))) ∷ (1 when not (conn_of m).«open») ∷ (3 when not (is_found (find (conn_of m).table id))) ∷ []) refl (rw conn_shape)

  base_allowed : (id : ℕ) → Allowed (C.lent_refusal (conn_of m) m.memory.store id)
  unfolding C.lent_refusal
  base_allowed id =
      rows_allowed
      ((2 when not (length m.memory.store =? STORE)) ∷ (9 when not (in_shape (conn_of m))) ∷ (1 when not (conn_of m).«open») ∷ (3 when not (is_found (find (conn_of m).table id))) ∷ [])
      (rw store_size) (rw conn_shape)

  say_allowed : (id : ℕ) (o : Output) (content buffer : List ℕ) → Allowed (C.say (conn_of m) id o content buffer).refusal
  unfolding C.say
  say_allowed id o content buffer =
      by_test (eqb (C.call_refusal (conn_of m) id) 0) (λ t. rw t (say_one (request_at (conn_of m).table (C.slot_of (conn_of m) id)) o content buffer)) (λ t. rw t (call_allowed id))

  end_allowed : (id : ℕ) (o : Output) (buffer : List ℕ) → Allowed (C.end_stream (conn_of m) id o buffer).refusal
  unfolding C.end_stream
  end_allowed id o buffer =
      by_test (eqb (C.call_refusal (conn_of m) id) 0) (λ t. rw t (end_one (request_at (conn_of m).table (C.slot_of (conn_of m) id)) o buffer)) (λ t. rw t (call_allowed id))

  finish_allowed : (id status : ℕ) (buffer : List ℕ) → Allowed (C.finish (conn_of m) m.memory.store id status buffer).refusal
  unfolding C.finish
  finish_allowed id status buffer =
      let r = request_at (conn_of m).table (C.slot_of (conn_of m) id) in
      by_test (eqb (C.lent_refusal (conn_of m) m.memory.store id) 0)
      (λ t. rw t (finishes_allowed (conn_of m) m.memory.store (C.slot_of (conn_of m) id) r.state.keep (Of.finish_in r status buffer) (finish_one r status buffer))) (λ t. rw t (base_allowed id))

  -- ---- the calls with a queue
  lent_allowed : (id : ℕ) → Allowed (lent_refusal m id)
  unfolding lent_refusal
  lent_allowed id = rows_allowed ((2 when not (length m.memory.store =? STORE)) ∷ rows_of m id []) (rw store_size) (rw s.shape)

  -- calls that read
  reply_allowed : (id : ℕ) (q : Question) → Allowed (reply_number (queue_reply m id q))
  reply_allowed id q =
      let n = C.lent_refusal (conn_of m) m.memory.store id in
      rw (queue_replied_or_refused m id q, replied_or_refused (conn_of m) m.memory.store id q)
      (by_test (eqb (lent_refusal m id) 0)
      (λ t. by_test (eqb n 0) (λ u. rw (t, u) (reply_one (held_at (conn_of m).table m.memory.store (C.slot_of (conn_of m) id)) q)) (λ u. rw (t, u) (refused_one n q (base_allowed id))))
      (λ t. rw t (refused_one (lent_refusal m id) q (lent_allowed id))))

  answer_allowed : (id : ℕ) (a : Asking) → Allowed (number_in (queue_called m id a).answer)
  unfolding queue_called straight_say straight_end straight_finish T.queue_say T.queue_end T.queue_finish say_refusal
  answer_allowed id (D.Straight (ForRead q)) = reply_allowed id q
  answer_allowed id (D.Straight (ForSay o content buffer)) =
      let rows = straight_rows m id (ForSay o content buffer) in
      by_test (eqb (refusal rows) 0) (λ t. rw t (say_allowed id o content buffer)) (λ t. rw t (rows_allowed rows refl (rw s.shape)))
  answer_allowed id (D.Straight (ForEnd o buffer)) =
      let rows = straight_rows m id (ForEnd o buffer) in
      by_test (eqb (refusal rows) 0) (λ t. rw t (end_allowed id o buffer)) (λ t. rw t (rows_allowed rows refl (rw s.shape)))
  answer_allowed id (D.Straight (ForFinish status buffer)) =
      let rows = straight_rows m id (ForFinish status buffer) in
      by_test (eqb (refusal rows) 0) (λ t. rw t (finish_allowed id status buffer)) (λ t. rw t (rows_allowed rows (rw store_size) (rw s.shape)))
  answer_allowed id (D.ToSay o content) =
      by_test (eqb (say_refusal m id o content) 0) (λ t. rw t zero_allowed) (λ t. rw t (rows_allowed (queued_rows m id (D.ToSay o content)) (rw queue_size) (rw s.shape)))
  answer_allowed id (D.ToEnd o) =
      by_test (eqb (refusal (queued_rows m id (D.ToEnd o))) 0) (λ t. rw t zero_allowed) (λ t. rw t (rows_allowed (queued_rows m id (D.ToEnd o)) refl (rw s.shape)))
  answer_allowed id (D.ToFinish status) =
      by_test (eqb (refusal (queued_rows m id (D.ToFinish status))) 0) (λ t. rw t zero_allowed) (λ t. rw t (rows_allowed (queued_rows m id (D.ToFinish status)) refl (rw s.shape)))

  abbrev count_rows : List Row
  count_rows = (9 when not (queue_in_shape m)) ∷ (1 when not (conn_of m).«open») ∷ []

  base_count : Allowed (C.active_count (conn_of m)).refusal
  unfolding C.active_count C.count_refusal
  base_count =
      by_test (eqb (C.count_refusal (conn_of m)) 0) (λ t. rw t zero_allowed)
      (λ t. rw t (rows_allowed ((9 when not (in_shape (conn_of m))) ∷ (1 when not (conn_of m).«open») ∷ []) refl (rw conn_shape)))

  count_allowed : Allowed (queue_count m).refusal
  unfolding queue_count
  count_allowed = by_test (eqb (refusal count_rows) 0) (λ t. rw t base_count) (λ t. rw t (rows_allowed count_rows refl (rw s.shape)))

  pump_allowed : (allowance : ℕ) (buffer : List ℕ) → Allowed (pump_refusal m allowance buffer)
  unfolding pump_refusal
  pump_allowed allowance buffer =
      rows_allowed
      ((2 when or (not (length m.memory.store =? STORE)) (not (length m.queue =? QUEUE)))
      ∷ (9 when not (queue_in_shape m))
      ∷ (1 when not (conn_of m).«open»)
      ∷ (6 when (length buffer <? PUMPED * allowance))
      ∷ [])
      (rw (store_size, queue_size)) (rw s.shape)

  step_allowed : Allowed (queue_step_refusal m)
  unfolding queue_step_refusal
  step_allowed = rows_allowed (step_rows m) (rw store_size) (rw s.shape)

  -- Nothing is refused by 2 or 9.
  pub never_out : NeverOut m
  never_out = record { step = step_allowed; call = answer_allowed; count = count_allowed; pump = pump_allowed }
