-- What calls with a queue leave of a fact of R's request: a fact that is read of the request alone, and that no
-- output of the request changes, as its counts, or its life.
--
-- A straight say or end, and a queued one, change the output marks of their request alone. So the fact stays, or R
-- goes by a straight finish. A queued finish spends its request: the fact stays if that does not change it.
use Rattle.connection.specs.Slots.{Slot}
use Rattle.std.specs.Prelude.{◌≡◌, List, Bool, true, false, ℕ, eqb, if◌then◌else◌, Some, None}
use Rattle.std.proofs.Math.Path.{refl}
use Rattle.std.proofs.Common.{ap, ap₂, sym, ◌∙◌, subst, eqb-true}
use Rattle.std.proofs.Math.Option.{Option, none, some}
use Rattle.std.proofs.lemmas.Bool.{eqb-false}
use Rattle.wire.specs.Test.{by_test}
use Rattle.connection.specs.declared.request.Request.{Request}
use Rattle.connection.specs.declared.state.Table.{Table}
use Rattle.connection.specs.declared.state.Conn.{Conn}
use Rattle.connection.specs.declared.answer.Output.{Output}
use Rattle.connection.specs.Request.{Held}
use Rattle.connection.specs.RequestCalls as Of
use Rattle.connection.specs.Refusal.{refusal}
use Rattle.connection.specs.Slots.{request_at, held_at, put_request, find, on_slot}
use Rattle.connection.specs.Calls as C
use Rattle.connection.specs.Arguments.{Argument, ForRead, ForSay, ForEnd, ForFinish}
use Rattle.connection.specs.Run.{Memory, request_of, finished_by}
use Rattle.connection.proofs.Laws.SlotsLaws.{Sized, request_of_put, request_of_other, find_put, find_at}
use Rattle.connection.proofs.Runs.CallShape.{with_request}
use Rattle.connection.proofs.Runs.Freed.{finish_refused}
use Rattle.queue_slot.specs.Finishing.{spent_by}
use Rattle.queue.specs.Calls as T
use Rattle.queue.specs.Calls.{QueueMemory, conn_of, put_wait, say_refusal, or, straight_say, straight_end, straight_finish, pump}
use Rattle.queue.specs.Run as D
use Rattle.queue.specs.Run.{Asking, queue_called}
use Rattle.queue_link.proofs.LinkedFinish.{skipped, spent_list}
use Rattle.queue_link.proofs.LinkedRuns.{Fine}
use Rattle.queue_runs.proofs.Changes.{straight_rows, queued_rows}
use Rattle.queue_kept.specs.Going.{goes_by, goes_in}
use Rattle.queue_kept.proofs.GoingLaws.{finish_request, turn_request}

-- a fact of the request that was found, if any
abbrev pub fact_of : {A : Type 0} → (Request → A) → Option Held → Option A
fact_of f none = none
fact_of f (some h) = some (f h.request)

-- a fact of a request that goes, or stays
goes_fact : {A : Type 0} (f : Request → A) (b : Bool) (h : Option Held) → fact_of f (if b then none else h) ≡ (if b then none else fact_of f h)
goes_fact f true h = refl
goes_fact f false h = refl

-- what a request says keeps its id
said_id : (r : Request) (o : Output) (content : List ℕ) → (Of.said_on r o content).id ≡ r.id
unfolding Of.said_on
said_id r o content = refl

-- so does an end
ended_id : (r : Request) (o : Output) → (Of.ended_on r o).id ≡ r.id
unfolding Of.ended_on
ended_id r o = refl

module _ {A : Type 0} (f : Request → A) (R : ℕ) where
  -- A request put back with its id changes the fact of R's only where it is R's and changes it there.
  put_fact : (m : Memory) (i : ℕ) (r : Request) → Sized m.state.conn.table → r.id ≡ (request_at m.state.conn.table i).id
      → (m.state.conn.«open» ≡ true → find m.state.conn.table R ≡ Some i → f r ≡ f (request_at m.state.conn.table i))
      → fact_of f (request_of R (with_request m i r)) ≡ fact_of f (request_of R m)
  unfolding request_of
  put_fact m i r sized id same = by_test m.state.conn.«open» (λ o. rw (o, find_put t i r R id) (go o (find t R) refl)) (λ o. rw o)
    where
      t : Table
      t = m.state.conn.table

      here : m.state.conn.«open» ≡ true → (j : ℕ) → find t R ≡ Some j → f (request_at (put_request t i r) j) ≡ f (request_at t j)
      here o j e =
          by_test (eqb j i)
          (λ k.
          let q : j ≡ i = eqb-true j i k in
          subst (λ n. f (request_at (put_request t n r) j) ≡ f (request_at t j)) q
          (ap f (request_of_put t j r sized (find_at t R j e).low) ∙ same o (e ∙ ap (λ n. Some n) q) ∙ ap (λ n. f (request_at t n)) (sym q)))
          (λ k. ap f (request_of_other t i j r (eqb-false j i k)))

      go : m.state.conn.«open» ≡ true → (s : Slot) → find t R ≡ s
          → fact_of f (on_slot s (λ j. some (held_at (put_request t i r) m.store j)) none) ≡ fact_of f (on_slot s (λ j. some (held_at t m.store j)) none)
      go o None e = refl
      go o (Some j) e = ap some (here o j e)

  -- nor does a skipped rest of a record
  skip_fact : (m : Memory) (i : ℕ) → fact_of f (request_of R (skipped m i)) ≡ fact_of f (request_of R m)
  unfolding request_of
  skip_fact m i = refl

  -- R's request is the one in its slot
  found_at : (m : Memory) (i : ℕ) → m.state.conn.«open» ≡ true → find m.state.conn.table R ≡ Some i → request_of R m ≡ some (held_at m.state.conn.table m.store i)
  unfolding request_of
  found_at m i o e = rw (o, e)

  -- A turn leaves the fact, or R goes.
  pub turn_fact : (m : QueueMemory) (allowance : ℕ) (buffer : List ℕ) → Fine m
      → fact_of f (request_of R (pump m allowance buffer).left.memory) ≡ (if goes_in R (pump m allowance buffer) then none else fact_of f (request_of R m.memory))
  turn_fact m allowance buffer fine = ap (fact_of f) (turn_request R m allowance buffer fine) ∙ goes_fact f (goes_in R (pump m allowance buffer)) (request_of R m.memory)

  module _ (said : (r : Request) (o : Output) (content : List ℕ) → f (Of.said_on r o content) ≡ f r) (ended : (r : Request) (o : Output) → f (Of.ended_on r o) ≡ f r) where
    -- what a call that writes leaves of its request, refused or not: the id
    writes_id : (n : ℕ) (bytes : List ℕ) (after r : Request) (buffer : List ℕ) → after.id ≡ r.id → (Of.writes n bytes after r buffer).request.id ≡ r.id
    unfolding Of.writes
    writes_id n bytes after r buffer s = by_test (eqb n 0) (λ e. simp e s) (λ e. simp e)

    -- and the fact
    writes_fact : (n : ℕ) (bytes : List ℕ) (after r : Request) (buffer : List ℕ) → f after ≡ f r → f (Of.writes n bytes after r buffer).request ≡ f r
    unfolding Of.writes
    writes_fact n bytes after r buffer s = by_test (eqb n 0) (λ e. simp e s) (λ e. simp e)

    -- a straight say
    say_fact : (m : Memory) (id : ℕ) (o : Output) (content buffer : List ℕ) → Sized m.state.conn.table
        → fact_of f (request_of R (record { state = record { conn = (C.say m.state.conn id o content buffer).conn; gathered = m.state.gathered }; store = m.store })) ≡ fact_of f (request_of R m)
    unfolding C.say Of.say_in
    say_fact m id o content buffer sized =
        let c = m.state.conn in
        let r = request_at c.table (C.slot_of c id) in
        by_test (eqb (C.call_refusal c id) 0)
        (λ t. rw t (put_fact m (C.slot_of c id) (Of.say_in r o content buffer).request sized (writes_id _ _ _ r buffer (said_id r o content)) (λ u e. writes_fact _ _ _ r buffer (said r o content))))
        (λ t. rw t)

    -- a straight end
    end_fact : (m : Memory) (id : ℕ) (o : Output) (buffer : List ℕ) → Sized m.state.conn.table
        → fact_of f (request_of R (record { state = record { conn = (C.end_stream m.state.conn id o buffer).conn; gathered = m.state.gathered }; store = m.store })) ≡ fact_of f (request_of R m)
    unfolding C.end_stream Of.end_in
    end_fact m id o buffer sized =
        let c = m.state.conn in
        let r = request_at c.table (C.slot_of c id) in
        by_test (eqb (C.call_refusal c id) 0)
        (λ t. rw t (put_fact m (C.slot_of c id) (Of.end_in r o buffer).request sized (writes_id _ _ _ r buffer (ended_id r o)) (λ u e. writes_fact _ _ _ r buffer (ended r o))))
        (λ t. rw t)

    -- a straight finish
    finish_fact : (m : Memory) (id status : ℕ) (buffer : List ℕ)
        → fact_of f (request_of R (finished_by m (C.finish m.state.conn m.store id status buffer)).memory)
        ≡ (if goes_by R id (D.Straightly (finished_by m (C.finish m.state.conn m.store id status buffer)).answer) then none else fact_of f (request_of R m))
    finish_fact m id status buffer =
        let w = C.finish m.state.conn m.store id status buffer in
        by_test (eqb w.refusal 0)
        (λ t. rw t (ap (fact_of f) (finish_request R m id status buffer (eqb-true w.refusal 0 t)) ∙ goes_fact f (or w.closed (eqb id R)) (request_of R m)))
        (λ t.
        let k = finish_refused m.state.conn m.store id status buffer (eqb-false w.refusal 0 t) in
        rw t (ap₂ (λ (c : Conn) (s : List ℕ). fact_of f (request_of R (record { state = record { conn = c; gathered = m.state.gathered }; store = s }))) k.0 k.1))

    -- the fact after a call: gone if its answer tells that R goes, and else as it was
    abbrev pub Answers : QueueMemory → ℕ → Asking → Type 0
    Answers m id a = fact_of f (request_of R (queue_called m id a).left.memory) ≡ (if goes_by R id (queue_called m id a).answer then none else fact_of f (request_of R m.memory))

    -- Any straight call leaves the fact, or R goes.
    straight_fact : (m : QueueMemory) (id : ℕ) (a : Argument) → Sized (conn_of m).table → Answers m id (D.Straight a)
    unfolding queue_called straight_say straight_end straight_finish
    straight_fact m id (ForRead q) sized = refl
    straight_fact m id (ForSay o content buffer) sized =
        by_test (eqb (refusal (straight_rows m id (ForSay o content buffer))) 0) (λ t. rw t (say_fact m.memory id o content buffer sized)) (λ t. rw t)
    straight_fact m id (ForEnd o buffer) sized = by_test (eqb (refusal (straight_rows m id (ForEnd o buffer))) 0) (λ t. rw t (end_fact m.memory id o buffer sized)) (λ t. rw t)
    straight_fact m id (ForFinish status buffer) sized =
        by_test (eqb (refusal (straight_rows m id (ForFinish status buffer))) 0) (λ t. rw t (finish_fact m.memory id status buffer)) (λ t. rw (t, t))

    -- Any call leaves the fact, or R goes; if spending R's request does not change it.
    pub call_fact : (m : QueueMemory) (id : ℕ) (a : Asking) → Sized (conn_of m).table → ((h : Held) → request_of R m.memory ≡ some h → f (spent_by h.request) ≡ f h.request) → Answers m id a
    unfolding queue_called T.queue_say T.queue_end T.queue_finish say_refusal put_wait
    call_fact m id (D.Straight a) sized spent = straight_fact m id a sized
    call_fact m id (D.ToSay o content) sized spent =
        let r = T.request_of m id in
        by_test (eqb (refusal (queued_rows m id (D.ToSay o content))) 0) (λ t. rw t (put_fact m.memory (T.slot_of m id) (Of.said_on r o content) sized (said_id r o content) (λ u e. said r o content))) (λ t. rw t)
    call_fact m id (D.ToEnd o) sized spent =
        let r = T.request_of m id in
        by_test (eqb (refusal (queued_rows m id (D.ToEnd o))) 0) (λ t. rw t (put_fact m.memory (T.slot_of m id) (Of.ended_on r o) sized (ended_id r o) (λ u e. ended r o))) (λ t. rw t)
    call_fact m id (D.ToFinish status) sized spent =
        let i = T.slot_of m id in
        by_test (eqb (refusal (queued_rows m id (D.ToFinish status))) 0)
        (λ t. rw t (put_fact (skipped m.memory i) i (spent_by (T.request_of m id)) sized (spent_list (T.request_of m id)).id (λ u e. spent (held_at (conn_of m).table m.memory.store i) (found_at m.memory i u e))
        ∙ skip_fact m.memory i))
        (λ t. rw t)
