-- Of a queued call nothing is written, and the two ends agree as before: what comes to wait goes behind what waits.
use Rattle.std.specs.Prelude.{ℕ, ◌<◌, ◌≡◌, Bool, true, false, eqb, Some}
use Rattle.std.proofs.Math.Path.{refl, ap, subst}
use Rattle.std.proofs.Common.{sym, ◌∙◌, arith}
use mathlib.Core.List.{List, [], ◌∷◌, ◌++◌, map}
use borrow.Author.Tests.{eqb-true, not-false}
use Rattle.wire.specs.Test.{by_test}
use Rattle.wire.proofs.Bytes.{AllBytes}
use Rattle.connection.specs.declared.answer.Output.{Output}
use Rattle.connection.specs.declared.request.RequestState.{RequestState}
use Rattle.connection.specs.declared.request.Request.{Request}
use Rattle.connection.specs.declared.state.Conn.{Conn}
use Rattle.connection.specs.declared.state.Table.{Table}
use Rattle.connection.specs.Refusal.{refusal}
use Rattle.connection.specs.Slots.{request_at, find}
use Rattle.connection.specs.RequestCalls as Of
use Rattle.connection.specs.Calls as C
use Rattle.connection.proofs.Laws.SlotsLaws as S
use Rattle.connection.proofs.Laws.SlotsLaws.{find_at}
use Rattle.queue_slot.specs.Atoms.{ByteOn, EndOf, end_waits}
use Rattle.queue_slot.specs.Finishing.{spent_by}
use Rattle.queue_slot.specs.Wait.{Wait, has_room_for, wait_data, wait_end, wait_finish, atoms_in}
use Rattle.queue_slot.proofs.WaitLaws as W
use Rattle.queue_slot.proofs.WaitLaws.{end_last}
use Rattle.queue_slot.proofs.WaitKept.{Kept, data_kept, end_kept, finish_kept}
use Rattle.queue.specs.Numbers.{last_at}
use Rattle.queue.proofs.Areas.{Roomy, wait_of_put, wait_of_other}
use Rattle.queue.specs.Calls as T
use Rattle.queue.specs.Calls.{QueueMemory, conn_of, wait_at, put_wait, with_conn, put_both, skipping, say_refusal, is_leaving}
use Rattle.queue.specs.Run.{ToSay, ToEnd, ToFinish, queue_called}
use Rattle.queue_link.proofs.LoadedCalls as L
use Rattle.queue_link.proofs.LoadedCalls.{room_fits_of}
use Rattle.queue_link.proofs.LinkedQueued.{kept_here}
use Rattle.queue_link.proofs.LinkedRuns.{Fine}
use Rattle.queue_runs.proofs.Rows.{let_through}
use Rattle.queue_runs.proofs.Changes.{queued_rows, Active, active}
use Rattle.replies_heard.proofs.Agree.{SameEnds, Resting, inactive_put, ended_id}
use Rattle.replies_heard.proofs.OutputHeard.{said_id, said_ends}
use Rattle.queue_heard.proofs.Flow.{Flow, ended_in, flow_on, flow_data, flow_end, flow_last}
use Rattle.queue_heard.proofs.Sends.{Sends, QueueAgree, both_changed}

-- what a queued call leaves: the two ends agree, and what rests rests
pub record Comes (m : QueueMemory) (t : Table) (m' : QueueMemory) : Type 0 where
  pub agree : QueueAgree m' t
  pub rests : (b : ℕ) → Resting (conn_of m).table t b → Resting (conn_of m').table t b

comes_nothing : (m : QueueMemory) (t : Table) → QueueAgree m t → Comes m t m
comes_nothing m t a = record { agree = a; rests = λ b r. r }

-- what waits does not rest on the connection's value
conn_wait : (m : QueueMemory) (c : Conn) (j : ℕ) → wait_at (with_conn m c) j ≡ wait_at m j
unfolding wait_at
conn_wait m c j = refl

-- ---- a request put back, and what waits of it
module _ (m : QueueMemory) (t : Table) (id i : ℕ) (found : find (conn_of m).table id ≡ Some i) (roomy : Roomy m) (sized : S.Sized (conn_of m).table) (a : QueueAgree m t) where
  abbrev s : Table
  s = (conn_of m).table

  both_comes : (r : Request) (w : Wait) → W.Sized w → r.id ≡ (request_at s i).id → Sends t id w r.state → Comes m t (put_both m i r w)
  unfolding put_wait
  both_comes r w ws mine own =
      let n = put_both m i r w in
      let k = with_conn m (C.puts_request (conn_of m) i r) in
      let low = (find_at s id i found).low in
      let room : Roomy k = record { waits = roomy.waits; queue = roomy.queue; marks = roomy.marks } in
      record {
        agree = both_changed m n t t id i found a (λ b x ne o. o) (λ j h ne. wait_of_other k i w room low ws j h ne ∙ conn_wait m (C.puts_request (conn_of m) i r) j) r sized refl mine
            (subst (λ x. Sends t id x r.state) (sym (wait_of_put k i w room low ws)) own);
        rests = λ b x. record { is_open = x.is_open; inactive = inactive_put s i r b mine x.inactive };
      }

-- ---- the calls, at the slot of their request
-- one of two conditions does not hold, so neither does
neither : (b c : Bool) → T.or b c ≡ false → (b ≡ false) × (c ≡ false)
neither true c e = let z : ◌≡◌ {A = ℕ} 0 1 = cc in absurd (omega arith)
neither false c e = (refl, e)

-- what comes to wait goes without a new status
end_status : (w : Wait) (o : Output) → (wait_end w o).status ≡ w.status
unfolding wait_end
end_status w o = by_test (eqb w.count 0) (λ e. simp e) (λ e. simp e)

-- an end rests on the state alone
ended_same : (r : Request) (o : Output) → SameEnds (ended_in r.state o) (Of.ended_on r o).state
unfolding Of.ended_on
ended_same r o = record { out = refl; err = refl }

-- a queued finish waits with its status, and its request keeps its id
finish_status : (w : Wait) (m : RequestState) (status : ℕ) → (wait_finish w m status).status ≡ status
unfolding wait_finish
finish_status w m status = refl

spent_id : (r : Request) → (spent_by r).id ≡ r.id
unfolding spent_by
spent_id r = refl

module _ (m : QueueMemory) (t : Table) (fine : Fine m) (a : QueueAgree m t) (id : ℕ) (k : Active m id) (stays : is_leaving m id ≡ false) where
  abbrev i : ℕ
  i = k.slot

  abbrev w : Wait
  w = wait_at m i

  abbrev r : Request
  r = request_at (conn_of m).table i

  abbrev sends : Sends t id w r.state
  sends = a id i k.found

  not_last : w.last ≡ false
  unfolding wait_at
  not_last = ap (λ (j : ℕ). last_at m.waits j) (sym k.at) ∙ stays

  no_end : end_waits (atoms_in w) ≡ false
  no_end = L.leaving_is m fine.good.steady fine.good.roomy k.is_open id i k.found ∙ ap (λ (j : ℕ). last_at m.waits j) (sym k.at) ∙ stays

  kept : Kept r.state w
  kept = kept_here m fine.good k.is_open id i k.found fine.ends

  comes : (q : Request) (y : Wait) → W.Sized y → q.id ≡ r.id → Sends t id y q.state → Comes m t (put_both m i q y)
  comes = both_comes m t id i k.found fine.good.roomy fine.good.steady.steady.sizes.table a

  say_comes : (o : Output) (x : List ℕ) → Of.is_ended o r.state ≡ false → has_room_for w x ≡ true → AllBytes x → Comes m t (put_both m i (Of.said_on r o x) (wait_data w o x))
  unfolding wait_data
  say_comes o x live room all =
      let d = data_kept r w o x kept not_last (room_fits_of w x room) in
      comes (Of.said_on r o x) (wait_data w o x) d.0.sized (said_id r o x)
      (record {
        state = sends.state;
        there = sends.there;
        flow = subst (λ l. Flow l sends.state (Of.said_on r o x).state) (sym d.1)
            (flow_on (atoms_in w ++ map (ByteOn o) x) sends.state r.state (Of.said_on r o x).state (said_ends r o x) (flow_data (atoms_in w) sends.state r.state o x no_end live all sends.flow));
        small = sends.small;
      })

  end_comes : (o : Output) → Of.is_ended o r.state ≡ false → Comes m t (put_both m i (Of.ended_on r o) (wait_end w o))
  end_comes o live =
      let d = end_kept r w o kept not_last live in
      comes (Of.ended_on r o) (wait_end w o) d.0.sized (ended_id r o)
      (record {
        state = sends.state;
        there = sends.there;
        flow = subst (λ l. Flow l sends.state (Of.ended_on r o).state) (sym d.1) (flow_on (atoms_in w ++ EndOf o ∷ []) sends.state (ended_in r.state o) (Of.ended_on r o).state (ended_same r o) (flow_end (atoms_in w) sends.state r.state o no_end live sends.flow));
        small = λ l. subst (λ (n : ℕ). n < 4294967296) (sym (end_status w o)) (sends.small (sym (end_last w o) ∙ l));
      })

  -- The table is as it was, and the rest of a record is skipped.
  finish_comes : (status : ℕ) → status < 4294967296 → Comes m t (put_both (with_conn m (skipping (conn_of m) i)) i (spent_by r) (wait_finish w r.state status))
  finish_comes status small =
      let n = with_conn m (skipping (conn_of m) i) in
      let d = finish_kept r.state (spent_by r).state w status kept not_last in
      let room : Roomy n = record { waits = fine.good.roomy.waits; queue = fine.good.roomy.queue; marks = fine.good.roomy.marks } in
      let b : QueueAgree n t = λ c j e. subst (λ y. Sends t c y (request_at (conn_of m).table j).state) (sym (conn_wait m (skipping (conn_of m) i) j)) (a c j e) in
      let c = both_comes n t id i k.found room fine.good.steady.steady.sizes.table b (spent_by r) (wait_finish w r.state status) d.0.sized (spent_id r)
      (record {
        state = sends.state;
        there = sends.there;
        flow = subst (λ l. Flow l sends.state (spent_by r).state) (sym d.1) (flow_last (atoms_in w) sends.state r.state (spent_by r).state status no_end sends.flow);
        small = λ l. subst (λ (x : ℕ). x < 4294967296) (sym (finish_status w r.state status)) small;
      }) in
      record { agree = c.agree; rests = c.rests }

-- ---- the calls
module _ (m : QueueMemory) (t : Table) (fine : Fine m) (a : QueueAgree m t) (id : ℕ) where
  -- A queued call, refused or not.
  pub say_queued : (o : Output) (x : List ℕ) → AllBytes x → Comes m t (queue_called m id (ToSay o x)).left
  unfolding queue_called T.queue_say say_refusal
  say_queued o x all =
      by_test (eqb (say_refusal m id o x) 0)
      (λ z.
      let e = eqb-true (say_refusal m id o x) 0 z in
      let rows = queued_rows m id (ToSay o x) in
      let k = active m id (let_through rows 1 e refl) (let_through rows 3 e refl) in
      let five = neither (is_leaving m id) (Of.is_ended o (T.request_of m id).state) (let_through rows 5 e refl) in
      let room = not-false (has_room_for (wait_at m (T.slot_of m id)) x) (let_through rows 10 e refl) in
      rw (z, k.at) (say_comes m t fine a id k five.0 o x (rw k.at at five.1) (rw k.at at room) all))
      (λ z. rw z (comes_nothing m t a))

  pub end_queued : (o : Output) → Comes m t (queue_called m id (ToEnd o)).left
  unfolding queue_called T.queue_end
  end_queued o =
      let rows = queued_rows m id (ToEnd o) in
      by_test (eqb (refusal rows) 0)
      (λ z.
      let e = eqb-true (refusal rows) 0 z in
      let k = active m id (let_through rows 1 e refl) (let_through rows 3 e refl) in
      let five = neither (is_leaving m id) (Of.is_ended o (T.request_of m id).state) (let_through rows 5 e refl) in
      rw (z, k.at) (end_comes m t fine a id k five.0 o (rw k.at at five.1)))
      (λ z. rw z (comes_nothing m t a))

  pub finish_queued : (status : ℕ) → status < 4294967296 → Comes m t (queue_called m id (ToFinish status)).left
  unfolding queue_called T.queue_finish
  finish_queued status small =
      let rows = queued_rows m id (ToFinish status) in
      by_test (eqb (refusal rows) 0)
      (λ z.
      let e = eqb-true (refusal rows) 0 z in
      let k = active m id (let_through rows 1 e refl) (let_through rows 3 e refl) in
      rw (z, k.at) (finish_comes m t fine a id k (let_through rows 5 e refl) status small))
      (λ z. rw z (comes_nothing m t a))
