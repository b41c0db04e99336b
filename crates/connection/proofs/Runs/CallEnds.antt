-- How calls leave a connection: finish keeps its shape, for every state in shape; and of all calls only a finish
-- without KEEP_CONN closes it.
use Rattle.std.specs.Prelude.{◌≡◌, Bool, true, false, List, ℕ, eqb}
use Rattle.std.proofs.Common.{arith}
use Rattle.wire.specs.Test.{by_test}
use Rattle.connection.specs.declared.state.Conn.{Conn}
use Rattle.connection.specs.Shape.{in_shape}
use Rattle.connection.specs.Slots.{request_at}
use Rattle.connection.specs.RequestCalls as Of
use Rattle.connection.specs.Calls as C
use Rattle.connection.specs.Arguments.{Argument, ForRead, ForSay, ForEnd, ForFinish}
use Rattle.connection.specs.Run.{Memory, called}
use Rattle.connection.proofs.Laws.SlotsLaws.{Sized}
use Rattle.connection.proofs.Laws.ShapeLaws.{shaped, in_shape_lem, closed_in_shape}
use Rattle.connection.proofs.Laws.TableShape.{tidy_free}
use Rattle.connection.proofs.Runs.CallShape.{aimed_free}

-- ---- shape
released_in_shape : (c : Conn) (i : ℕ) → Sized c.table → in_shape c ≡ true → in_shape (C.released c i) ≡ true
unfolding C.released
released_in_shape c i sized e =
    let s = shaped c e in
    in_shape_lem (C.released c i)
    (record {
      table = tidy_free c.table i sized s.table;
      position = s.position;
      target = aimed_free c.table i c.frame.target c.frame.gathered c.frame.position.content s.target;
    })

-- Finish answers a state in shape when it is given one.
pub finish_in_shape : (c : Conn) (store : List ℕ) (id status : ℕ) (buffer : List ℕ) → Sized c.table → in_shape c ≡ true → in_shape (C.finish c store id status buffer).conn ≡ true
unfolding C.finish C.finishes
finish_in_shape c store id status buffer sized e =
    by_test (eqb (C.lent_refusal c store id) 0) (λ t. simp t (go (C.slot_of c id) (request_at c.table (C.slot_of c id)).state.keep (Of.finish_in (request_at c.table (C.slot_of c id)) status buffer)))
    (λ t. simp t e)
  where
    go : (i : ℕ) (keep : Bool) (w : Of.Writing) → in_shape (C.finishes c store i keep w).conn ≡ true
    go i keep w =
        by_test (eqb w.refusal 0)
        (λ a. by_test keep (λ k. rw (a, k) (released_in_shape c i sized e)) (λ k. rw (a, k) closed_in_shape))
        (λ a. rw a e)

-- ---- closing
-- A finish of a request without KEEP_CONN.
pub data ClosesBy (m : Memory) (id : ℕ) : Argument → Type 0 where
  FinishedWithoutKeep : (status : ℕ) (buffer : List ℕ) → (request_at m.state.conn.table (C.slot_of m.state.conn id)).state.keep ≡ false → ClosesBy m id (ForFinish status buffer)

-- The only call that closes a connection.
pub call_closes : (m : Memory) (id : ℕ) (a : Argument) → m.state.conn.«open» ≡ true → (called m id a).memory.state.conn.«open» ≡ false → ClosesBy m id a
unfolding called C.say C.end_stream C.finish C.finishes C.released
call_closes m id (ForRead q) o e = let z : ◌≡◌ {A = ℕ} 0 1 = cc in absurd (omega arith)
call_closes m id (ForSay output bytes buffer) o e =
    by_test (eqb (C.call_refusal m.state.conn id) 0) (λ t. let z : ◌≡◌ {A = ℕ} 0 1 = cc (simp t at e) in absurd (omega arith)) (λ t. let z : ◌≡◌ {A = ℕ} 0 1 = cc (simp t at e) in absurd (omega arith))
call_closes m id (ForEnd output buffer) o e =
    by_test (eqb (C.call_refusal m.state.conn id) 0) (λ t. let z : ◌≡◌ {A = ℕ} 0 1 = cc (simp t at e) in absurd (omega arith)) (λ t. let z : ◌≡◌ {A = ℕ} 0 1 = cc (simp t at e) in absurd (omega arith))
call_closes m id (ForFinish status buffer) o e =
    let i = C.slot_of m.state.conn id in
    let r = request_at m.state.conn.table i in
    let w = Of.finish_in r status buffer in
    by_test r.state.keep
    (λ k.
    by_test (eqb (C.lent_refusal m.state.conn m.store id) 0)
    (λ t.
    by_test (eqb w.refusal 0)
    (λ a. let z : ◌≡◌ {A = ℕ} 0 1 = cc (simp (t, k, a) at e) in absurd (omega arith))
    (λ a. let z : ◌≡◌ {A = ℕ} 0 1 = cc (simp (t, k, a) at e) in absurd (omega arith)))
    (λ t. let z : ◌≡◌ {A = ℕ} 0 1 = cc (simp t at e) in absurd (omega arith)))
    (λ k. ClosesBy.FinishedWithoutKeep status buffer k)
