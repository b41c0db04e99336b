-- The reserved bytes of a BEGIN body and its flag bits but the lowest change nothing.
use Rattle.std.specs.Prelude.{ℕ, ◌-◌, ◌%◌, ◌≤◌, ◌<◌, min, ◌≡◌, refl, List, length, take, eqb}
use Rattle.std.proofs.Common.{sym, ap, ◌∙◌, arith, eqb-true}
use Rattle.std.proofs.lemmas.Bool.{eqb-false}
use Rattle.wire.specs.Test.{by_test}
use Rattle.wire.specs.Buffer.{byte_at, copied}
use Rattle.record.specs.Body.{begin_body_of}
use Rattle.record.specs.declared.body.BeginBody.{BeginBody}
use Rattle.record_reader.proofs.PositionLaws.{at}
use Rattle.record_reader.specs.declared.Position.{Position}
use Rattle.connection.specs.declared.state.Target.{Target}
use Rattle.connection.specs.Shape.{in_shape}
use Rattle.connection.specs.Step.{State, no_body, frame_within, opens, begun, of_begin, leaves, advances, step_refusal, stepped}
use Rattle.connection.proofs.Laws.Progress.{in_content, step_refused, step_advances}

-- the position when the body is whole
abbrev whole : Position → Position
whole p = at 0 p.padding p.held p.header

-- the body that a piece makes whole: the bytes gathered, and those that were missing
abbrev pub body_with : State → List ℕ → List ℕ
body_with st piece = copied st.conn.frame.body st.conn.frame.gathered (take st.conn.frame.position.content piece)

-- a state with other bytes of a body in its frame
abbrev pub with_body : State → List ℕ → State
with_body st body =
    record {
      conn = record {
        table = st.conn.table;
        frame = record { position = st.conn.frame.position; target = st.conn.frame.target; gathered = st.conn.frame.gathered; body = body };
        «open» = st.conn.«open»;
      };
      gathered = st.gathered;
    }

-- a step that makes the body whole looks at what it says alone
by_body : (st : State) (store : List ℕ) (id : ℕ) → st.conn.frame.target ≡ Target.Begin id → 0 < st.conn.frame.position.content
    → (piece : List ℕ) → st.conn.frame.position.content ≤ length piece → step_refusal st.conn store ≡ 0
    → stepped st store piece ≡ leaves st.conn.frame.position.content (begun st store id (begin_body_of (body_with st piece)) (frame_within st.conn.frame (whole st.conn.frame.position) 0 no_body))
unfolding advances of_begin
by_body st store id target some piece enough a =
    let p = st.conn.frame.position in
    let n : min p.content (length piece) ≡ p.content = omega arith in
    let gone : p.content - p.content ≡ 0 = omega arith in
    step_advances st store piece a (omega arith) ∙ ap (advances st store piece) (in_content p piece some) ∙ rw (n, gone, target)

-- what it leaves has nothing of the body's bytes
forgets_body : (st : State) (store : List ℕ) (id : ℕ) (b : BeginBody) (body : List ℕ) (p : Position)
    → begun st store id b (frame_within st.conn.frame p 0 no_body) ≡ begun (with_body st body) store id b (frame_within (with_body st body).conn.frame p 0 no_body)
unfolding begun opens
forgets_body st store id b body p = refl

-- the refusal of a step does not look at them either
same_refusal : (st : State) (store body : List ℕ) → step_refusal st.conn store ≡ step_refusal (with_body st body).conn store
unfolding step_refusal in_shape
same_refusal st store body = refl

module _ (st : State) (store : List ℕ) (id : ℕ) (target : st.conn.frame.target ≡ Target.Begin id) (some : 0 < st.conn.frame.position.content) where
  -- Two pieces of one length that make the body whole: where the two bodies say the same role and the same lowest
  -- flag bit, the step is the same in all.
  pub begin_reserved_bytes : (x y : List ℕ) → st.conn.frame.position.content ≤ length x → length x ≡ length y
      → begin_body_of (body_with st x) ≡ begin_body_of (body_with st y) → stepped st store x ≡ stepped st store y
  begin_reserved_bytes x y enough same_length e =
      by_test (eqb (step_refusal st.conn store) 0)
      (λ t.
      let a = eqb-true (step_refusal st.conn store) 0 t in
      by_body st store id target some x enough a
      ∙ ap (λ (b : BeginBody). leaves st.conn.frame.position.content (begun st store id b (frame_within st.conn.frame (whole st.conn.frame.position) 0 no_body))) e
      ∙ sym (by_body st store id target some y (omega arith) a))
      (λ t. let r = eqb-false (step_refusal st.conn store) 0 t in step_refused st store x r ∙ sym (step_refused st store y r))

  -- The same where the bytes that were gathered before differ, too: a step that is not refused leaves nothing of
  -- them.
  pub begin_reserved_gathered : (body x y : List ℕ) → st.conn.frame.position.content ≤ length x → length x ≡ length y → step_refusal st.conn store ≡ 0
      → begin_body_of (body_with st x) ≡ begin_body_of (body_with (with_body st body) y) → stepped st store x ≡ stepped (with_body st body) store y
  begin_reserved_gathered body x y enough same_length a e =
      by_body st store id target some x enough a
      ∙ ap (leaves st.conn.frame.position.content)
      (ap (λ (b : BeginBody). begun st store id b (frame_within st.conn.frame (whole st.conn.frame.position) 0 no_body)) e ∙ forgets_body st store id _ body (whole st.conn.frame.position))
      ∙ sym (by_body (with_body st body) store id target some y (omega arith) (sym (same_refusal st store body) ∙ a))

-- Two bodies that agree in the role's two bytes and in the lowest flag bit say the same: the other flag bits and the
-- five reserved bytes may be anything.
pub same_begin : (x y : List ℕ) → byte_at x 0 ≡ byte_at y 0 → byte_at x 1 ≡ byte_at y 1 → byte_at x 2 % 2 ≡ byte_at y 2 % 2 → begin_body_of x ≡ begin_body_of y
unfolding begin_body_of
same_begin x y high low keep = rw (high, low, keep)
