-- What content bytes leave is in shape.
use Rattle.std.specs.Prelude.{◌≡◌, ℕ, ◌+◌, ◌≤◌, ◌<◌, List, ltb, leb, eqb, None}
use Rattle.std.proofs.Math.Path.{refl}
use Rattle.std.proofs.Common.{◌∙◌, arith}
use Rattle.std.proofs.Math.ListN.{length}
use borrow.Author.Tests.{leb-true, leb-false, eqb-true}
use Rattle.wire.specs.Test.{by_test}
use Rattle.wire.specs.Buffer.{copied}
use Rattle.wire.proofs.BufferLaws.{put_length, copied_room, copied_none}
use Rattle.record.specs.Names.{RESPONDER, AUTHORIZER, FILTER}
use Rattle.record.specs.declared.body.BeginBody.{BeginBody}
use Rattle.record_reader.proofs.PositionLaws.{at}
use Rattle.record_reader.specs.declared.Position.{Position}
use Rattle.connection.specs.declared.request.Role.{Role}
use Rattle.connection.specs.declared.request.Due.{Due}
use Rattle.connection.specs.declared.request.RequestState.{RequestState}
use Rattle.connection.specs.declared.state.Table.{Table}
use Rattle.connection.specs.declared.state.Target.{Target}
use Rattle.connection.specs.declared.state.Frame.{Frame}
use Rattle.connection.specs.Sizes.{SLOTS, AREA, QUERY}
use Rattle.connection.specs.Request.{with_state, opened, grown}
use Rattle.connection.specs.Slots.{request_at, held_at, put_request, free_slot_of, find}
use Rattle.connection.proofs.Laws.SlotsLaws.{take_sized}
use Rattle.connection.specs.Fits.{InUse, Begins, Grows, Aimed}
use Rattle.connection.proofs.Laws.TableShape.{tidy_take, length_of, use_put, length_put}
use Rattle.connection.proofs.Laws.RequestShape.{grows}
use Rattle.connection.proofs.Laws.StateShape.{GoodFrame, Good, aimed_if, either, good_reads, good_back, good_queried}
use Rattle.connection.specs.Step.{State, no_body, frame_within, open_with, opens, begun, of_begin, of_query, of_request, on_target}

-- bytes copied into a buffer keep its length, whether they fit or not
copied_length : (l : List ℕ) (at : ℕ) (x : List ℕ) → length (copied l at x) ≡ length l
copied_length l at x =
    by_test (leb (at + length x) (length l))
    (λ t. let h : at + length x ≤ length l = leb-true (at + length x) (length l) t in rw (copied_room l at x h) (put_length l at x h))
    (λ t. rw (copied_none l at x (leb-false (at + length x) (length l) t)))

-- The position after some content bytes, with so many left.
abbrev pub used_up : State → ℕ → Position
used_up st left = at left st.conn.frame.position.padding st.conn.frame.position.held st.conn.frame.position.header

module _ (st : State) (store : List ℕ) (before : Good st.conn) where
  -- the BEGIN body is whole: the frame that is left fits any table
  module _ (id : ℕ) (some : id ≡ 0 → ⊥) (inactive : find st.conn.table id ≡ None) (b : BeginBody) (f : Frame) (idle : (t : Table) → GoodFrame t f) where
    good_opens : (role : Role) → Good (opens st store id b role f).conn
    unfolding opens opened
    good_opens role =
        either (ltb (free_slot_of st.conn.table) SLOTS) _ _
        (λ e. record {
          sized = take_sized st.conn.table (free_slot_of st.conn.table) _ before.sized;
          tidy = tidy_take st.conn.table (free_slot_of st.conn.table) _ before.sized before.tidy (omega arith) some inactive;
          frame = idle _;
        })
        (λ e. good_reads st.conn before f (idle _))

    good_begun : Good (begun st store id b f).conn
    unfolding begun
    good_begun =
        either (eqb b.role RESPONDER) _ _
        (λ x. good_opens Role.Responder)
        (λ x. either (eqb b.role AUTHORIZER) _ _
        (λ y. good_opens Role.Authorizer)
        (λ y. either (eqb b.role FILTER) _ _ (λ z. good_opens Role.Filter) (λ z. good_reads st.conn before f (idle _))))

  -- some content bytes, and how many are left after them
  module _ (bytes : List ℕ) (left : ℕ) (sum : length bytes + left ≡ st.conn.frame.position.content) where
    good_within : (t : Table) (n : ℕ) (body : List ℕ) → length body ≡ 8 → (0 < left → Aimed st.conn.frame.target t n left)
        → GoodFrame t (frame_within st.conn.frame (used_up st left) n body)
    good_within t n body eight f =
        record {
          header = before.frame.header;
          bytes = before.frame.bytes;
          body = eight;
          position = record { held = before.frame.position.held; content = omega (arith, before.frame.position.content); padding = before.frame.position.padding };
          target = aimed_if left n st.conn.frame.target t f;
        }

    good_begin : (id : ℕ) → st.conn.frame.target ≡ Target.Begin id → Begins st.conn.table id st.conn.frame.gathered st.conn.frame.position.content
        → Good (of_begin st store id bytes (used_up st left)).conn
    unfolding of_begin
    good_begin id e b =
        either (eqb left 0) _ _
        (λ z. good_begun id b.some b.inactive _ _ (λ t. good_within t 0 no_body refl (λ more. absurd (omega (arith, eqb-true left 0 z)))))
        (λ z. good_reads st.conn before _
        (good_within _ (st.conn.frame.gathered + length bytes) _ (copied_length st.conn.frame.body st.conn.frame.gathered bytes ∙ before.frame.body)
        (λ more. rw e (record { eight = omega (arith, b.eight); some = b.some; inactive = b.inactive }))))

    good_query : st.conn.frame.target ≡ Target.Query → st.conn.frame.gathered + st.conn.frame.position.content ≤ QUERY
        → Good (of_query st store bytes (used_up st left)).conn
    unfolding of_query
    good_query e fits =
        either (eqb left 0) _ _
        (λ z. good_queried st.conn before _ store _ _ (good_within _ 0 st.conn.frame.body before.frame.body (λ more. absurd (omega (arith, eqb-true left 0 z)))))
        (λ z. good_reads st.conn before _ (good_within _ (st.conn.frame.gathered + length bytes) st.conn.frame.body before.frame.body (λ more. rw e (omega arith))))

    -- content that is shown: the request keeps its id and its length
    good_shown : (i : ℕ) (m : RequestState) → InUse st.conn.table i → ((t : Table) → InUse t i → Aimed st.conn.frame.target t st.conn.frame.gathered left)
        → Good (open_with (put_request st.conn.table i (with_state (request_at st.conn.table i) m)) (frame_within st.conn.frame (used_up st left) st.conn.frame.gathered st.conn.frame.body))
    good_shown i m u f =
        good_back st.conn before i (with_state (request_at st.conn.table i) m) _ refl (rw (length_of st.conn.table i) (before.tidy.lengths i u.low))
        (good_within _ st.conn.frame.gathered st.conn.frame.body before.frame.body (λ more. f _ (use_put st.conn.table i i _ u)))

    good_params : (i : ℕ) → st.conn.frame.target ≡ Target.Params i → Grows st.conn.table i st.conn.frame.position.content
        → Good (of_request st store Due.Params i bytes (used_up st left)).conn
    unfolding of_request
    good_params i e g =
        let h = held_at st.conn.table store i in
        let is = length_of st.conn.table i in
        let fits : (request_at st.conn.table i).length + length bytes ≤ AREA = omega (arith, g.room) in
        let w = grows h bytes fits in
        let now = length_put st.conn.table i (grown h bytes).request before.sized g.slot.low in
        good_back st.conn before i (grown h bytes).request _ w.0 (rw w.1 fits)
        (good_within _ st.conn.frame.gathered st.conn.frame.body before.frame.body
        (λ more. rw e (record { slot = use_put st.conn.table i i _ g.slot; room = omega (arith, w.1, g.room) })))

    -- Whatever the content is for, the state that it leaves is good.
    pub good_target : (target : Target) → st.conn.frame.target ≡ target → Aimed target st.conn.table st.conn.frame.gathered st.conn.frame.position.content
        → Good (on_target target st store bytes (used_up st left)).conn
    unfolding of_request
    good_target Target.Skip e a = good_reads st.conn before _ (good_within _ st.conn.frame.gathered st.conn.frame.body before.frame.body (λ more. rw e tt))
    good_target (Target.Begin id) e a = good_begin id e a
    good_target Target.Query e a = good_query e a
    good_target (Target.Params i) e a = good_params i e a
    good_target (Target.Stdin i) e a = good_shown i _ a (λ t u. rw e u)
    good_target (Target.Data i) e a = good_shown i _ a (λ t u. rw e u)
