-- Where the rules lead: a header and its content leave the connection closed, or open with a frame that the rules do
-- not choose.
use Rattle.connection.specs.Slots.{Slot}
use Rattle.std.specs.Prelude.{ℕ, Bool, true, false, List, [], if◌then◌else◌, Some, None}
use Rattle.wire.specs.Test.{◌<?◌, ◌=?◌}
use Rattle.record.specs.Names.{VERSION, BEGIN_REQUEST, GET_VALUES, RESPONDER, AUTHORIZER, FILTER}
use Rattle.record.specs.declared.header.Header.{Header}
use Rattle.record.specs.declared.body.BeginBody.{BeginBody}
use Rattle.pair_list.specs.List.{well_formed, broken_at}
use Rattle.machine.specs.Cause.{Cause, Plain, At}
use Rattle.connection.specs.declared.request.Role.{Role}
use Rattle.connection.specs.declared.request.Due.{Due}
use Rattle.connection.specs.declared.state.Table.{Table}
use Rattle.connection.specs.declared.state.Target.{Target}
use Rattle.connection.specs.declared.state.Frame.{Frame}
use Rattle.connection.specs.Sizes.{SLOTS, QUERY}
use Rattle.connection.specs.Event.{Event}
use Rattle.connection.specs.Request.{on_header}
use Rattle.connection.specs.Slots.{held_at, find, on_slot, free_slot_of}
use Rattle.connection.specs.Step.{State, Left, no_body, frame_after, open_with, closed_conn, closes, due_to, query_of, queried, on_management, on_inactive, on_active, judged, opens, begun, of_begin, of_query, of_request, on_target}
use Rattle.meaning.specs.Meaning.{to_come, with_padding}

-- closed, and open with a frame
abbrev pub shut_with : List ℕ → List ℕ → Event → Left
shut_with g s e = record { conn = closed_conn; gathered = g; store = s; event = e }

abbrev pub goes_with : Table → Frame → List ℕ → List ℕ → Event → Left
goes_with t f g s e = record { conn = open_with t f; gathered = g; store = s; event = e }

-- one test decides both
both : (P : Left → Left → Type 0) (b : Bool) (x y x' y' : Left) → P x x' → P y y' → P (if b then x else y) (if b then x' else y')
both P true x y x' y' p q = p
both P false x y x' y' p q = q

-- A header, and the same with another padding length.
module _ (st : State) (store : List ℕ) (h : Header) (n : ℕ) (P : Left → Left → Type 0)
    (shut : (g s : List ℕ) (e : Event) → P (shut_with g s e) (shut_with g s e))
    (goes : (t : Table) (target : Target) (g s : List ℕ) (e : Event) → P (goes_with t (frame_after h target) g s e) (goes_with t (frame_after (with_padding h n) target) g s e)) where
  abbrev other : Header
  other = with_padding h n

  close : (k : Cause) → P (closes st store k) (closes st store k)
  unfolding closes
  close k = shut _ _ _

  read : (target : Target) (e : Event) → P (goes_with st.conn.table (frame_after h target) st.gathered store e) (goes_with st.conn.table (frame_after other target) st.gathered store e)
  read target e = goes st.conn.table target st.gathered store e

  by_queried : P (queried st store [] (frame_after h Target.Skip)) (queried st store [] (frame_after other Target.Skip))
  unfolding queried
  by_queried = both P (well_formed []) _ _ _ _ (read Target.Skip (query_of [])) (close (At 14 (broken_at [])))

  by_management : P (on_management st store h) (on_management st store other)
  unfolding on_management
  by_management =
      both P (h.kind =? GET_VALUES) _ _ _ _
      (both P (QUERY <? h.content) _ _ _ _ (close (Plain 13)) (both P (h.content =? 0) _ _ _ _ by_queried (read Target.Query Event.None)))
      (read Target.Skip (Event.Unknown h.kind))

  by_inactive : P (on_inactive st store h) (on_inactive st store other)
  unfolding on_inactive
  by_inactive =
      both P (h.kind =? BEGIN_REQUEST) _ _ _ _
      (both P (h.content =? 8) _ _ _ _ (read (Target.Begin h.id) Event.None) (close (Plain 12)))
      (read Target.Skip Event.None)

  by_active : (i : ℕ) → P (on_active st store h i) (on_active st store other i)
  unfolding on_active
  by_active i = goes _ (due_to (on_header h.kind h.content (held_at st.conn.table store i)).due i) _ _ _

  by_slot : (k : Slot) → P (on_slot k (on_active st store h) (on_inactive st store h)) (on_slot k (on_active st store other) (on_inactive st store other))
  by_slot (Some i) = by_active i
  by_slot None = by_inactive

  pub by_judged : P (judged st store h) (judged st store other)
  unfolding judged
  by_judged =
      both P (h.version =? VERSION) _ _ _ _ (both P (h.id =? 0) _ _ _ _ by_management (by_slot (find st.conn.table h.id))) (close (Plain 11))

-- within content that nothing of is in yet, and after content, with so much padding to come
abbrev pub starts_frame : ℕ → ℕ → Target → Frame
starts_frame content padding target = record { position = to_come content padding; target = target; gathered = 0; body = no_body }

abbrev pub ends_frame : ℕ → Frame
ends_frame padding = record { position = to_come 0 padding; target = Target.Skip; gathered = 0; body = no_body }

-- Whole content, with one or another length of padding after it.
module _ (t : Table) (gathered store : List ℕ) (c p n : ℕ) (x : List ℕ) (P : Left → Left → Type 0)
    (shut : (g s : List ℕ) (e : Event) → P (shut_with g s e) (shut_with g s e))
    (goes : (t : Table) (g s : List ℕ) (e : Event) → P (goes_with t (ends_frame p) g s e) (goes_with t (ends_frame n) g s e)) where
  abbrev from : ℕ → Target → State
  from padding target = record { conn = open_with t (starts_frame c padding target); gathered = gathered }

  by_opens : (id : ℕ) (target : Target) (b : BeginBody) (role : Role) → P (opens (from p target) store id b role (ends_frame p)) (opens (from n target) store id b role (ends_frame n))
  unfolding opens
  by_opens id target b role = both P (free_slot_of t <? SLOTS) _ _ _ _ (goes _ _ _ _) (goes _ _ _ _)

  by_begun : (id : ℕ) (target : Target) (b : BeginBody) → P (begun (from p target) store id b (ends_frame p)) (begun (from n target) store id b (ends_frame n))
  unfolding begun
  by_begun id target b =
      both P (b.role =? RESPONDER) _ _ _ _ (by_opens id target b Role.Responder)
      (both P (b.role =? AUTHORIZER) _ _ _ _ (by_opens id target b Role.Authorizer)
      (both P (b.role =? FILTER) _ _ _ _ (by_opens id target b Role.Filter) (goes _ _ _ _)))

  by_request : (due : Due) (i : ℕ) (target : Target) → P (of_request (from p target) store due i x (to_come 0 p)) (of_request (from n target) store due i x (to_come 0 n))
  unfolding of_request
  by_request due i target = goes _ _ _ _

  pub by_content : (target : Target) → P (on_target target (from p target) store x (to_come 0 p)) (on_target target (from n target) store x (to_come 0 n))
  unfolding of_begin of_query queried closes
  by_content Target.Skip = goes _ _ _ _
  by_content (Target.Begin id) = by_begun id (Target.Begin id) _
  by_content Target.Query = both P (well_formed _) _ _ _ _ (goes _ _ _ _) (shut _ _ _)
  by_content (Target.Params i) = by_request Due.Params i (Target.Params i)
  by_content (Target.Stdin i) = by_request Due.Stdin i (Target.Stdin i)
  by_content (Target.Data i) = by_request Due.Data i (Target.Data i)
