-- How the code makes a call: one step of the receiver, and then a way that the step's answer, the id and a header that
-- waits decide. `CallLaws.goes_lifted` says that this is the call.
use Rattle.std.specs.Prelude.{ℕ, ◌≤◌, min, ◌≡◌, Bool, true, List, length, if◌then◌else◌, Ok, Err, Result}
use Rattle.wire.specs.Test.{◌<?◌, ◌=?◌}
use Rattle.record_reader.specs.declared.Position.{Position}
use Rattle.connection.specs.declared.state.Conn.{Conn}
use Rattle.connection.specs.declared.answer.Refusal.{Refusal}
use Rattle.connection.specs.declared.event.Event.{Event as CodeEvent}
use Rattle.connection.specs.Event.{Event}
use Rattle.connection.specs.Codes.{refusal_number}
use Rattle.connection.specs.Sizes.{STORE}
use Rattle.connection.specs.Step.{State, Started, Stepped, state_of, started, closed_conn}
use Rattle.lifting.specs.declared.Lift.{Lift}
use Rattle.lifting.specs.declared.way.Way.{Way}
use Rattle.lifting.specs.declared.marks.Marks.{Marks}
use Rattle.lifting.specs.declared.calls.Outcome.{Outcome}
use Rattle.lifting.specs.Call.{Lifting, Lifted, closing_of, header_written, step_over}
use Rattle.lifting.specs.Answer.{lift_number, lift_used, lift_written}

-- ---- the receiver's start; with a store of the right size it is refused by 3 for id 0
unfoldable pub started_for : List ℕ → List ℕ → ℕ → Started
started_for gathered store id =
    if length store =? STORE then
    (if id =? 0 then record { refusal = 3; state = state_of closed_conn gathered; store = store }
    else started gathered store)
    else started gathered store

-- ---- what the receiver is offered, and the way
-- how many of so many bytes the receiver is offered
unfoldable pub offer_of : ℕ → ℕ → Bool → ℕ → ℕ → ℕ
offer_of waiting id copies bytes room =
    if 0 <? waiting then 0 else if id =? 0 then 0 else if copies then min room bytes else bytes

unfoldable pub unless_waiting : ℕ → ℕ → Way → Way
unless_waiting id waiting way =
    if id =? 0 then Way.Refused Refusal.NotActive else if 0 <? waiting then Way.Header else way

-- row 1 of the receiver is no refusal here
abbrev pub way_of : Result CodeEvent Refusal → ℕ → ℕ → Way
way_of (Ok e) id waiting = unless_waiting id waiting Way.Reads
way_of (Err why) id waiting =
    if refusal_number why =? 1 then unless_waiting id waiting Way.Stands else Way.Refused why

-- ---- a lift taken apart, and put together again
abbrev pub marks_of : Lift → Marks
marks_of l =
    record {
      begun = l.begun;
      copied = l.copied;
      header = l.header;
      waiting = l.waiting;
      used = l.used;
      start = l.start;
      closing = l.closing;
    }

abbrev pub lift_of_parts : Conn → ℕ → Marks → Lift
lift_of_parts c id m =
    record {
      conn = c;
      id = id;
      begun = m.begun;
      copied = m.copied;
      header = m.header;
      waiting = m.waiting;
      used = m.used;
      start = m.start;
      closing = m.closing;
    }

abbrev pub lifting_with : State → ℕ → Marks → Lifting
lifting_with st id m =
    record {
      state = st;
      id = id;
      begun = m.begun;
      copied = m.copied;
      header = m.header;
      waiting = m.waiting;
      used = m.used;
      start = m.start;
      closing = closing_of m.closing;
    }

abbrev pub outcome_with : Outcome → ℕ → Stepped → List ℕ → Lifted
outcome_with o id s buffer =
    record {
      refusal = lift_number o.result;
      used = lift_used o.result;
      written = lift_written o.result;
      lifting = lifting_with s.state id o.marks;
      store = s.store;
      buffer = buffer;
    }

-- ---- the ways; x are the bytes that the step s used
abbrev pub with_state : Lifting → State → Lifting
with_state l st =
    record {
      state = st;
      id = l.id;
      begun = l.begun;
      copied = l.copied;
      header = l.header;
      waiting = l.waiting;
      used = l.used;
      start = l.start;
      closing = l.closing;
    }

abbrev pub stands_at : ℕ → Lifting → Stepped → List ℕ → Lifted
stands_at n l s buffer =
    record {
      refusal = n;
      used = 0;
      written = 0;
      lifting = with_state l s.state;
      store = s.store;
      buffer = buffer;
    }

abbrev pub goes : Way → Lifting → Stepped → List ℕ → List ℕ → Lifted
goes (Way.Refused why) l s x buffer = stands_at (refusal_number why) l s buffer
goes Way.Header l s x buffer = header_written (with_state l s.state) s.store buffer
goes Way.Stands l s x buffer = stands_at 0 l s buffer
goes Way.Reads l s x buffer = step_over l s x buffer

-- what the code is told of a step that went from the state st to s: where the reader stood, whether the connection is
-- open afterwards, and the event
pub record Seen (st : State) (s : Stepped) (p : Position) (is_open : Bool) (e : Event) : Type 0 where
  pub position : st.conn.frame.position ≡ p
  pub opened : s.state.conn.«open» ≡ is_open
  pub told : s.event ≡ e

-- content that is copied has room
abbrev pub HasRoom : Bool → List ℕ → List ℕ → Type 0
HasRoom copies x buffer = copies ≡ true → length x ≤ length buffer
