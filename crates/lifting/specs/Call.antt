-- The calls of the lift: a start, a call that goes on over a piece and into a buffer that may be short, and the verdict.
use Rattle.std.specs.Prelude.{ℕ, ◌+◌, ◌-◌, min, Bool, false, not, ◌&&◌, ◌||◌, List, [], ◌∷◌, ◌++◌, length, take, drop, if◌then◌else◌, Option as RustOption, Some, None}
use Rattle.std.proofs.Math.Option.{Option, none, some}
use Rattle.wire.specs.Test.{◌<?◌, ◌=?◌}
use Rattle.wire.specs.Buffer.{put_at, zeros}
use Rattle.machine.specs.Cause.{Cause}
use Rattle.record_reader.specs.declared.Position.{Position}
use Rattle.connection.specs.Sizes.{STORE}
use Rattle.connection.specs.Codes.{close_cause}
use Rattle.connection.specs.Refusal.{◌when◌, refusal}
use Rattle.connection.specs.Shape.{in_shape}
use Rattle.connection.specs.Step.{State, Stepped, state_of, stepped, started, closed_conn}
use Rattle.plain_agrees.specs.Agreement.{close_of_event, is_between}
use Rattle.lifting.specs.declared.Lift.{Lift}
use Rattle.lifting.specs.Lift.{Verdict, Clean, Cut, ClosedAt, LARGEST_PLACE, copied_header, is_copied}
use Rattle.connection.specs.declared.event.Close.{Close}

-- ---- the state of a lift, with the gathered bytes that are lent beside it, and the close by its cause
pub record Lifting : Type 0 where
  -- the receiver that the capture is replayed to
  pub state : State
  -- the request whose records are copied
  pub id : ℕ
  -- its first BEGIN record has come
  pub begun : Bool
  -- the record being read is copied
  pub copied : Bool
  -- the header of that record as it is written, and how many bytes of it, the last ones, still wait for room
  pub header : List ℕ
  pub waiting : ℕ
  -- how many bytes were used, and how many of them before the record being read
  pub used : ℕ
  pub start : ℕ
  pub closing : Option Cause

abbrev pub closing_of : RustOption Close → Option Cause
closing_of None = none
closing_of (Some close) = some (close_cause close)

abbrev pub lifting_of : Lift → List ℕ → Lifting
lifting_of l gathered =
    record {
      state = state_of l.conn gathered;
      id = l.id;
      begun = l.begun;
      copied = l.copied;
      header = l.header;
      waiting = l.waiting;
      used = l.used;
      start = l.start;
      closing = closing_of l.closing;
    }

abbrev pub position_of : Lifting → Position
position_of l = l.state.conn.frame.position

-- ---- start: refused by 2 for a store of another size, and then by 3 for id 0
pub record LiftStarted : Type 0 where
  pub refusal : ℕ
  pub lifting : Lifting
  pub store : List ℕ

abbrev pub fresh_lifting : State → ℕ → Lifting
fresh_lifting st id =
    record { state = st; id = id; begun = false; copied = false; header = zeros 8; waiting = 0; used = 0; start = 0; closing = none }

unfoldable pub start_refusal : List ℕ → ℕ → ℕ
start_refusal store id = refusal ((2 when not (length store =? STORE)) ∷ (3 when id =? 0) ∷ [])

unfoldable pub lift_started : List ℕ → List ℕ → ℕ → LiftStarted
lift_started gathered store id =
    if start_refusal store id =? 0 then record {
      refusal = 0;
      lifting = fresh_lifting (started gathered store).state id;
      store = (started gathered store).store;
    }
    else record { refusal = start_refusal store id; lifting = fresh_lifting (state_of closed_conn gathered) id; store = store }

-- ---- a call
-- what it leaves, how many bytes of the piece it used, and how many it wrote at the start of the buffer
pub record Lifted : Type 0 where
  pub refusal : ℕ
  pub used : ℕ
  pub written : ℕ
  pub lifting : Lifting
  pub store : List ℕ
  pub buffer : List ℕ

abbrev pub stands : ℕ → Lifting → List ℕ → List ℕ → Lifted
stands n l store buffer = record { refusal = n; used = 0; written = 0; lifting = l; store = store; buffer = buffer }

-- Rows 2 and 9 are the receiver's own; then 3 for id 0.
unfoldable pub lift_refusal : Lifting → List ℕ → ℕ
lift_refusal l store =
    refusal ((2 when not (length store =? STORE)) ∷ (9 when not (in_shape l.state.conn)) ∷ (3 when l.id =? 0) ∷ [])

-- A header that waits is written first, as far as there is room, and nothing is used while it waits.
abbrev pub waiting_bytes : Lifting → List ℕ
waiting_bytes l = drop (8 - l.waiting) l.header

abbrev pub with_waiting : Lifting → ℕ → Lifting
with_waiting l n =
    record { state = l.state; id = l.id; begun = l.begun; copied = l.copied; header = l.header; waiting = n; used = l.used; start = l.start; closing = l.closing }

unfoldable pub header_written : Lifting → List ℕ → List ℕ → Lifted
header_written l store buffer =
    let bytes = take (length buffer) (waiting_bytes l) in
    record {
      refusal = 0;
      used = 0;
      written = length bytes;
      lifting = with_waiting l (length (waiting_bytes l) - length bytes);
      store = store;
      buffer = put_at buffer 0 bytes;
    }

-- Content that is copied is used as far as there is room for it; anything else needs no room.
abbrev pub copies_content : Lifting → Bool
copies_content l = l.copied && (0 <? (position_of l).content)

abbrev pub offered : Lifting → List ℕ → ℕ → List ℕ
offered l piece room = if copies_content l then take room piece else piece

-- The header that the bytes x complete, if they do.
abbrev pub header_with : Position → List ℕ → List ℕ
header_with p x = take p.held p.header ++ x

abbrev pub completes : Position → List ℕ → Bool
completes p x = (p.content =? 0) && (p.padding =? 0) && (length (header_with p x) =? 8)

-- What bytes x make of the lift, where the receiver's step over them is s. A header that is whole says whether its
-- record is copied, and waits then; a record that closes is not copied.
abbrev pub copies_next : Lifting → Stepped → List ℕ → Bool
copies_next l s x = s.state.conn.«open» && is_copied l.id l.begun (header_with (position_of l) x)

unfoldable pub with_header : Lifting → Stepped → List ℕ → Lifting
with_header l s x =
    record {
      state = s.state;
      id = l.id;
      begun = l.begun || copies_next l s x;
      copied = copies_next l s x;
      header = copied_header (header_with (position_of l) x);
      waiting = if copies_next l s x then 8 else 0;
      used = min (l.used + length x) LARGEST_PLACE;
      start = if is_between (position_of l) then l.used else l.start;
      closing = close_of_event s.event;
    }

unfoldable pub with_bytes : Lifting → Stepped → List ℕ → Lifting
with_bytes l s x =
    record {
      state = s.state;
      id = l.id;
      begun = l.begun;
      copied = l.copied;
      header = l.header;
      waiting = 0;
      used = min (l.used + length x) LARGEST_PLACE;
      start = if is_between (position_of l) then l.used else l.start;
      closing = close_of_event s.event;
    }

abbrev pub after_bytes : Lifting → Stepped → List ℕ → Lifting
after_bytes l s x = if completes (position_of l) x then with_header l s x else with_bytes l s x

-- One step of the receiver, over what it is offered.
abbrev pub step_over : Lifting → Stepped → List ℕ → List ℕ → Lifted
step_over l s x buffer =
    record {
      refusal = 0;
      used = length x;
      written = if copies_content l then length x else 0;
      lifting = after_bytes l s x;
      store = s.store;
      buffer = if copies_content l then put_at buffer 0 x else buffer;
    }

unfoldable pub reads_on : Lifting → List ℕ → List ℕ → List ℕ → Lifted
reads_on l store piece buffer =
    let bytes = offered l piece (length buffer) in
    let s = stepped l.state store bytes in
    step_over l s (take s.used bytes) buffer

-- After a close nothing is used.
unfoldable pub lifted : Lifting → List ℕ → List ℕ → List ℕ → Lifted
lifted l store piece buffer =
    if lift_refusal l store =? 0 then
    (if 0 <? l.waiting then header_written l store buffer
    else if l.state.conn.«open» then reads_on l store piece buffer
    else stands 0 l store buffer)
    else stands (lift_refusal l store) l store buffer

-- ---- the verdict, of all that was used so far
abbrev pub on_closing : Option Cause → (Cause → Verdict) → Verdict → Verdict
on_closing none f v = v
on_closing (some cause) f v = f cause

unfoldable pub verdict_now : Lifting → Verdict
verdict_now l = on_closing l.closing (λ cause. ClosedAt cause l.start) (if is_between (position_of l) then Clean else Cut)
