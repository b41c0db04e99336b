-- What waits in one slot: data bytes in the slot's area of the queue, a mark for each of them, and a few numbers.
-- Definitions only.
use Rattle.std.specs.Prelude.{ℕ, zero, suc, ◌+◌, ◌-◌, ◌*◌, ◌/◌, ◌%◌, Bool, true, false, List, [], ◌∷◌, ◌++◌, length, take, drop, set, replicate, if◌then◌else◌}
use Rattle.wire.specs.Test.{◌≤?◌, ◌=?◌}
use Rattle.wire.specs.Buffer.{put_at, byte_at}
use Rattle.connection.specs.declared.request.RequestState.{RequestState}
use Rattle.connection.specs.declared.answer.Output.{Output}
use Rattle.connection.specs.RequestCalls.{owes_out, owes_err}
use Rattle.queue_slot.specs.declared.Ends.{Ends}
use Rattle.queue_slot.specs.Atoms.{RUN, Atom, ByteOn, EndOf, finish_of}

-- bytes of the queue that belong to one slot
abbrev pub ROOM : ℕ
ROOM = 1024

-- ---- ends
-- one end
abbrev pub one_end : Output → Ends
one_end Output.Stdout = Ends.Out
one_end Output.Stderr = Ends.Err

-- One more end behind them. (A stream is ended once: the end of a stream whose end waits there already changes
-- nothing.)
abbrev pub with_end : Ends → Output → Ends
with_end Ends.None o = one_end o
with_end Ends.Out Output.Stdout = Ends.Out
with_end Ends.Out Output.Stderr = Ends.OutErr
with_end Ends.Err Output.Stdout = Ends.ErrOut
with_end Ends.Err Output.Stderr = Ends.Err
with_end Ends.OutErr o = Ends.OutErr
with_end Ends.ErrOut o = Ends.ErrOut

-- ---- marks
-- A mark of a data byte: its stream, and the ends that wait right behind it. In a byte: stream + 2 * ends. Every byte
-- is a mark: ends over 4 are none.
abbrev pub stream_number : Output → ℕ
stream_number Output.Stdout = 0
stream_number Output.Stderr = 1

-- as a number
abbrev pub ends_number : Ends → ℕ
ends_number Ends.None = 0
ends_number Ends.Out = 1
ends_number Ends.Err = 2
ends_number Ends.OutErr = 3
ends_number Ends.ErrOut = 4

-- the mark of a byte
unfoldable pub mark_of : Output → Ends → ℕ
mark_of o e = stream_number o + 2 * ends_number e

-- its stream
unfoldable pub mark_stream : ℕ → Output
mark_stream m = if m % 2 =? 0 then Output.Stdout else Output.Stderr

-- the ends of a number
unfoldable pub ends_of : ℕ → Ends
ends_of n = if n =? 1 then Ends.Out else if n =? 2 then Ends.Err else if n =? 3 then Ends.OutErr else if n =? 4 then Ends.ErrOut else Ends.None

-- the ends behind it
unfoldable pub mark_ends : ℕ → Ends
mark_ends m = ends_of (m / 2)

-- the mark with one more end behind its byte
unfoldable pub mark_ended : ℕ → Output → ℕ
mark_ended m o = mark_of (mark_stream m) (with_end (mark_ends m) o)

-- ---- one slot
-- How many data bytes wait; the ends that wait before all of them; whether END waits, and its application status; the
-- slot's areas of the queue and of the marks.
pub record Wait : Type 0 where
  pub count : ℕ
  pub front : Ends
  pub last : Bool
  pub status : ℕ
  pub bytes : List ℕ
  pub marks : List ℕ

-- nothing waits; the areas hold whatever they hold
abbrev pub nothing_in : List ℕ → List ℕ → Wait
nothing_in bytes marks = record { count = 0; front = Ends.None; last = false; status = 0; bytes = bytes; marks = marks }

-- are there none?
abbrev pub no_ends : Ends → Bool
no_ends Ends.None = true
no_ends Ends.Out = false
no_ends Ends.Err = false
no_ends Ends.OutErr = false
no_ends Ends.ErrOut = false

-- Anything waits: data, ends before it, or END.
abbrev pub some_waits : ℕ → Ends → Bool → Bool
some_waits count front last = if count =? 0 then (if no_ends front then last else true) else true

-- anything waits
unfoldable pub anything : Wait → Bool
anything w = some_waits w.count w.front w.last

-- ---- what comes to wait
-- data, which needs room: count + length data ≤ ROOM
unfoldable pub has_room_for : Wait → List ℕ → Bool
has_room_for w content = w.count + length content ≤? ROOM

-- they go behind the bytes that wait, each with its mark
unfoldable pub wait_data : Wait → Output → List ℕ → Wait
wait_data w o content =
    record {
      count = w.count + length content;
      front = w.front;
      last = w.last;
      status = w.status;
      bytes = put_at w.bytes w.count content;
      marks = put_at w.marks w.count (replicate (length content) (mark_of o Ends.None));
    }

-- the end of a stream: before all data if none waits, else behind the last byte
unfoldable pub wait_end : Wait → Output → Wait
wait_end w o =
    if w.count =? 0 then record { count = w.count; front = with_end w.front o; last = w.last; status = w.status; bytes = w.bytes; marks = w.marks }
    else record {
      count = w.count;
      front = w.front;
      last = w.last;
      status = w.status;
      bytes = w.bytes;
      marks = set w.marks (w.count - 1) (mark_ended (byte_at w.marks (w.count - 1)) o);
    }

-- the ends that a finish owes, then END
unfoldable pub wait_finish : Wait → RequestState → ℕ → Wait
wait_finish w m status =
    let a = if owes_out m then wait_end w Output.Stdout else w in
    let b = if owes_err m then wait_end a Output.Stderr else a in
    record { count = b.count; front = b.front; last = true; status = status; bytes = b.bytes; marks = b.marks }

-- ---- what is written next
-- The longest run of bytes of one stream from the oldest on, short of any end, up to so many.
unfoldable pub run_length : ℕ → List ℕ → ℕ
run_length zero marks = 0
run_length (suc k) [] = 0
run_length (suc k) (m ∷ []) = 1
run_length (suc k) (m ∷ (next ∷ marks)) =
    if no_ends (mark_ends m) then (if m % 2 =? next % 2 then suc (run_length k (next ∷ marks)) else 1) else 1

-- Nothing; the end of a stream; data of a stream; END with its application status. The first three with what waits
-- then.
pub data Served : Type 0 where
  ServesNothing : Served
  ServesEnd : Output → Wait → Served
  ServesData : Output → List ℕ → Wait → Served
  ServesLast : ℕ → Served

-- with other ends at the front
abbrev pub with_front : Wait → Ends → Wait
with_front w e = record { count = w.count; front = e; last = w.last; status = w.status; bytes = w.bytes; marks = w.marks }

-- k bytes from the oldest on are taken out: the others move down, and the ends behind the last of the k come to the
-- front
unfoldable pub without_first : Wait → ℕ → Wait
without_first w k =
    record {
      count = w.count - k;
      front = mark_ends (byte_at w.marks (k - 1));
      last = w.last;
      status = w.status;
      bytes = put_at w.bytes 0 (drop k (take w.count w.bytes));
      marks = put_at w.marks 0 (drop k (take w.count w.marks));
    }

-- the first k bytes, which are of one stream
unfoldable pub serve_run : Wait → ℕ → Served
serve_run w k = ServesData (mark_stream (byte_at w.marks 0)) (take k w.bytes) (without_first w k)

-- no end is at the front: data, or END, or nothing
unfoldable pub serve_data : Wait → Served
serve_data w =
    if w.count =? 0 then (if w.last then ServesLast w.status else ServesNothing)
    else serve_run w (run_length RUN (take w.count w.marks))

-- an end at the front goes first
abbrev pub serve_from : Ends → Wait → Served
serve_from Ends.None w = serve_data w
serve_from Ends.Out w = ServesEnd Output.Stdout (with_front w Ends.None)
serve_from Ends.Err w = ServesEnd Output.Stderr (with_front w Ends.None)
serve_from Ends.OutErr w = ServesEnd Output.Stdout (with_front w Ends.Err)
serve_from Ends.ErrOut w = ServesEnd Output.Stderr (with_front w Ends.Out)

-- what is written next
abbrev pub served : Wait → Served
served w = serve_from w.front w

-- ---- what waits, said plainly
abbrev pub end_atoms : Ends → List Atom
end_atoms Ends.None = []
end_atoms Ends.Out = EndOf Output.Stdout ∷ []
end_atoms Ends.Err = EndOf Output.Stderr ∷ []
end_atoms Ends.OutErr = EndOf Output.Stdout ∷ EndOf Output.Stderr ∷ []
end_atoms Ends.ErrOut = EndOf Output.Stderr ∷ EndOf Output.Stdout ∷ []

-- bytes with their marks
unfoldable pub byte_atoms : List ℕ → List ℕ → List Atom
byte_atoms [] marks = []
byte_atoms (b ∷ bytes) [] = []
byte_atoms (b ∷ bytes) (m ∷ marks) = ByteOn (mark_stream m) b ∷ (end_atoms (mark_ends m) ++ byte_atoms bytes marks)

-- END, if it waits
abbrev pub last_atoms : Bool → ℕ → List Atom
last_atoms true status = finish_of status ∷ []
last_atoms false status = []

-- what waits in a slot, oldest first
unfoldable pub atoms_in : Wait → List Atom
atoms_in w = end_atoms w.front ++ (byte_atoms (take w.count w.bytes) (take w.count w.marks) ++ last_atoms w.last w.status)
