-- Queued says of more than ROOM bytes.
--
-- Such a say is refused, wherever it comes: by a row before 10, or by 10. Where it is not by 10, the say of its first
-- ROOM bytes is refused just so. So a run in which no call of R is refused by 10 is the same run with R's says
-- shortened to ROOM bytes: it has the same memories, bytes and notes, and is settled too.
use Rattle.std.specs.Prelude.{◌≡◌, Bool, true, false, not, ℕ, ◌+◌, ◌<◌, length, take, eqb, leb, if◌then◌else◌}
use Rattle.std.proofs.Math.Path.{refl, ap, sym}
use Rattle.std.proofs.Common.{◌∙◌, subst, arith, take_all, eqb-true, leb-true, leb-false}
use mathlib.Core.List.{List, [], ◌∷◌, ◌++◌, map, Memᴰ}
use Rattle.std.proofs.lemmas.Bool.{lt-leb}
use Rattle.wire.specs.Test.{by_test, ◌=?◌}
use Rattle.record.specs.Names.{OVERLOADED}
use Rattle.record.specs.Split.{split}
use Rattle.machine.specs.Timeline.{RequestCall, CountCall, Item, ByteItem, CallItem, byte_items, item_bytes, Scan, ScanHeader, scan_next, is_own, is_own_call, purge_from}
use Rattle.connection.specs.declared.answer.Output.{Output}
use Rattle.connection.specs.Event.{Event}
use Rattle.connection.specs.Bytewise.{Note, notes}
use Rattle.connection.specs.Refusal.{Row, ◌when◌, holds_in, refusal}
use Rattle.queue_slot.specs.Wait.{ROOM, has_room_for}
use Rattle.queue.specs.Calls as T
use Rattle.queue.specs.Calls.{QUEUE, QueueMemory, conn_of, wait_at, rows_of, stream_rows, queue_step, say_refusal}
use Rattle.queue.specs.Run as D
use Rattle.queue.specs.Run.{Asking, QueueOperation, StepOver, CallFor, CountActive, TurnWith, QueueResult, Queued, queue_called, used_of, queue_after, waits_of, leaving_of, final_queue, queue_items, queue_timeline, notes_all, PiecesAreBytes, QueueRun, beginning, ending, timeline_of}
use Rattle.queue.specs.Isolation.{EndsBetweenRecords, NeverOverloaded, is_ten, NeverTenFrom, QuietBytes, scanned, QuietFrom, Settled}
use Rattle.queue_runs.proofs.Changes.{queued_rows}
use Rattle.queue_runs.proofs.Closing.{both_ways}

-- ---- definitions
-- a queued say of its first ROOM bytes; any other call as it is
abbrev pub shortened : Asking → Asking
shortened (D.Straight a) = D.Straight a
shortened (D.ToSay o content) = D.ToSay o (take ROOM content)
shortened (D.ToEnd o) = D.ToEnd o
shortened (D.ToFinish status) = D.ToFinish status

-- a call, shortened if it is R's
abbrev pub short_call : ℕ → ℕ → Asking → Asking
short_call R id a = if id =? R then shortened a else a

-- an operation
abbrev pub short_operation : ℕ → QueueOperation → QueueOperation
short_operation R (StepOver piece) = StepOver piece
short_operation R (CallFor id a) = CallFor id (short_call R id a)
short_operation R CountActive = CountActive
short_operation R (TurnWith allowance buffer) = TurnWith allowance buffer

-- an item of a timeline
abbrev pub short_item : ℕ → Item Asking → Item Asking
short_item R (ByteItem b) = ByteItem b
short_item R (CallItem (RequestCall id a)) = CallItem (RequestCall id (short_call R id a))
short_item R (CallItem CountCall) = CallItem CountCall

-- the rows of a queued say before 10
abbrev pub first_rows : QueueMemory → ℕ → Output → List Row
first_rows m id o = (2 when not (length m.queue =? QUEUE)) ∷ rows_of m id (stream_rows m id o [])

-- the number of its refusal by one of them, 0 for none
unfoldable pub first_refusal : QueueMemory → ℕ → Output → ℕ
first_refusal m id o = refusal (first_rows m id o)

-- ---- one say
-- the row of 10 comes last
ten_last : (a b c d e f g : Bool) → refusal ((2 when a) ∷ (9 when b) ∷ (1 when c) ∷ (3 when d) ∷ (4 when e) ∷ (5 when f) ∷ (10 when g) ∷ [])
    ≡ (if refusal ((2 when a) ∷ (9 when b) ∷ (1 when c) ∷ (3 when d) ∷ (4 when e) ∷ (5 when f) ∷ []) =? 0 then (if g then 10 else 0)
    else refusal ((2 when a) ∷ (9 when b) ∷ (1 when c) ∷ (3 when d) ∷ (4 when e) ∷ (5 when f) ∷ []))
ten_last true b c d e f g = refl
ten_last false true c d e f g = refl
ten_last false false true d e f g = refl
ten_last false false false true e f g = refl
ten_last false false false false true f g = refl
ten_last false false false false false true g = refl
ten_last false false false false false false g = refl

-- The refusal of a queued say is by a row before 10, or by 10 for want of room.
pub say_refused : (m : QueueMemory) (id : ℕ) (o : Output) (content : List ℕ)
    → say_refusal m id o content ≡ (if first_refusal m id o =? 0 then (if not (has_room_for (wait_at m (T.slot_of m id)) content) then 10 else 0) else first_refusal m id o)
unfolding say_refusal first_refusal
say_refused m id o content =
    let rows = queued_rows m id (D.ToSay o content) in
    ten_last (holds_in 2 rows) (holds_in 9 rows) (holds_in 1 rows) (holds_in 3 rows) (holds_in 4 rows) (holds_in 5 rows) (holds_in 10 rows)

-- Where one holds, it is by that, whatever the bytes.
pub say_first : (m : QueueMemory) (id : ℕ) (o : Output) (content : List ℕ) → eqb (first_refusal m id o) 0 ≡ false → say_refusal m id o content ≡ first_refusal m id o
say_first m id o content e = say_refused m id o content ∙ ap (λ (b : Bool). if b then (if not (has_room_for (wait_at m (T.slot_of m id)) content) then 10 else 0) else first_refusal m id o) e

-- Where no row before 10 holds, it is by 10 or not at all.
pub say_last : (m : QueueMemory) (id : ℕ) (o : Output) (content : List ℕ) → eqb (first_refusal m id o) 0 ≡ true
    → say_refusal m id o content ≡ (if not (has_room_for (wait_at m (T.slot_of m id)) content) then 10 else 0)
say_last m id o content e = say_refused m id o content ∙ ap (λ (b : Bool). if b then (if not (has_room_for (wait_at m (T.slot_of m id)) content) then 10 else 0) else first_refusal m id o) e

-- What is refused by a row before 10 changes nothing.
pub first_called : (m : QueueMemory) (id : ℕ) (o : Output) (content : List ℕ) → eqb (first_refusal m id o) 0 ≡ false
    → queue_called m id (D.ToSay o content) ≡ record { left = m; answer = Queued (first_refusal m id o) }
unfolding queue_called T.queue_say
first_called m id o content e = rw (say_first m id o content e, e)

-- more than ROOM bytes have no room
no_room_lem : (m : QueueMemory) (id : ℕ) (content : List ℕ) → leb (length content) ROOM ≡ false → has_room_for (wait_at m (T.slot_of m id)) content ≡ false
unfolding has_room_for
no_room_lem m id content l = let h : ROOM < (wait_at m (T.slot_of m id)).count + length content = omega (arith, leb-false (length content) ROOM l) in lt-leb ((wait_at m (T.slot_of m id)).count + length content) ROOM h

-- A say that is too long, and not refused by 10, is refused by a row before it.
pub long_first : (m : QueueMemory) (id : ℕ) (o : Output) (content : List ℕ) → leb (length content) ROOM ≡ false → eqb (say_refusal m id o content) 10 ≡ false → eqb (first_refusal m id o) 0 ≡ false
long_first m id o content l h =
    by_test (eqb (first_refusal m id o) 0) (λ e. both_ways (eqb (say_refusal m id o content) 10) (rw (say_last m id o content e, no_room_lem m id content l)) h) (λ e. e)

-- Where a row before 10 holds, or there are at most ROOM bytes, the shortened say does the same.
pub say_short : (m : QueueMemory) (id : ℕ) (o : Output) (content : List ℕ) → (leb (length content) ROOM ≡ false → eqb (first_refusal m id o) 0 ≡ false)
    → queue_called m id (D.ToSay o (take ROOM content)) ≡ queue_called m id (D.ToSay o content)
say_short m id o content f =
    by_test (leb (length content) ROOM)
    (λ l. ap (λ (c : List ℕ). queue_called m id (D.ToSay o c)) (take_all ROOM content (leb-true (length content) ROOM l)))
    (λ l. first_called m id o (take ROOM content) (f l) ∙ sym (first_called m id o content (f l)))

-- A queued say answers with its refusal.
pub say_answer : (m : QueueMemory) (id : ℕ) (o : Output) (content : List ℕ) → (queue_called m id (D.ToSay o content)).answer ≡ Queued (say_refusal m id o content)
unfolding queue_called T.queue_say
say_answer m id o content = by_test (eqb (say_refusal m id o content) 0) (λ t. rw t (ap Queued (sym (eqb-true (say_refusal m id o content) 0 t)))) (λ t. rw t)

-- A call that is not refused by 10 does the same shortened.
pub call_short : (m : QueueMemory) (id : ℕ) (a : Asking) → is_ten (queue_called m id a).answer ≡ false → queue_called m id (shortened a) ≡ queue_called m id a
call_short m id (D.Straight a) h = refl
call_short m id (D.ToSay o content) h = say_short m id o content (λ l. long_first m id o content l (sym (ap is_ten (say_answer m id o content)) ∙ h))
call_short m id (D.ToEnd o) h = refl
call_short m id (D.ToFinish status) h = refl

-- ---- items
-- shortened items have the same bytes
pub short_bytes_lem : (R : ℕ) (t : List (Item Asking)) → item_bytes (map (short_item R) t) ≡ item_bytes t
unfolding item_bytes
short_bytes_lem R [] = refl
short_bytes_lem R (ByteItem b ∷ t) = ap (λ l. b ∷ l) (short_bytes_lem R t)
short_bytes_lem R (CallItem (RequestCall id a) ∷ t) = short_bytes_lem R t
short_bytes_lem R (CallItem CountCall ∷ t) = short_bytes_lem R t

-- Striking out leaves the same of them, shortened.
pub short_purged : (R : ℕ) (k : Scan) (t : List (Item Asking)) → purge_from R k (map (short_item R) t) ≡ map (short_item R) (purge_from R k t)
unfolding purge_from is_own_call
short_purged R k [] = refl
short_purged R k (ByteItem b ∷ t) =
    let i = short_purged R (scan_next R k b) t in
    rw (short_bytes_lem R t) (by_test (is_own R k (b ∷ item_bytes t)) (λ d. rw d (ap (λ l. ByteItem b ∷ l) i)) (λ d. rw d i))
short_purged R k (CallItem CountCall ∷ t) = short_purged R k t
short_purged R k (CallItem (RequestCall id a) ∷ t) =
    let i = short_purged R k t in
    by_test (eqb id R) (λ e. rw e (rw e (ap (λ l. CallItem (RequestCall id (shortened a)) ∷ l) i))) (λ e. rw e i)

-- bytes as items are not shortened
short_used : (R : ℕ) (x : List ℕ) (t : List (Item Asking)) → map (short_item R) (byte_items x ++ t) ≡ byte_items x ++ map (short_item R) t
unfolding byte_items
short_used R [] t = refl
short_used R (b ∷ x) t = ap (λ l. ByteItem b ∷ l) (short_used R x t)

-- ---- a run
module _ (R : ℕ) where
  -- a call of any id
  called_short : (m : QueueMemory) (id : ℕ) (a : Asking) → (id ≡ R → is_ten (queue_called m id a).answer ≡ false) → queue_called m id (short_call R id a) ≡ queue_called m id a
  called_short m id a h = by_test (eqb id R) (λ e. rw e (call_short m id a (h (eqb-true id R e)))) (λ e. rw e)

  -- What it leaves is the same.
  pub left_short : (m : QueueMemory) (id : ℕ) (a : Asking) → (id ≡ R → is_ten (queue_called m id a).answer ≡ false) → queue_after m (CallFor id (short_call R id a)) ≡ queue_after m (CallFor id a)
  unfolding queue_after
  left_short m id a h = ap (λ (r : QueueResult). r.left) (called_short m id a h)

  -- the run with R's queued says shortened
  abbrev pub short_run : List QueueOperation → List QueueOperation
  short_run os = map (short_operation R) os

  -- it ends the same
  short_final : (os : List QueueOperation) (m : QueueMemory) → NeverTenFrom R m os → final_queue m (short_run os) ≡ final_queue m os
  unfolding final_queue queue_after
  short_final [] m h = refl
  short_final (StepOver piece ∷ os) m h = short_final os (queue_after m (StepOver piece)) h
  short_final (CallFor id a ∷ os) m h = ap (λ n. final_queue n (short_run os)) (left_short m id a h.0) ∙ short_final os (queue_after m (CallFor id a)) h.1
  short_final (CountActive ∷ os) m h = short_final os m h
  short_final (TurnWith allowance buffer ∷ os) m h = short_final os (queue_after m (TurnWith allowance buffer)) h

  -- its timeline is shortened
  short_timeline : (os : List QueueOperation) (m : QueueMemory) → NeverTenFrom R m os → queue_timeline m (short_run os) ≡ map (short_item R) (queue_timeline m os)
  unfolding queue_timeline queue_items queue_after
  short_timeline [] m h = refl
  short_timeline (StepOver piece ∷ os) m h =
      let n = queue_after m (StepOver piece) in
      ap (λ l. byte_items (used_of m piece) ++ l) (short_timeline os n h) ∙ sym (short_used R (used_of m piece) (queue_timeline n os))
  short_timeline (CallFor id a ∷ os) m h =
      ap (λ l. CallItem (RequestCall id (short_call R id a)) ∷ l) (ap (λ n. queue_timeline n (short_run os)) (left_short m id a h.0) ∙ short_timeline os (queue_after m (CallFor id a)) h.1)
  short_timeline (CountActive ∷ os) m h = ap (λ l. CallItem CountCall ∷ l) (short_timeline os m h)
  short_timeline (TurnWith allowance buffer ∷ os) m h = short_timeline os (queue_after m (TurnWith allowance buffer)) h

  -- its notes are the same
  short_notes : (os : List QueueOperation) (m : QueueMemory) → NeverTenFrom R m os → notes_all m (short_run os) ≡ notes_all m os
  unfolding notes_all
  short_notes [] m h = refl
  short_notes (StepOver piece ∷ os) m h = ap (λ l. notes (queue_step m piece).event (used_of m piece) ++ l) (short_notes os (queue_after m (StepOver piece)) h)
  short_notes (CallFor id a ∷ os) m h = ap (λ n. notes_all n (short_run os)) (left_short m id a h.0) ∙ short_notes os (queue_after m (CallFor id a)) h.1
  short_notes (CountActive ∷ os) m h = short_notes os m h
  short_notes (TurnWith allowance buffer ∷ os) m h = short_notes os (queue_after m (TurnWith allowance buffer)) h

  -- no call of R is refused by 10
  short_tens : (os : List QueueOperation) (m : QueueMemory) → NeverTenFrom R m os → NeverTenFrom R m (short_run os)
  short_tens [] m h = tt
  short_tens (StepOver piece ∷ os) m h = short_tens os (queue_after m (StepOver piece)) h
  short_tens (CallFor id a ∷ os) m h = (
    λ e. ap (λ (r : QueueResult). is_ten r.answer) (called_short m id a h.0) ∙ h.0 e,
    subst (λ n. NeverTenFrom R n (short_run os)) (sym (left_short m id a h.0)) (short_tens os (queue_after m (CallFor id a)) h.1),
  )
  short_tens (CountActive ∷ os) m h = short_tens os m h
  short_tens (TurnWith allowance buffer ∷ os) m h = short_tens os (queue_after m (TurnWith allowance buffer)) h

  -- no byte of R's comes between a finish and its END
  short_quiet : (os : List QueueOperation) (m : QueueMemory) (k : Scan) → NeverTenFrom R m os → QuietFrom R m k os → QuietFrom R m k (short_run os)
  short_quiet [] m k h q = tt
  short_quiet (StepOver piece ∷ os) m k h q =
      let n = queue_after m (StepOver piece) in (
        subst (λ l. QuietBytes R (leaving_of R m) k (used_of m piece) l) (sym (ap item_bytes (short_timeline os n h) ∙ short_bytes_lem R (queue_timeline n os))) q.0,
        short_quiet os n (scanned R k (used_of m piece)) h q.1,
      )
  short_quiet (CallFor id a ∷ os) m k h q =
      subst (λ n. QuietFrom R n k (short_run os)) (sym (left_short m id a h.0)) (short_quiet os (queue_after m (CallFor id a)) k h.1 q)
  short_quiet (CountActive ∷ os) m k h q = short_quiet os m k h q
  short_quiet (TurnWith allowance buffer ∷ os) m k h q = short_quiet os (queue_after m (TurnWith allowance buffer)) k h q

  -- Its pieces are the same.
  pub short_pieces : (os : List QueueOperation) → PiecesAreBytes os → PiecesAreBytes (short_run os)
  short_pieces [] p = tt
  short_pieces (StepOver piece ∷ os) p = (p.0, short_pieces os p.1)
  short_pieces (CallFor id a ∷ os) p = short_pieces os p
  short_pieces (CountActive ∷ os) p = short_pieces os p
  short_pieces (TurnWith allowance buffer ∷ os) p = short_pieces os p

-- A run with R's queued says shortened to ROOM bytes.
abbrev pub short_of : ℕ → QueueRun → QueueRun
short_of R A =
    record {
      gathered = A.gathered;
      store = A.store;
      queue = A.queue;
      marks = A.marks;
      operations = short_run R A.operations;
      gathered_size = A.gathered_size;
      store_size = A.store_size;
      queue_size = A.queue_size;
      marks_size = A.marks_size;
      pieces = short_pieces R A.operations A.pieces;
    }

module _ (R : ℕ) (A : QueueRun) (settled : Settled R A) where
  -- It ends the same.
  pub same_ending : ending (short_of R A) ≡ ending A
  same_ending = short_final R A.operations (beginning A) settled.never_ten

  -- Its timeline is shortened.
  pub same_timeline : timeline_of (short_of R A) ≡ map (short_item R) (timeline_of A)
  same_timeline = short_timeline R A.operations (beginning A) settled.never_ten

  -- It ends between two records if the run does.
  pub ends_short : EndsBetweenRecords A → EndsBetweenRecords (short_of R A)
  ends_short e =
      let same : item_bytes (timeline_of (short_of R A)) ≡ item_bytes (timeline_of A) = ap item_bytes same_timeline ∙ short_bytes_lem R (timeline_of A) in
      record { is_open = ap (λ m. (conn_of m).«open») same_ending ∙ e.is_open; no_rest = ap (λ l. (split l).rest) same ∙ e.no_rest }

  -- R is not refused there for want of a slot if it is not in the run.
  pub never_short : NeverOverloaded R A → NeverOverloaded R (short_of R A)
  never_short n h = n (subst (λ l. Memᴰ (Note.Told (Event.Refuse R OVERLOADED)) l) (short_notes R A.operations (beginning A) settled.never_ten) h)

  -- It is settled.
  pub settled_short : Settled R (short_of R A)
  settled_short = record {
    never_ten = short_tens R A.operations (beginning A) settled.never_ten;
    quiet = short_quiet R A.operations (beginning A) (ScanHeader []) settled.never_ten settled.quiet;
    nothing_waits = ap (waits_of R) same_ending ∙ settled.nothing_waits;
  }
