-- What a turn keeps: the sizes of all that is lent, and at most ROOM bytes in each slot. Its records are short.
use Rattle.std.specs.Prelude.{◌≡◌, ℕ, ◌≤◌, ◌<◌, Bool, true, false, List, [], length, eqb}
use Rattle.std.proofs.Common.{sym, ◌∙◌, subst, arith, length-set, length-take, length-drop, eqb-true}
use Rattle.std.proofs.lemmas.List.{length-replicate}
use Rattle.std.proofs.lemmas.Bool.{eqb-false}
use Rattle.wire.specs.Test.{by_test}
use Rattle.wire.specs.Buffer.{zeros}
use Rattle.slot_word.proofs.WordLaws.{taken_out}
use Rattle.record.specs.Names.{END_REQUEST, REQUEST_COMPLETE}
use Rattle.record.specs.Body.{end_body_bytes}
use Rattle.record.proofs.BodyLaws.{end_length}
use Rattle.record_writer.specs.Written.{padding_of, record_length, record_bytes}
use Rattle.record_writer.proofs.WrittenLaws.{record_length_lem}
use Rattle.machine_queue.specs.Pump.{slot_after}
use Rattle.connection.specs.declared.request.Request.{Request}
use Rattle.connection.specs.Sizes.{SLOTS, AREA, STORE}
use Rattle.connection.specs.Codes.{output_type}
use Rattle.connection.specs.Slots.{request_at, area_at}
use Rattle.connection.proofs.Laws.SlotsLaws.{area_length, put_area_length}
use Rattle.queue_slot.specs.Wait.{ROOM, Wait, nothing_in, Served, ServesNothing, ServesEnd, ServesData, ServesLast, served}
use Rattle.queue_slot.proofs.WaitLaws.{Sized}
use Rattle.queue_slot.proofs.ServeLaws.{ServedWell, served_well}
use Rattle.queue.specs.Numbers.{NEXT, WAITS, nobody_waits, count_at, numbers_at}
use Rattle.queue.proofs.NumberLaws.{numbers_length, count_of_put, count_of_other, count_of_next, front_of_next, last_of_next, status_of_next}
use Rattle.queue.specs.Calls.{QUEUE, QueueMemory, room_at, wait_at, put_wait, PumpedRecord, served_last, released_slot, write_served, pump_slot}
use Rattle.queue.proofs.Areas.{Roomy, roomy_put}

-- Each has its size, and over ROOM data bytes wait in no slot.
pub record Able (store waits marks queue : List ℕ) : Type 0 where
  pub store_size : length store ≡ STORE
  pub waits_size : length waits ≡ WAITS
  pub marks_size : length marks ≡ QUEUE
  pub queue_size : length queue ≡ QUEUE
  pub counts_fit : (j : ℕ) → j < SLOTS → count_at waits j ≤ ROOM

-- all that is lent
abbrev pub AbleIn : QueueMemory → Type 0
AbleIn m = Able m.memory.store m.waits m.marks m.queue

-- ---- the slot served last
-- What waits in a slot stays where only the slot to begin with changes.
pub wait_of_next : (m : QueueMemory) (i j : ℕ) → j < SLOTS → wait_at (served_last m i) j ≡ wait_at m j
unfolding wait_at
wait_of_next m i j h =
    let n = slot_after SLOTS i in
    rw (count_of_next m.waits n j h, front_of_next m.waits n j, last_of_next m.waits n j, status_of_next m.waits n j h)

-- The sizes stay, and the counts.
pub able_next : (m : QueueMemory) (i : ℕ) → AbleIn m → AbleIn (served_last m i)
able_next m i z = record {
  store_size = z.store_size;
  waits_size = length-set m.waits NEXT (slot_after SLOTS i) ∙ z.waits_size;
  marks_size = z.marks_size;
  queue_size = z.queue_size;
  counts_fit = λ j h. rw (count_of_next m.waits (slot_after SLOTS i) j h) (z.counts_fit j h);
}

-- as the laws of areas have it
pub roomy : (m : QueueMemory) → AbleIn m → Roomy m
roomy m z = record { waits = z.waits_size; queue = z.queue_size; marks = z.marks_size }

-- ---- what waits in one slot
room_length : (l : List ℕ) (i : ℕ) → length l ≡ QUEUE → i < SLOTS → length (room_at l i) ≡ ROOM
room_length l i e h = simp (length-take, length-drop) (omega arith)

-- What waits in a slot has its sizes.
pub able_sized : (m : QueueMemory) (i : ℕ) → AbleIn m → i < SLOTS → Sized (wait_at m i)
unfolding wait_at
able_sized m i z h = record { count_fits = z.counts_fit i h; bytes_size = room_length m.queue i z.queue_size h; marks_size = room_length m.marks i z.marks_size h }

-- ---- after a record
-- counts after the numbers of one slot were put
counts_put : (waits : List ℕ) (i : ℕ) (w : Wait) → length waits ≡ WAITS → i < SLOTS → w.count ≤ ROOM → ((j : ℕ) → j < SLOTS → count_at waits j ≤ ROOM)
    → (j : ℕ) → j < SLOTS → count_at (numbers_at waits i w) j ≤ ROOM
counts_put waits i w full low h f j g =
    by_test (eqb j i)
    (λ e. let same : j ≡ i = eqb-true j i e in
    subst (λ (k : ℕ). count_at (numbers_at waits i w) k ≤ ROOM) (sym same) (rw (count_of_put waits i w full low) h))
    (λ e. rw (count_of_other waits i w full low j g (eqb-false j i e)) (f j g))

-- Something else waits in slot i.
able_put : (m : QueueMemory) (i : ℕ) (w : Wait) → AbleIn m → i < SLOTS → Sized w → AbleIn (put_wait m i w)
unfolding put_wait
able_put m i w z h s =
    let r = roomy_put m i w (roomy m z) h s in
    record {
      store_size = z.store_size;
      waits_size = r.waits;
      marks_size = r.marks;
      queue_size = r.queue;
      counts_fit = counts_put m.waits i w z.waits_size h s.count_fits z.counts_fit;
    }

-- nothing waits anywhere
counts_none : (j : ℕ) → j < SLOTS → count_at nobody_waits j ≤ ROOM
unfolding count_at
counts_none j h = rw (taken_out 0 j 0 (omega arith) (omega arith)) (omega arith)

-- END is written.
able_released : (m : QueueMemory) (i : ℕ) (keep : Bool) → AbleIn m → i < SLOTS → AbleIn (released_slot m i keep)
able_released m i true z h =
    let store = m.memory.store in
    let whole : length (zeros (length (area_at store i))) ≡ AREA = length-replicate (length (area_at store i)) 0 ∙ area_length store i z.store_size h in
    record {
      store_size = put_area_length store i (zeros (length (area_at store i))) z.store_size h whole;
      waits_size = numbers_length m.waits i (nothing_in [] []) z.waits_size h;
      marks_size = z.marks_size;
      queue_size = z.queue_size;
      counts_fit = counts_put m.waits i (nothing_in [] []) z.waits_size h (omega arith) z.counts_fit;
    }
able_released m i false z h = record {
  store_size = length-replicate (length m.memory.store) 0 ∙ z.store_size;
  waits_size = length-replicate {A = ℕ} WAITS 0;
  marks_size = z.marks_size;
  queue_size = z.queue_size;
  counts_fit = counts_none;
}

-- a record of at most 512 content bytes takes at most 520
pub short_record : (kind id : ℕ) (x : List ℕ) → length x ≤ 512 → length (record_bytes kind id x) ≤ 520
unfolding record_length padding_of
short_record kind id x h = rw (record_length_lem kind id x) (omega arith)

-- What is kept, and how long the record is, by what is served.
pub record Kept (p : PumpedRecord) : Type 0 where
  pub able : AbleIn p.left
  pub short : length p.bytes ≤ 520

kept_served : (m : QueueMemory) (i : ℕ) (r : Request) (w : Wait) (s : Served) → AbleIn m → i < SLOTS → ServedWell w s → Kept (write_served m i r s)
unfolding write_served
kept_served m i r w ServesNothing z h f = record { able = z; short = omega arith }
kept_served m i r w (ServesEnd o v) z h f = record { able = able_put m i v z h f.1; short = short_record (output_type o) r.id [] (omega arith) }
kept_served m i r w (ServesData o content v) z h f = record { able = able_put m i v z h f.1; short = short_record (output_type o) r.id content (omega (arith, f.4)) }
kept_served m i r w (ServesLast status) z h f = record {
  able = able_released m i r.state.keep z h;
  short = short_record END_REQUEST r.id (end_body_bytes status REQUEST_COMPLETE) (omega (arith, end_length status REQUEST_COMPLETE));
}

-- A record of slot i keeps sizes and counts, and is at most 520 bytes long.
pub kept_slot : (m : QueueMemory) (i : ℕ) → AbleIn m → i < SLOTS → Kept (pump_slot m i)
unfolding pump_slot
kept_slot m i z h =
    let w = wait_at m i in
    kept_served (served_last m i) i (request_at m.memory.state.conn.table i) w (served w) (able_next m i z) h (served_well w (able_sized m i z h))
