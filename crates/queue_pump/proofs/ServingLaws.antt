-- What each function of a serve writes and leaves is what the definition says.
use Rattle.std.specs.Prelude.{◌≡◌, refl, ℕ, ◌+◌, ◌*◌, ◌-◌, ◌≤◌, ◌<◌, Bool, true, false, List, [], length, take, drop, set, if◌then◌else◌}
use Rattle.std.proofs.Common.{sym, ap, ap₂, ◌∙◌, subst, arith, add-zero, length-take, length-drop, take-take, length-take-le, ne_eqb}
use Rattle.wire.specs.Test.{◌=?◌, by_test}
use Rattle.wire.specs.Buffer.{put_at, byte_at, zeros}
use Rattle.wire.proofs.BufferLaws.{put_none}
use Rattle.record.specs.Names.{END_REQUEST, REQUEST_COMPLETE}
use Rattle.record.specs.Body.{end_body_bytes}
use Rattle.record.proofs.BodyLaws.{end_length}
use Rattle.record_writer.specs.Written.{record_bytes, Placed, record_placed}
use Rattle.connection.specs.declared.request.Request.{Request}
use Rattle.connection.specs.declared.state.Conn.{Conn}
use Rattle.connection.specs.declared.answer.Output.{Output}
use Rattle.connection.specs.Sizes.{SLOTS}
use Rattle.connection.specs.Codes.{output_type}
use Rattle.connection.specs.Slots.{request_at, area_at, put_area}
use Rattle.connection.specs.Step.{closed_conn}
use Rattle.connection.specs.Calls.{released}
use Rattle.connection.specs.Run.{Memory}
use Rattle.call_finish.proofs.Laws.{record_put}
use Rattle.queue_slot.specs.declared.Ends.{Ends}
use Rattle.queue_slot.specs.declared.Numbers.{Numbers}
use Rattle.queue_slot.specs.Atoms.{RUN}
use Rattle.queue_slot.specs.Wait.{ROOM, Wait, nothing_in, no_ends, mark_stream, run_length, Served, ServesNothing, ServesLast, with_front, without_first, serve_run, serve_data, serve_from, served}
use Rattle.queue_slot.proofs.ServeLaws.{run_of}
use Rattle.machine_queue.specs.Pump.{slot_after}
use Rattle.queue.proofs.NumberLaws.{count_of_next}
use Rattle.queue.specs.Numbers.{NEXT, nobody_waits, count_at, front_at, last_at, numbers_at}
use Rattle.queue.specs.Calls.{QUEUE, QueueMemory, beside, lent, room_at, wait_at, put_wait, PumpedRecord, served_last, released_slot, write_served, pump_slot}
use Rattle.wait_numbers.specs.Slot.{numbers_in}
use Rattle.queue_pump.specs.Able.{Able, short_record, wait_of_next}
use Rattle.queue_pump.specs.Serving.{only_end, Servable, Filled, Wrote, Serves, serve_end, serve_longest}

-- ---- a record of at most 512 content bytes
-- It is written where there are 520 bytes for it.
wrote_placed : {p : PumpedRecord} {left : QueueMemory} {out after : List ℕ} {at next : ℕ} (kind id : ℕ) (x : List ℕ)
    → left ≡ p.left → record_bytes kind id x ≡ p.bytes → length x ≤ 512 → at + 520 ≤ length out
    → ◌≡◌ {A = Placed} (record { next = next; buffer = after }) (record_placed out at kind id x) → Wrote p left out after at next
wrote_placed {p} {left} {out} {after} {at} {next} kind id x e same short room w =
    let v = record_put out at kind id x {l' = after} {n = next} (omega arith) (omega (arith, short_record kind id x short)) w in
    record { leaves = e; place = v.0 ∙ ap (λ (l : List ℕ). at + length l) same; buffer = v.1 ∙ ap (λ (l : List ℕ). put_at out at l) same }

-- ---- the end of a stream
pub end_served : (m : QueueMemory) (i : ℕ) (o : Output) (e : Ends) (r : Request) {id kind : ℕ} {left : QueueMemory} {out after : List ℕ} {at next : ℕ}
    → Servable i out at → r.id ≡ id → kind ≡ output_type o → left ≡ put_wait m i (with_front (wait_at m i) e)
    → ◌≡◌ {A = Placed} (record { next = next; buffer = after }) (record_placed out at kind id [])
    → Wrote (write_served m i r (serve_end o e (wait_at m i))) left out after at next
unfolding write_served
end_served m i o e r {id} {kind} s same et el w = wrote_placed kind id [] el (ap₂ (λ (k n : ℕ). record_bytes k n []) et (sym same)) (omega arith) s.room w

-- ---- the longest run of one stream
-- how long it is
pub record RunFits (k count : ℕ) : Type 0 where
  pub some : 0 < k
  pub within : k ≤ count
  pub short : k ≤ 512

run_fits : (y : List ℕ) → 0 < length y → RunFits (run_length RUN y) (length y)
run_fits y h = let r = run_of 511 y y refl h in record { some = omega (arith, r.is_run); within = omega (arith, r.is_run, r.within); short = omega (arith, r.is_run, r.short) }

-- The code's run: some of the bytes, at most 512.
pub run_short : (marks : List ℕ) (i count : ℕ) {k : ℕ} → length marks ≡ QUEUE → i < SLOTS → count ≤ ROOM → 0 < count
    → k ≡ run_length RUN (take count (room_at marks i)) → RunFits k count
run_short marks i count {k} size low fits some e =
    let l : length (room_at marks i) ≡ ROOM = simp (length-take, length-drop) (omega arith) in
    let n : length (take count (room_at marks i)) ≡ count = length-take-le count (room_at marks i) (omega arith) in
    let f = run_fits (take count (room_at marks i)) (omega arith) in
    record { some = omega (arith, f.some); within = omega (arith, f.within); short = omega (arith, f.short) }

-- its bytes, as a part of the queue
run_bytes : (queue : List ℕ) (i k : ℕ) → k ≤ ROOM → take (i * ROOM + k - i * ROOM) (drop (i * ROOM) queue) ≡ take k (room_at queue i)
run_bytes queue i k h =
    let n : i * ROOM + k - i * ROOM ≡ k = omega arith in
    ap (λ (j : ℕ). take j (drop (i * ROOM) queue)) n ∙ sym (take-take k ROOM (drop (i * ROOM) queue) h)

pub data_served : (memory : Memory) (waits marks queue : List ℕ) (i count : ℕ) (r : Request) {k id kind : ℕ} {o : Output} {left : QueueMemory} {out after : List ℕ} {at next : ℕ}
    → Servable i out at → Filled waits marks queue i count → 0 < count → r.id ≡ id
    → k ≡ run_length RUN (take count (room_at marks i)) → o ≡ mark_stream (byte_at (room_at marks i) 0) → kind ≡ output_type o
    → ◌≡◌ {A = Placed} (record { next = next; buffer = after }) (record_placed out at kind id (take (i * ROOM + k - i * ROOM) (drop (i * ROOM) queue)))
    → left ≡ put_wait (beside memory waits marks queue) i (without_first (wait_at (beside memory waits marks queue) i) k)
    → Wrote (write_served (beside memory waits marks queue) i r (serve_longest (wait_at (beside memory waits marks queue) i))) left out after at next
unfolding write_served serve_run wait_at
data_served memory waits marks queue i count r {k} {id} {kind} {o} s f some same ek eo et w el =
    let m = beside memory waits marks queue in
    let n = run_short marks i count f.marks_size s.low f.fits some ek in
    let ec : k ≡ run_length RUN (take (count_at waits i) (room_at marks i)) = ek ∙ ap (λ (j : ℕ). run_length RUN (take j (room_at marks i))) f.counted in
    let x = take (i * ROOM + k - i * ROOM) (drop (i * ROOM) queue) in
    let ex : x ≡ take k (room_at queue i) = run_bytes queue i k (omega (arith, f.fits, n.within)) in
    let lx : length x ≤ 512 = rw ex (simp length-take (omega (arith, n.short))) in
    let bytes : record_bytes kind id x ≡ record_bytes (output_type (mark_stream (byte_at (room_at marks i) 0))) r.id (take (run_length RUN (take (count_at waits i) (room_at marks i))) (room_at queue i)) =
    ap (λ (l : List ℕ). record_bytes kind id l) (ex ∙ ap (λ (j : ℕ). take j (room_at queue i)) ec)
    ∙ ap₂ (λ (t n : ℕ). record_bytes t n (take (run_length RUN (take (count_at waits i) (room_at marks i))) (room_at queue i))) (et ∙ ap output_type eo) (sym same) in
    wrote_placed kind id x (el ∙ ap (λ (j : ℕ). put_wait m i (without_first (wait_at m i) j)) ec) bytes lx s.room w

-- ---- what waits first
-- by the ends at the front
pub front_served : (what : Wait → Served) (waits marks queue : List ℕ) (left : Memory → QueueMemory) (i id : ℕ) {out after : List ℕ} {at next : ℕ} (e : Ends) {n : Numbers}
    → n ≡ numbers_in waits i → n.front ≡ e
    → ((memory : Memory) → what (wait_at (beside memory waits marks queue) i) ≡ serve_from e (wait_at (beside memory waits marks queue) i))
    → Serves what i id (λ m. beside m waits marks queue) left out after at next
    → Serves served i id (λ m. beside m waits marks queue) left out after at next
unfolding wait_at
front_served what waits marks queue left i id {out} {after} {at} {next} e en ee h f = λ memory r same.
    let m = beside memory waits marks queue in
    let front : front_at waits i ≡ e = sym (ap (λ (k : Numbers). k.front) en) ∙ ee in
    subst (λ (v : Served). Wrote (write_served m i r v) (left memory) out after at next) (h memory ∙ ap (λ (d : Ends). serve_from d (wait_at m i)) (sym front)) (f memory r same)

-- data
pub longest_served : (memory : Memory) (waits marks queue : List ℕ) (i : ℕ) {n : Numbers} → n ≡ numbers_in waits i → (n.count ≡ 0 → ⊥)
    → serve_longest (wait_at (beside memory waits marks queue) i) ≡ serve_from Ends.None (wait_at (beside memory waits marks queue) i)
unfolding wait_at serve_data
longest_served memory waits marks queue i en some =
    let c = ap (λ (k : Numbers). k.count) en in
    simp (ne_eqb (count_at waits i) 0 (λ e. some (c ∙ e)))

-- nothing waits, not even END
pub none_served : (memory : Memory) (waits marks queue : List ℕ) (i : ℕ) {n : Numbers} → n ≡ numbers_in waits i → n.front ≡ Ends.None → n.count ≡ 0 → only_end n.front n.count n.last ≡ false
    → ServesNothing ≡ serve_from Ends.None (wait_at (beside memory waits marks queue) i)
unfolding wait_at serve_data only_end
none_served memory waits marks queue i {n} en ef ec eo =
    let c : count_at waits i ≡ 0 = sym (ap (λ (k : Numbers). k.count) en) ∙ ec in
    let l : n.last ≡ false = simp (ef, ec) at eo in
    let k : last_at waits i ≡ false = sym (ap (λ (j : Numbers). j.last) en) ∙ l in
    simp (c, k)

-- then nothing is written
pub nothing_served : (m : Memory → QueueMemory) (i id : ℕ) (out : List ℕ) (at : ℕ) → Serves (λ w. ServesNothing) i id m m out out at at
unfolding write_served
nothing_served m i id out at = λ memory r same. record { leaves = refl; place = sym (add-zero at); buffer = sym (put_none out at) }

-- ---- END
-- by the ends at the front
alone : (w : Wait) (e : Ends) → w.front ≡ e → only_end e w.count w.last ≡ true → served w ≡ ServesLast w.status
unfolding only_end serve_data
alone w e ef eo = by_test (w.count =? 0) (λ z. go e ef (rw z at eo) z) (λ z. let y : ◌≡◌ {A = ℕ} 0 1 = cc (rw z at eo) in absurd (omega arith))
  where
    go : (e : Ends) → w.front ≡ e → (if no_ends e then w.last else false) ≡ true → (w.count =? 0) ≡ true → served w ≡ ServesLast w.status
    go Ends.None ef l z = rw (ef, z, l)
    go Ends.Out ef l z = let y : ◌≡◌ {A = ℕ} 0 1 = cc in absurd (omega arith)
    go Ends.Err ef l z = let y : ◌≡◌ {A = ℕ} 0 1 = cc in absurd (omega arith)
    go Ends.OutErr ef l z = let y : ◌≡◌ {A = ℕ} 0 1 = cc in absurd (omega arith)
    go Ends.ErrOut ef l z = let y : ◌≡◌ {A = ℕ} 0 1 = cc in absurd (omega arith)

-- END alone waits.
pub last_alone : (memory : Memory) (waits marks queue : List ℕ) (i : ℕ) {n : Numbers} → n ≡ numbers_in waits i → only_end n.front n.count n.last ≡ true
    → served (wait_at (beside memory waits marks queue) i) ≡ ServesLast n.status
unfolding wait_at
last_alone memory waits marks queue i {n} en eo =
    let a : only_end (front_at waits i) (count_at waits i) (last_at waits i) ≡ true = subst (λ (k : Numbers). only_end k.front k.count k.last ≡ true) en eo in
    alone (wait_at (beside memory waits marks queue) i) (front_at waits i) refl a ∙ ap (λ (k : Numbers). ServesLast k.status) (sym en)

-- what is left, by KEEP_CONN
pub last_kept : (m : QueueMemory) (i : ℕ) (r : Request) (status : ℕ) {left : QueueMemory} {out after body : List ℕ} {at next : ℕ} → Servable i out at
    → body ≡ end_body_bytes status REQUEST_COMPLETE → left ≡ released_slot m i r.state.keep
    → ◌≡◌ {A = Placed} (record { next = next; buffer = after }) (record_placed out at END_REQUEST r.id body)
    → Wrote (write_served m i r (ServesLast status)) left out after at next
unfolding write_served
last_kept m i r status s eb el w =
    wrote_placed END_REQUEST r.id (end_body_bytes status REQUEST_COMPLETE) el refl (omega (arith, end_length status REQUEST_COMPLETE)) s.room (rw eb at w)

-- the slot is given back
pub slot_released : (c : Conn) (gathered store waits marks queue : List ℕ) (i : ℕ) {keep : Bool} {c' : Conn} {store' waits' : List ℕ} → keep ≡ true
    → c' ≡ released c i → store' ≡ put_area store i (zeros (length (area_at store i))) → waits' ≡ numbers_at waits i (nothing_in [] [])
    → lent c' gathered store' waits' marks queue ≡ released_slot (lent c gathered store waits marks queue) i keep
slot_released c gathered store waits marks queue i ek ec es ew = rw (ek, ec, es, ew)

-- the connection closes
pub slot_closed : (c : Conn) (gathered store waits marks queue : List ℕ) (i : ℕ) {keep : Bool} {c' : Conn} {store' waits' : List ℕ} → keep ≡ false
    → c' ≡ closed_conn → store' ≡ zeros (length store) → waits' ≡ nobody_waits
    → lent c' gathered store' waits' marks queue ≡ released_slot (lent c gathered store waits marks queue) i keep
slot_closed c gathered store waits marks queue i ek ec es ew = rw (ek, ec, es, ew)

-- ---- one slot
-- A record of slot i is one of the memory in which the slot after it is the one to begin with.
pub slot_served : (m : QueueMemory) (i : ℕ) → i < SLOTS → pump_slot m i ≡ write_served (served_last m i) i (request_at m.memory.state.conn.table i) (served (wait_at (served_last m i) i))
unfolding pump_slot
slot_served m i h = ap (λ (w : Wait). write_served (served_last m i) i (request_at m.memory.state.conn.table i) (served w)) (sym (wait_of_next m i i h))

-- the same, with what the code has: the numbers after the slot to begin with was put
module _ (c : Conn) (gathered store waits marks queue : List ℕ) (i : ℕ) {after : List ℕ} (low : i < SLOTS) (ea : after ≡ set waits NEXT (slot_after SLOTS i)) where
  abbrev before : QueueMemory
  before = lent c gathered store waits marks queue

  abbrev begun : QueueMemory
  begun = lent c gathered store after marks queue

  -- what is served there, of the request there
  pub slot_wrote : (r : Request) (s : Served) {left : QueueMemory} {out out' : List ℕ} {at next : ℕ} → r ≡ request_at c.table i → served (wait_at begun i) ≡ s
      → Wrote (write_served begun i r s) left out out' at next → Wrote (pump_slot before i) left out out' at next
  slot_wrote r s {left} {out} {out'} {at} {next} er es w =
      let moved : begun ≡ served_last before i = ap (λ (l : List ℕ). lent c gathered store l marks queue) ea in
      let e : write_served begun i r s ≡ pump_slot before i =
      ap₂ (write_served begun i) er (sym es)
      ∙ ap (λ (m : QueueMemory). write_served m i (request_at c.table i) (served (wait_at m i))) moved
      ∙ sym (slot_served before i low) in
      subst (λ (p : PumpedRecord). Wrote p left out out' at next) e w

-- so many bytes wait there, and they fit
pub filled : (store waits marks queue : List ℕ) (i k : ℕ) {after : List ℕ} {n : Numbers} → Able store waits marks queue → i < SLOTS → after ≡ set waits NEXT k → n ≡ numbers_in after i
    → Filled after marks queue i n.count
filled store waits marks queue i k {after} {n} z low ea en =
    let counted : n.count ≡ count_at after i = ap (λ (j : Numbers). j.count) en in
    let same : count_at after i ≡ count_at waits i = ap (λ (l : List ℕ). count_at l i) ea ∙ count_of_next waits k i low in
    record { marks_size = z.marks_size; queue_size = z.queue_size; counted = counted; fits = omega (arith, z.counts_fit i low) }
