-- R's request stays through a finish of another and through a turn of the pump, with its whole area, or it goes; and
-- which of the two is told.
use Rattle.connection.specs.Slots.{Slot}
use Rattle.std.specs.Prelude.{◌≡◌, ◌⊎◌, Bool, not, length, get_or, eqb, if◌then◌else◌, Some, None}
use Rattle.std.proofs.Math.Path.{refl, ap}
use Rattle.std.proofs.Common.{ap₂, sym, ◌∙◌, subst, inl, inr, arith}
use mathlib.Core.List.{List, [], ◌∷◌, ◌++◌, flatten, append-nil}
use Rattle.std.proofs.Math.Option.{Option, none, some}
use Rattle.std.proofs.Math.Bool.{true, false}
use Prim.Native.Nat.{ℕ, zero, suc, ◌<◌}
use Rattle.std.proofs.lemmas.List.{length-replicate}
use borrow.Author.Tests.{eqb-true, eqb-false}
use Rattle.wire.specs.Test.{by_test}
use Rattle.wire.specs.Buffer.{zeros}
use Rattle.record.specs.Names.{END_REQUEST, REQUEST_COMPLETE}
use Rattle.record.specs.Body.{end_body_bytes}
use Rattle.record.proofs.BodyLaws.{end_length}
use Rattle.record_writer.specs.Written.{record_bytes}
use Rattle.machine_queue.specs.Pump.{next_waiting}
use Rattle.machine_queue.proofs.Pumping.{waiting_below}
use Rattle.connection.specs.declared.request.Request.{Request}
use Rattle.connection.specs.declared.state.Table.{Table}
use Rattle.connection.specs.declared.state.Conn.{Conn}
use Rattle.connection.specs.Sizes.{SLOTS, AREA}
use Rattle.connection.specs.Codes.{output_type}
use Rattle.connection.specs.Request.{Held}
use Rattle.connection.specs.Slots.{request_at, area_at, held_at, put_area, free_slot, find, on_slot}
use Rattle.connection.specs.Calls as C
use Rattle.connection.specs.Run.{Memory, request_of, finished_by}
use Rattle.connection.proofs.Laws.SlotsLaws.{Holds, Distinct, find_at, find_nowhere, nowhere_find, only_slot, other_of_free, taken_of_free_other, area_length, area_of_other}
use Rattle.connection.proofs.Laws.ShapeLaws.{shaped}
use Rattle.connection.proofs.Laws.Progress.{Fits}
use Rattle.connection.proofs.Runs.CallShape.{without_request, free_holds}
use Rattle.connection.proofs.Runs.Freed.{Kept, Shut, Done, finish_done}
use Rattle.queue_slot.specs.Atoms.{end_waits, atoms_of}
use Rattle.queue_slot.specs.Wait.{Served, ServesNothing, ServesEnd, ServesData, ServesLast, served}
use Rattle.queue_slot.proofs.ServeLaws.{ServedWell, served_well}
use Rattle.queue.specs.Calls as T
use Rattle.queue.specs.Calls.{QueueMemory, conn_of, wait_at, put_wait, or, served_last, released_slot, write_served, pump_slot, slot_waits, first_slot, on_some, turned, pump_refusal, pump}
use Rattle.queue.specs.Run.{bytes_in}
use Rattle.queue.specs.Numbers.{NEXT}
use Rattle.queue_link.proofs.LoadedCalls as L
use Rattle.queue_link.proofs.LoadedTurn.{waits_open, waits_found_lem, waiting_is, first_below}
use Rattle.queue_link.proofs.LinkedRuns.{Fine, pump_done, pump_refused_lem}
use Rattle.queue_link.proofs.LinkedWritten.{read_of, if_own, records_none}
use Rattle.queue_link.proofs.LinkedWrites.{found_below, slot_fine, pumps, turn_bytes, no_turn_bytes}
use Rattle.queue_runs.proofs.Closing.{both_ways}
use Rattle.queue_history.proofs.TurnEnds.{end_either, stream_read, end_read, closed_turn}
use Rattle.queue_kept.specs.Going.{goes_in}

-- ---- a slot that is given back
module _ (R : ℕ) (m : Memory) (id i : ℕ) (fits : Fits m.state.conn m.store) (found : find m.state.conn.table id ≡ Some i) where
  -- the slots before
  abbrev t : Table
  t = m.state.conn.table

  -- no id has two slots
  distinct : Distinct t
  distinct = (shaped m.state.conn fits.shape).table.distinct

  -- it was R's
  own_nowhere : id ≡ R → find (free_slot t i) R ≡ None
  own_nowhere e = nowhere_find (free_slot t i) R (λ j h. let w = free_holds t i R j h in w.other (distinct R j i w.held (subst (λ n. Holds t n i) e (find_at t id i found))))

  -- it was another's: R is not in it
  elsewhere : (id ≡ R → ⊥) → (j : ℕ) → find t R ≡ Some j → j ≡ i → ⊥
  elsewhere n j e q = n (sym (find_at t id i found).has_id ∙ subst (λ k. get_or t.ids k 0 ≡ R) q (find_at t R j e).has_id)

  -- so R is found as before
  other_found : (id ≡ R → ⊥) → find (free_slot t i) R ≡ find t R
  unfolding request_at
  other_found n = go (find t R) refl
    where
      go : (s : Slot) → find t R ≡ s → find (free_slot t i) R ≡ s
      go None e = nowhere_find (free_slot t i) R (λ j h. find_nowhere t R e j (free_holds t i R j h).held)
      go (Some j) e =
          let own = find_at t R j e in
          let d = elsewhere n j e in
          only_slot (free_slot t i) (λ k a b x y. distinct k a b (free_holds t i k a x).held (free_holds t i k b y).held) R j
          (record { low = own.low; slot_taken = taken_of_free_other t i j d ∙ own.slot_taken; has_id = ap (λ (x : Request). x.id) (other_of_free t i j d) ∙ own.has_id })

  -- Its request is there no more, and every other is as it was, with its area.
  pub freed_request : request_of R (without_request m i) ≡ (if eqb id R then none else request_of R m)
  unfolding request_of C.released
  freed_request =
      by_test (eqb id R)
      (λ e. rw (e, fits.is_open, own_nowhere (eqb-true id R e)))
      (λ e. let n = eqb-false id R e in rw (e, fits.is_open, other_found n) (go n (find t R) refl))
    where
      x : List ℕ
      x = zeros (length (area_at m.store i))

      size : length x ≡ AREA
      size = length-replicate (length (area_at m.store i)) 0 ∙ area_length m.store i fits.size (find_at t id i found).low

      go : (id ≡ R → ⊥) → (s : Slot) → find t R ≡ s
          → on_slot s (λ j. some (held_at (free_slot t i) (put_area m.store i x) j)) none ≡ on_slot s (λ j. some (held_at t m.store j)) none
      go n None e = refl
      go n (Some j) e =
          let d = elsewhere n j e in
          ap₂ (λ (r : Request) (a : List ℕ). some (record { request = r; area = a })) (other_of_free t i j d) (area_of_other m.store i x fits.size (find_at t id i found).low size j d)

-- A straight finish that is not refused: R's request goes if it is R's, or if the connection closes; else it stays
-- as it is, with its area.
pub finish_request : (R : ℕ) (m : Memory) (id status : ℕ) (buffer : List ℕ) → (C.finish m.state.conn m.store id status buffer).refusal ≡ 0
    → request_of R (finished_by m (C.finish m.state.conn m.store id status buffer)).memory
    ≡ (if or (C.finish m.state.conn m.store id status buffer).closed (eqb id R) then none else request_of R m)
unfolding request_of
finish_request R m id status buffer e = go d.way
  where
    w : C.Finished
    w = C.finish m.state.conn m.store id status buffer

    d : Done m.state.conn m.store id w
    d = finish_done m.state.conn m.store id status buffer e

    go : Kept m.state.conn m.store d.admitted.slot w ⊎ Shut m.store w
        → request_of R (finished_by m w).memory ≡ (if or w.closed (eqb id R) then none else request_of R m)
    go (inl k) = rw k.open_still
        (ap₂ (λ (c : Conn) (s : List ℕ). request_of R (record { state = record { conn = c; gathered = m.state.gathered }; store = s })) k.conn k.store_after_lem
        ∙ freed_request R m id d.admitted.slot d.admitted.fits d.admitted.found)
    go (inr k) = rw (k.closed_now, k.conn)

module _ (R : ℕ) where
  -- ---- a turn
  -- From m these bytes are written and n is left: R's request goes if END of R is among them or n is closed, and else
  -- stays as it is.
  abbrev After : QueueMemory → List ℕ → QueueMemory → Type 0
  After m bytes n = request_of R n.memory ≡ (if or (not (conn_of n).«open») (end_waits (read_of R bytes)) then none else request_of R m.memory)

  -- the same, with what the two tests come to
  after_as : (m : QueueMemory) (bytes : List ℕ) (n : QueueMemory) (o e : Bool) → (conn_of n).«open» ≡ o → end_waits (read_of R bytes) ≡ e
      → request_of R n.memory ≡ (if or (not o) e then none else request_of R m.memory) → After m bytes n
  after_as m bytes n o e p q k = k ∙ ap₂ (λ (a b : Bool). if or (not a) b then none else request_of R m.memory) (sym p) (sym q)

  -- a closed connection has no requests
  closed_request : (m : Memory) → m.state.conn.«open» ≡ false → request_of R m ≡ none
  unfolding request_of
  closed_request m o = rw o

  -- nothing is written, and the memory stays
  none_after : (m n : QueueMemory) → n.memory ≡ m.memory → After m [] n
  unfolding end_waits
  none_after m n same =
      let f = ap end_waits (records_none R) in
      by_test (conn_of n).«open» (λ o. after_as m [] n true false o f (ap (request_of R) same)) (λ o. after_as m [] n false false o f (closed_request n.memory o))

  module _ (m : QueueMemory) (fine : Fine m) (o : (conn_of m).«open» ≡ true) (id i : ℕ) (f : find (conn_of m).table id ≡ Some i) where
    -- the request that is served
    abbrev request : Request
    request = request_at (conn_of m).table i

    -- its id
    request_id : request.id ≡ id
    request_id = L.own_id m fine.good.steady fine.good.roomy o id i f

    -- which is a number of two bytes
    small : id < 65536
    small = found_below R m fine id i o f

    -- state and store are as a call asks
    fitting : Fits (conn_of m) m.memory.store
    fitting = record { size = fine.good.steady.steady.sizes.full; shape = fine.good.steady.steady.shape; is_open = o }

    -- END is written
    last_after : (status : ℕ) (keep : Bool) → After m (record_bytes END_REQUEST id (end_body_bytes status REQUEST_COMPLETE)) (released_slot (served_last m i) i keep)
    unfolding C.released
    last_after status true =
        after_as m (record_bytes END_REQUEST id (end_body_bytes status REQUEST_COMPLETE)) (released_slot (served_last m i) i true) true (eqb id R) o
        (end_read R id (end_body_bytes status REQUEST_COMPLETE) small (omega (arith, end_length status REQUEST_COMPLETE))) (freed_request R m.memory id i fitting f)
    last_after status false = closed_request (released_slot (served_last m i) i false).memory refl

    -- what is next, whatever it is
    served_after : (s : Served) → ServedWell (wait_at m i) s → After m (write_served (served_last m i) i request s).bytes (write_served (served_last m i) i request s).left
    unfolding write_served put_wait
    served_after ServesNothing w = none_after m (served_last m i) refl
    served_after (ServesEnd p v) w = rw request_id (after_as m (record_bytes (output_type p) id []) (put_wait (served_last m i) i v) true false o (stream_read R p id [] small (omega arith)) refl)
    served_after (ServesData p x v) w = rw request_id (after_as m (record_bytes (output_type p) id x) (put_wait (served_last m i) i v) true false o (stream_read R p id x small (omega (arith, w.4))) refl)
    served_after (ServesLast status) w = rw request_id (last_after status request.state.keep)

    -- a record of the pump
    record_after : After m (pump_slot m i).bytes (pump_slot m i).left
    unfolding pump_slot
    record_after = served_after (served (wait_at m i)) (served_well (wait_at m i) (fine.good.steady.sized i (L.holds m fine.good.steady fine.good.roomy o id i f).low))

-- First some records, which leave the connection open or not and have END of R or not, then some more.
then_after : (open-first first open_more more : Bool) (h : Option Held) → (open-first ≡ false → open_more ≡ false)
    → (if or (not open_more) more then none else if or (not open-first) first then none else h) ≡ (if or (not open_more) (or first more) then none else h)
then_after true true true true h f = refl
then_after true true true false h f = refl
then_after true false true d h f = refl
then_after true b false d h f = refl
then_after false b false d h f = refl
then_after false b true d h f = both_ways true refl (f refl)

-- A turn, record by record.
turn_after_lem : (R k : ℕ) (m : QueueMemory) → Fine m → After R m (flatten (turned k m).records) (turned k m).left
unfolding turned flatten
turn_after_lem R zero m fine = none_after R m m refl
turn_after_lem R (suc k) m fine = go (next_waiting SLOTS SLOTS (slot_waits m) from) refl (turn_after_lem R k)
  where
    from : ℕ
    from = first_slot (get_or m.waits NEXT 0)

    after : Option ℕ → T.Turned
    after o = on_some o (λ i. let q = pump_slot m i in let t = turned k q.left in record { records = q.bytes ∷ t.records; left = t.left }) (record { records = []; left = m })

    more : (i : ℕ) → i < SLOTS → slot_waits m i ≡ true → ((n : QueueMemory) → Fine n → After R n (flatten (turned k n).records) (turned k n).left)
        → After R m (flatten (after (some i)).records) (after (some i)).left
    more i low w again =
        let o = waits_open m i fine.good.steady w in
        let id = get_or (conn_of m).table.ids i 0 in
        let f = waits_found_lem m i fine.good.steady low o w in
        let p = pump_slot m i in
        let t = turned k p.left in
        let x = p.bytes in
        let y = flatten t.records in
        let piece = (pumps R m fine o id i f).piece in
        let first : read_of R x ≡ if_own R id (atoms_of x) = ap (read_of R) (sym (append-nil x)) ∙ piece [] ∙ ap (λ l. if_own R id (atoms_of x) ++ l) (records_none R) ∙ append-nil (if_own R id (atoms_of x)) in
        let read : end_waits (read_of R (x ++ y)) ≡ or (end_waits (read_of R x)) (end_waits (read_of R y)) =
        ap end_waits (piece y ∙ ap (λ l. l ++ read_of R y) (sym first)) ∙ end_either (read_of R x) (read_of R y) in
        let both = then_after (conn_of p.left).«open» (end_waits (read_of R x)) (conn_of t.left).«open» (end_waits (read_of R y)) (request_of R m.memory) (closed_turn k p.left) in
        after_as R m (x ++ y) t.left (conn_of t.left).«open» (or (end_waits (read_of R x)) (end_waits (read_of R y))) refl read
        (again p.left (slot_fine m fine o id i f)
        ∙ ap (λ q. if or (not (conn_of t.left).«open») (end_waits (read_of R y)) then none else q) (record_after R m fine o id i f) ∙ both)

    go : (o : Option ℕ) → next_waiting SLOTS SLOTS (slot_waits m) from ≡ o → ((n : QueueMemory) → Fine n → After R n (flatten (turned k n).records) (turned k n).left)
        → After R m (flatten (after o).records) (after o).left
    go none e again = none_after R m m refl
    go (some i) e again = more i (waiting_below SLOTS SLOTS (slot_waits m) from i (first_below (get_or m.waits NEXT 0)) e) (waiting_is SLOTS SLOTS (slot_waits m) from i e) again

-- A turn of the pump, refused or not: R's request goes if END of R is among the records that the turn wrote, or if
-- the connection closes; else it stays as it is, with its area.
pub turn_request : (R : ℕ) (m : QueueMemory) (allowance : ℕ) (buffer : List ℕ) → Fine m
    → request_of R (pump m allowance buffer).left.memory ≡ (if goes_in R (pump m allowance buffer) then none else request_of R m.memory)
unfolding bytes_in end_waits
turn_request R m allowance buffer fine =
    by_test (eqb (pump_refusal m allowance buffer) 0)
    (λ e.
    let d = pump_done m allowance buffer e in
    let t = turned allowance m in
    let c : goes_in R (pump m allowance buffer) ≡ or (not (conn_of t.left).«open») (end_waits (read_of R (flatten t.records))) =
    ap₂ (λ (a : Bool) (l : List ℕ). or a (end_waits (read_of R l))) (ap (λ (p : T.Pumped). p.closed) d) (turn_bytes m allowance buffer fine e) in
    ap (λ (p : T.Pumped). request_of R p.left.memory) d ∙ turn_after_lem R allowance m fine ∙ ap (λ (b : Bool). if b then none else request_of R m.memory) (sym c))
    (λ e.
    let d = pump_refused_lem m allowance buffer e in
    let c : goes_in R (pump m allowance buffer) ≡ false =
    ap₂ (λ (a : Bool) (l : List ℕ). or a (end_waits (read_of R l))) (ap (λ (p : T.Pumped). p.closed) d) (no_turn_bytes m allowance buffer e)
    ∙ ap end_waits (records_none R) in
    ap (λ (p : T.Pumped). request_of R p.left.memory) d ∙ ap (λ (b : Bool). if b then none else request_of R m.memory) (sym c))
