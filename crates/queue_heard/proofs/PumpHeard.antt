-- A turn of the pump is heard as it was meant, record by record.
use Rattle.std.specs.Prelude.{ℕ, zero, suc, ◌≤◌, ◌<◌, ◌≡◌, Bool, true, false, length, take, get_or, eqb, Some}
use Rattle.std.proofs.Math.Path.{refl}
use Rattle.std.proofs.Common.{sym, ap, ◌∙◌, subst, arith, drop_of_length-le, take_all}
use mathlib.Core.List.{List, [], ◌∷◌, ◌++◌, flatten, append-nil}
use Rattle.std.proofs.Math.Option.{Option, none, some}
use Rattle.wire.specs.Test.{by_test}
use Rattle.wire.proofs.Bytes.{AllBytes, append_bytes}
use Rattle.record.specs.Names.{END_REQUEST, REQUEST_COMPLETE}
use Rattle.record.specs.Body.{end_body_bytes}
use Rattle.record_writer.specs.Written.{record_bytes, stream_bytes}
use Rattle.record_writer.proofs.StreamLaws.{stream_none, stream_more}
use Rattle.machine_queue.specs.Pump.{next_waiting}
use Rattle.machine_queue.proofs.Pumping.{waiting_below}
use Rattle.connection.specs.declared.answer.Output.{Output}
use Rattle.connection.specs.declared.request.Request.{Request}
use Rattle.connection.specs.declared.state.Table.{Table}
use Rattle.connection.specs.Sizes.{SLOTS, CHUNK}
use Rattle.connection.specs.Codes.{output_type}
use Rattle.connection.specs.Slots.{request_at, put_request, free_slot, no_requests, find}
use Rattle.connection.specs.RequestCalls.{is_ended, ended_on}
use Rattle.connection.specs.Calls as C
use Rattle.connection.proofs.Laws.ShapeLaws.{Tidy, shaped}
use Rattle.server.specs.Event.{Event, Note, showing}
use Rattle.server.specs.Step.{idle}
use Rattle.server.proofs.Laws.{Ready}
use Rattle.server.proofs.WrittenBytes.{no_bytes, record_is_bytes, end_body_is_bytes}
use Rattle.server.proofs.Meaning.{Heard, heard_nothing, then_heard, heard_over, heard_said}
use Rattle.queue_slot.specs.Atoms.{EndOf}
use Rattle.queue_slot.specs.declared.Ends.{Ends}
use Rattle.queue_slot.specs.Wait.{Wait, anything, Served, ServesNothing, ServesEnd, ServesData, ServesLast, without_first, serve_run, serve_data, serve_from, served, atoms_in}
use Rattle.queue_slot.proofs.WaitLaws as W
use Rattle.queue_slot.proofs.ServeLaws.{ServedWell, served_well}
use Rattle.queue.specs.Numbers.{NEXT}
use Rattle.queue.proofs.Areas.{wait_of_put, wait_of_other}
use Rattle.queue.specs.Calls.{QueueMemory, conn_of, wait_at, put_wait, served_last, released_slot, write_served, pump_slot, Turned, on_some, slot_waits, first_slot, turned}
use Rattle.queue_link.proofs.LoadedCalls as L
use Rattle.queue_link.proofs.LoadedPump.{same_wait, roomy_last, other_wait}
use Rattle.queue_link.proofs.LoadedTurn.{waiting_is, waits_open, waits_found_lem, first_below}
use Rattle.queue_link.proofs.LinkedRuns.{Fine}
use Rattle.queue_link.proofs.LinkedWrites.{found_below, slot_fine}
use Rattle.replies_heard.proofs.Agree.{Resting, is_ended_lem, each_none, inactive_freed, Spares, spares_free, rests_still}
use Rattle.replies_heard.proofs.OutputHeard.{output_small, stream_ended_lem}
use Rattle.queue_heard.proofs.Accounts.{Tells, tells_none, tells_append, tells_end, tells_over, tells_data}
use Rattle.queue_heard.specs.Moves.{served_means, of_slot, turn_means}
use Rattle.queue_heard.proofs.Flow.{Flow, as_request, ended_in, flow_front}
use Rattle.queue_heard.proofs.Sends.{Sends, QueueAgree, wait_changed, slot_freed, none_agree}

-- What an operation came to, from the station's memory m to m' and from a server's end that stands between two records
-- with table t and lent bytes v: the bytes are heard as these notes and tell of each request the same, the two ends agree,
-- and a request that rests rests still.
pub record OperationHeard (m : QueueMemory) (t : Table) (v bytes : List ℕ) (l : List Note) (m' : QueueMemory) : Type 0 where
  pub table : Table
  pub heard : Heard t v bytes table v l
  pub tells : Tells bytes l
  pub agree : QueueAgree m' table
  pub ok : AllBytes bytes
  pub rests : (b : ℕ) → Resting (conn_of m).table t b → Resting (conn_of m').table table b

-- nothing is written, and nothing changes
pub nothing_heard : (m : QueueMemory) (t : Table) (v : List ℕ) → Ready (idle t true v) 0 → QueueAgree m t → OperationHeard m t v [] [] m
nothing_heard m t v ready a = record { table = t; heard = heard_nothing t v ready; tells = tells_none; agree = a; ok = no_bytes; rests = λ b r. r }

-- one after another
both_heard : (m k n : QueueMemory) (t : Table) (v x y : List ℕ) (l p : List Note) (f : OperationHeard m t v x l k) → OperationHeard k f.table v y p n → OperationHeard m t v (x ++ y) (l ++ p) n
both_heard m k n t v x y l p f g =
    record {
      table = g.table;
      heard = then_heard t f.table g.table v v v x y l p f.heard g.heard;
      tells = tells_append x y l p f.tells g.tells;
      agree = g.agree;
      ok = append_bytes x y f.ok g.ok;
      rests = λ b r. g.rests b (f.rests b r);
    }

-- ---- data in one record
data_heard : (t : Table) (v : List ℕ) → Ready (idle t true v) 0 → (id j : ℕ) → find t id ≡ Some j → id < 65536 → (o : Output) → is_ended o (request_at t j).state ≡ false
    → (x : List ℕ) → 0 < length x → length x ≤ CHUNK → Heard t v (record_bytes (output_type o) id x) t v (showing id (output_type o) x)
data_heard t v ready id j found hi o live x more small =
    let k = output_type o in
    let e : stream_bytes CHUNK k id x ≡ record_bytes k id x =
    stream_more CHUNK k id x (omega arith) more
    ∙ ap (λ (l : List ℕ). record_bytes k id (take CHUNK x) ++ stream_bytes CHUNK k id l) (drop_of_length-le x {i = CHUNK} small)
    ∙ ap (λ (l : List ℕ). record_bytes k id (take CHUNK x) ++ l) (stream_none CHUNK k id)
    ∙ append-nil (record_bytes k id (take CHUNK x))
    ∙ ap (record_bytes k id) (take_all CHUNK x small) in
    subst (λ (l : List ℕ). Heard t v l t v (showing id k x)) e (heard_said t v ready id j found hi o live x)

-- ---- what is left waits with the status that it had
abbrev StatusStays : Wait → Served → Type 0
StatusStays w ServesNothing = Unit {0}
StatusStays w (ServesEnd o y) = y.status ≡ w.status
StatusStays w (ServesData o x y) = y.status ≡ w.status
StatusStays w (ServesLast status) = Unit {0}

status_data : (w : Wait) → StatusStays w (serve_data w)
unfolding serve_data serve_run without_first
status_data w = by_test (eqb w.count 0) (λ e. by_test w.last (λ l. simp (e, l) tt) (λ l. simp (e, l) tt)) (λ e. simp e refl)

status_stays : (e : Ends) (w : Wait) → StatusStays w (serve_from e w)
status_stays Ends.None w = status_data w
status_stays Ends.Out w = refl
status_stays Ends.Err w = refl
status_stays Ends.OutErr w = refl
status_stays Ends.ErrOut w = refl

-- the table once a slot is given back
freed_table : (m : QueueMemory) (i : ℕ) → (conn_of (released_slot (served_last m i) i true)).table ≡ free_slot (conn_of m).table i
unfolding C.released
freed_table m i = refl

-- ---- one record of slot i
module _ (m : QueueMemory) (fine : Fine m) (is_open : (conn_of m).«open» ≡ true) (id i : ℕ) (found : find (conn_of m).table id ≡ Some i) (t : Table) (v : List ℕ) (ready : Ready (idle t true v) 0) (a : QueueAgree m t) where
  abbrev s : Table
  s = (conn_of m).table

  abbrev request : Request
  request = request_at s i

  -- its request as it is open at the server's end
  abbrev sends : Sends t id (wait_at m i) request.state
  sends = a id i found

  abbrev slot : ℕ
  slot = sends.there.slot

  own_id : request.id ≡ id
  own_id = L.own_id m fine.good.steady fine.good.roomy is_open id i found

  low : i < SLOTS
  low = (L.holds m fine.good.steady fine.good.roomy is_open id i found).low

  small_id : id < 65536
  small_id = found_below 0 m fine id i is_open found

  running : (o : Output) → is_ended o sends.state ≡ false → is_ended o (request_at t slot).state ≡ false
  running o e = is_ended_lem o (request_at t slot).state sends.state sends.there.ends ∙ e

  -- other slots, once what waits in slot i was put back
  put_same : (y : Wait) → W.Sized y → (k : ℕ) → k < SLOTS → (k ≡ i → ⊥) → wait_at (put_wait (served_last m i) i y) k ≡ wait_at m k
  put_same y sized k h ne =
      let r = roomy_last m fine.good.steady fine.good.roomy is_open id i found in
      wait_of_other (served_last m i) i y r low sized k h ne ∙ same_wait m fine.good.steady fine.good.roomy is_open id i found k h

  put_own : (y : Wait) → W.Sized y → wait_at (put_wait (served_last m i) i y) i ≡ y
  put_own y sized = wait_of_put (served_last m i) i y (roomy_last m fine.good.steady fine.good.roomy is_open id i found) low sized

  put_table : (y : Wait) → (conn_of (put_wait (served_last m i) i y)).table ≡ s
  unfolding put_wait
  put_table y = refl

  -- what waits then, with the table u at the server's end
  served_agree : (u : Table) (y : Wait) → W.Sized y → Spares id t u → Sends u id y request.state → QueueAgree (put_wait (served_last m i) i y) u
  served_agree u y sized spares own =
      wait_changed m (put_wait (served_last m i) i y) t u id i found a spares (put_same y sized) (put_table y) (subst (λ w. Sends u id w request.state) (sym (put_own y sized)) own)

  served_rests : (u : Table) (n : QueueMemory) → (conn_of n).table ≡ s → Spares id t u → (b : ℕ) → Resting s t b → Resting (conn_of n).table u b
  served_rests u n e spares b r = subst (λ (x : Table). Resting x u b) (sym e) (rests_still s s t u id i b found spares (λ none. none) r)

  -- what is left of what waits, of which the front was served
  left_small : (y : Wait) → y.last ≡ (wait_at m i).last → y.status ≡ (wait_at m i).status → y.last ≡ true → y.status < 4294967296
  left_small y l e last = subst (λ (n : ℕ). n < 4294967296) (sym e) (sends.small (sym l ∙ last))

  -- the end of a stream
  end_served : (o : Output) (y : Wait) → ServedWell (wait_at m i) (ServesEnd o y) → y.status ≡ (wait_at m i).status
      → OperationHeard m t v (record_bytes (output_type o) id []) (Note.Told (Event.Ended id (output_type o)) ∷ []) (put_wait (served_last m i) i y)
  end_served o y h same =
      let f : Flow (EndOf o ∷ atoms_in y) sends.state request.state = subst (λ l. Flow l sends.state request.state) h.0 sends.flow in
      let e = stream_ended_lem t v ready id slot sends.there.found small_id o (running o f.0) (as_request sends.state) sends.there.ends in
      let u = put_request t slot (ended_on (request_at t slot) o) in
      record {
        table = u;
        heard = e.heard;
        tells = tells_end o id small_id;
        agree = served_agree u y h.1 e.spares (record { state = ended_in sends.state o; there = e.there; flow = f.1; small = left_small y h.2 same });
        ok = record_is_bytes (output_type o) id [] (output_small o) no_bytes;
        rests = served_rests u (put_wait (served_last m i) i y) (put_table y) e.spares;
      }

  -- data
  data_served : (o : Output) (x : List ℕ) (y : Wait) → ServedWell (wait_at m i) (ServesData o x y) → y.status ≡ (wait_at m i).status
      → OperationHeard m t v (record_bytes (output_type o) id x) (showing id (output_type o) x) (put_wait (served_last m i) i y)
  data_served o x y h same =
      let f = flow_front o x (atoms_in y) sends.state request.state (subst (λ l. Flow l sends.state request.state) h.0 sends.flow) in
      let short : length x ≤ CHUNK = omega (arith, h.4) in
      record {
        table = t;
        heard = data_heard t v ready id slot sends.there.found small_id o (running o (f.live h.3)) x h.3 short;
        tells = tells_data o id x small_id h.3 (omega (arith, h.4));
        agree = served_agree t y h.1 (λ b n ne k. k) (record { state = sends.state; there = sends.there; flow = f.behind; small = left_small y h.2 same });
        ok = record_is_bytes (output_type o) id x (output_small o) f.bytes;
        rests = served_rests t (put_wait (served_last m i) i y) (put_table y) (λ b n ne k. k);
      }

  -- END: the request is given back at both ends, or the station closes
  last_served : (status : ℕ) (keep : Bool) → ServedWell (wait_at m i) (ServesLast status)
      → OperationHeard m t v (record_bytes END_REQUEST id (end_body_bytes status REQUEST_COMPLETE)) (Note.Told (Event.Finished id status REQUEST_COMPLETE) ∷ []) (released_slot (served_last m i) i keep)
  last_served status keep h =
      let small : status < 4294967296 = subst (λ (n : ℕ). n < 4294967296) (sym h.2) (sends.small h.1) in
      record {
        table = free_slot t slot;
        heard = heard_over t v ready id slot sends.there.found small_id status REQUEST_COMPLETE small;
        tells = tells_over id status small_id;
        agree = released_agree keep;
        ok = record_is_bytes END_REQUEST id (end_body_bytes status REQUEST_COMPLETE) (omega arith) (end_body_is_bytes status REQUEST_COMPLETE (omega arith));
        rests = λ b. released_rests keep b;
      }
    where
      spares : Spares id t (free_slot t slot)
      spares = spares_free t id slot ready.sized ready.tidy sends.there.found

      tidy : Tidy s
      tidy = (shaped (conn_of m) fine.good.steady.steady.shape).table

      released_agree : (k : Bool) → QueueAgree (released_slot (served_last m i) i k) (free_slot t slot)
      released_agree true =
          slot_freed m (released_slot (served_last m i) i true) t (free_slot t slot) id i found a spares (other_wait m fine.good.steady fine.good.roomy is_open id i found) tidy (freed_table m i)
      released_agree false = none_agree (released_slot (served_last m i) i false) (free_slot t slot) refl

      released_rests : (k : Bool) (b : ℕ) → Resting s t b → Resting (conn_of (released_slot (served_last m i) i k)).table (free_slot t slot) b
      released_rests true b r =
          subst (λ (x : Table). Resting x (free_slot t slot) b) (sym (freed_table m i)) (rests_still s (free_slot s i) t (free_slot t slot) id i b found spares (inactive_freed s i b tidy) r)
      released_rests false b r = rests_still s no_requests t (free_slot t slot) id i b found spares (λ none. each_none (λ c k n. c ≡ b → ⊥)) r

  served_heard : (x : Served) → ServedWell (wait_at m i) x → StatusStays (wait_at m i) x
      → OperationHeard m t v (write_served (served_last m i) i request x).bytes (served_means request.id x) (write_served (served_last m i) i request x).left
  unfolding write_served
  served_heard ServesNothing h same = record {
    table = t;
    heard = heard_nothing t v ready;
    tells = tells_none;
    agree = wait_changed m (served_last m i) t t id i found a (λ b n ne k. k) (λ k l ne. last_same k l) refl (subst (λ w. Sends t id w request.state) (sym (last_same i low)) sends);
    ok = no_bytes;
    rests = λ b r. r;
  }
    where
      last_same : (k : ℕ) → k < SLOTS → wait_at (served_last m i) k ≡ wait_at m k
      last_same = same_wait m fine.good.steady fine.good.roomy is_open id i found
  served_heard (ServesEnd o y) h same = rw own_id (end_served o y h same)
  served_heard (ServesData o x y) h same = rw own_id (data_served o x y h same)
  served_heard (ServesLast status) h same = rw own_id (last_served status request.state.keep h)

  -- A record of the pump.
  pub record_heard : OperationHeard m t v (pump_slot m i).bytes (served_means request.id (served (wait_at m i))) (pump_slot m i).left
  unfolding pump_slot
  record_heard = served_heard (served (wait_at m i)) (served_well (wait_at m i) (fine.good.steady.sized i low)) (status_stays (wait_at m i).front (wait_at m i))

-- ---- a turn
pub turn_heard : (k : ℕ) (m : QueueMemory) (t : Table) (v : List ℕ) → Fine m → Ready (idle t true v) 0 → QueueAgree m t → OperationHeard m t v (flatten (turned k m).records) (turn_means k m) (turned k m).left
unfolding turned turn_means flatten
turn_heard zero m t v fine ready a = nothing_heard m t v ready a
turn_heard (suc k) m t v fine ready a =
    go (next_waiting SLOTS SLOTS (slot_waits m) (first_slot (get_or m.waits NEXT 0))) refl (λ n u f r b. turn_heard k n u v f r b)
  where
    next : Option ℕ
    next = next_waiting SLOTS SLOTS (slot_waits m) (first_slot (get_or m.waits NEXT 0))

    afterwards : Option ℕ → Turned
    afterwards o = on_some o (λ i. let p = pump_slot m i in let x = turned k p.left in record { records = p.bytes ∷ x.records; left = x.left }) (record { records = []; left = m })

    means : Option ℕ → List Note
    means o = of_slot o (λ i. served_means (request_at (conn_of m).table i).id (served (wait_at m i)) ++ turn_means k (pump_slot m i).left)

    go : (o : Option ℕ) → next ≡ o
        → ((n : QueueMemory) (u : Table) → Fine n → Ready (idle u true v) 0 → QueueAgree n u → OperationHeard n u v (flatten (turned k n).records) (turn_means k n) (turned k n).left)
        → OperationHeard m t v (flatten (afterwards o).records) (means o) (afterwards o).left
    go none e f = nothing_heard m t v ready a
    go (some i) e f =
        let from = first_slot (get_or m.waits NEXT 0) in
        let low = waiting_below SLOTS SLOTS (slot_waits m) from i (first_below (get_or m.waits NEXT 0)) e in
        let waits : anything (wait_at m i) ≡ true = waiting_is SLOTS SLOTS (slot_waits m) from i e in
        let o = waits_open m i fine.good.steady waits in
        let id = get_or (conn_of m).table.ids i 0 in
        let found = waits_found_lem m i fine.good.steady low o waits in
        let p = pump_slot m i in
        let x = turned k p.left in
        let first = record_heard m fine o id i found t v ready a in
        let then = f p.left first.table (slot_fine m fine o id i found) first.heard.ready first.agree in
        both_heard m p.left x.left t v p.bytes (flatten x.records) (served_means (request_at (conn_of m).table i).id (served (wait_at m i))) (turn_means k p.left) first then
