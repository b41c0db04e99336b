-- Turns of the pump: when one stops early, and which allowance writes all that waits.
--
-- A turn that writes fewer records than it may leaves nothing waiting, from every memory. Each record takes at least
-- one byte, end or END out of its slot and puts none in. So a turn that may write as many records as there are of
-- these leaves nothing waiting; in a memory as runs have them there are at most 49,200.
use Rattle.std.proofs.Math.Path.{◌≡◌}
use Rattle.std.specs.Prelude.{refl, List, [], ◌∷◌, ◌++◌, map, Bool, ℕ, zero, suc, ◌*◌, ◌≤◌, ◌<◌, length, take, get_or, eqb, Some}
use Rattle.std.proofs.Common.{ap, sym, ◌∙◌, subst, arith, length-append, length-take, eqb-true}
use Rattle.std.proofs.Math.Option.{Option, none, some}
use Rattle.std.proofs.Math.Bool.{true, false}
use Rattle.std.proofs.lemmas.Bool.{eqb-false}
use Rattle.wire.specs.Test.{by_test}
use Rattle.machine_queue.specs.Pump.{next_waiting}
use Rattle.machine_queue.proofs.Pumping.{waiting_below, nobody_waits_lem}
use Rattle.connection.specs.Sizes.{SLOTS}
use Rattle.connection.specs.Slots.{request_at, find}
use Rattle.connection.specs.Calls as C
use Rattle.connection.proofs.Laws.SlotsLaws.{taken_of_free}
use Rattle.queue_slot.specs.declared.Ends.{Ends}
use Rattle.queue_slot.specs.Atoms.{Atom, ByteOn}
use Rattle.queue_slot.specs.Wait.{ROOM, Wait, anything, mark_ends, Served, ServesNothing, ServesEnd, ServesData, ServesLast, served, end_atoms, byte_atoms, last_atoms, atoms_in}
use Rattle.queue_slot.proofs.WaitLaws.{Sized}
use Rattle.queue_slot.proofs.WaitRefines.{anything_is}
use Rattle.queue_slot.proofs.ServeLaws.{ServedWell, served_well, nothing_waits}
use Rattle.queue.proofs.Areas.{wait_of_put, wait_of_other}
use Rattle.queue.specs.Numbers.{NEXT}
use Rattle.queue.specs.Calls.{QueueMemory, conn_of, wait_at, put_wait, served_last, released_slot, write_served, pump_slot, Turned, on_some, slot_waits, first_slot, turned, Pumped, pump_refusal, pump}
use Rattle.queue_link.proofs.Loaded.{slot_free, nobody_at}
use Rattle.queue_link.proofs.LoadedPump as P
use Rattle.queue_link.proofs.LoadedTurn.{Good, pump_good, waiting_is, waits_open, waits_found_lem, first_below}
use Rattle.queue_link.proofs.LinkedRuns.{pump_done, pump_refused_lem}
use Rattle.queue_second_run.specs.Turns.{NothingWaits, waiting_at, sum_below, waiting_in, MOST, StopsEarly}

-- ---- a turn that stops early
-- A turn that writes fewer records than it may leaves nothing waiting in any slot.
pub early : StopsEarly
unfolding turned
early zero m h = absurd (omega arith)
early (suc k) m h = go (next_waiting SLOTS SLOTS (slot_waits m) (first_slot (get_or m.waits NEXT 0))) refl h (λ n. early k n)
  where
    after : Option ℕ → Turned
    after o = on_some o (λ i. let p = pump_slot m i in let t = turned k p.left in record { records = p.bytes ∷ t.records; left = t.left }) (record { records = []; left = m })

    go : (o : Option ℕ) → next_waiting SLOTS SLOTS (slot_waits m) (first_slot (get_or m.waits NEXT 0)) ≡ o → length (after o).records < suc k
        → ((n : QueueMemory) → length (turned k n).records < k → NothingWaits (turned k n).left) → NothingWaits (after o).left
    go none e l f = λ i low. nobody_waits_lem SLOTS (slot_waits m) i (first_slot (get_or m.waits NEXT 0)) low (first_below (get_or m.waits NEXT 0)) e
    go (some i) e l f = f (pump_slot m i).left (omega arith)

-- Of the pump as it answers: a turn that is not refused and wrote fewer records than it may leaves nothing waiting.
pub pump_early : (m : QueueMemory) (allowance : ℕ) (buffer : List ℕ) → (pump m allowance buffer).refusal ≡ 0 → (pump m allowance buffer).records < allowance
    → NothingWaits (pump m allowance buffer).left
pump_early m allowance buffer r h =
    by_test (eqb (pump_refusal m allowance buffer) 0)
    (λ t.
    let e = pump_done m allowance buffer t in
    let l : length (turned allowance m).records < allowance = rw e at h in
    subst (λ (p : Pumped). NothingWaits p.left) (sym e) (early allowance m l))
    (λ t. absurd (eqb-false (pump_refusal m allowance buffer) 0 t (rw (pump_refused_lem m allowance buffer t) at r)))

-- ---- sums
-- none is more
sum_le : (n : ℕ) (f g : ℕ → ℕ) → ((j : ℕ) → j < n → g j ≤ f j) → sum_below n g ≤ sum_below n f
unfolding sum_below
sum_le zero f g h = omega arith
sum_le (suc n) f g h = omega (arith, h n (omega arith), sum_le n f g (λ j l. h j (omega arith)))

-- less in one place
sum_less : (n : ℕ) (f g : ℕ → ℕ) (i : ℕ) → i < n → g i < f i → ((j : ℕ) → j < n → g j ≤ f j) → sum_below n g < sum_below n f
unfolding sum_below
sum_less zero f g i l d h = absurd (omega arith)
sum_less (suc n) f g i l d h =
    by_test (eqb i n)
    (λ e. let s : g n < f n = rw (eqb-true i n e) at d in omega (arith, sum_le n f g (λ j k. h j (omega arith))))
    (λ e. let o : i ≡ n → ⊥ = eqb-false i n e in let b : i < n = omega arith in omega (arith, h n (omega arith), sum_less n f g i b d (λ j k. h j (omega arith))))

-- one of them
sum_part : (n : ℕ) (f : ℕ → ℕ) (i : ℕ) → i < n → f i ≤ sum_below n f
unfolding sum_below
sum_part zero f i l = absurd (omega arith)
sum_part (suc n) f i l =
    by_test (eqb i n) (λ e. rw (eqb-true i n e) (omega arith))
    (λ e. let o : i ≡ n → ⊥ = eqb-false i n e in let b : i < n = omega arith in omega (arith, sum_part n f i b))

-- none is over 3,075
sum_most : (n : ℕ) (f : ℕ → ℕ) → ((j : ℕ) → j < n → f j ≤ 3075) → sum_below n f ≤ n * 3075
unfolding sum_below
sum_most zero f h = omega arith
sum_most (suc n) f h = omega (arith, h n (omega arith), sum_most n f (λ j l. h j (omega arith)))

-- ---- how many can wait in a slot
-- at most two ends in one place
few_ends : (e : Ends) → length (end_atoms e) ≤ 2
few_ends Ends.None = omega arith
few_ends Ends.Out = omega arith
few_ends Ends.Err = omega arith
few_ends Ends.OutErr = omega arith
few_ends Ends.ErrOut = omega arith

-- at most two ends behind each byte
few_bytes : (x y : List ℕ) → length (byte_atoms x y) ≤ 3 * length x
unfolding byte_atoms
few_bytes [] y = omega arith
few_bytes (b ∷ x) [] = omega arith
few_bytes (b ∷ x) (k ∷ y) = simp length-append (omega (arith, few_ends (mark_ends k), few_bytes x y))

-- END at most once
few_last : (l : Bool) (status : ℕ) → length (last_atoms l status) ≤ 1
few_last true status = omega arith
few_last false status = omega arith

-- all of it
few_wait : (w : Wait) → Sized w → length (atoms_in w) ≤ 3075
unfolding atoms_in
few_wait w s =
    let x = take w.count w.bytes in
    let y = take w.count w.marks in
    let h : length x ≤ ROOM = omega (arith, length-take w.count w.bytes, s.count_fits) in
    simp length-append (omega (arith, few_ends w.front, few_bytes x y, few_last w.last w.status))

-- In a memory as runs have them no more than MOST things wait.
pub most_waits : (m : QueueMemory) → Good m → waiting_in m ≤ MOST
unfolding MOST
most_waits m g = sum_most SLOTS (waiting_at m) (λ j l. few_wait (wait_at m j) (g.steady.sized j l))

-- ---- each record takes something out of its slot
-- where nothing waits, there is nothing
none_length : (w : Wait) → anything w ≡ false → length (atoms_in w) ≡ 0
none_length w h = ap length (nothing_waits w h)

-- a list without elements is empty
length_nil : {A : Type 0} (l : List A) → length l ≤ 0 → l ≡ []
length_nil [] h = refl
length_nil (x ∷ l) h = absurd (omega arith)

-- data in front makes it longer
bytes_length : (f : ℕ → Atom) (c : List ℕ) (l : List Atom) → 0 < length c → length l < length (map f c ++ l)
bytes_length f [] l h = absurd (omega arith)
bytes_length f (b ∷ []) l h = omega arith
bytes_length f (b ∷ (d ∷ c)) l h = omega (arith, bytes_length f (d ∷ c) l (omega arith))

module _ (m : QueueMemory) (g : Good m) (i : ℕ) (low : i < SLOTS) (w : slot_waits m i ≡ true) where
  -- the connection is open
  is_open : (conn_of m).«open» ≡ true
  is_open = waits_open m i g.steady w

  -- whose slot it is
  abbrev id : ℕ
  id = get_or (conn_of m).table.ids i 0

  -- it is found there
  found : find (conn_of m).table id ≡ Some i
  found = waits_found_lem m i g.steady low is_open w

  -- something waits there
  some_waits_lem : 0 < waiting_at m i
  some_waits_lem =
      by_test (eqb (waiting_at m i) 0)
      (λ e.
      let n : length (atoms_in (wait_at m i)) ≤ 0 = omega (arith, eqb-true (waiting_at m i) 0 e) in
      let z : ◌≡◌ {A = ℕ} 0 1 = cc (anything_is (wait_at m i) (g.steady.sized i low) (length_nil (atoms_in (wait_at m i)) n), w) in
      absurd (omega arith))
      (λ e. let o : waiting_at m i ≡ 0 → ⊥ = eqb-false (waiting_at m i) 0 e in omega arith)

  -- fewer wait where fewer wait in slot i and nowhere more
  fewer_by : (n : QueueMemory) → waiting_at n i < waiting_at m i → ((j : ℕ) → j < SLOTS → (j ≡ i → ⊥) → waiting_at n j ≤ waiting_at m j) → waiting_in n < waiting_in m
  fewer_by n d h =
      sum_less SLOTS (waiting_at m) (waiting_at n) i low d
      (λ j l. by_test (eqb j i) (λ e. rw (eqb-true j i e) (omega arith)) (λ e. h j l (eqb-false j i e)))

  -- something else waits in slot i
  fewer_put : (v : Wait) → Sized v → length (atoms_in v) < waiting_at m i → waiting_in (put_wait (served_last m i) i v) < waiting_in m
  fewer_put v s d =
      let y = P.roomy_last m g.steady g.roomy is_open id i found in
      let n = put_wait (served_last m i) i v in
      let here : wait_at n i ≡ v = wait_of_put (served_last m i) i v y low s in
      let there : (j : ℕ) → j < SLOTS → (j ≡ i → ⊥) → wait_at n j ≡ wait_at m j =
      λ j l o. wait_of_other (served_last m i) i v y low s j l o ∙ P.same_wait m g.steady g.roomy is_open id i found j l in
      fewer_by n (rw here d) (λ j l o. rw (there j l o) (omega arith))

  -- END is written, and slot i is free
  free_open : (conn_of (released_slot (served_last m i) i true)).«open» ≡ true
  unfolding C.released
  free_open = is_open

  -- nothing waits there then
  freed : Good (released_slot (served_last m i) i true) → anything (wait_at (released_slot (served_last m i) i true) i) ≡ false
  unfolding C.released
  freed k = slot_free (released_slot (served_last m i) i true) i k.steady free_open low (taken_of_free (conn_of m).table i low)

  -- so fewer things wait
  fewer_free : Good (released_slot (served_last m i) i true) → waiting_in (released_slot (served_last m i) i true) < waiting_in m
  fewer_free k =
      let n = released_slot (served_last m i) i true in
      fewer_by n (omega (arith, none_length (wait_at n i) (freed k), some_waits_lem)) (λ j l o. rw (P.other_wait m g.steady g.roomy is_open id i found j l o) (omega arith))

  -- or the connection is closed
  fewer_shut : waiting_in (released_slot (served_last m i) i false) < waiting_in m
  fewer_shut =
      let n = released_slot (served_last m i) i false in
      let none : (j : ℕ) → waiting_at n j ≡ 0 = λ j. none_length (wait_at n j) (nobody_at n j refl) in
      fewer_by n (omega (arith, none i, some_waits_lem)) (λ j l o. omega (arith, none j))

  -- whatever is served
  fewer_served : (s : Served) → ServedWell (wait_at m i) s → Good (write_served (served_last m i) i (request_at (conn_of m).table i) s).left
      → waiting_in (write_served (served_last m i) i (request_at (conn_of m).table i) s).left < waiting_in m
  unfolding write_served
  fewer_served ServesNothing h k = let z : ◌≡◌ {A = ℕ} 0 1 = cc (anything_is (wait_at m i) (g.steady.sized i low) h, w) in absurd (omega arith)
  fewer_served (ServesEnd o v) h k = fewer_put v h.1 (rw h.0 (omega arith))
  fewer_served (ServesData o content v) h k = fewer_put v h.1 (rw h.0 (bytes_length (ByteOn o) content (atoms_in v) h.3))
  fewer_served (ServesLast status) h k = go (request_at (conn_of m).table i).state.keep k
    where
      go : (b : Bool) → Good (released_slot (served_last m i) i b) → waiting_in (released_slot (served_last m i) i b) < waiting_in m
      go true q = fewer_free q
      go false q = fewer_shut

  -- what every state of a run fulfils, behind the record
  good_record : Good (pump_slot m i).left
  good_record = pump_good m g is_open id i found

  -- A record of a slot that waits leaves fewer things waiting.
  pub fewer : waiting_in (pump_slot m i).left < waiting_in m
  unfolding pump_slot
  fewer = fewer_served (served (wait_at m i)) (served_well (wait_at m i) (g.steady.sized i low)) good_record

-- ---- a turn that writes all
-- where there is nothing, nothing waits
nothing_left : (m : QueueMemory) → Good m → waiting_in m ≤ 0 → NothingWaits m
nothing_left m g h i low =
    let n : waiting_at m i ≤ 0 = omega (arith, sum_part SLOTS (waiting_at m) i low) in
    anything_is (wait_at m i) (g.steady.sized i low) (length_nil (atoms_in (wait_at m i)) n)

-- A turn that may write as many records as there are things waiting leaves nothing waiting.
pub all_written_lem : (k : ℕ) (m : QueueMemory) → Good m → waiting_in m ≤ k → NothingWaits (turned k m).left
unfolding turned
all_written_lem zero m g h = nothing_left m g h
all_written_lem (suc k) m g h = go (next_waiting SLOTS SLOTS (slot_waits m) (first_slot (get_or m.waits NEXT 0))) refl (λ n. all_written_lem k n)
  where
    after : Option ℕ → Turned
    after o = on_some o (λ i. let p = pump_slot m i in let t = turned k p.left in record { records = p.bytes ∷ t.records; left = t.left }) (record { records = []; left = m })

    go : (o : Option ℕ) → next_waiting SLOTS SLOTS (slot_waits m) (first_slot (get_or m.waits NEXT 0)) ≡ o
        → ((n : QueueMemory) → Good n → waiting_in n ≤ k → NothingWaits (turned k n).left) → NothingWaits (after o).left
    go none e f = λ i low. nobody_waits_lem SLOTS (slot_waits m) i (first_slot (get_or m.waits NEXT 0)) low (first_below (get_or m.waits NEXT 0)) e
    go (some i) e f =
        let from = first_slot (get_or m.waits NEXT 0) in
        let low : i < SLOTS = waiting_below SLOTS SLOTS (slot_waits m) from i (first_below (get_or m.waits NEXT 0)) e in
        let w = waiting_is SLOTS SLOTS (slot_waits m) from i e in
        f (pump_slot m i).left (good_record m g i low w) (omega (arith, fewer m g i low w))

-- So does one that may write MOST records, whatever waits.
pub most_written : (m : QueueMemory) → Good m → NothingWaits (turned MOST m).left
most_written m g = all_written_lem MOST m g (most_waits m g)
