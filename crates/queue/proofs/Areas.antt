-- The slots of the queue: what is put is read back, and others stay; what waits in a slot, put and read.
use Rattle.std.specs.Prelude.{◌≡◌, ℕ, ◌+◌, ◌-◌, ◌*◌, ◌≤◌, ◌<◌, true, false, List, ◌++◌, length, take, drop, ltb}
use Rattle.std.proofs.Common.{sym, ap, ◌∙◌, append_assoc, arith, length-append, length-take, length-drop, take-append-drop, length-take-le, take_at, drop_at, ltb-true, ltb-false}
use Rattle.std.proofs.lemmas.List.{take-append-le, drop-append-le}
use Rattle.std.proofs.Math.Seq.{drop-append-add}
use Rattle.wire.specs.Test.{by_test}
use Rattle.connection.specs.Sizes.{SLOTS}
use Rattle.queue_slot.specs.Wait.{ROOM, Wait}
use Rattle.queue_slot.proofs.WaitLaws.{Sized}
use Rattle.queue.specs.Numbers.{WAITS}
use Rattle.queue.proofs.NumberLaws.{numbers_length, count_of_put, front_of_put, last_of_put, status_of_put, count_of_other, front_of_other, last_of_other, status_of_other}
use Rattle.queue.specs.Calls.{QUEUE, QueueMemory, room_at, put_room, wait_at, put_wait}

-- an area in the first of two lists, and one behind it
room_front : (p q : List ℕ) (j : ℕ) → j * ROOM + ROOM ≤ length p → room_at (p ++ q) j ≡ room_at p j
room_front p q j h =
    let a : j * ROOM ≤ length p = omega arith in
    let b : ROOM ≤ length (drop (j * ROOM) p) = simp length-drop (omega arith) in
    ap (take ROOM) (drop-append-le (j * ROOM) p q a) ∙ take-append-le ROOM (drop (j * ROOM) p) q b

room_back : (p p' q : List ℕ) (j : ℕ) → length p ≡ length p' → length p ≤ j * ROOM → room_at (p ++ q) j ≡ room_at (p' ++ q) j
room_back p p' q j e h =
    let a : j * ROOM ≡ length p + (j * ROOM - length p) = omega arith in
    let b : j * ROOM ≡ length p' + (j * ROOM - length p) = omega arith in
    let l : drop (j * ROOM) (p ++ q) ≡ drop (j * ROOM - length p) q = ap (λ (n : ℕ). drop n (p ++ q)) a ∙ drop-append-add p q (j * ROOM - length p) in
    let r : drop (j * ROOM) (p' ++ q) ≡ drop (j * ROOM - length p) q = ap (λ (n : ℕ). drop n (p' ++ q)) b ∙ drop-append-add p' q (j * ROOM - length p) in
    ap (take ROOM) (l ∙ sym r)

module _ (store : List ℕ) (i : ℕ) (area : List ℕ) (full : length store ≡ QUEUE) (low : i < SLOTS) (fits : length area ≡ ROOM) where
  -- A store keeps its length.
  pub put_room_length : length (put_room store i area) ≡ QUEUE
  put_room_length = simp (length-append, length-take, length-drop) (omega arith)

  -- The area put is read back.
  pub room_of_put : room_at (put_room store i area) i ≡ area
  room_of_put =
      ap (take ROOM) (drop_at (take (i * ROOM) store) (area ++ drop (i * ROOM + ROOM) store) (i * ROOM) (length-take-le (i * ROOM) store (omega arith)))
      ∙ take_at area (drop (i * ROOM + ROOM) store) ROOM fits

  -- Another slot's area stays.
  pub room_of_other : (j : ℕ) → (j ≡ i → ⊥) → room_at (put_room store i area) j ≡ room_at store j
  room_of_other j other = by_test (ltb j i) before behind
    where
      before : ltb j i ≡ true → room_at (put_room store i area) j ≡ room_at store j
      before t =
          let less : j < i = ltb-true j i t in
          let p : length (take (i * ROOM) store) ≡ i * ROOM = length-take-le (i * ROOM) store (omega arith) in
          let q : j * ROOM + ROOM ≤ length (take (i * ROOM) store) = omega arith in
          room_front (take (i * ROOM) store) (area ++ drop (i * ROOM + ROOM) store) j q
          ∙ sym (room_front (take (i * ROOM) store) (drop (i * ROOM) store) j q)
          ∙ ap (λ (l : List ℕ). room_at l j) (take-append-drop (i * ROOM) store)

      behind : ltb j i ≡ false → room_at (put_room store i area) j ≡ room_at store j
      behind t =
          let more : i ≤ j = ltb-false j i t in
          let p : length (take (i * ROOM) store ++ area) ≡ i * ROOM + ROOM = simp (length-append, length-take) (omega arith) in
          let q : length (take (i * ROOM + ROOM) store) ≡ i * ROOM + ROOM = length-take-le (i * ROOM + ROOM) store (omega arith) in
          ap (λ (l : List ℕ). room_at l j) (sym (append_assoc (take (i * ROOM) store) area (drop (i * ROOM + ROOM) store)))
          ∙ room_back (take (i * ROOM) store ++ area) (take (i * ROOM + ROOM) store) (drop (i * ROOM + ROOM) store) j (omega arith) (omega arith)
          ∙ ap (λ (l : List ℕ). room_at l j) (take-append-drop (i * ROOM + ROOM) store)

-- ---- what waits in a slot
-- The numbers, the queue and the marks have their sizes.
pub record Roomy (m : QueueMemory) : Type 0 where
  pub waits : length m.waits ≡ WAITS
  pub queue : length m.queue ≡ QUEUE
  pub marks : length m.marks ≡ QUEUE

module _ (m : QueueMemory) (i : ℕ) (w : Wait) (z : Roomy m) (low : i < SLOTS) (s : Sized w) where
  -- What is put is read back.
  pub wait_of_put : wait_at (put_wait m i w) i ≡ w
  unfolding wait_at put_wait
  wait_of_put =
      rw (
        count_of_put m.waits i w z.waits low,
        front_of_put m.waits i w z.waits low,
        last_of_put m.waits i w z.waits low,
        status_of_put m.waits i w z.waits low,
        room_of_put m.queue i w.bytes z.queue low s.bytes_size,
        room_of_put m.marks i w.marks z.marks low s.marks_size,
      )

  -- Another slot stays.
  pub wait_of_other : (j : ℕ) → j < SLOTS → (j ≡ i → ⊥) → wait_at (put_wait m i w) j ≡ wait_at m j
  unfolding wait_at put_wait
  wait_of_other j h d =
      rw (
        count_of_other m.waits i w z.waits low j h d,
        front_of_other m.waits i w z.waits low j h d,
        last_of_other m.waits i w z.waits low j h d,
        status_of_other m.waits i w z.waits low j h d,
        room_of_other m.queue i w.bytes z.queue low s.bytes_size j d,
        room_of_other m.marks i w.marks z.marks low s.marks_size j d,
      )

  -- The sizes stay.
  pub roomy_put : Roomy (put_wait m i w)
  unfolding put_wait
  roomy_put = record {
    waits = numbers_length m.waits i w z.waits low;
    queue = put_room_length m.queue i w.bytes z.queue low s.bytes_size;
    marks = put_room_length m.marks i w.marks z.marks low s.marks_size;
  }
