-- Slot i's part of the queue, or of the marks: read, put, lent and given back.
use Rattle.std.specs.Prelude.{◌≡◌, ℕ, ◌+◌, ◌-◌, ◌*◌, ◌≤◌, ◌<◌, List, ◌++◌, length, take, drop}
use Rattle.std.proofs.Common.{sym, ap, ◌∙◌, arith, append_assoc, length-append, length-take, length-drop, take-append-drop, take_at, drop_at, drop-drop, take-take, get_or-take, get_or-drop}
use borrow.Rule.Slice.PartMut.{put_mid, mid_of}
use Rattle.wire.specs.Buffer.{byte_at}
use Rattle.connection.specs.Sizes.{SLOTS}
use Rattle.queue_slot.specs.Wait.{ROOM}
use Rattle.queue.specs.Calls.{QUEUE, room_at, put_room}

-- the first bytes of the part that is lent
pub first_lent : (l : List ℕ) (i n : ℕ) → n ≤ ROOM → mid_of (i * ROOM) (i * ROOM + n - i * ROOM) l ≡ take n (room_at l i)
first_lent l i n h =
    let e : i * ROOM + n - i * ROOM ≡ n = omega arith in
    rw e (sym (take-take n ROOM (drop (i * ROOM) l) h))

-- The part was lent to what makes f of it, and came back as x.
pub part_made : (l : List ℕ) (i : ℕ) (f : List ℕ → List ℕ) {x : List ℕ} → x ≡ f (mid_of (i * ROOM) (i * ROOM + ROOM - i * ROOM) l)
    → put_mid (i * ROOM) (i * ROOM + ROOM - i * ROOM) l x ≡ put_room l i (f (room_at l i))
part_made l i f {x} h =
    let n : i * ROOM + ROOM - i * ROOM ≡ ROOM = omega arith in
    let g : x ≡ f (room_at l i) = rw n at h in
    rw n (ap (λ (r : List ℕ). take (i * ROOM) l ++ (x ++ r)) (drop-drop ROOM (i * ROOM) l) ∙ ap (put_room l i) g)

-- the part as it is, put back
pub room_same : (l : List ℕ) (i : ℕ) → put_room l i (room_at l i) ≡ l
room_same l i =
    let a = i * ROOM in
    ap (λ (r : List ℕ). take a l ++ (room_at l i ++ r)) (sym (drop-drop ROOM a l)) ∙ ap (λ (r : List ℕ). take a l ++ r) (take-append-drop ROOM (drop a l)) ∙ take-append-drop a l

-- a part has ROOM bytes
pub room_length : (l : List ℕ) (i : ℕ) → length l ≡ QUEUE → i < SLOTS → length (room_at l i) ≡ ROOM
room_length l i n h = simp (length-take, length-drop) (omega arith)

-- a byte of it
pub room_byte : (l : List ℕ) (i k : ℕ) → k < ROOM → byte_at (room_at l i) k ≡ byte_at l (i * ROOM + k)
room_byte l i k h = get_or-take ROOM (drop (i * ROOM) l) k 0 h ∙ get_or-drop (i * ROOM) l k 0

-- a part that was put is read
pub room_put : (l : List ℕ) (i : ℕ) (x : List ℕ) → length l ≡ QUEUE → i < SLOTS → length x ≡ ROOM → room_at (put_room l i x) i ≡ x
room_put l i x n h e =
    let t : length (take (i * ROOM) l) ≡ i * ROOM = simp length-take (omega arith) in
    ap (take ROOM) (drop_at (take (i * ROOM) l) (x ++ drop (i * ROOM + ROOM) l) (i * ROOM) t) ∙ take_at x (drop (i * ROOM + ROOM) l) ROOM e

-- of two parts put, the second stays
pub room_again : (l : List ℕ) (i : ℕ) (x y : List ℕ) → length l ≡ QUEUE → i < SLOTS → length x ≡ ROOM → put_room (put_room l i x) i y ≡ put_room l i y
room_again l i x y n h e =
    let a = i * ROOM in
    let rest = drop (a + ROOM) l in
    let t : length (take a l) ≡ a = simp length-take (omega arith) in
    let u : length (take a l ++ x) ≡ a + ROOM = simp (length-append, length-take) (omega arith) in
    ap (λ (r : List ℕ). r ++ (y ++ drop (a + ROOM) (put_room l i x))) (take_at (take a l) (x ++ rest) a t)
    ∙ ap (λ (r : List ℕ). take a l ++ (y ++ r)) (ap (drop (a + ROOM)) (sym (append_assoc (take a l) x rest)) ∙ drop_at (take a l ++ x) rest (a + ROOM) u)
