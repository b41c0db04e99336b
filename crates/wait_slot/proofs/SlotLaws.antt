-- What waits in slot i, as the code puts it back.
use Rattle.std.specs.Prelude.{◌≡◌, refl, ℕ, ◌+◌, ◌≤◌, ◌<◌, Bool, true, false, List, [], length, if◌then◌else◌}
use Rattle.std.proofs.Common.{sym, ap, ◌∙◌, length-set, leb-true}
use Rattle.wire.specs.Test.{◌=?◌, by_test}
use Rattle.connection.specs.declared.answer.Output.{Output}
use Rattle.connection.specs.declared.request.RequestState.{RequestState}
use Rattle.connection.specs.RequestCalls.{owes_out, owes_err}
use Rattle.connection.specs.Run.{Memory}
use Rattle.connection.specs.Sizes.{SLOTS}
use Rattle.queue_slot.specs.declared.Numbers.{Numbers}
use Rattle.queue_slot.specs.Wait.{ROOM, Wait, has_room_for, wait_end, wait_finish}
use Rattle.queue.specs.Numbers.{count_at, numbers_at}
use Rattle.queue.specs.Calls.{QUEUE, beside, room_at, put_room, wait_at, put_wait}
use Rattle.wait_numbers.specs.Slot.{numbers_in, put_numbers}
use Rattle.wait_slot.specs.After.{wait_of, numbers_of, EndAfter, EndIf}
use Rattle.wait_slot.proofs.RoomLaws.{room_same, room_length, room_put, room_again}

-- ---- any change of what waits
-- Numbers, marks and bytes are those of f of what waited.
pub put_made : (f : Wait → Wait) (memory : Memory) (waits marks queue : List ℕ) (i : ℕ) (r : Numbers) {waits' marks' queue' : List ℕ}
    → r ≡ numbers_in waits i
    → waits' ≡ put_numbers waits i (numbers_of (f (wait_of r (room_at queue i) (room_at marks i))))
    → marks' ≡ put_room marks i (f (wait_of r (room_at queue i) (room_at marks i))).marks
    → queue' ≡ put_room queue i (f (wait_of r (room_at queue i) (room_at marks i))).bytes
    → beside memory waits' marks' queue' ≡ put_wait (beside memory waits marks queue) i (f (wait_at (beside memory waits marks queue) i))
unfolding wait_at put_wait numbers_at
put_made f memory waits marks queue i r e a b d =
    let m = beside memory waits marks queue in
    let was : f (wait_of r (room_at queue i) (room_at marks i)) ≡ f (wait_at m i) = ap (λ (n : Numbers). f (wait_of n (room_at queue i) (room_at marks i))) e in
    rw (a, b, d) (ap (put_wait m i) was)

-- there is room
pub room_for : (memory : Memory) (waits marks queue : List ℕ) (i : ℕ) (content : List ℕ) → has_room_for (wait_at (beside memory waits marks queue) i) content ≡ true
    → count_at waits i + length content ≤ ROOM
unfolding has_room_for wait_at
room_for memory waits marks queue i content h = leb-true (count_at waits i + length content) ROOM h

-- ---- ends
-- an end changes no count and no byte
end_count : (w : Wait) (o : Output) → (wait_end w o).count ≡ w.count
unfolding wait_end
end_count w o = by_test (w.count =? 0) (λ t. simp t) (λ t. simp t)

pub end_bytes_lem : (w : Wait) (o : Output) → (wait_end w o).bytes ≡ w.bytes
unfolding wait_end
end_bytes_lem w o = by_test (w.count =? 0) (λ t. simp t) (λ t. simp t)

-- there are as many marks as before
end_marks : (w : Wait) (o : Output) → length (wait_end w o).marks ≡ length w.marks
unfolding wait_end
end_marks w o = by_test (w.count =? 0) (λ t. simp t) (λ t. simp (t, length-set))

-- ---- the ends that a finish owes
-- the end of a stream, where it is owed
abbrev pub ended_if : Bool → Wait → Output → Wait
ended_if owed w o = if owed then wait_end w o else w

-- what an end that may be owed comes to
if_made : (owed : Bool) (marks : List ℕ) (i : ℕ) (n : Numbers) (o : Output) (after : Numbers) (marks' bytes : List ℕ) → EndIf owed marks i n o after marks'
    → (after ≡ numbers_of (ended_if owed (wait_of n bytes (room_at marks i)) o)) × (marks' ≡ put_room marks i (ended_if owed (wait_of n bytes (room_at marks i)) o).marks)
if_made true marks i n o after marks' bytes e = e bytes
if_made false marks i n o after marks' bytes e = (e.0, e.1 ∙ sym (room_same marks i))

-- the count, the bytes and how many marks there are stay
if_count : (owed : Bool) (w : Wait) (o : Output) → (ended_if owed w o).count ≡ w.count
if_count true w o = end_count w o
if_count false w o = refl

if_bytes : (owed : Bool) (w : Wait) (o : Output) → (ended_if owed w o).bytes ≡ w.bytes
if_bytes true w o = end_bytes_lem w o
if_bytes false w o = refl

if_marks : (owed : Bool) (w : Wait) (o : Output) → length (ended_if owed w o).marks ≡ length w.marks
if_marks true w o = end_marks w o
if_marks false w o = refl

-- an end that waits changes no count
pub after_count : (marks : List ℕ) (i : ℕ) (n : Numbers) (o : Output) (after : Numbers) (marks' : List ℕ) → EndAfter marks i n o after marks' → after.count ≡ n.count
after_count marks i n o after marks' e = ap (λ (x : Numbers). x.count) (e []).0 ∙ end_count (wait_of n [] (room_at marks i)) o

-- nor does one that may be owed
pub owed_count : (owed : Bool) (marks : List ℕ) (i : ℕ) (n : Numbers) (o : Output) (after : Numbers) (marks' : List ℕ) → EndIf owed marks i n o after marks' → after.count ≡ n.count
owed_count owed marks i n o after marks' e =
    ap (λ (x : Numbers). x.count) (if_made owed marks i n o after marks' [] e).0 ∙ if_count owed (wait_of n [] (room_at marks i)) o

-- both ends, where they are owed
abbrev pub ended_both : Bool → Bool → Wait → Wait
ended_both p q w = ended_if q (ended_if p w Output.Stdout) Output.Stderr

-- what waits then, with END
abbrev pub finished_by : Bool → Bool → ℕ → Wait → Wait
finished_by p q status w =
    let b = ended_both p q w in
    record { count = b.count; front = b.front; last = true; status = status; bytes = b.bytes; marks = b.marks }

-- a finish by what it owes
finish_by : (w : Wait) (state : RequestState) (status : ℕ) (p q : Bool) → owes_out state ≡ p → owes_err state ≡ q → finished_by p q status w ≡ wait_finish w state status
unfolding wait_finish
finish_by w state status p q a b = rw (← a, ← b)

-- the two ends one after the other, as numbers and marks
both_made : (p q : Bool) (marks : List ℕ) (i : ℕ) (n a b : Numbers) (marks₁ marks₂ bytes : List ℕ)
    → length marks ≡ QUEUE → i < SLOTS → EndIf p marks i n Output.Stdout a marks₁ → EndIf q marks₁ i a Output.Stderr b marks₂
    → (b ≡ numbers_of (ended_both p q (wait_of n bytes (room_at marks i)))) × (marks₂ ≡ put_room marks i (ended_both p q (wait_of n bytes (room_at marks i))).marks)
both_made p q marks i n a b marks₁ marks₂ bytes l h e f =
    let w = wait_of n bytes (room_at marks i) in
    let u = ended_if p w Output.Stdout in
    let first = if_made p marks i n Output.Stdout a marks₁ bytes e in
    let second = if_made q marks₁ i a Output.Stderr b marks₂ bytes f in
    let size : length u.marks ≡ ROOM = if_marks p w Output.Stdout ∙ room_length marks i l h in
    let room : room_at marks₁ i ≡ u.marks = ap (λ (x : List ℕ). room_at x i) first.1 ∙ room_put marks i u.marks l h size in
    let same : wait_of a bytes (room_at marks₁ i) ≡ u =
    ap (λ (x : Numbers). wait_of x bytes (room_at marks₁ i)) first.0
    ∙ ap (wait_of (numbers_of u) bytes) room
    ∙ ap (λ (x : List ℕ). wait_of (numbers_of u) x u.marks) (sym (if_bytes p w Output.Stdout)) in (
      second.0 ∙ ap (λ (x : Wait). numbers_of (ended_if q x Output.Stderr)) same,
      second.1
          ∙ ap (λ (x : List ℕ). put_room x i (ended_if q (wait_of a bytes (room_at marks₁ i)) Output.Stderr).marks) first.1
          ∙ room_again marks i u.marks (ended_if q (wait_of a bytes (room_at marks₁ i)) Output.Stderr).marks l h size
          ∙ ap (λ (x : Wait). put_room marks i (ended_if q x Output.Stderr).marks) same,
    )

-- The ends that are owed and END come to wait.
pub finish_made : (memory : Memory) (waits marks queue : List ℕ) (i : ℕ) (r a b : Numbers) (marks₁ marks₂ : List ℕ) (state : RequestState) (status : ℕ) (p q : Bool) {waits' : List ℕ}
    → r ≡ numbers_in waits i → length marks ≡ QUEUE → i < SLOTS → owes_out state ≡ p → owes_err state ≡ q
    → EndIf p marks i r Output.Stdout a marks₁ → EndIf q marks₁ i a Output.Stderr b marks₂
    → waits' ≡ put_numbers waits i (record { count = b.count; front = b.front; last = true; status = status })
    → beside memory waits' marks₂ queue ≡ put_wait (beside memory waits marks queue) i (wait_finish (wait_at (beside memory waits marks queue) i) state status)
finish_made memory waits marks queue i r a b marks₁ marks₂ state status p q e l h owes owes' f g d =
    let m = beside memory waits marks queue in
    let w = wait_of r (room_at queue i) (room_at marks i) in
    let both = both_made p q marks i r a b marks₁ marks₂ (room_at queue i) l h f g in
    let same : (ended_both p q w).bytes ≡ room_at queue i = if_bytes q (ended_if p w Output.Stdout) Output.Stderr ∙ if_bytes p w Output.Stdout in
    put_made (finished_by p q status) memory waits marks queue i r e
    (d ∙ ap (λ (x : Numbers). put_numbers waits i (record { count = x.count; front = x.front; last = true; status = status })) both.0) both.1
    (sym (ap (put_room queue i) same ∙ room_same queue i))
    ∙ ap (put_wait m i) (finish_by (wait_at m i) state status p q owes owes')
