-- A turn on its way: what it comes to is what it has written, and what is still to come.
use Rattle.std.specs.Prelude.{◌≡◌, refl, ℕ, zero, suc, ◌+◌, ◌*◌, ◌≤◌, ◌<◌, not, length, get_or, ltb}
use Rattle.std.proofs.Common.{sym, ap, ◌∙◌, arith, add-zero, zero-add, length-append, ltb-true}
use mathlib.Core.List.{List, [], ◌∷◌, ◌++◌, flatten}
use Rattle.std.proofs.Math.Option.{Option, none, some}
use Rattle.wire.specs.Test.{by_test}
use Rattle.wire.specs.Buffer.{put_at}
use Rattle.wire.proofs.BufferLaws.{put_none, put_put}
use Rattle.machine_queue.specs.Pump.{next_waiting}
use Rattle.machine_queue.proofs.Pumping.{waiting_below}
use Rattle.connection.specs.Sizes.{SLOTS}
use Rattle.queue.specs.Numbers.{NEXT}
use Rattle.queue.specs.Calls.{QueueMemory, conn_of, pump_slot, Turned, slot_waits, first_slot, turned, Pumped, pumped_with}
use Rattle.queue_pump.specs.Able.{AbleIn, kept_slot}

-- a turn that was not refused
abbrev pub wrote : ℕ → ℕ → QueueMemory → List ℕ → Pumped
wrote records bytes m out = record { refusal = 0; records = records; written = bytes; closed = not (conn_of m).«open»; left = m; buffer = out }

-- So many records and bytes were written, and this turn is still to come: what it all comes to.
abbrev pub onward : ℕ → ℕ → Turned → List ℕ → Pumped
onward records bytes t out = wrote (records + length t.records) (bytes + length (flatten t.records)) t.left (put_at out bytes (flatten t.records))

-- the same with so many records still allowed
unfoldable pub comes : ℕ → ℕ → ℕ → QueueMemory → List ℕ → Pumped
comes records bytes left m out = onward records bytes (turned left m) out

-- the slot that is served next, if any
abbrev pub next_in : QueueMemory → Option ℕ
next_in m = next_waiting SLOTS SLOTS (slot_waits m) (first_slot (get_or m.waits NEXT 0))

-- The slot to begin with is one.
pub first_below : (n : ℕ) → first_slot n < SLOTS
first_below n = by_test (ltb n SLOTS) (λ e. rw e (ltb-true n SLOTS e)) (λ e. rw e (omega arith))

-- So is the one that is served next.
pub next_below : (m : QueueMemory) (i : ℕ) → next_in m ≡ some i → i < SLOTS
next_below m i e = waiting_below SLOTS SLOTS (slot_waits m) (first_slot (get_or m.waits NEXT 0)) i (first_below (get_or m.waits NEXT 0)) e

-- ---- turns
-- Nothing waits: no record.
turn_none : (k : ℕ) (m : QueueMemory) → next_in m ≡ none → turned k m ≡ record { records = []; left = m }
unfolding turned
turn_none zero m e = refl
turn_none (suc k) m e = rw e

-- a record before the others
abbrev one_more_lem : List ℕ → Turned → Turned
one_more_lem x t = record { records = x ∷ t.records; left = t.left }

-- One record, and then the others.
turn_one : (k : ℕ) (m : QueueMemory) (i : ℕ) → next_in m ≡ some i → turned (suc k) m ≡ one_more_lem (pump_slot m i).bytes (turned k (pump_slot m i).left)
unfolding turned
turn_one k m i e = rw e

-- The records take at most 520 bytes each.
turn_short : (k : ℕ) (m : QueueMemory) → AbleIn m → length (flatten (turned k m).records) ≤ 520 * k
unfolding turned flatten
turn_short zero m z = omega arith
turn_short (suc k) m z = go (next_in m) refl (λ p. turn_short k p)
  where
    go : (o : Option ℕ) → next_in m ≡ o → ((p : QueueMemory) → AbleIn p → length (flatten (turned k p).records) ≤ 520 * k) → length (flatten (turned (suc k) m).records) ≤ 520 * suc k
    go none e f = rw (turn_none (suc k) m e) (omega arith)
    go (some i) e f =
        let p = pump_slot m i in
        let q = kept_slot m i z (next_below m i e) in
        let rest = flatten (turned k p.left).records in
        rw (turn_one k m i e) (omega (arith, length-append p.bytes rest, q.short, f p.left q.able))

-- ---- what it all comes to
-- by its three parts
wrote_same : (m : QueueMemory) {r r' b b' : ℕ} {l l' : List ℕ} → r ≡ r' → b ≡ b' → l ≡ l' → wrote r b m l ≡ wrote r' b' m l'
wrote_same m er eb el = rw (er, eb, el)

-- At the start all is to come.
pub comes_first : (n : ℕ) (m : QueueMemory) (out : List ℕ) → comes 0 0 n m out ≡ pumped_with (turned n m) out
unfolding comes
comes_first n m out = rw (zero-add (length (turned n m).records), zero-add (length (flatten (turned n m).records)))

-- At the end nothing is.
pub comes_last : (records bytes : ℕ) (m : QueueMemory) (out : List ℕ) → comes records bytes 0 m out ≡ wrote records bytes m out
unfolding comes turned flatten
comes_last records bytes m out = wrote_same m (add-zero records) (add-zero bytes) (put_none out bytes)

-- Where nothing waits no more is allowed.
pub comes_none : (records bytes left : ℕ) (m : QueueMemory) (out : List ℕ) → next_in m ≡ none → comes records bytes left m out ≡ comes records bytes 0 m out
unfolding comes
comes_none records bytes left m out e = ap (λ t. onward records bytes t out) (turn_none left m e ∙ sym (turn_none 0 m e))

-- One record more is written, and one less is allowed.
pub comes_one : (records bytes k : ℕ) (m : QueueMemory) (i : ℕ) (out : List ℕ) → AbleIn m → next_in m ≡ some i → bytes + 520 * suc k ≤ length out
    → comes records bytes (suc k) m out ≡ comes (records + 1) (bytes + length (pump_slot m i).bytes) k (pump_slot m i).left (put_at out bytes (pump_slot m i).bytes)
unfolding comes flatten
comes_one records bytes k m i out z e h =
    let p = pump_slot m i in
    let q = kept_slot m i z (next_below m i e) in
    let t = turned k p.left in
    let x = flatten t.records in
    let s = turn_short k p.left q.able in
    let l : length (p.bytes ++ x) ≡ length p.bytes + length x = length-append p.bytes x in
    let a : records + suc (length t.records) ≡ records + 1 + length t.records = omega arith in
    let b : bytes + length (p.bytes ++ x) ≡ bytes + length p.bytes + length x = omega arith in
    let c : put_at out bytes (p.bytes ++ x) ≡ put_at (put_at out bytes p.bytes) (bytes + length p.bytes) x = sym (put_put out bytes (bytes + length p.bytes) p.bytes x refl (omega (arith, q.short))) in
    ap (λ u. onward records bytes u out) (turn_one k m i e) ∙ wrote_same t.left a b c
