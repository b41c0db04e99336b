-- What the code does is the call: one step of the receiver, over what it is offered, and then the way.
use Rattle.std.specs.Prelude.{ℕ, ◌≤◌, ◌≡◌, refl, Bool, true, false, List, ◌⊎◌, length, take, ltb, eqb, if◌then◌else◌, Ok, Err, Result}
use Rattle.std.proofs.Common.{sym, ap, ◌∙◌, inl, inr, arith, length-take, take_all, take-take, eq-eqb}
use Rattle.std.proofs.lemmas.Bool.{eqb-false}
use Rattle.wire.specs.Test.{by_test}
use Rattle.wire.specs.Buffer.{put_at}
use Rattle.connection.specs.Sizes.{STORE}
use Rattle.connection.specs.Codes.{refusal_number}
use Rattle.connection.specs.Shape.{in_shape}
use Rattle.connection.specs.Step.{State, Started, Stepped, stays, advances, step_refusal, stepped, started}
use Rattle.connection.proofs.Laws.Progress.{step_refused, step_nothing, step_uses_no_more}
use Rattle.codes.proofs.Laws.{refusal_some}
use Rattle.conn_step.specs.Answer.{told_number}
use Rattle.lifting.specs.declared.way.Way.{Way}
use Rattle.lifting.specs.Call.{Lifting, LiftStarted, Lifted, fresh_lifting, start_refusal, lift_started, stands}
use Rattle.lifting.specs.Call.{lift_refusal, header_written, copies_content, offered, after_bytes, step_over, reads_on}
use Rattle.lifting.specs.Call.{lifted}
use Rattle.lifting.specs.Ways.{started_for, offer_of, unless_waiting, way_of, goes, HasRoom}
use Rattle.lifting.proofs.HeaderLaws.{take_short}
use Rattle.connection.specs.declared.answer.Refusal.{Refusal}
use Rattle.connection.specs.declared.event.Event.{Event}

-- ---- what the receiver is offered
pub offer_within : (waiting id : ℕ) (copies : Bool) (bytes room : ℕ) → offer_of waiting id copies bytes room ≤ bytes
unfolding offer_of
offer_within waiting id copies bytes room =
    by_test (ltb 0 waiting)
    (λ w. simp w (omega arith))
    (λ w.
    by_test (eqb id 0)
    (λ i. simp (w, i) (omega arith))
    (λ i. by_test copies (λ t. simp (w, i, t) (omega arith)) (λ t. simp (w, i, t) (omega arith))))

offer_room : (waiting id : ℕ) (copies : Bool) (bytes room : ℕ) → copies ≡ true
    → offer_of waiting id copies bytes room ≤ room
unfolding offer_of
offer_room waiting id copies bytes room t =
    by_test (ltb 0 waiting)
    (λ w. simp w (omega arith))
    (λ w. by_test (eqb id 0) (λ i. simp (w, i) (omega arith)) (λ i. simp (w, i, t) (omega arith)))

-- so many bytes of the piece the receiver is offered
abbrev pub offer_to : Lifting → List ℕ → List ℕ → ℕ
offer_to l piece buffer = offer_of l.waiting l.id (copies_content l) (length piece) (length buffer)

offer_all : (l : Lifting) (piece buffer : List ℕ) → eqb l.id 0 ≡ false → ltb 0 l.waiting ≡ false
    → take (offer_to l piece buffer) piece ≡ offered l piece (length buffer)
unfolding offer_of
offer_all l piece buffer i w =
    by_test (copies_content l)
    (λ t. simp (w, i, t) (take_short (length buffer) piece))
    (λ t. simp (w, i, t) (take_all (length piece) piece (omega arith)))

-- Content that is copied has room: no more is used than was offered.
pub offer_has_room : (l : Lifting) (piece buffer : List ℕ) (st : State) (store : List ℕ) (used : ℕ)
    → used ≡ (stepped st store (take (offer_to l piece buffer) piece)).used
    → HasRoom (copies_content l) (take used piece) buffer
offer_has_room l piece buffer st store used e t =
    let n = offer_to l piece buffer in
    let fits = offer_room l.waiting l.id (copies_content l) (length piece) (length buffer) t in
    let uses = step_uses_no_more st store (take n piece) in
    omega (arith, e, length-take used piece, length-take n piece, uses, fits)

pub offer_uses : (l : Lifting) (piece buffer : List ℕ) (st : State) (store : List ℕ) (used : ℕ)
    → used ≡ (stepped st store (take (offer_to l piece buffer) piece)).used → used ≤ length piece
offer_uses l piece buffer st store used e =
    let n = offer_to l piece buffer in
    omega (arith, e, length-take n piece, step_uses_no_more st store (take n piece))

-- ---- the ways that change nothing of the receiver
-- the receiver refuses, by 2 or 9
refuses : (l : Lifting) (store x buffer : List ℕ) (result : Result Event Refusal) (n : ℕ) (s : Stepped)
    → s ≡ stays n l.state store → told_number result ≡ n
    → eqb n 0 ≡ false → eqb n 1 ≡ false
    → goes (way_of result l.id l.waiting) l s x buffer ≡ stands n l store buffer
refuses l store x buffer (Ok e) n s se told some other = absurd (eqb-false n 0 some (sym told))
refuses l store x buffer (Err why) n s se told some other =
    let test : eqb (refusal_number why) 1 ≡ false = ap (λ (k : ℕ). eqb k 1) told ∙ other in
    rw se (simp test (ap (λ (k : ℕ). stands k l store buffer) told))

-- the id is 0
refuses_zero : (l : Lifting) (store x buffer : List ℕ) (n : ℕ) (way : Way) (s : Stepped)
    → s ≡ stays n l.state store → eqb l.id 0 ≡ true
    → goes (unless_waiting l.id l.waiting way) l s x buffer ≡ stands 3 l store buffer
unfolding unless_waiting
refuses_zero l store x buffer n way s se i = rw se (simp i)

-- a header waits
writes_header : (l : Lifting) (store x buffer : List ℕ) (n : ℕ) (way : Way) (s : Stepped)
    → s ≡ stays n l.state store → eqb l.id 0 ≡ false
    → ltb 0 l.waiting ≡ true
    → goes (unless_waiting l.id l.waiting way) l s x buffer ≡ header_written l store buffer
unfolding unless_waiting
writes_header l store x buffer n way s se i w = rw se (simp (i, w))

-- after a close
stands_closed : (l : Lifting) (store x buffer : List ℕ) (n : ℕ) (s : Stepped) → s ≡ stays n l.state store
    → eqb l.id 0 ≡ false
    → ltb 0 l.waiting ≡ false
    → goes (unless_waiting l.id l.waiting Way.Stands) l s x buffer ≡ stands 0 l store buffer
unfolding unless_waiting
stands_closed l store x buffer n s se i w = rw se (simp (i, w))

-- ---- the way that reads on
reads_on_lem : (l : Lifting) (store piece buffer : List ℕ) (s : Stepped)
    → s ≡ stepped l.state store (take (offer_to l piece buffer) piece)
    → eqb l.id 0 ≡ false → ltb 0 l.waiting ≡ false
    → goes (unless_waiting l.id l.waiting Way.Reads) l s (take s.used piece) buffer
    ≡ reads_on l store piece buffer
unfolding unless_waiting reads_on
reads_on_lem l store piece buffer s se i w =
    let n = offer_to l piece buffer in
    let bytes = take n piece in
    let uses = step_uses_no_more l.state store bytes in
    let used : s.used ≤ n = omega (arith, ap (λ (x : Stepped). x.used) se, uses, length-take n piece) in
    let over : List ℕ → Lifted =
    λ x. step_over l (stepped l.state store x) (take (stepped l.state store x).used x) buffer in
    let same = offer_all l piece buffer i w in
    simp (i, w)
    (ap (λ (x : List ℕ). step_over l s x buffer) (sym (take-take s.used n piece used))
    ∙ ap (λ (x : Stepped). step_over l x (take x.used bytes) buffer) se
    ∙ ap over same)

-- ---- all the ways
-- the step is refused by 1, or not at all: then the id and a header that waits decide
closed_way : (result : Result Event Refusal) (id waiting : ℕ) → told_number result ≡ 1
    → way_of result id waiting ≡ unless_waiting id waiting Way.Stands
closed_way (Ok e) id waiting told = absurd (omega (arith, told))
closed_way (Err why) id waiting told =
    let test : eqb (refusal_number why) 1 ≡ true = ap (λ (k : ℕ). eqb k 1) told in
    simp test

reading_way : (result : Result Event Refusal) (id waiting : ℕ) → told_number result ≡ 0
    → way_of result id waiting ≡ unless_waiting id waiting Way.Reads
reading_way (Ok e) id waiting told = refl
reading_way (Err why) id waiting told = absurd (eqb-false (refusal_number why) 0 (refusal_some why) told)

-- no bytes are offered where a header waits, or for id 0
offer_none : (l : Lifting) (piece buffer : List ℕ) → (ltb 0 l.waiting ≡ true) ⊎ (eqb l.id 0 ≡ true)
    → offer_to l piece buffer ≡ 0
unfolding offer_of
offer_none l piece buffer (inl w) = simp w
offer_none l piece buffer (inr i) = by_test (ltb 0 l.waiting) (λ w. simp w) (λ w. simp (w, i))

-- a refused step, and one that is not
stays_by : (st : State) (store x : List ℕ) (n : ℕ) → step_refusal st.conn store ≡ n → eqb n 0 ≡ false
    → stepped st store x ≡ stays n st store
stays_by st store x n r some =
    step_refused st store x (λ z. eqb-false n 0 some (sym r ∙ z)) ∙ ap (λ (k : ℕ). stays k st store) r

step_told : (st : State) (store x : List ℕ) → step_refusal st.conn store ≡ 0 → (stepped st store x).refusal ≡ 0
unfolding stepped advances
step_told st store x r =
    let t = eq-eqb (step_refusal st.conn store) 0 r in
    by_test (eqb (length x) 0) (λ z. simp (t, z)) (λ z. simp (t, z))

-- the call, row by row
lifted_refused : (l : Lifting) (store piece buffer : List ℕ) (n : ℕ) → lift_refusal l store ≡ n → eqb n 0 ≡ false
    → lifted l store piece buffer ≡ stands n l store buffer
unfolding lifted
lifted_refused l store piece buffer n r some =
    let t : eqb (lift_refusal l store) 0 ≡ false = ap (λ (k : ℕ). eqb k 0) r ∙ some in
    simp t (ap (λ (k : ℕ). stands k l store buffer) r)

lifted_waits : (l : Lifting) (store piece buffer : List ℕ) → lift_refusal l store ≡ 0 → ltb 0 l.waiting ≡ true
    → lifted l store piece buffer ≡ header_written l store buffer
unfolding lifted
lifted_waits l store piece buffer r w = simp (eq-eqb (lift_refusal l store) 0 r, w)

lifted_closed : (l : Lifting) (store piece buffer : List ℕ) → lift_refusal l store ≡ 0 → ltb 0 l.waiting ≡ false
    → l.state.conn.«open» ≡ false
    → lifted l store piece buffer ≡ stands 0 l store buffer
unfolding lifted
lifted_closed l store piece buffer r w d = simp (eq-eqb (lift_refusal l store) 0 r, w, d)

lifted_reads : (l : Lifting) (store piece buffer : List ℕ) → lift_refusal l store ≡ 0 → ltb 0 l.waiting ≡ false
    → l.state.conn.«open» ≡ true
    → lifted l store piece buffer ≡ reads_on l store piece buffer
unfolding lifted
lifted_reads l store piece buffer r w d = simp (eq-eqb (lift_refusal l store) 0 r, w, d)

-- the rows: the call's, and the receiver's
record Rows (l : Lifting) (store : List ℕ) : Type 0 where
  pub size : eqb (length store) STORE ≡ true
  pub shape : in_shape l.state.conn ≡ true

zero_row : (l : Lifting) (store : List ℕ) → Rows l store → eqb l.id 0 ≡ true → lift_refusal l store ≡ 3
unfolding lift_refusal
zero_row l store f i = simp (f.size, f.shape, i)

no_row : (l : Lifting) (store : List ℕ) → Rows l store → eqb l.id 0 ≡ false → lift_refusal l store ≡ 0
unfolding lift_refusal
no_row l store f i = simp (f.size, f.shape, i)

-- the connection is closed
goes_closed : (l : Lifting) (store piece buffer : List ℕ) (result : Result Event Refusal) (s : Stepped) → Rows l store
    → l.state.conn.«open» ≡ false
    → s ≡ stepped l.state store (take (offer_to l piece buffer) piece) → told_number result ≡ s.refusal
    → goes (way_of result l.id l.waiting) l s (take s.used piece) buffer ≡ lifted l store piece buffer
unfolding step_refusal
goes_closed l store piece buffer result s f d se told =
    let x = take s.used piece in
    let r : step_refusal l.state.conn store ≡ 1 = simp (f.size, f.shape, d) in
    let st = se ∙ stays_by l.state store (take (offer_to l piece buffer) piece) 1 r refl in
    let way = closed_way result l.id l.waiting (told ∙ ap (λ (y : Stepped). y.refusal) st) in
    ap (λ (w : Way). goes w l s x buffer) way
    ∙ by_test (eqb l.id 0)
    (λ i.
    refuses_zero l store x buffer 1 Way.Stands s st i
    ∙ sym (lifted_refused l store piece buffer 3 (zero_row l store f i) refl))
    (λ i.
    by_test (ltb 0 l.waiting)
    (λ w.
    writes_header l store x buffer 1 Way.Stands s st i w
    ∙ sym (lifted_waits l store piece buffer (no_row l store f i) w))
    (λ w.
    stands_closed l store x buffer 1 s st i w
    ∙ sym (lifted_closed l store piece buffer (no_row l store f i) w d)))

-- the connection is open
goes_open : (l : Lifting) (store piece buffer : List ℕ) (result : Result Event Refusal) (s : Stepped) → Rows l store
    → l.state.conn.«open» ≡ true
    → s ≡ stepped l.state store (take (offer_to l piece buffer) piece) → told_number result ≡ s.refusal
    → goes (way_of result l.id l.waiting) l s (take s.used piece) buffer ≡ lifted l store piece buffer
unfolding step_refusal
goes_open l store piece buffer result s f d se told =
    let x = take s.used piece in
    let r : step_refusal l.state.conn store ≡ 0 = simp (f.size, f.shape, d) in
    let none : (ltb 0 l.waiting ≡ true) ⊎ (eqb l.id 0 ≡ true) → s ≡ stays 0 l.state store =
    λ k. se
    ∙ ap (λ (n : ℕ). stepped l.state store (take n piece)) (offer_none l piece buffer k)
    ∙ step_nothing l.state store
    ∙ ap (λ (n : ℕ). stays n l.state store) r in
    let bytes = take (offer_to l piece buffer) piece in
    let told' = ap (λ (y : Stepped). y.refusal) se ∙ step_told l.state store bytes r in
    let way = reading_way result l.id l.waiting (told ∙ told') in
    ap (λ (w : Way). goes w l s x buffer) way
    ∙ by_test (eqb l.id 0)
    (λ i.
    refuses_zero l store x buffer 0 Way.Reads s (none (inr i)) i
    ∙ sym (lifted_refused l store piece buffer 3 (zero_row l store f i) refl))
    (λ i.
    by_test (ltb 0 l.waiting)
    (λ w.
    writes_header l store x buffer 0 Way.Reads s (none (inl w)) i w
    ∙ sym (lifted_waits l store piece buffer (no_row l store f i) w))
    (λ w. reads_on_lem l store piece buffer s se i w ∙ sym (lifted_reads l store piece buffer (no_row l store f i) w d)))

-- What the code does is the call.
pub goes_lifted : (l : Lifting) (store piece buffer : List ℕ) (result : Result Event Refusal) (s : Stepped)
    → s ≡ stepped l.state store (take (offer_to l piece buffer) piece) → told_number result ≡ s.refusal
    → goes (way_of result l.id l.waiting) l s (take s.used piece) buffer ≡ lifted l store piece buffer
unfolding step_refusal lift_refusal
goes_lifted l store piece buffer result s se told =
    let bytes = take (offer_to l piece buffer) piece in
    let x = take s.used piece in
    let by_row : (n : ℕ) → step_refusal l.state.conn store ≡ n → lift_refusal l store ≡ n → eqb n 0 ≡ false
    → eqb n 1 ≡ false
    → goes (way_of result l.id l.waiting) l s x buffer ≡ lifted l store piece buffer =
    λ n r k some other.
    let st = se ∙ stays_by l.state store bytes n r some in
    refuses l store x buffer result n s st (told ∙ ap (λ (y : Stepped). y.refusal) st) some other
    ∙ sym (lifted_refused l store piece buffer n k some) in
    by_test (eqb (length store) STORE)
    (λ a.
    by_test (in_shape l.state.conn)
    (λ b.
    by_test l.state.conn.«open»
    (λ d. goes_open l store piece buffer result s (record { size = a; shape = b }) d se told)
    (λ d. goes_closed l store piece buffer result s (record { size = a; shape = b }) d se told))
    (λ b. by_row 9 (simp (a, b)) (simp (a, b)) refl refl))
    (λ a. by_row 2 (simp a) (simp a) refl refl)

-- The parts of a step that reads on, put together.
pub stepped_over : (l : Lifting) (s : Stepped) (x buffer out : List ℕ) (copies : Bool) (written : ℕ) (after : Lifting)
    → copies ≡ copies_content l
    → written ≡ (if copies then length x else 0) → out ≡ (if copies then put_at buffer 0 x else buffer)
    → after ≡ after_bytes l s x
    → record { refusal = 0; used = length x; written = written; lifting = after; store = s.store; buffer = out }
    ≡ step_over l s x buffer
stepped_over l s x buffer out copies written after k w o a = rw (w, o, a, k) refl

-- ---- the start
abbrev pub lift_started_from : Started → ℕ → LiftStarted
lift_started_from s id = record { refusal = s.refusal; lifting = fresh_lifting s.state id; store = s.store }

pub started_lift : (gathered store : List ℕ) (id : ℕ)
    → lift_started_from (started_for gathered store id) id ≡ lift_started gathered store id
unfolding started_for lift_started start_refusal started
started_lift gathered store id =
    by_test (eqb (length store) STORE) (λ a. by_test (eqb id 0) (λ i. simp (a, i)) (λ i. simp (a, i))) (λ a. simp a)
