-- What closes a connection, and what closing leaves.
use Rattle.connection.specs.Slots.{Slot}
use Rattle.std.specs.Prelude.{◌≡◌, refl, ℕ, Bool, true, false, List, length}
use Rattle.std.proofs.Common.{ap, ◌∙◌, arith, eq-eqb}
use Rattle.std.proofs.lemmas.List.{length-replicate}
use Rattle.wire.specs.Buffer.{zeros}
use Rattle.connection.specs.declared.request.Due.{Due}
use Rattle.connection.specs.declared.state.Conn.{Conn}
use Rattle.connection.specs.Sizes.{STORE}
use Rattle.connection.specs.Event.{Event}
use Rattle.connection.specs.Request.{Held, Ruled, faulted, aborted, turned, on_header, on_content}
use Rattle.connection.specs.Slots.{held_at}
use Rattle.connection.proofs.Laws.ShapeLaws.{closed_in_shape}
use Rattle.connection.specs.Step.{State, Left, closed_conn, closes, on_active, of_request, Stepped, stays, leaves, step_refusal, stepped}
use Rattle.connection.proofs.Laws.Ways.{nameless_not_final, is_final, is_close, Way, by_way}
use Rattle.connection.proofs.Laws.Rules.{by_rule}
use Rattle.machine.specs.Cause.{Cause}

-- an event that closes the connection
abbrev pub is_closing : Event → Bool
is_closing Event.None = false
is_closing (Event.Open id role keep) = false
is_closing (Event.Ready id n) = false
is_closing (Event.Data id stream n) = false
is_closing (Event.End id stream measure) = false
is_closing (Event.Abort id) = false
is_closing (Event.Refuse id status) = false
is_closing (Event.Fault id n) = false
is_closing (Event.Query conns reqs mpxs) = false
is_closing (Event.Unknown kind) = false
is_closing (Event.Closed n) = true

-- ---- a step closes, or it does not
-- what a step leaves where it does not close: the connection open, and another event.
record StaysOpen (s : Stepped) : Type 0 where
  is_open : s.state.conn.«open» ≡ true
  goes_on_lem : is_closing s.event ≡ false

-- what a step leaves where it closes: one of the four causes, the one closed state, zeros.
record ClosedBy (store : List ℕ) (by : Cause) (s : Stepped) : Type 0 where
  cause : is_close by ≡ true
  told : s.event ≡ Event.Closed by
  freed : s.state.conn ≡ closed_conn
  zeroed : s.store ≡ zeros (length store)

not_final : (e : Event) → is_final e ≡ false → is_closing e ≡ false
not_final Event.None f = refl
not_final (Event.Open id role keep) f = refl
not_final (Event.Ready id n) f = refl
not_final (Event.Data id stream n) f = refl
not_final (Event.End id stream measure) f = refl
not_final (Event.Abort id) f = refl
not_final (Event.Refuse id status) f = refl
not_final (Event.Fault id n) f = refl
not_final (Event.Query conns reqs mpxs) f = refl
not_final (Event.Unknown kind) f = refl
not_final (Event.Closed n) f = f

-- What a header does to its request closes nothing.
pub header_goes_on : (kind n : ℕ) (h : Held) → is_closing (on_header kind n h).event ≡ false
unfolding faulted aborted turned
header_goes_on kind n h = by_rule (λ (r : Ruled). is_closing r.event ≡ false) h (λ d. refl) (λ cause fault. refl) refl (λ t. refl) (λ t s m. refl) kind n

-- nor does its content
content_goes_on : (due : Due) (bytes : List ℕ) (h : Held) → is_closing (on_content due bytes h).event ≡ false
content_goes_on Due.Skip bytes h = refl
content_goes_on Due.Params bytes h = refl
content_goes_on Due.Stdin bytes h = refl
content_goes_on Due.Data bytes h = refl

-- by the two outcomes
by_closing : {P : Type 0} (st : State) (store piece : List ℕ) → (stepped st store piece ≡ stays (stepped st store piece).refusal st store → P)
    → (StaysOpen (stepped st store piece) → P) → ((cause : Cause) → ClosedBy store cause (stepped st store piece) → P) → P
unfolding closes on_active of_request
by_closing {P} st store piece =
    by_way (λ (s : Stepped). (s ≡ stays s.refusal st store → P) → (StaysOpen s → P) → ((cause : Cause) → ClosedBy store cause s → P) → P) st store piece (λ n same f g. same refl)
    (λ fits used l w same f g. go used l w f g)
  where
    go : {k : Slot} (used : ℕ) (l : Left) → Way st store k l → (StaysOpen (leaves used l) → P) → ((cause : Cause) → ClosedBy store cause (leaves used l) → P) → P
    go used l (Way.Reads gathered frame e q) f g = f (record { is_open = refl; goes_on_lem = not_final e (nameless_not_final st.conn.table e q) })
    go used l (Way.Closes gathered n c) f g = g n (record { cause = c; told = refl; freed = refl; zeroed = refl })
    go used l (Way.Rules h i k e) f g = f (record { is_open = refl; goes_on_lem = header_goes_on h.kind h.content (held_at st.conn.table store i) })
    go used l (Way.Feeds due i bytes p k low aim some) f g = f (record { is_open = refl; goes_on_lem = content_goes_on due bytes (held_at st.conn.table store i) })
    go used l (Way.Takes id role keep frame k low idle) f g = f (record { is_open = refl; goes_on_lem = refl })

-- Where a step over an open connection leaves it closed, it tells a close, by one of the numbers 11, 12 and 13, or by 14
-- with a place.
pub closes_by_cause : (st : State) (store piece : List ℕ) → st.conn.«open» ≡ true → (stepped st store piece).state.conn.«open» ≡ false
    → (cause : Cause) × (is_close cause ≡ true) × ((stepped st store piece).event ≡ Event.Closed cause)
closes_by_cause st store piece is_open is_closed =
    by_closing st store piece
    (λ same. let z : ◌≡◌ {A = ℕ} 0 1 = cc in absurd (omega arith))
    (λ o. let z : ◌≡◌ {A = ℕ} 0 1 = cc in absurd (omega arith))
    (λ n c. (n, c.cause, c.told))

-- a step that tells a close closes
told_closed : (st : State) (store piece : List ℕ) (n : Cause) → (stepped st store piece).event ≡ Event.Closed n → ClosedBy store n (stepped st store piece)
told_closed st store piece n e =
    by_closing st store piece
    (λ same. let z : ◌≡◌ {A = ℕ} 0 1 = cc (ap (λ (s : Stepped). s.event) same) in absurd (omega arith))
    (λ o. let z : ◌≡◌ {A = ℕ} 0 1 = cc (ap is_closing e) in absurd (omega arith))
    (λ m c. let s : m ≡ n = cc in rw s at c)

-- Where a step tells a close, the cause is one of the four and the connection is closed afterwards.
pub told_means_closed : (st : State) (store piece : List ℕ) (n : Cause) → (stepped st store piece).event ≡ Event.Closed n
    → (is_close n ≡ true) × ((stepped st store piece).state.conn.«open» ≡ false)
told_means_closed st store piece n e = let c = told_closed st store piece n e in (c.cause, ap (λ (x : Conn). x.«open») c.freed)

-- Where a step tells a close, the connection afterwards is the one closed one, without requests, and the store is all
-- zeros.
pub closing_frees : (st : State) (store piece : List ℕ) (n : Cause) → (stepped st store piece).event ≡ Event.Closed n
    → ((stepped st store piece).state.conn ≡ closed_conn) × ((stepped st store piece).store ≡ zeros (length store))
closing_frees st store piece n e = let c = told_closed st store piece n e in (c.freed, c.zeroed)

-- A step that is refused, by whatever number, changes nothing: state and store stay, no byte is used, nothing is told.
pub refused_stays : (st : State) (store piece : List ℕ) → ((stepped st store piece).refusal ≡ 0 → ⊥)
    → stepped st store piece ≡ stays (stepped st store piece).refusal st store
refused_stays st store piece =
    by_way (λ (s : Stepped). (s.refusal ≡ 0 → ⊥) → s ≡ stays s.refusal st store) st store piece (λ n r. refl) (λ fits used l w r. absurd (r refl))

-- The closed connection refuses every step by 1.
pub closed_refuses : (store : List ℕ) → length store ≡ STORE → step_refusal closed_conn store ≡ 1
unfolding step_refusal
closed_refuses store full = simp (eq-eqb (length store) STORE full, closed_in_shape)

-- So every step after a close is refused by 1.
pub closing_lasts : (st : State) (store piece : List ℕ) (n : Cause) → length store ≡ STORE → (stepped st store piece).event ≡ Event.Closed n
    → step_refusal (stepped st store piece).state.conn (stepped st store piece).store ≡ 1
closing_lasts st store piece n full e =
    let c = told_closed st store piece n e in
    rw (c.freed, c.zeroed) (closed_refuses (zeros (length store)) (length-replicate (length store) 0 ∙ full))
