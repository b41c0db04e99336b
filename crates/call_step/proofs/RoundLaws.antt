-- One round of the loop over a piece, and what it leaves of the piece to come to.
use Rattle.std.specs.Prelude.{◌≡◌, refl, ℕ, suc, ◌+◌, ◌-◌, ◌≤◌, ◌<◌, Bool, true, false, List, length, take, drop, ltb, if◌then◌else◌, Ok, Result}
use Rattle.std.proofs.Common.{sym, ap, ◌∙◌, subst, arith, length-drop, drop-drop, take_all, ltb-true, ltb-false, lt-ltb, le-ltb}
use Rattle.wire.specs.Test.{◌<?◌, by_test}
use Rattle.connection.specs.declared.event.Event.{Event as CodeEvent}
use Rattle.connection.specs.Event.{Event}
use Rattle.record_reader.specs.Position.{advanced}
use Rattle.connection.specs.declared.state.Table.{Table}
use Rattle.connection.specs.declared.state.Target.{Target}
use Rattle.connection.specs.declared.state.Frame.{Frame}
use Rattle.connection.specs.declared.state.Conn.{Conn}
use Rattle.connection.specs.Sizes.{SLOTS}
use Rattle.connection.specs.Decision.{open_state}
use Rattle.conn_quick.specs.Quick.{is_shown, slot_of}
use Rattle.conn_quick.proofs.Laws.{content_shown}
use Rattle.connection.specs.Shape.{in_shape}
use Rattle.connection.specs.declared.answer.Refusal.{Refusal}
use Rattle.connection.specs.Step.{State, Stepped, state_of, stays, advances, stepped}
use Rattle.connection.proofs.Laws.Progress.{Fits, fits_admitted, step_advances, step_uses_some, step_uses_no_more}
use Rattle.call_step.specs.Next.{is_none, is_silent, goes_on_from, after, steps_by, is_due, reached}
use Rattle.connection.specs.declared.answer.Stepped.{Stepped as Answer}
use Rattle.connection.specs.Fits.{Aimed}
use Rattle.connection.proofs.Laws.ShapeLaws.{shaped, in_shape_lem}
use Rattle.connection.specs.Codes.{event_of, refusal_number}
use Rattle.conn_quick.specs.declared.Passed.{Passed}
use Rattle.conn_quick.specs.declared.Showing.{Showing}
use Rattle.conn_quick.specs.Passes.{counted_at, shows, Passes}
use Rattle.conn_step.specs.Answer.{told_number, told_event, stepped_by}
use Rattle.call_step.proofs.NextLaws.{goes_on_lem, next_step, stays_open}

-- the first step
steps_first : (on : Bool) (st : State) (store piece : List ℕ) {s : Stepped} → s ≡ stepped st store piece
    → steps_by on st store piece ≡ reached on (is_due on s.refusal s.event s.used (length piece)) s.refusal s.event s.used s.state s.store piece
steps_first false st store piece {s} e = sym e
steps_first true st store piece {s} e =
    next_step st store piece
    ∙ ap (λ (x : Stepped). reached true (goes_on_from x.refusal x.event x.used (length piece)) x.refusal x.event x.used x.state x.store piece) (sym e)

either_false : (b : Bool) → (if b then false else false) ≡ false
either_false true = refl
either_false false = refl

-- A step that stays, refused or with nothing to read, is all.
pub steps_stay : (on : Bool) (st : State) (store piece : List ℕ) (n : ℕ) → stays n st store ≡ stepped st store piece → goes_on_from n Event.None 0 (length piece) ≡ false
    → stays n st store ≡ steps_by on st store piece
steps_stay on st store piece n e last =
    let none : is_due on n Event.None 0 (length piece) ≡ false = ap (λ (b : Bool). if on then b else false) last ∙ either_false on in
    sym (steps_first on st store piece e ∙ simp none)

-- After a refusal no step follows.
pub refused_last : (why : Refusal) (n : ℕ) → goes_on_from (refusal_number why) Event.None 0 n ≡ false
refused_last Refusal.Closed n = refl
refused_last Refusal.StoreSize n = refl
refused_last Refusal.NotActive n = refl
refused_last Refusal.NotReady n = refl
refused_last Refusal.Ended n = refl
refused_last Refusal.NoRoom n = refl
refused_last Refusal.NoPair n = refl
refused_last Refusal.TooLong n = refl
refused_last Refusal.OutOfShape n = refl
refused_last Refusal.Waiting n = refl

-- Before the first step nothing is used.
pub reached_start : (on : Bool) (refusal : ℕ) (event : Event) (st : State) (store piece : List ℕ) → steps_by on st store piece ≡ reached on true refusal event 0 st store piece
reached_start on refusal event st store piece =
    let s = steps_by on st store piece in
    let e : s.used ≡ 0 + s.used = omega arith in
    ap (λ (n : ℕ). record { refusal = s.refusal; used = n; event = s.event; state = s.state; store = s.store }) e

-- the bytes left, counted from either end
left_same : (on : Bool) (refusal : ℕ) (event : Event) (used m n : ℕ) → used ≤ n → is_due on refusal event m (n - used) ≡ is_due on refusal event (used + m) n
left_same on refusal event used m n h =
    ap (λ (b : Bool). if on then (if is_silent refusal event then b else false) else false)
    (by_test (ltb m (n - used))
    (λ t. t ∙ sym (lt-ltb (used + m) n (omega (arith, ltb-true m (n - used) t))))
    (λ t. t ∙ sym (le-ltb (used + m) n (omega (arith, ltb-false m (n - used) t)))))

after_both : (a b : ℕ) (s : Stepped) → after a (after b s) ≡ after (a + b) s
after_both a b s =
    let e : a + (b + s.used) ≡ a + b + s.used = omega arith in
    ap (λ (n : ℕ). record { refusal = s.refusal; used = n; event = s.event; state = s.state; store = s.store }) e

-- a step that is due
reached_next : (on : Bool) (refusal : ℕ) (event : Event) (used : ℕ) (st : State) (store piece : List ℕ) {s : Stepped} → used ≤ length piece → s ≡ stepped st store (drop used piece)
    → reached on true refusal event used st store piece
    ≡ reached on (is_due on s.refusal s.event (used + s.used) (length piece)) s.refusal s.event (used + s.used) s.state s.store piece
reached_next on refusal event used st store piece {s} low e =
    let rest = drop used piece in
    let same : is_due on s.refusal s.event s.used (length rest) ≡ is_due on s.refusal s.event (used + s.used) (length piece) =
    ap (λ (n : ℕ). is_due on s.refusal s.event s.used n) (length-drop used piece) ∙ left_same on s.refusal s.event used s.used (length piece) low in
    ap (after used) (steps_first on st store rest e)
    ∙ by_test (is_due on s.refusal s.event s.used (length rest))
    (λ g. simp (g, sym same ∙ g) (after_both used s.used _ ∙ ap (λ (l : List ℕ). after (used + s.used) (steps_by on s.state s.store l)) (drop-drop s.used used piece)))
    (λ g. simp (g, sym same ∙ g))

-- how many bytes are left where a step is due, and one more; 0 where none is
abbrev pub ahead : Bool → ℕ → ℕ → ℕ
ahead due used n = if due then suc (n - used) else 0

-- A step is due that may read, and bytes are left for it.
pub record Due (c : Conn) (store : List ℕ) (used n : ℕ) : Type 0 where
  pub fits : Fits c store
  pub left : used < n

-- what a step is that is due after this one
due_silent : (on : Bool) (s : Stepped) (used n : ℕ) → is_due on s.refusal s.event used n ≡ true → (s.refusal ≡ 0) × (s.event ≡ Event.None) × (used < n)
due_silent false s used n h = let z : ◌≡◌ {A = ℕ} 0 1 = cc in absurd (omega arith)
due_silent true s used n h =
    let g = goes_on_lem (record { refusal = s.refusal; used = used; event = s.event; state = s.state; store = s.store }) n h in
    (g.taken, g.silent, g.left)

-- A step that is due was taken, and read so many bytes.
pub record Took (used : ℕ) (st : State) (store piece : List ℕ) (refusal : ℕ) (event : Event) (used' : ℕ) (st' : State) (store' : List ℕ) : Type 0 where
  pub count : ℕ
  pub sum : used' ≡ used + count
  pub step : (let rest = take (length piece - used) (drop used piece) in
      record { refusal = refusal; used = count; event = event; state = st'; store = store' } ≡ advances st store rest (advanced st.conn.frame.position rest))

-- It kept the shape and the store's size.
pub record Kept (store : List ℕ) (st' : State) (store' : List ℕ) : Type 0 where
  pub shape : in_shape st'.conn ≡ true
  pub size : length store' ≡ length store

-- What that comes to.
pub record Round (on : Bool) (used : ℕ) (st : State) (store piece : List ℕ) (refusal : ℕ) (event : Event) (used' : ℕ) (st' : State) (store' : List ℕ) : Type 0 where
  pub inside : used' ≤ length piece
  pub same : (r : ℕ) (e : Event) → reached on true r e used st store piece ≡ reached on (is_due on refusal event used' (length piece)) refusal event used' st' store' piece
  pub less : ahead (is_due on refusal event used' (length piece)) used' (length piece) < ahead true used (length piece)
  pub next : Kept store st' store' → is_due on refusal event used' (length piece) ≡ true → Due st'.conn store' used' (length piece)

pub round : (on : Bool) (used : ℕ) (st : State) (store piece : List ℕ) (refusal : ℕ) (event : Event) (used' : ℕ) (st' : State) (store' : List ℕ) → Due st.conn store used (length piece)
    → Took used st store piece refusal event used' st' store' → Round on used st store piece refusal event used' st' store'
round on used st store piece refusal event used' st' store' due took =
    subst (λ (k : ℕ). Round on used st store piece refusal event k st' store') (sym took.sum) at_sum
  where
    at_sum : Round on used st store piece refusal event (used + took.count) st' store'
    at_sum =
        let s : Stepped = record { refusal = refusal; used = took.count; event = event; state = st'; store = store' } in
        let rest = drop used piece in
        let whole : take (length piece - used) rest ≡ rest = take_all (length piece - used) rest (omega (arith, length-drop used piece)) in
        let some : 0 < length rest = omega (arith, length-drop used piece, due.left) in
        let read = step_advances st store rest (fits_admitted st.conn store due.fits) some in
        let e : s ≡ stepped st store rest = took.step ∙ ap (λ (l : List ℕ). advances st store l (advanced st.conn.frame.position l)) whole ∙ sym read in
        let n : took.count ≤ length rest = subst (λ (x : Stepped). x.used ≤ length rest) (sym e) (step_uses_no_more st store rest) in
        let one : 1 ≤ took.count = subst (λ (x : Stepped). 1 ≤ x.used) (sym e) (step_uses_some st store rest due.fits.shape due.fits.is_open due.fits.size some).0 in
        record {
          inside = omega (arith, length-drop used piece, due.left);
          same = λ r x. reached_next on r x used st store piece (omega (arith, due.left)) e;
          less =
              by_test (is_due on refusal event (used + took.count) (length piece))
              (λ g. simp g (omega (arith, (due_silent on s (used + took.count) (length piece) g).2)))
              (λ g. simp g (omega arith));
          next = λ kept g.
              let q = due_silent on s (used + took.count) (length piece) g in
              let is_open = subst (λ (x : Stepped). x.event ≡ Event.None → x.state.conn.«open» ≡ true) (sym e) (stays_open st store rest due.fits.is_open) q.1 in
              record { fits = record { size = kept.size ∙ due.fits.size; shape = kept.shape; is_open = is_open }; left = q.2 };
        }

-- The connection of these parts.
abbrev pub conn_of : Table → Frame → Bool → Conn
conn_of t f is_open = record { table = t; frame = f; «open» = is_open }

-- a quick way of an open connection
opened_step : (t t' : Table) (f f' : Frame) (is_open : Bool) (g store rest : List ℕ) (used : ℕ) (event : Event) → is_open ≡ true
    → record { refusal = 0; used = used; event = event; state = open_state t' f' g; store = store } ≡ advances (open_state t f g) store rest (advanced f.position rest)
    → record { refusal = 0; used = used; event = event; state = state_of (conn_of t' f' is_open) g; store = store }
    ≡ advances (state_of (conn_of t f is_open) g) store rest (advanced f.position rest)
opened_step t t' f f' is_open g store rest used event is same =
    subst
    (λ (b : Bool). record { refusal = 0; used = used; event = event; state = state_of (conn_of t' f' b) g; store = store }
    ≡ advances (state_of (conn_of t f b) g) store rest (advanced f.position rest))
    (sym is) same

-- It was taken in a quick way.
pub quick_took : (used : ℕ) (t : Table) (f : Frame) (is_open : Bool) (g store piece : List ℕ) (r : Passed) {t' : Table} {f' : Frame} {open' : Bool} {g' store' : List ℕ} {result : (Result CodeEvent Refusal)} {used' : ℕ}
    → Due (conn_of t f is_open) store used (length piece) → Passes r t f (take (length piece - used) (drop used piece))
    → store' ≡ store → g' ≡ g → t' ≡ t → f' ≡ r.frame → open' ≡ is_open → result ≡ Ok r.event → used' ≡ used + r.used
    → (Took used (state_of (conn_of t f is_open) g) store piece (told_number result) (told_event result) used' (state_of (conn_of t' f' open') g') store') × (Kept store (state_of (conn_of t' f' open') g') store')
quick_took used t f is_open g store piece r due p es eg et ef eo er eu =
    let rest = take (length piece - used) (drop used piece) in
    let before = shaped (conn_of t f is_open) due.fits.shape in
    rw (es, eg, et, ef, eo, er) (
      record {
        count = r.used;
        sum = eu;
        step = opened_step t t f r.frame is_open g store rest r.used (event_of r.event) due.fits.is_open (p.same g store);
      },
      record { shape = in_shape_lem (conn_of t r.frame is_open) (record { table = before.table; position = p.position; target = p.target }); size = refl },
    )

-- It was taken in the general way.
pub step_took : (used : ℕ) (t : Table) (f : Frame) (is_open : Bool) (g store piece : List ℕ) (r : Answer) (g₁ store₁ : List ℕ) {t' : Table} {f' : Frame} {open' : Bool} {g' store' : List ℕ} {result : (Result CodeEvent Refusal)} {used' : ℕ}
    → (let rest = take (length piece - used) (drop used piece) in stepped_by r g₁ store₁ ≡ advances (state_of (conn_of t f is_open) g) store rest (advanced f.position rest))
    → in_shape r.conn ≡ true → length store₁ ≡ length store
    → store' ≡ store₁ → g' ≡ g₁ → t' ≡ r.conn.table → f' ≡ r.conn.frame → open' ≡ r.conn.«open» → result ≡ r.result → used' ≡ used + r.used
    → (Took used (state_of (conn_of t f is_open) g) store piece (told_number result) (told_event result) used' (state_of (conn_of t' f' open') g') store') × (Kept store (state_of (conn_of t' f' open') g') store')
step_took used t f is_open g store piece r g₁ store₁ same shape size es eg et ef eo er eu =
    rw (es, eg, et, ef, eo, er) (record { count = r.used; sum = eu; step = same }, record { shape = shape; size = size })

-- ---- content that is shown
-- A step that shows content was taken.
pub shown_took : (used : ℕ) (t : Table) (f : Frame) (is_open : Bool) (g store piece : List ℕ) (r : Showing) → Due (conn_of t f is_open) store used (length piece)
    → (let rest = take (length piece - used) (drop used piece) in shows r t g store ≡ advances (open_state t f g) store rest (advanced f.position rest))
    → Took used (state_of (conn_of t f is_open) g) store piece 0 (event_of r.event) (used + r.used)
    (state_of (conn_of (counted_at t r.slot r.due r.used) r.frame is_open) g) store
shown_took used t f is_open g store piece r due same =
    let rest = take (length piece - used) (drop used piece) in
    let after = counted_at t r.slot r.due r.used in
    record { count = r.used; sum = refl; step = opened_step t after f r.frame is_open g store rest r.used (event_of r.event) due.fits.is_open same }

-- its slot is one of them
pub slot_low : (target : Target) (t : Table) (gathered left : ℕ) → Aimed target t gathered left → slot_of target < SLOTS
slot_low Target.Skip t gathered left a = omega arith
slot_low (Target.Begin id) t gathered left a = omega arith
slot_low Target.Query t gathered left a = omega arith
slot_low (Target.Params i) t gathered left a = omega arith
slot_low (Target.Stdin i) t gathered left a = a.low
slot_low (Target.Data i) t gathered left a = a.low

-- A step that shows content tells it, so no other is due.
pub shown_last : (on : Bool) (t : Table) (f : Frame) (g store piece : List ℕ) (event : Event) (used n : ℕ) → is_shown f.position.content f.target ≡ true
    → (advances (open_state t f g) store piece (advanced f.position piece)).event ≡ event → is_due on 0 event used n ≡ false
shown_last on t f g store piece event used n shown e =
    let told : is_none event ≡ false = ap is_none (sym (ap (λ (s : Stepped). s.event) (content_shown t f g store piece shown) ∙ e)) in
    ap (λ (b : Bool). if on then (if b then used <? n else false) else false) told ∙ either_false on
