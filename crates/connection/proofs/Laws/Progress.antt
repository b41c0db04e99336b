-- A step uses at least one byte of a piece, and its answer rests on the bytes that it used alone.
use Rattle.std.specs.Prelude.{ℕ, zero, suc, ◌+◌, ◌-◌, ◌≤◌, ◌<◌, min, ◌≡◌, refl, true, List, [], ◌∷◌, ◌++◌, length, take, drop, ltb, eqb}
use Rattle.std.proofs.Common.{sym, ap, ◌∙◌, arith, length-drop, take-take, take_all, length-take-le, lt-ltb, le-ltb, le-leb, ltb-true, ltb-false, eqb-true, eq-eqb, ne_eqb}
use Rattle.std.proofs.Math.Seq.{take-nil}
use Rattle.std.proofs.lemmas.Bool.{lt-leb, eqb-false}
use Rattle.wire.specs.Test.{by_test}
use Rattle.wire.specs.Buffer.{put_at}
use Rattle.record_reader.specs.Position.{held_and, after_header, in_header, advanced}
use Rattle.record_reader.proofs.PositionLaws.{at}
use Rattle.record.specs.Header.{header_of}
use Rattle.record_reader.specs.declared.Position.{Position}
use Rattle.record_reader.specs.declared.Phase.{Phase}
use Rattle.connection.specs.declared.state.Conn.{Conn}
use Rattle.connection.specs.Sizes.{STORE}
use Rattle.connection.specs.Shape.{in_shape}
use Rattle.connection.proofs.Laws.ShapeLaws.{shaped}
use Rattle.connection.specs.Step.{State, Stepped, stays, leaves, on_phase, advances, step_refusal, stepped}
use Rattle.connection.specs.Bytewise.{Run, notes, resting, single, ◌then-run◌, fed, left_of, steps_of}

-- ---- when a step is refused
-- A step is not refused: the store has its size, the state is in shape, the connection is open.
pub record Fits (c : Conn) (store : List ℕ) : Type 0 where
  pub size : length store ≡ STORE
  pub shape : in_shape c ≡ true
  pub is_open : c.«open» ≡ true

-- Then its number of refusal is 0.
pub fits_admitted : (c : Conn) (store : List ℕ) → Fits c store → step_refusal c store ≡ 0
unfolding step_refusal
fits_admitted c store f = simp (eq-eqb (length store) STORE f.size, f.shape, f.is_open)

-- And where it is 0, these hold.
pub admitted_fits : (c : Conn) (store : List ℕ) → step_refusal c store ≡ 0 → Fits c store
unfolding step_refusal
admitted_fits c store e =
    by_test (eqb (length store) STORE)
    (λ s.
    by_test (in_shape c)
    (λ i.
    by_test c.«open»
    (λ o. record { size = eqb-true (length store) STORE s; shape = i; is_open = o })
    (λ o. let z : ◌≡◌ {A = ℕ} 1 0 = simp (s, i, o) at e in absurd (omega arith)))
    (λ i. let z : ◌≡◌ {A = ℕ} 9 0 = simp (s, i) at e in absurd (omega arith)))
    (λ s. let z : ◌≡◌ {A = ℕ} 2 0 = simp s at e in absurd (omega arith))

-- ---- a step of the position, phase by phase
-- with so much less content left
abbrev pub less_content : Position → ℕ → Position
less_content p n = at (p.content - n) p.padding p.held p.header

-- with no content and so much less padding left
abbrev pub less_padding : Position → ℕ → Position
less_padding p n = at 0 (p.padding - n) p.held p.header

-- within content
pub in_content : (p : Position) (x : List ℕ) → 0 < p.content
    → advanced p x ≡ record { used = min p.content (length x); phase = Phase.Content; position = less_content p (min p.content (length x)) }
unfolding advanced
in_content p x l = simp (lt-ltb 0 p.content l)

-- within padding
pub in_padding : (p : Position) (x : List ℕ) → p.content ≡ 0 → 0 < p.padding
    → advanced p x ≡ record { used = min p.padding (length x); phase = Phase.Padding; position = less_padding p (min p.padding (length x)) }
unfolding advanced
in_padding p x z l = simp (le-ltb 0 p.content (omega arith), lt-ltb 0 p.padding l)

-- within a header
pub in_header_lem : (p : Position) (x : List ℕ) → p.content ≡ 0 → p.padding ≡ 0 → advanced p x ≡ in_header p.held p.header x
unfolding advanced
in_header_lem p x z w = simp (le-ltb 0 p.content (omega arith), le-ltb 0 p.padding (omega arith))

-- bytes that do not make a header whole
pub in_part : (k : ℕ) (h x : List ℕ) → k + length x < 8
    → in_header k h x ≡ record { used = length x; phase = Phase.Part; position = at 0 0 (k + length x) (put_at h k x) }
unfolding in_header
in_part k h x l =
    let m : min (8 - k) (length x) ≡ length x = omega arith in
    simp (lt-leb 8 k (omega arith), m, lt-ltb (k + length x) 8 l, take_all (length x) x (omega arith))

-- bytes that make it whole
pub in_whole : (k : ℕ) (h x : List ℕ) → k < 8 → 8 ≤ k + length x
    → in_header k h x
    ≡ record { used = 8 - k; phase = Phase.Whole (header_of (held_and k h (8 - k) x)); position = after_header (header_of (held_and k h (8 - k) x)) }
unfolding in_header
in_whole k h x l g =
    let m : min (8 - k) (length x) ≡ 8 - k = omega arith in
    simp (lt-leb 8 k l, m, le-ltb (k + (8 - k)) 8 (omega arith))

-- by the phases of a position: content, padding, header
pub by_position : {P : Type 0} (p : Position) → (0 < p.content → P) → (p.content ≡ 0 → 0 < p.padding → P) → (p.content ≡ 0 → p.padding ≡ 0 → P) → P
by_position p content padding header =
    by_test (ltb 0 p.content)
    (λ t. content (ltb-true 0 p.content t))
    (λ t.
    let z : p.content ≡ 0 = omega (arith, ltb-false 0 p.content t) in
    by_test (ltb 0 p.padding) (λ s. padding z (ltb-true 0 p.padding s)) (λ s. header z (omega (arith, ltb-false 0 p.padding s))))

-- by the bytes of a header: it holds eight already, they are part of it, they make it whole
pub by_header : {P : Type 0} (k : ℕ) (x : List ℕ) → (8 ≤ k → P) → (k + length x < 8 → P) → (k < 8 → 8 ≤ k + length x → P) → P
by_header k x over part whole =
    by_test (ltb k 8)
    (λ t. by_test (ltb (k + length x) 8) (λ s. part (ltb-true (k + length x) 8 s)) (λ s. whole (ltb-true k 8 t) (ltb-false (k + length x) 8 s)))
    (λ t. over (ltb-false k 8 t))

-- eight held already, which no reading makes
in_none : (k : ℕ) (h x : List ℕ) → 8 ≤ k → in_header k h x ≡ record { used = 0; phase = Phase.Part; position = at 0 0 k h }
unfolding in_header
in_none k h x l = simp (le-leb 8 k l)

-- A step of the position uses no more than there is, and some of it where not over seven header bytes are held.
uses_no_more : (p : Position) (x : List ℕ) → (advanced p x).used ≤ length x
uses_no_more p x =
    by_position p (λ l. rw (in_content p x l) (omega arith)) (λ z l. rw (in_padding p x z l) (omega arith))
    (λ z w.
    by_header p.held x
    (λ g. rw (in_header_lem p x z w, in_none p.held p.header x g) (omega arith))
    (λ g. rw (in_header_lem p x z w, in_part p.held p.header x g) (omega arith))
    (λ g m. rw (in_header_lem p x z w, in_whole p.held p.header x g m) (omega arith)))

uses_one : (p : Position) (x : List ℕ) → p.held ≤ 7 → 0 < length x → 0 < (advanced p x).used
uses_one p x h some =
    by_position p (λ l. rw (in_content p x l) (omega arith)) (λ z l. rw (in_padding p x z l) (omega arith))
    (λ z w.
    by_header p.held x
    (λ g. absurd (omega arith))
    (λ g. rw (in_header_lem p x z w, in_part p.held p.header x g) (omega arith))
    (λ g m. rw (in_header_lem p x z w, in_whole p.held p.header x g m) (omega arith)))

-- the same step by the bytes that it uses
header_only : (k : ℕ) (h x : List ℕ) → in_header k h (take (in_header k h x).used x) ≡ in_header k h x
header_only k h x =
    by_header k x
    (λ g. in_none k h (take (in_header k h x).used x) g ∙ sym (in_none k h x g))
    (λ g. rw (in_part k h x g, take_all (length x) x (omega arith)) (in_part k h x g))
    (λ g m.
    let n : length (take (8 - k) x) ≡ 8 - k = length-take-le (8 - k) x (omega arith) in
    rw (in_whole k h x g m)
    (in_whole k h (take (8 - k) x) g (omega arith)
    ∙ rw (take-take (8 - k) (8 - k) x (omega arith))))

advanced_only : (p : Position) (x : List ℕ) → advanced p (take (advanced p x).used x) ≡ advanced p x
advanced_only p x =
    by_position p
    (λ l.
    let n : length (take (min p.content (length x)) x) ≡ min p.content (length x) = length-take-le (min p.content (length x)) x (omega arith) in
    let m : min p.content (min p.content (length x)) ≡ min p.content (length x) = omega arith in
    rw (in_content p x l) (in_content p (take (min p.content (length x)) x) l ∙ rw (n, m)))
    (λ z l.
    let n : length (take (min p.padding (length x)) x) ≡ min p.padding (length x) = length-take-le (min p.padding (length x)) x (omega arith) in
    let m : min p.padding (min p.padding (length x)) ≡ min p.padding (length x) = omega arith in
    rw (in_padding p x z l) (in_padding p (take (min p.padding (length x)) x) z l ∙ rw (n, m)))
    (λ z w. rw (in_header_lem p x z w) (in_header_lem p (take (in_header p.held p.header x).used x) z w ∙ header_only p.held p.header x))

-- ---- a step
-- refused: nothing changes
pub step_refused : (st : State) (store x : List ℕ) → (step_refusal st.conn store ≡ 0 → ⊥) → stepped st store x ≡ stays (step_refusal st.conn store) st store
unfolding stepped
step_refused st store x r = simp (ne_eqb (step_refusal st.conn store) 0 r)

-- with nothing to read: nothing changes
pub step_nothing : (st : State) (store : List ℕ) → stepped st store [] ≡ stays (step_refusal st.conn store) st store
unfolding stepped
step_nothing st store =
    by_test (eqb (step_refusal st.conn store) 0)
    (λ t. simp t (ap (λ (n : ℕ). stays n st store) (sym (eqb-true (step_refusal st.conn store) 0 t))))
    (λ t. simp t)

-- not refused, and with something to read: the reader's position moves on
pub step_advances : (st : State) (store x : List ℕ) → step_refusal st.conn store ≡ 0 → 0 < length x
    → stepped st store x ≡ advances st store x (advanced st.conn.frame.position x)
unfolding stepped
step_advances st store x a some = simp (eq-eqb (step_refusal st.conn store) 0 a, ne_eqb (length x) 0 (λ z. omega arith))

-- A step uses at least one byte, and no more than there are.
pub step_uses_some : (st : State) (store x : List ℕ) → in_shape st.conn ≡ true → st.conn.«open» ≡ true → length store ≡ STORE → 0 < length x
    → (1 ≤ (stepped st store x).used) × ((stepped st store x).used ≤ length x)
unfolding advances
step_uses_some st store x shape is_open size some =
    let a = fits_admitted st.conn store (record { size = size; shape = shape; is_open = is_open }) in
    let p = st.conn.frame.position in
    let h = (shaped st.conn shape).position.held in
    rw (step_advances st store x a some) (uses_one p x h some, uses_no_more p x)

-- Whatever state and piece, it uses no more than there are.
pub step_uses_no_more : (st : State) (store x : List ℕ) → (stepped st store x).used ≤ length x
unfolding advances
step_uses_no_more st store [] = rw (step_nothing st store) (omega arith)
step_uses_no_more st store (b ∷ x) =
    by_test (eqb (step_refusal st.conn store) 0)
    (λ t. rw (step_advances st store (b ∷ x) (eqb-true (step_refusal st.conn store) 0 t) (omega arith)) (uses_no_more st.conn.frame.position (b ∷ x)))
    (λ t. rw (step_refused st store (b ∷ x) (eqb-false (step_refusal st.conn store) 0 t)) (omega arith))

-- The answer of a step rests on the bytes that it used alone, whatever state and piece.
pub used_only : (st : State) (store x : List ℕ) → stepped st store (take (stepped st store x).used x) ≡ stepped st store x
unfolding advances
used_only st store [] = ap (stepped st store) (take-nil (stepped st store []).used)
used_only st store (b ∷ x) =
    by_test (eqb (step_refusal st.conn store) 0) admitted
    (λ t.
    let r = eqb-false (step_refusal st.conn store) 0 t in
    step_refused st store (take (stepped st store (b ∷ x)).used (b ∷ x)) r ∙ sym (step_refused st store (b ∷ x) r))
  where
    admitted : eqb (step_refusal st.conn store) 0 ≡ true → stepped st store (take (stepped st store (b ∷ x)).used (b ∷ x)) ≡ stepped st store (b ∷ x)
    admitted t =
        let y = b ∷ x in
        let p = st.conn.frame.position in
        let a = eqb-true (step_refusal st.conn store) 0 t in
        let f = admitted_fits st.conn store a in
        let h = (shaped st.conn f.shape).position.held in
        let u = (advanced p y).used in
        let n : length (take u y) ≡ u = length-take-le u y (uses_no_more p y) in
        rw (step_advances st store y a (omega arith))
        (step_advances st store (take u y) a (omega (arith, uses_one p y h (omega arith)))
        ∙ ap (advances st store (take u y)) (advanced_only p y)
        ∙ ap (λ (l : List ℕ). leaves u (on_phase (advanced p y).phase st store l (advanced p y).position)) (take-take u u y (omega arith)))

-- A step that is not refused leaves less to read.
pub less_left : (st : State) (store x : List ℕ) (k : ℕ) → step_refusal st.conn store ≡ 0 → length x ≤ suc k → length (drop (stepped st store x).used x) ≤ k
less_left st store x k a l =
    let f = admitted_fits st.conn store a in
    let d = length-drop (stepped st store x).used x in
    by_test (eqb (length x) 0) (λ z. omega (arith, eqb-true (length x) 0 z))
    (λ z. omega (arith, step_uses_some st store x f.shape f.is_open f.size (omega (arith, eqb-false (length x) 0 z))))

-- ---- steps, one after the other
-- a state that refuses a step is left as it is
pub fed_refused : (k : ℕ) (st : State) (store x : List ℕ) → (step_refusal st.conn store ≡ 0 → ⊥) → fed k st store x ≡ resting st store
unfolding fed
fed_refused zero st store x r = refl
fed_refused (suc k) st store x r =
    ap (λ (s : Stepped). single s (take s.used x) then-run (λ st' store'. fed k st' store' (drop s.used x))) (step_refused st store x r)
    ∙ ap (λ (w : Run). record { state = w.state; store = w.store; notes = w.notes }) (fed_refused k st store x r)

-- with no bytes nothing changes
pub fed_nothing : (k : ℕ) (st : State) (store : List ℕ) → fed k st store [] ≡ resting st store
unfolding fed
fed_nothing zero st store = refl
fed_nothing (suc k) st store =
    ap (λ (s : Stepped). single s (take s.used []) then-run (λ st' store'. fed k st' store' (drop s.used []))) (step_nothing st store)
    ∙ ap (λ (w : Run). record { state = w.state; store = w.store; notes = w.notes }) (fed_nothing k st store)

-- n bytes take n steps at most, however many are allowed
pub few_steps : (k : ℕ) (st : State) (store x : List ℕ) → steps_of k st store x ≤ length x
unfolding steps_of
few_steps zero st store x = omega arith
few_steps (suc k) st store x =
    let s = stepped st store x in
    let ih = few_steps k s.state s.store (drop s.used x) in
    by_test (eqb s.used 0) (λ t. simp t (omega arith))
    (λ t. simp t (omega (arith, eqb-false s.used 0 t, length-drop s.used x, step_uses_no_more st store x)))

-- steps that read nothing change nothing
idle : (k : ℕ) (st : State) (store x : List ℕ) → (stepped st store x).used ≡ 0 → fed k st store x ≡ resting st store
idle k st store [] z = fed_nothing k st store
idle k st store (b ∷ x) z =
    by_test (eqb (step_refusal st.conn store) 0)
    (λ t.
    let f = admitted_fits st.conn store (eqb-true (step_refusal st.conn store) 0 t) in
    absurd (omega (arith, step_uses_some st store (b ∷ x) f.shape f.is_open f.size (omega arith))))
    (λ t. fed_refused k st store (b ∷ x) (eqb-false (step_refusal st.conn store) 0 t))

-- The steps that read something are all that counts.
pub steps_taken : (k : ℕ) (st : State) (store x : List ℕ) → fed (steps_of k st store x) st store x ≡ fed k st store x
unfolding steps_of fed
steps_taken zero st store x = refl
steps_taken (suc k) st store x =
    let s = stepped st store x in
    let ih = steps_taken k s.state s.store (drop s.used x) in
    by_test (eqb s.used 0) (λ t. simp t (sym (idle (suc k) st store x (eqb-true s.used 0 t))))
    (λ t. simp t (ap (λ (w : Run). record { state = w.state; store = w.store; notes = notes s.event (take s.used x) ++ w.notes }) ih))

-- With n steps allowed, n bytes are used up, unless the state comes to refuse (is closed).
pub steps_enough : (k : ℕ) (st : State) (store x : List ℕ) → length x ≤ k → step_refusal (fed k st store x).state.conn (fed k st store x).store ≡ 0
    → left_of k st store x ≡ []
unfolding left_of fed
steps_enough zero st store [] l e = refl
steps_enough zero st store (b ∷ x) l e = absurd (omega arith)
steps_enough (suc k) st store x l e =
    let s = stepped st store x in
    by_test (eqb (step_refusal st.conn store) 0)
    (λ t. steps_enough k s.state s.store (drop s.used x) (less_left st store x k (eqb-true (step_refusal st.conn store) 0 t) l) e)
    (λ t.
    let r = eqb-false (step_refusal st.conn store) 0 t in
    let z = ap (λ (w : Run). step_refusal w.state.conn w.store) (fed_refused (suc k) st store x r) in
    absurd (r (sym z ∙ e)))
