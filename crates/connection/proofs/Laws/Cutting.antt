-- A step is its bytes one by one, so it does not matter into which pieces bytes are cut.
use Prim.Native.Nat.{ℕ, zero, suc, ◌+◌, ◌-◌, ◌≤◌, ◌<◌, min}
use Rattle.std.specs.Prelude.{◌≡◌, refl, true, false, take, drop, eqb}
use Rattle.std.proofs.Common.{sym, ap₂, ◌∙◌, subst, take-append-drop, length-append, take_all, length-take-le, eqb-true}
use Rattle.std.proofs.Math.Path.{ap}
use mathlib.Core.List.{List, [], ◌∷◌, ◌++◌, append-nil, append_assoc}
use native.Mathlib.Omega.{arith}
use Rattle.std.proofs.Math.ListN.{length}
use Rattle.std.proofs.lemmas.Bool.{eqb-false}
use Rattle.wire.specs.Test.{by_test}
use Rattle.wire.specs.Buffer.{put_at}
use Rattle.wire.proofs.BufferLaws.{put_put}
use Rattle.record.specs.Header.{header_of}
use Rattle.record.specs.declared.header.Header.{Header}
use Rattle.record_reader.specs.Position.{advanced, held_and}
use Rattle.record_reader.proofs.PositionLaws.{at}
use Rattle.record_reader.specs.declared.Position.{Position}
use Rattle.record_reader.specs.declared.Advanced.{Advanced}
use Rattle.connection.specs.Event.{Event}
use Rattle.connection.specs.Shape.{in_shape}
use Rattle.connection.specs.Fits.{Aimed}
use Rattle.connection.proofs.Laws.ShapeLaws.{shaped, in_shape_lem}
use Rattle.wire.proofs.Bytes.{AllBytes, take_bytes}
use Rattle.connection.proofs.Laws.StateShape.{Arrays}
use Rattle.connection.proofs.Laws.StepShape.{step_in_shape, step_keeps_arrays}
use Rattle.connection.specs.Step.{State, Stepped, leaves, reads, frame_at, open_with, closes, queried, on_management, on_inactive, on_active, judged, advances, step_refusal, stepped}
use Rattle.connection.specs.Bytewise.{Note, notes, Run, resting, single, ◌then-run◌, by_byte, fed, left_of, fed_pieces, joined}
use Rattle.connection.proofs.Laws.Progress.{Fits, fits_admitted, admitted_fits, less_padding, in_content, in_padding, in_header_lem, in_part, in_whole, by_position, by_header, step_advances, step_refused, step_nothing, less_left, step_uses_no_more, used_only, fed_refused, steps_enough}
use Rattle.connection.proofs.Laws.StepSizes.{Sizes, sizes_stay}
use Rattle.connection.proofs.Laws.PlainEvents.{plain_judged}
use Rattle.connection.proofs.Laws.CuttingContent.{Cuts, cuts}
use Rattle.connection.proofs.Laws.CuttingRequest.{cut_content}

-- ---- padding and headers, a byte and more
-- a state with another position, within no content
abbrev at_position : State → Position → State
at_position st q = record { conn = open_with st.conn.table (frame_at st.conn.frame q); gathered = st.gathered }

moved_fits : (st : State) (store : List ℕ) (q : Position) → Fits st.conn store → st.conn.frame.position.content ≡ 0 → q.content ≡ 0 → q.padding ≤ 255 → q.held ≤ 7
    → Fits (at_position st q).conn store
moved_fits st store q f none z padding held =
    let s = shaped st.conn f.shape in
    let k = st.conn.frame in
    record {
      size = f.size;
      shape = in_shape_lem (at_position st q).conn
          (record {
            table = s.table;
            position = record { held = held; content = omega arith; padding = padding };
            target = subst (λ (n : ℕ). Aimed k.target st.conn.table k.gathered n) (none ∙ sym z) s.target;
          });
      is_open = refl;
    }

module _ (st : State) (store : List ℕ) (fits : Fits st.conn store) (none : st.conn.frame.position.content ≡ 0) where
  step_padding : (x : List ℕ) → 0 < length x → length x ≤ st.conn.frame.position.padding
      → stepped st store x ≡ leaves (length x) (reads st store (frame_at st.conn.frame (less_padding st.conn.frame.position (length x))) Event.None)
  unfolding advances
  step_padding x some room =
      let p = st.conn.frame.position in
      let m : min p.padding (length x) ≡ length x = omega arith in
      step_advances st store x (fits_admitted st.conn store fits) some
      ∙ ap (advances st store x) (in_padding p x none (omega arith))
      ∙ ap (λ (n : ℕ). leaves n (reads st store (frame_at st.conn.frame (less_padding p n)) Event.None)) m

  step_part : (x : List ℕ) → st.conn.frame.position.padding ≡ 0 → 0 < length x → st.conn.frame.position.held + length x < 8
      → stepped st store x
      ≡ leaves (length x)
      (reads st store
      (frame_at st.conn.frame (at 0 0 (st.conn.frame.position.held + length x) (put_at st.conn.frame.position.header st.conn.frame.position.held x))) Event.None)
  unfolding advances
  step_part x z some room =
      let p = st.conn.frame.position in
      step_advances st store x (fits_admitted st.conn store fits) some ∙ ap (advances st store x) (in_header_lem p x none z ∙ in_part p.held p.header x room)

  step_whole : (x : List ℕ) → st.conn.frame.position.padding ≡ 0 → 0 < length x → st.conn.frame.position.held + length x ≡ 8
      → stepped st store x ≡ leaves (length x) (judged st store (header_of (put_at st.conn.frame.position.header st.conn.frame.position.held x)))
  unfolding advances
  step_whole x z some full =
      let p = st.conn.frame.position in
      let m : 8 - p.held ≡ length x = omega arith in
      step_advances st store x (fits_admitted st.conn store fits) some
      ∙ ap (advances st store x) (in_header_lem p x none z ∙ in_whole p.held p.header x (omega arith) (omega arith))
      ∙ ap (λ (n : ℕ). leaves n (judged st store (header_of (held_and p.held p.header n x)))) m
      ∙ ap (λ (u : List ℕ). leaves (length x) (judged st store (header_of (put_at p.header p.held u)))) (take_all (length x) x (omega arith))

-- a header is judged by the table and the store, wherever the reader stood
same_judged : (st : State) (store : List ℕ) (q : Position) (h : Header) → judged (at_position st q) store h ≡ judged st store h
unfolding judged on_management queried closes on_inactive on_active
same_judged st store q h = refl

module _ (st : State) (store : List ℕ) (b : ℕ) (x : List ℕ) (fits : Fits st.conn store) (none : st.conn.frame.position.content ≡ 0) (some : 0 < length x) where
  cut_padding : suc (length x) ≤ st.conn.frame.position.padding → Cuts st store b x
  cut_padding room =
      let p = st.conn.frame.position in
      let q = less_padding p 1 in
      let s = (shaped st.conn fits.shape).position in
      let later = moved_fits st store q fits none refl (omega (arith, s.padding)) s.held in
      let e : p.padding - suc (length x) ≡ p.padding - 1 - length x = omega arith in
      cuts st store b x (reads st store (frame_at st.conn.frame (less_padding p (suc (length x)))) Event.None)
      (reads st store (frame_at st.conn.frame q) Event.None)
      (reads st store (frame_at st.conn.frame (less_padding q (length x))) Event.None)
      (step_padding st store fits none (b ∷ x) (omega arith) room)
      (step_padding st store fits none (b ∷ []) (omega arith) (omega arith))
      (step_padding (at_position st q) store later refl x some (omega arith))
      (ap (λ (n : ℕ). at_position st (at 0 n p.held p.header)) e) refl refl

  cut_part : st.conn.frame.position.padding ≡ 0 → length st.conn.frame.position.header ≡ 8 → st.conn.frame.position.held + suc (length x) < 8 → Cuts st store b x
  cut_part z eight room =
      let p = st.conn.frame.position in
      let q = at 0 0 (p.held + 1) (put_at p.header p.held (b ∷ [])) in
      let later = moved_fits st store q fits none refl (omega arith) (omega arith) in
      let e : p.held + suc (length x) ≡ p.held + 1 + length x = omega arith in
      let j = put_put p.header p.held (p.held + 1) (b ∷ []) x refl (omega arith) in
      cuts st store b x (reads st store (frame_at st.conn.frame (at 0 0 (p.held + suc (length x)) (put_at p.header p.held (b ∷ x)))) Event.None)
      (reads st store (frame_at st.conn.frame q) Event.None)
      (reads st store (frame_at st.conn.frame (at 0 0 (p.held + 1 + length x) (put_at q.header (p.held + 1) x))) Event.None)
      (step_part st store fits none (b ∷ x) z (omega arith) room)
      (step_part st store fits none (b ∷ []) z (omega arith) (omega arith))
      (step_part (at_position st q) store later refl x refl some (omega arith))
      (ap₂ (λ (n : ℕ) (u : List ℕ). at_position st (at 0 0 n u)) e (sym j)) refl refl

  cut_whole : st.conn.frame.position.padding ≡ 0 → length st.conn.frame.position.header ≡ 8 → st.conn.frame.position.held + suc (length x) ≡ 8 → Cuts st store b x
  cut_whole z eight room =
      let p = st.conn.frame.position in
      let q = at 0 0 (p.held + 1) (put_at p.header p.held (b ∷ [])) in
      let later = moved_fits st store q fits none refl (omega arith) (omega arith) in
      let j = put_put p.header p.held (p.held + 1) (b ∷ []) x refl (omega arith) in
      let l = judged st store (header_of (put_at p.header p.held (b ∷ x))) in
      cuts st store b x l
      (reads st store (frame_at st.conn.frame q) Event.None)
      l
      (step_whole st store fits none (b ∷ x) z (omega arith) room)
      (step_part st store fits none (b ∷ []) z (omega arith) (omega arith))
      (step_whole (at_position st q) store later refl x refl some (omega arith)
      ∙ ap (leaves (length x)) (same_judged st store q (header_of (put_at q.header (p.held + 1) x)) ∙ ap (λ (u : List ℕ). judged st store (header_of u)) j))
      refl refl (plain_judged st store (header_of (put_at p.header p.held (b ∷ x))) (b ∷ x) x)

-- ---- a step that uses all of its bytes, a byte and more
-- It comes to the byte, and then the rest.
pub cut_step : (st : State) (store : List ℕ) (b : ℕ) (x : List ℕ) → Sizes st store → step_refusal st.conn store ≡ 0 → 0 < length x
    → (stepped st store (b ∷ x)).used ≡ suc (length x) → Cuts st store b x
unfolding advances
cut_step st store b x sizes a some all = by_position st.conn.frame.position content padding header
  where
    fits : Fits st.conn store
    fits = admitted_fits st.conn store a

    used : (advanced st.conn.frame.position (b ∷ x)).used ≡ suc (length x)
    used = sym (ap (λ (s : Stepped). s.used) (step_advances st store (b ∷ x) a (omega arith))) ∙ all

    content : 0 < st.conn.frame.position.content → Cuts st store b x
    content l =
        let u = sym (ap (λ (r : Advanced). r.used) (in_content st.conn.frame.position (b ∷ x) l)) ∙ used in
        cut_content st store b x fits sizes some (omega arith)

    padding : st.conn.frame.position.content ≡ 0 → 0 < st.conn.frame.position.padding → Cuts st store b x
    padding z l =
        let u = sym (ap (λ (r : Advanced). r.used) (in_padding st.conn.frame.position (b ∷ x) z l)) ∙ used in
        cut_padding st store b x fits z some (omega arith)

    header : st.conn.frame.position.content ≡ 0 → st.conn.frame.position.padding ≡ 0 → Cuts st store b x
    header z w =
        let q = st.conn.frame.position in
        by_header q.held (b ∷ x)
        (λ g. absurd (omega (arith, (shaped st.conn fits.shape).position.held)))
        (λ g. cut_part st store b x fits z some w sizes.header g)
        (λ g m.
        let u = sym (ap (λ (r : Advanced). r.used) (in_header_lem q (b ∷ x) z w ∙ in_whole q.held q.header (b ∷ x) g m)) ∙ used in
        cut_whole st store b x fits z some w sizes.header (omega arith))

-- a step that used something was not refused
pub used_admitted : (st : State) (store x : List ℕ) → 0 < (stepped st store x).used → step_refusal st.conn store ≡ 0
used_admitted st store x some =
    by_test (eqb (step_refusal st.conn store) 0) (λ t. eqb-true (step_refusal st.conn store) 0 t)
    (λ t.
    let r = ap (λ (s : Stepped). s.used) (step_refused st store x (eqb-false (step_refusal st.conn store) 0 t)) in
    absurd (omega arith))

-- ---- a step is its bytes, one by one
-- where it uses all of them
step_all : (x : List ℕ) (st : State) (store : List ℕ) → Sizes st store → (stepped st store x).used ≡ length x → single (stepped st store x) x ≡ by_byte st store x
unfolding by_byte
step_all [] st store sizes all = ap (λ (s : Stepped). single s []) (step_nothing st store)
step_all (b ∷ []) st store sizes all =
    ap (λ (l : List Note). record { state = (stepped st store (b ∷ [])).state; store = (stepped st store (b ∷ [])).store; notes = l }) (sym (append-nil _))
step_all (b ∷ c ∷ x) st store sizes all =
    let s = stepped st store (b ∷ []) in
    let y = c ∷ x in
    let k = cut_step st store b y sizes (used_admitted st store (b ∷ y) (omega arith)) (omega arith) all in
    let ih = step_all (c ∷ x) s.state s.store (sizes_stay st store (b ∷ []) sizes) k.all_used in
    ap₂ (λ (u : State) (v : List ℕ). record { state = u; store = v; notes = notes (stepped st store (b ∷ y)).event (b ∷ y) }) k.same_state k.same_store
    ∙ ap (λ (l : List Note). record { state = (stepped s.state s.store y).state; store = (stepped s.state s.store y).store; notes = l }) k.same_notes
    ∙ ap (λ (r : Run). record { state = r.state; store = r.store; notes = notes s.event (b ∷ []) ++ r.notes }) ih

-- Whatever state and piece: a step comes to what the bytes that it used come to one by one.
pub step_by_byte : (st : State) (store x : List ℕ) → Sizes st store
    → single (stepped st store x) (take (stepped st store x).used x) ≡ by_byte st store (take (stepped st store x).used x)
step_by_byte st store x sizes =
    let u = (stepped st store x).used in
    let e = used_only st store x in
    ap (λ (s : Stepped). single s (take u x)) (sym e)
    ∙ step_all (take u x) st store sizes (ap (λ (s : Stepped). s.used) e ∙ sym (length-take-le u x (step_uses_no_more st store x)))

-- ---- bytes one by one
-- what follows a run, under what was told before
abbrev noted : List Note → Run → Run
noted l r = record { state = r.state; store = r.store; notes = l ++ r.notes }

-- Bytes and more bytes are both in one.
pub by_byte_append : (x : List ℕ) (st : State) (store y : List ℕ) → by_byte st store (x ++ y) ≡ by_byte st store x then-run (λ st' store'. by_byte st' store' y)
unfolding by_byte
by_byte_append [] st store y = refl
by_byte_append (b ∷ x) st store y =
    let s = stepped st store (b ∷ []) in
    let r = by_byte s.state s.store x in
    ap (noted (notes s.event (b ∷ []))) (by_byte_append x s.state s.store y)
    ∙ ap (λ (l : List Note). record { state = (by_byte r.state r.store y).state; store = (by_byte r.state r.store y).store; notes = l })
    (sym (append_assoc (notes s.event (b ∷ [])) r.notes (by_byte r.state r.store y).notes))

-- A state that refuses a step, as a closed one does, stays as it is, and nothing is told.
pub by_byte_refused : (x : List ℕ) (st : State) (store : List ℕ) → (step_refusal st.conn store ≡ 0 → ⊥) → by_byte st store x ≡ resting st store
unfolding by_byte
by_byte_refused [] st store r = refl
by_byte_refused (b ∷ x) st store r =
    ap (λ (s : Stepped). single s (b ∷ []) then-run (λ st' store'. by_byte st' store' x)) (step_refused st store (b ∷ []) r)
    ∙ ap (noted []) (by_byte_refused x st store r)

-- So a closed connection stays as it is.
pub by_byte_closed : (x : List ℕ) (st : State) (store : List ℕ) → st.conn.«open» ≡ false → by_byte st store x ≡ resting st store
by_byte_closed x st store c =
    by_byte_refused x st store (λ a. let z : ◌≡◌ {A = ℕ} 0 1 = cc ((admitted_fits st.conn store a).is_open, c) in omega arith)

-- The arrays and the store keep their lengths.
pub by_byte_sizes : (x : List ℕ) (st : State) (store : List ℕ) → Sizes st store → Sizes (by_byte st store x).state (by_byte st store x).store
unfolding by_byte
by_byte_sizes [] st store s = s
by_byte_sizes (b ∷ x) st store s = by_byte_sizes x (stepped st store (b ∷ [])).state (stepped st store (b ∷ [])).store (sizes_stay st store (b ∷ []) s)

-- ---- cutting
-- Steps over what is left come to the bytes one by one, if there are as many steps as bytes. Where the connection
-- closes in between, both stay there.
pub cutting : (k : ℕ) (st : State) (store x : List ℕ) → Sizes st store → length x ≤ k → fed k st store x ≡ by_byte st store x
unfolding fed by_byte
cutting zero st store [] sizes l = refl
cutting zero st store (b ∷ x) sizes l = absurd (omega arith)
cutting (suc k) st store x sizes l =
    let s = stepped st store x in
    by_test (eqb (step_refusal st.conn store) 0)
    (λ t.
    ap (noted (notes s.event (take s.used x))) (cutting k s.state s.store (drop s.used x) (sizes_stay st store x sizes)
    (less_left st store x k (eqb-true (step_refusal st.conn store) 0 t) l))
    ∙ ap (λ (r : Run). r then-run (λ st' store'. by_byte st' store' (drop s.used x))) (step_by_byte st store x sizes)
    ∙ sym (by_byte_append (take s.used x) st store (drop s.used x))
    ∙ ap (by_byte st store) (take-append-drop s.used x))
    (λ t.
    let r = eqb-false (step_refusal st.conn store) 0 t in
    fed_refused (suc k) st store x r ∙ sym (by_byte_refused x st store r))

-- Fed in two pieces or in one, it comes to the same.
pub cut_anywhere : (k m n : ℕ) (st : State) (store x y : List ℕ) → Sizes st store → length x ≤ k → length y ≤ m → length x + length y ≤ n
    → fed k st store x then-run (λ st' store'. fed m st' store' y) ≡ fed n st store (x ++ y)
cut_anywhere k m n st store x y sizes hx hy hn =
    let r = by_byte st store x in
    ap (λ (w : Run). w then-run (λ st' store'. fed m st' store' y)) (cutting k st store x sizes hx)
    ∙ ap (noted r.notes) (cutting m r.state r.store y (by_byte_sizes x st store sizes) hy)
    ∙ sym (by_byte_append x st store y)
    ∙ sym (cutting n st store (x ++ y) sizes (omega (arith, length-append x y)))

-- Fed in any pieces, the bytes come to what they come to one by one.
pub pieces_by_byte : (pieces : List (List ℕ)) (st : State) (store : List ℕ) → Sizes st store → fed_pieces st store pieces ≡ by_byte st store (joined pieces)
unfolding fed_pieces joined by_byte
pieces_by_byte [] st store sizes = refl
pieces_by_byte (x ∷ pieces) st store sizes =
    let r = by_byte st store x in
    ap (λ (w : Run). w then-run (λ st' store'. fed_pieces st' store' pieces)) (cutting (length x) st store x sizes (omega arith))
    ∙ ap (noted r.notes) (pieces_by_byte pieces r.state r.store (by_byte_sizes x st store sizes))
    ∙ sym (by_byte_append x st store (joined pieces))

-- So two ways to cut the same bytes come to the same state, the same store and the same notes.
pub any_cutting : (pieces others : List (List ℕ)) (st : State) (store : List ℕ) → Sizes st store → joined pieces ≡ joined others
    → fed_pieces st store pieces ≡ fed_pieces st store others
any_cutting pieces others st store sizes e =
    pieces_by_byte pieces st store sizes ∙ ap (by_byte st store) e ∙ sym (pieces_by_byte others st store sizes)

-- ---- all bytes are read while the connection is open
-- Bytes one by one keep a state in shape.
pub by_byte_in_shape : (x : List ℕ) (st : State) (store : List ℕ) → Arrays st.conn → AllBytes x → in_shape st.conn ≡ true → in_shape (by_byte st store x).state.conn ≡ true
unfolding by_byte
by_byte_in_shape [] st store arrays all shape = shape
by_byte_in_shape (b ∷ x) st store arrays all shape =
    let s = stepped st store (b ∷ []) in
    let one = take_bytes 1 (b ∷ x) all in
    by_byte_in_shape x s.state s.store (step_keeps_arrays st store (b ∷ []) arrays one) (λ i. all (suc i)) (step_in_shape st store (b ∷ []) arrays one shape)

-- From a state in shape n bytes are read in n steps at most, if the connection is open after them.
pub all_read : (k : ℕ) (st : State) (store x : List ℕ) → Sizes st store → Arrays st.conn → AllBytes x → in_shape st.conn ≡ true → length x ≤ k
    → (fed k st store x).state.conn.«open» ≡ true → left_of k st store x ≡ []
all_read k st store x sizes arrays all shape l o =
    let e = cutting k st store x sizes l in
    steps_enough k st store x l
    (rw e (fits_admitted (by_byte st store x).state.conn (by_byte st store x).store
    (record { size = (by_byte_sizes x st store sizes).full; shape = by_byte_in_shape x st store arrays all shape; is_open = rw e at o })))
