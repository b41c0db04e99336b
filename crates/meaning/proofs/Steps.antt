-- Bytes one by one, in bulk: a part of a header, a whole header, content, padding.
use Rattle.std.specs.Prelude.{ℕ, ◌+◌, ◌≤◌, ◌<◌, min, ◌≡◌, refl, true, List, [], ◌++◌, length, take, drop}
use Rattle.std.proofs.Common.{sym, ap, ◌∙◌, append-nil, arith, take_all}
use Rattle.wire.specs.Buffer.{put_at}
use Rattle.record.specs.Header.{header_of}
use Rattle.record_reader.specs.Position.{no_header, advanced}
use Rattle.record_reader.specs.declared.Position.{Position}
use Rattle.record_reader.specs.declared.Phase.{Phase}
use Rattle.record_reader.proofs.PositionLaws.{at}
use Rattle.connection.specs.declared.state.Frame.{Frame}
use Rattle.connection.specs.Event.{Event}
use Rattle.connection.specs.Shape.{in_shape}
use Rattle.connection.specs.Step.{State, Left, Stepped, no_frame, leaves, reads, frame_at, judged, on_target, advances, stepped}
use Rattle.connection.specs.Bytewise.{single, by_byte}
use Rattle.connection.proofs.Laws.PlainEvents.{plain_judged}
use Rattle.connection.proofs.Laws.Progress.{Fits, fits_admitted, less_content, less_padding, in_content, in_padding, in_header_lem, in_part, in_whole, step_advances}
use Rattle.connection.proofs.Laws.StepSizes.{Sizes}
use Rattle.connection.proofs.Laws.Cutting.{step_by_byte}
use Rattle.meaning.specs.Meaning.{ran}

-- A state between two records, open and in shape, with a store of its size.
pub record Between (st : State) (store : List ℕ) : Type 0 where
  pub frame : st.conn.frame ≡ no_frame
  pub is_open : st.conn.«open» ≡ true
  pub shape : in_shape st.conn ≡ true
  pub sizes : Sizes st store

pub between_fits : (st : State) (store : List ℕ) → Between st store → Fits st.conn store
between_fits st store b = record { size = b.sizes.full; shape = b.shape; is_open = b.is_open }

-- a step that uses all of its bytes is these one by one
all_by_byte : (st : State) (store x : List ℕ) (l : Left) → Sizes st store → stepped st store x ≡ leaves (length x) l → by_byte st store x ≡ ran l x
all_by_byte st store x l sizes e =
    let u : take (stepped st store x).used x ≡ x = ap (λ (s : Stepped). take s.used x) e ∙ take_all (length x) x (omega arith) in
    ap (by_byte st store) (sym u) ∙ sym (step_by_byte st store x sizes) ∙ ap (λ (y : List ℕ). single (stepped st store x) y) u ∙ ap (λ (s : Stepped). single s x) e

-- Content, or a part of it.
pub content_bytes : (st : State) (store x : List ℕ) → Fits st.conn store → Sizes st store → 0 < length x → length x ≤ st.conn.frame.position.content
    → by_byte st store x ≡ ran (on_target st.conn.frame.target st store x (less_content st.conn.frame.position (length x))) x
unfolding advances
content_bytes st store x f sizes some room =
    let p = st.conn.frame.position in
    let m : min p.content (length x) ≡ length x = omega arith in
    all_by_byte st store x _ sizes
    (step_advances st store x (fits_admitted st.conn store f) some
    ∙ ap (advances st store x) (in_content p x (omega arith))
    ∙ ap (λ (n : ℕ). leaves n (on_target st.conn.frame.target st store (take n x) (less_content p n))) m
    ∙ ap (λ (u : List ℕ). leaves (length x) (on_target st.conn.frame.target st store u (less_content p (length x)))) (take_all (length x) x (omega arith)))

-- Padding, or a part of it.
pub padding_bytes : (st : State) (store x : List ℕ) → Fits st.conn store → Sizes st store → st.conn.frame.position.content ≡ 0 → 0 < length x
    → length x ≤ st.conn.frame.position.padding
    → by_byte st store x ≡ ran (reads st store (frame_at st.conn.frame (less_padding st.conn.frame.position (length x))) Event.None) []
unfolding advances
padding_bytes st store x f sizes none some room =
    let p = st.conn.frame.position in
    let m : min p.padding (length x) ≡ length x = omega arith in
    all_by_byte st store x _ sizes
    (step_advances st store x (fits_admitted st.conn store f) some
    ∙ ap (advances st store x) (in_padding p x none (omega arith))
    ∙ ap (λ (n : ℕ). leaves n (reads st store (frame_at st.conn.frame (less_padding p n)) Event.None)) m)

-- A part of a header.
pub part_bytes_lem : (st : State) (store x : List ℕ) → Between st store → 0 < length x → length x < 8
    → by_byte st store x ≡ ran (reads st store (frame_at st.conn.frame (at 0 0 (length x) (put_at no_header 0 x))) Event.None) []
unfolding advances
part_bytes_lem st store x b some room =
    let p = st.conn.frame.position in
    let is : p ≡ no_frame.position = ap (λ (f : Frame). f.position) b.frame in
    let n : 0 + length x ≡ length x = omega arith in
    all_by_byte st store x _ b.sizes
    (step_advances st store x (fits_admitted st.conn store (between_fits st store b)) some
    ∙ ap (advances st store x)
    (ap (λ (q : Position). advanced q x) is
    ∙ in_header_lem no_frame.position x refl refl
    ∙ in_part 0 no_header x (omega arith)
    ∙ ap (λ (k : ℕ). record { used = length x; phase = Phase.Part; position = at 0 0 k (put_at no_header 0 x) }) n))

-- A whole header.
pub header_bytes_lem : (st : State) (store h : List ℕ) → Between st store → length h ≡ 8 → by_byte st store h ≡ ran (judged st store (header_of h)) []
unfolding advances
header_bytes_lem st store h b eight =
    let p = st.conn.frame.position in
    let is : p ≡ no_frame.position = ap (λ (f : Frame). f.position) b.frame in
    let whole : put_at no_header 0 h ≡ h = ap (λ (n : ℕ). h ++ drop (0 + n) no_header) eight ∙ append-nil h in
    let t : take 8 h ≡ h = take_all 8 h (omega arith) in
    all_by_byte st store h (judged st store (header_of h)) b.sizes
    (step_advances st store h (fits_admitted st.conn store (between_fits st store b)) (omega arith)
    ∙ (ap (λ (q : Position). advances st store h (advanced q h)) is
    ∙ ap (advances st store h) (in_header_lem no_frame.position h refl refl ∙ in_whole 0 no_header h (omega arith) (omega arith))
    ∙ ap (λ (u : List ℕ). leaves 8 (judged st store (header_of (put_at no_header 0 u)))) t
    ∙ ap (λ (u : List ℕ). leaves 8 (judged st store (header_of u))) whole
    ∙ ap (λ (n : ℕ). leaves n (judged st store (header_of h))) (sym eight)))
    ∙ ap (λ l. record { state = record { conn = (judged st store (header_of h)).conn; gathered = (judged st store (header_of h)).gathered }; store = (judged st store (header_of h)).store; notes = l })
    (plain_judged st store (header_of h) h [])
