-- A step sees of a piece its length and the bytes that it uses, and nothing else: it never looks ahead.
use Rattle.std.specs.Prelude.{ℕ, ◌-◌, ◌≤◌, ◌≡◌, refl, true, List, [], ◌∷◌, length, take, eqb}
use Rattle.std.proofs.Common.{sym, ap, ◌∙◌, arith, take_all, eqb-true}
use Rattle.std.proofs.lemmas.Bool.{eqb-false}
use Rattle.wire.specs.Test.{by_test}
use Rattle.wire.specs.Buffer.{put_at}
use Rattle.record.specs.Header.{header_of}
use Rattle.record_reader.specs.Position.{after_header, in_header, advanced}
use Rattle.record_reader.specs.declared.Position.{Position}
use Rattle.record_reader.specs.declared.Phase.{Phase}
use Rattle.connection.proofs.Laws.ShapeLaws.{shaped}
use Rattle.connection.specs.Step.{State, leaves, on_phase, advances, step_refusal, stepped}
use Rattle.connection.proofs.Laws.Progress.{admitted_fits, in_content, in_padding, in_header_lem, in_part, in_whole, by_position, by_header, step_refused, step_advances}

-- the reader's position: a header
header_alone : (k : ℕ) (h x y : List ℕ) → k ≤ 7 → length x ≡ length y → take (in_header k h x).used x ≡ take (in_header k h x).used y → in_header k h x ≡ in_header k h y
header_alone k h x y low e q =
    by_header k x
    (λ g. absurd (omega arith))
    (λ g.
    let all : take (length x) x ≡ take (length x) y = rw (in_part k h x g) at q in
    ap (in_header k h) (sym (take_all (length x) x (omega arith)) ∙ all ∙ take_all (length x) y (omega arith)))
    (λ g m.
    let some : take (8 - k) x ≡ take (8 - k) y = rw (in_whole k h x g m) at q in
    in_whole k h x g m
    ∙ ap (λ (l : List ℕ). record { used = 8 - k; phase = Phase.Whole (header_of (put_at h k l)); position = after_header (header_of (put_at h k l)) }) some
    ∙ sym (in_whole k h y g (omega arith)))

-- any phase
advanced_alone : (p : Position) (x y : List ℕ) → p.held ≤ 7 → length x ≡ length y → take (advanced p x).used x ≡ take (advanced p x).used y → advanced p x ≡ advanced p y
advanced_alone p x y low e q =
    by_position p
    (λ l. rw (in_content p x l, in_content p y l, e))
    (λ z l. rw (in_padding p x z l, in_padding p y z l, e))
    (λ z w.
    let r : take (in_header p.held p.header x).used x ≡ take (in_header p.held p.header x).used y = rw (in_header_lem p x z w) at q in
    in_header_lem p x z w ∙ header_alone p.held p.header x y low e r ∙ sym (in_header_lem p y z w))

-- Two pieces of one length that agree in the bytes that a step uses of the one: the step over the other is the same
-- in all, the state, the store, the event, the bytes used and the refusal.
pub used_alone : (st : State) (store x y : List ℕ) → length x ≡ length y → take (stepped st store x).used x ≡ take (stepped st store x).used y
    → stepped st store x ≡ stepped st store y
unfolding advances
used_alone st store [] [] e q = refl
used_alone st store [] (c ∷ y) e q = absurd (omega arith)
used_alone st store (b ∷ x) y e q =
    by_test (eqb (step_refusal st.conn store) 0) admitted
    (λ t.
    let r = eqb-false (step_refusal st.conn store) 0 t in
    step_refused st store (b ∷ x) r ∙ sym (step_refused st store y r))
  where
    admitted : eqb (step_refusal st.conn store) 0 ≡ true → stepped st store (b ∷ x) ≡ stepped st store y
    admitted t =
        let a = eqb-true (step_refusal st.conn store) 0 t in
        let p = st.conn.frame.position in
        let low = (shaped st.conn (admitted_fits st.conn store a).shape).position.held in
        let A = advanced p (b ∷ x) in
        let here = step_advances st store (b ∷ x) a (omega arith) in
        let used : take A.used (b ∷ x) ≡ take A.used y = rw here at q in
        here
        ∙ ap (λ (l : List ℕ). leaves A.used (on_phase A.phase st store l A.position)) used
        ∙ ap (advances st store y) (advanced_alone p (b ∷ x) y low e used)
        ∙ sym (step_advances st store y a (omega arith))
