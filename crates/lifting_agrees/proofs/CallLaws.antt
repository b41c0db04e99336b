-- A call of the lift, case by case; and that one which may go on does.
use Rattle.std.specs.Prelude.{ℕ, ◌+◌, ◌-◌, ◌<◌, ◌≡◌, true, false, List, ◌⊎◌, length, ltb, eqb}
use Rattle.std.proofs.Common.{ap, ◌∙◌, inl, inr, arith, length-take, length-drop}
use borrow.Author.Tests.{lt-ltb, le-ltb, ltb-true, ltb-false, eqb-true, eqb-false, eq-eqb, ne_eqb}
use Rattle.wire.specs.Test.{by_test}
use Rattle.connection.specs.Sizes.{STORE}
use Rattle.connection.specs.Shape.{in_shape}
use Rattle.connection.specs.Step.{stepped}
use Rattle.connection.proofs.Laws.Progress.{step_uses_some}
use Rattle.lifting.specs.Call.{Lifting, lift_refusal, waiting_bytes, header_written, copies_content, offered, reads_on, stands, lifted}

-- ---- refusals
-- A call is not refused: the store has its size, the receiver's state is in shape, the id is not 0.
pub record Admitted (l : Lifting) (store : List ℕ) : Type 0 where
  pub size : length store ≡ STORE
  pub shape : in_shape l.state.conn ≡ true
  pub some_id : l.id ≡ 0 → ⊥

pub admitted : (l : Lifting) (store : List ℕ) → Admitted l store → lift_refusal l store ≡ 0
unfolding lift_refusal
admitted l store a = simp (eq-eqb (length store) STORE a.size, a.shape, ne_eqb l.id 0 a.some_id)

pub is_admitted : (l : Lifting) (store : List ℕ) → lift_refusal l store ≡ 0 → Admitted l store
unfolding lift_refusal
is_admitted l store e =
    by_test (eqb (length store) STORE)
    (λ s.
    by_test (in_shape l.state.conn)
    (λ i.
    by_test (eqb l.id 0) (λ z. let no : ◌≡◌ {A = ℕ} 3 0 = simp (s, i, z) at e in absurd (omega arith))
    (λ z. record { size = eqb-true (length store) STORE s; shape = i; some_id = eqb-false l.id 0 z }))
    (λ i. let no : ◌≡◌ {A = ℕ} 9 0 = simp (s, i) at e in absurd (omega arith)))
    (λ s. let no : ◌≡◌ {A = ℕ} 2 0 = simp s at e in absurd (omega arith))

-- ---- the three cases of a call
module _ (l : Lifting) (store piece buffer : List ℕ) (a : lift_refusal l store ≡ 0) where
  pub call_writes : 0 < l.waiting → lifted l store piece buffer ≡ header_written l store buffer
  unfolding lifted
  call_writes w = simp (eq-eqb (lift_refusal l store) 0 a, lt-ltb 0 l.waiting w)

  pub call_reads : l.waiting ≡ 0 → l.state.conn.«open» ≡ true
      → lifted l store piece buffer ≡ reads_on l store piece buffer
  unfolding lifted
  call_reads w o = simp (eq-eqb (lift_refusal l store) 0 a, le-ltb 0 l.waiting (omega arith), o)

  pub call_stands : l.waiting ≡ 0 → l.state.conn.«open» ≡ false
      → lifted l store piece buffer ≡ stands 0 l store buffer
  unfolding lifted
  call_stands w o = simp (eq-eqb (lift_refusal l store) 0 a, le-ltb 0 l.waiting (omega arith), o)

-- ---- what waits
pub waiting_length : (l : Lifting) → length l.header ≡ 8 → length (waiting_bytes l) ≡ 8 - (8 - l.waiting)
waiting_length l eight = length-drop (8 - l.waiting) l.header ∙ ap (λ (n : ℕ). n - (8 - l.waiting)) eight

-- ---- a call goes on
writes_some : (l : Lifting) (store buffer : List ℕ) → length l.header ≡ 8 → 0 < l.waiting → 0 < length buffer
    → 0 < (header_written l store buffer).written
unfolding header_written
writes_some l store buffer eight w room =
    omega (arith, length-take (length buffer) (waiting_bytes l), waiting_length l eight)

offers_some : (l : Lifting) (piece : List ℕ) (room : ℕ) → 0 < room → 0 < length piece
    → 0 < length (offered l piece room)
offers_some l piece room r some =
    by_test (copies_content l) (λ c. simp c (omega (arith, length-take room piece))) (λ c. simp c some)

reads_some : (l : Lifting) (store piece buffer : List ℕ) → Admitted l store → l.state.conn.«open» ≡ true
    → 0 < length piece → 0 < length buffer → 0 < (reads_on l store piece buffer).used
unfolding reads_on
reads_some l store piece buffer a o some room =
    let bytes = offered l piece (length buffer) in
    let offers = offers_some l piece (length buffer) room some in
    let u = step_uses_some l.state store bytes a.shape o a.size offers in
    omega (arith, length-take (stepped l.state store bytes).used bytes)

pub goes_on_lem : (l : Lifting) (store piece buffer : List ℕ) → length l.header ≡ 8 → lift_refusal l store ≡ 0
    → 0 < length buffer → (0 < length (waiting_bytes l)) ⊎ ((l.state.conn.«open» ≡ true) × (0 < length piece))
    → 0 < (lifted l store piece buffer).used + (lifted l store piece buffer).written
goes_on_lem l store piece buffer eight a room more =
    by_test (ltb 0 l.waiting)
    (λ t.
    let w = ltb-true 0 l.waiting t in
    rw (call_writes l store piece buffer a w) (omega (arith, writes_some l store buffer eight w room)))
    (λ t. reading more (omega (arith, ltb-false 0 l.waiting t)))
  where
    reading : (0 < length (waiting_bytes l)) ⊎ ((l.state.conn.«open» ≡ true) × (0 < length piece)) → l.waiting ≡ 0
        → 0 < (lifted l store piece buffer).used + (lifted l store piece buffer).written
    reading (inl waits) none = absurd (omega (arith, waiting_length l eight))
    reading (inr (o, some)) none =
        rw (call_reads l store piece buffer a none o)
        (omega (arith, reads_some l store piece buffer (is_admitted l store a) o some room))

-- ---- after a close a call uses nothing
pub closed_uses_none : (l : Lifting) (store piece buffer : List ℕ) → l.state.conn.«open» ≡ false
    → (lifted l store piece buffer).used ≡ 0
unfolding lifted header_written
closed_uses_none l store piece buffer o =
    by_test (eqb (lift_refusal l store) 0)
    (λ r. by_test (ltb 0 l.waiting) (λ w. simp (r, w)) (λ w. simp (r, w, o)))
    (λ r. simp r)
