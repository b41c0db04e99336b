-- What the admission of a call with a queue says of its refusal: of a call that is let through, the slot, and that its
-- own rows decide; of a refused one, the row.
use Rattle.std.specs.Prelude.{ℕ, zero, suc, ◌+◌, ◌≤◌, ◌<◌, Bool, false, not, List, ◌∷◌, length, if◌then◌else◌, Some, Ok, Err}
use Rattle.std.proofs.Math.Path.{◌≡◌, sym, ap}
use Rattle.std.proofs.Common.{◌∙◌, arith, leb-true, eqb-true, eq-eqb}
use Rattle.std.proofs.Math.Bool.{true}
use Rattle.std.proofs.lemmas.Bool.{eqb-false}
use Rattle.wire.specs.Test.{◌≤?◌, ◌=?◌, by_test}
use Rattle.slot_word.specs.Word.{taken}
use Rattle.connection.specs.declared.answer.Refusal.{Refusal}
use Rattle.connection.specs.Sizes.{SLOTS, STORE}
use Rattle.connection.specs.Codes.{refusal_number}
use Rattle.connection.specs.Refusal.{Row, ◌when◌, holds_in, refusal}
use Rattle.connection.specs.Slots.{find, is_found}
use Rattle.connection.specs.Shape.{in_shape}
use Rattle.connection.specs.Calls as C
use Rattle.connection.proofs.Laws.SlotsLaws.{find_at, found_true}
use Rattle.connection.proofs.Laws.ShapeLaws.{and_true}
use Rattle.codes.proofs.Laws.{refusal_some}
use Rattle.call_admit.specs.Admission.{Admission, admitted_by, call_admission}
use Rattle.call_admit.proofs.AdmissionLaws.{let_through, refused_by_lem}
use Rattle.queue_slot.specs.Wait.{ROOM, some_waits}
use Rattle.queue.specs.Numbers.{count_at, front_at, last_at}
use Rattle.queue.specs.Calls.{QueueMemory, conn_of, slot_of, wait_fits, waits_fit, queue_in_shape, rows_of}
use Rattle.queue_admit.specs.Admission.{queue_admission, queue_lent_admission}

-- ---- rows
-- None of these rows is one that comes before a request's own: 2, 9, 1 and 3. (Of rows that are written out each
-- equation is refl.)
pub record Own (rows : List Row) : Type 0 where
  pub not_size : holds_in 2 rows ≡ false
  pub not_shape : holds_in 9 rows ≡ false
  pub not_closed : holds_in 1 rows ≡ false
  pub not_active : holds_in 3 rows ≡ false

-- Row 2 refuses before all others.
pub size_refuses : (b : Bool) (rows : List Row) → b ≡ true → refusal ((2 when b) ∷ rows) ≡ 2
size_refuses b rows e = simp e

-- Where it does not hold, the others decide.
pub size_passes : (b : Bool) (rows : List Row) → b ≡ false → holds_in 2 rows ≡ false → refusal ((2 when b) ∷ rows) ≡ refusal rows
size_passes b rows e own = simp (e, own)

-- ---- what waits in a slot, where what waits is in shape
fits_at : (n : ℕ) (waits : List ℕ) (occupied k i : ℕ) → waits_fit n waits occupied k ≡ true → k ≤ i → i < k + n → wait_fits waits occupied i ≡ true
unfolding waits_fit
fits_at zero waits occupied k i e low high = absurd (omega arith)
fits_at (suc n) waits occupied k i e low high =
    let both = and_true (wait_fits waits occupied k) (waits_fit n waits occupied (k + 1)) e in
    by_test (k =? i)
    (λ t. ap (wait_fits waits occupied) (sym (eqb-true k i t)) ∙ both.0)
    (λ t. fits_at n waits occupied (k + 1) i both.1 (omega (arith, eqb-false k i t)) (omega arith))

-- Not over ROOM data bytes wait in any slot.
pub fits_count : (waits : List ℕ) (occupied i : ℕ) → waits_fit SLOTS waits occupied 0 ≡ true → i < SLOTS → count_at waits i ≤ ROOM
unfolding wait_fits
fits_count waits occupied i e low =
    leb-true (count_at waits i) ROOM
    (and_true (count_at waits i ≤? ROOM) (if taken i occupied then true else not (some_waits (count_at waits i) (front_at waits i) (last_at waits i)))
    (fits_at SLOTS waits occupied 0 i e (omega arith) (omega arith))
    ).0

-- ---- a call
-- A call that rows 9, 1 and 3 let through to the request in slot i.
pub record Through (m : QueueMemory) (id i : ℕ) : Type 0 where
  pub shape : queue_in_shape m ≡ true
  pub is_open : (conn_of m).«open» ≡ true
  pub found : find (conn_of m).table id ≡ Some i
  pub slot : slot_of m id ≡ i
  pub low : i < SLOTS
  pub few : count_at m.waits i ≤ ROOM

module _ (m : QueueMemory) (id : ℕ) where
  -- Where rows 9, 1 and 3 let it through, the request's own rows decide.
  pub own_decide : {i : ℕ} (rows : List Row) → Through m id i → Own rows → refusal (rows_of m id rows) ≡ refusal rows
  own_decide rows t own = simp (t.shape, t.is_open, t.found, own.not_shape, own.not_closed, own.not_active)

  -- What waits is in shape: rows 9, 1 and 3 are as without a queue.
  unqueued : (rows : List Row) (n : ℕ) → waits_fit SLOTS m.waits (conn_of m).table.occupied 0 ≡ true → holds_in 2 rows ≡ false
      → C.call_refusal (conn_of m) id ≡ n → (n =? 0) ≡ false → refusal (rows_of m id rows) ≡ n
  unfolding queue_in_shape C.call_refusal
  unqueued rows n fits own e some =
      let c = conn_of m in
      by_test (in_shape c)
      (λ s. by_test c.«open»
      (λ o. by_test (is_found (find c.table id))
      (λ f. let z : ◌≡◌ {A = ℕ} 0 n = simp (s, o, f) at e in absurd (eqb-false n 0 some (sym z)))
      (λ f. simp (fits, own, s, o, f) (simp (s, o, f) at e)))
      (λ o. simp (fits, own, s, o) (simp (s, o) at e)))
      (λ s. simp (fits, own, s) (simp s at e))

  -- The row of a call that is refused by 9, 1 or 3, whatever its other rows are, if row 2 is not among them.
  pub refused_by_row : (why : Refusal) (rows : List Row) → admitted_by (Err why) ≡ queue_admission (conn_of m) m.waits id
      → holds_in 2 rows ≡ false → refusal (rows_of m id rows) ≡ refusal_number why
  unfolding queue_admission call_admission queue_in_shape
  refused_by_row why rows e own =
      let c = conn_of m in
      by_test (waits_fit SLOTS m.waits c.table.occupied 0)
      (λ fits. unqueued rows (refusal_number why) fits own (refused_by_lem (C.call_refusal c id) (C.slot_of c id) why (simp fits at e)) (refusal_some why))
      (λ fits.
      let n : 9 ≡ refusal_number why = ap (λ (a : Admission). a.refusal) (sym (simp fits at e)) in
      by_test (in_shape c) (λ s. simp (own, s, fits) n) (λ s. simp (own, s) n))

  -- A call that is let through has its slot.
  pub through_at : (i : ℕ) → admitted_by (Ok i) ≡ queue_admission (conn_of m) m.waits id → Through m id i
  unfolding queue_admission call_admission queue_in_shape C.call_refusal
  through_at i e =
      let c = conn_of m in
      by_test (waits_fit SLOTS m.waits c.table.occupied 0)
      (λ fits.
      let a = let_through (C.call_refusal c id) (C.slot_of c id) i (simp fits at e) in
      by_test (in_shape c)
      (λ s. by_test c.«open»
      (λ o. by_test (is_found (find c.table id))
      (λ f. facts fits s o (found_true (find c.table id) f) a.1)
      (λ f. let z : ◌≡◌ {A = ℕ} 3 0 = simp (s, o, f) at a.0 in absurd (omega arith)))
      (λ o. let z : ◌≡◌ {A = ℕ} 1 0 = simp (s, o) at a.0 in absurd (omega arith)))
      (λ s. let z : ◌≡◌ {A = ℕ} 9 0 = simp s at a.0 in absurd (omega arith)))
      (λ fits. let z : ◌≡◌ {A = ℕ} 0 9 = ap (λ (a : Admission). a.refusal) (simp fits at e) in absurd (omega arith))
    where
      facts : waits_fit SLOTS m.waits (conn_of m).table.occupied 0 ≡ true → in_shape (conn_of m) ≡ true → (conn_of m).«open» ≡ true
          → (j : ℕ) × (find (conn_of m).table id ≡ Some j) → i ≡ C.slot_of (conn_of m) id → Through m id i
      facts fits s o f e =
          let slot : slot_of m id ≡ f.0 = rw f.1 in
          let found : find (conn_of m).table id ≡ Some i = f.1 ∙ ap Some (sym (e ∙ slot)) in
          let low : i < SLOTS = (find_at (conn_of m).table id i found).low in
          record { shape = simp (s, fits); is_open = o; found = found; slot = sym e; low = low; few = fits_count m.waits (conn_of m).table.occupied i fits low }

  -- ---- the same of a call that is lent the store
  -- refused by 2, 9, 1 or 3
  pub lent_refused_by_row : (why : Refusal) (rows : List Row) → admitted_by (Err why) ≡ queue_lent_admission (conn_of m) m.waits m.memory.store id
      → holds_in 2 rows ≡ false → refusal ((2 when not (length m.memory.store =? STORE)) ∷ rows_of m id rows) ≡ refusal_number why
  unfolding queue_lent_admission
  lent_refused_by_row why rows e own =
      by_test (length m.memory.store =? STORE)
      (λ t. size_passes (not (length m.memory.store =? STORE)) (rows_of m id rows) (simp t) own ∙ refused_by_row why rows (simp t at e) own)
      (λ t.
      size_refuses (not (length m.memory.store =? STORE)) (rows_of m id rows) (simp t) ∙ ap (λ (a : Admission). a.refusal) (sym (simp t at e)))

  -- let through: the store has its size, too
  pub lent_through_at : (i : ℕ) → admitted_by (Ok i) ≡ queue_lent_admission (conn_of m) m.waits m.memory.store id
      → (length m.memory.store ≡ STORE) × Through m id i
  unfolding queue_lent_admission
  lent_through_at i e =
      by_test (length m.memory.store =? STORE)
      (λ t. (eqb-true (length m.memory.store) STORE t, through_at i (simp t at e)))
      (λ t. let z : ◌≡◌ {A = ℕ} 0 2 = ap (λ (a : Admission). a.refusal) (simp t at e) in absurd (omega arith))

  -- its own rows decide
  pub lent_own_decide : {i : ℕ} (rows : List Row) → length m.memory.store ≡ STORE → Through m id i → Own rows
      → refusal ((2 when not (length m.memory.store =? STORE)) ∷ rows_of m id rows) ≡ refusal rows
  lent_own_decide rows full t own =
      size_passes (not (length m.memory.store =? STORE)) (rows_of m id rows) (simp (eq-eqb (length m.memory.store) STORE full)) own.not_size ∙ own_decide rows t own
