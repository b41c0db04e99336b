-- What a finish that is not refused leaves: its request is found nowhere.
use Rattle.std.specs.Prelude.{◌≡◌, refl, ◌⊎◌, List, Bool, true, false, ℕ, length, eqb, Some, None}
use Rattle.std.proofs.Common.{ap, sym, ◌∙◌, inl, inr, arith, eq-eqb, eqb-true}
use Rattle.std.proofs.Math.Option.{none}
use Rattle.std.proofs.lemmas.Bool.{eqb-false}
use Rattle.wire.specs.Test.{by_test}
use Rattle.wire.specs.Buffer.{zeros}
use Rattle.slot_word.specs.Word.{taken}
use Rattle.connection.specs.declared.state.Table.{Table}
use Rattle.connection.specs.declared.state.Conn.{Conn}
use Rattle.connection.specs.Sizes.{STORE}
use Rattle.connection.specs.Shape.{in_shape}
use Rattle.connection.specs.Slots.{request_at, area_at, put_area, free_slot, no_requests, holds_id, find_from, find, is_found}
use Rattle.connection.specs.Step.{closed_conn}
use Rattle.connection.specs.RequestCalls as Of
use Rattle.connection.specs.Calls as C
use Rattle.connection.specs.Arguments.{ForFinish}
use Rattle.connection.specs.Run.{Memory, CallFor, request_of, called, memory_after}
use Rattle.connection.proofs.Laws.SlotsLaws.{Distinct, find_at, found_true, nowhere_find}
use Rattle.connection.proofs.Laws.ShapeLaws.{shaped}
use Rattle.connection.proofs.Laws.Progress.{Fits}
use Rattle.connection.proofs.Laws.RefusalRows.{finishes_number}
use Rattle.connection.proofs.Runs.CallShape.{free_holds}

-- ---- a finish that is not refused
-- A call that is lent the store and is not refused: store and state fit, and the id has a slot.
pub record Admitted (c : Conn) (store : List ℕ) (id : ℕ) : Type 0 where
  pub fits : Fits c store
  pub slot : ℕ
  pub found : find c.table id ≡ Some slot

-- Where no row holds, these hold.
pub lent_admitted : (c : Conn) (store : List ℕ) (id : ℕ) → C.lent_refusal c store id ≡ 0 → Admitted c store id
unfolding C.lent_refusal
lent_admitted c store id e =
    by_test (eqb (length store) STORE)
    (λ s.
    by_test (in_shape c)
    (λ i.
    by_test c.«open»
    (λ o.
    by_test (is_found (find c.table id))
    (λ f. let w = found_true (find c.table id) f in record { fits = record { size = eqb-true (length store) STORE s; shape = i; is_open = o }; slot = w.0; found = w.1 })
    (λ f. let z : ◌≡◌ {A = ℕ} 3 0 = simp (s, i, o, f) at e in absurd (omega arith)))
    (λ o. let z : ◌≡◌ {A = ℕ} 1 0 = simp (s, i, o) at e in absurd (omega arith)))
    (λ i. let z : ◌≡◌ {A = ℕ} 9 0 = simp (s, i) at e in absurd (omega arith)))
    (λ s. let z : ◌≡◌ {A = ℕ} 2 0 = simp s at e in absurd (omega arith))

-- It keeps the connection open: the slot and its area are given back.
pub record Kept (c : Conn) (store : List ℕ) (i : ℕ) (w : C.Finished) : Type 0 where
  pub open_still : w.closed ≡ false
  pub conn : w.conn ≡ C.released c i
  pub store_after_lem : w.store ≡ put_area store i (zeros (length (area_at store i)))

-- Or it closes it.
pub record Shut (store : List ℕ) (w : C.Finished) : Type 0 where
  pub closed_now : w.closed ≡ true
  pub conn : w.conn ≡ closed_conn
  pub store_after_lem : w.store ≡ zeros (length store)

-- What a finish that is not refused comes to.
pub record Done (c : Conn) (store : List ℕ) (id : ℕ) (w : C.Finished) : Type 0 where
  pub admitted : Admitted c store id
  pub way : Kept c store admitted.slot w ⊎ Shut store w

finishes_done : (c : Conn) (store : List ℕ) (i : ℕ) (keep : Bool) (w : Of.Writing) → w.refusal ≡ 0
    → Kept c store i (C.finishes c store i keep w) ⊎ Shut store (C.finishes c store i keep w)
unfolding C.finishes
finishes_done c store i true w e = rw (eq-eqb w.refusal 0 e) (inl (record { open_still = refl; conn = refl; store_after_lem = refl }))
finishes_done c store i false w e = rw (eq-eqb w.refusal 0 e) (inr (record { closed_now = refl; conn = refl; store_after_lem = refl }))

-- It comes to this.
pub finish_done : (c : Conn) (store : List ℕ) (id status : ℕ) (buffer : List ℕ) → (C.finish c store id status buffer).refusal ≡ 0
    → Done c store id (C.finish c store id status buffer)
unfolding C.finish
finish_done c store id status buffer e =
    by_test (eqb (C.lent_refusal c store id) 0)
    (λ t.
    let a = lent_admitted c store id (eqb-true (C.lent_refusal c store id) 0 t) in
    let i = a.slot in
    let r = request_at c.table i in
    let w = Of.finish_in r status buffer in
    let none-refused : (C.finishes c store i r.state.keep w).refusal ≡ 0 = rw (t, a.found) at e in
    record {
      admitted = a;
      way = rw (t, a.found) (finishes_done c store i r.state.keep w (sym (finishes_number c store i r.state.keep w) ∙ none-refused));
    })
    (λ t. absurd (eqb-false (C.lent_refusal c store id) 0 t (simp t at e)))

-- Where it says that it closed the connection, it did.
pub done_closed : (c : Conn) (store : List ℕ) (id : ℕ) (w : C.Finished) → Done c store id w → w.closed ≡ true → w.conn.«open» ≡ false
done_closed c store id w d t = go d.way
  where
    go : Kept c store d.admitted.slot w ⊎ Shut store w → w.conn.«open» ≡ false
    go (inl k) = let z : ◌≡◌ {A = ℕ} 0 1 = cc (k.open_still, t) in absurd (omega arith)
    go (inr k) = ap (λ (x : Conn). x.«open») k.conn

-- A finish that is refused leaves the connection as it is.
pub finish_refused : (c : Conn) (store : List ℕ) (id status : ℕ) (buffer : List ℕ) → ((C.finish c store id status buffer).refusal ≡ 0 → ⊥)
    → ((C.finish c store id status buffer).conn ≡ c) × ((C.finish c store id status buffer).store ≡ store)
unfolding C.finish C.finishes
finish_refused c store id status buffer e =
    by_test (eqb (C.lent_refusal c store id) 0)
    (λ t.
    let r = request_at c.table (C.slot_of c id) in
    let w = Of.finish_in r status buffer in
    by_test (eqb w.refusal 0)
    (λ n. absurd (e (simp t (finishes_number c store (C.slot_of c id) r.state.keep w ∙ eqb-true w.refusal 0 n))))
    (λ n. simp (t, n) (refl, refl)))
    (λ t. simp t (refl, refl))

-- ---- where its request is then
freed_nowhere : (t : Table) (i id : ℕ) → Distinct t → find t id ≡ Some i → find (free_slot t i) id ≡ None
freed_nowhere t i id distinct e =
    nowhere_find (free_slot t i) id (λ j h. let w = free_holds t i id j h in w.other (distinct id j i w.held (find_at t id i e)))

-- A table with no requests.
pub empty_nowhere : (id : ℕ) → find no_requests id ≡ None
unfolding find_from holds_id taken
empty_nowhere id = refl

finish_frees : (c : Conn) (store : List ℕ) (id : ℕ) (w : C.Finished) → Done c store id w → find w.conn.table id ≡ None
unfolding C.released
finish_frees c store id w d = go d.way
  where
    go : Kept c store d.admitted.slot w ⊎ Shut store w → find w.conn.table id ≡ None
    go (inl k) = rw k.conn (freed_nowhere c.table d.admitted.slot id (shaped c d.admitted.fits.shape).table.distinct d.admitted.found)
    go (inr k) = rw k.conn (empty_nowhere id)

-- A request that was finished, by a finish that is not refused, is active no more, whether the connection stays open
-- or closes: no slot has its id, and it is observed no more. No premise on the memory: a finish that is not refused
-- says enough of it.
pub finished_nowhere : (m : Memory) (R status : ℕ) (buffer : List ℕ) → (C.finish m.state.conn m.store R status buffer).refusal ≡ 0
    → (find (memory_after m (CallFor R (ForFinish status buffer))).state.conn.table R ≡ None)
    × (request_of R (memory_after m (CallFor R (ForFinish status buffer))) ≡ none)
unfolding memory_after called request_of
finished_nowhere m R status buffer e =
    let w = C.finish m.state.conn m.store R status buffer in
    let nowhere = finish_frees m.state.conn m.store R w (finish_done m.state.conn m.store R status buffer e) in
    (nowhere, by_test w.conn.«open» (λ o. rw (o, nowhere)) (λ o. rw o))
