-- Clean areas, slot by slot: what a step and a finish do to a table and a store keeps them clean.
use Rattle.std.specs.Prelude.{◌≡◌, refl, List, ◌∷◌, ◌++◌, Bool, true, false, ℕ, zero, suc, ◌+◌, ◌-◌, ◌*◌, ◌≤◌, ◌<◌, length, take, drop, eqb, leb}
use Rattle.std.proofs.Common.{ap, ap₂, sym, ◌∙◌, subst, inl, inr, arith, length-append, length-take, drop_at, drop-drop, eqb-true, leb-true}
use Rattle.std.proofs.lemmas.List.{length-replicate}
use Rattle.std.proofs.lemmas.Bool.{eqb-false}
use Rattle.wire.specs.Test.{by_test}
use Rattle.wire.specs.Buffer.{zeros}
use Rattle.wire.proofs.BufferLaws.{copied_room}
use Rattle.slot_word.specs.Word.{taken}
use Rattle.slot_word.proofs.WordLaws.{least_free, taken_out}
use Rattle.connection.specs.declared.request.Due.{Due}
use Rattle.connection.specs.declared.request.Role.{Role}
use Rattle.connection.specs.declared.request.Request.{Request}
use Rattle.connection.specs.declared.state.Table.{Table}
use Rattle.connection.specs.Sizes.{SLOTS, AREA, STORE}
use Rattle.connection.specs.Request.{Held, on_header, grown, on_content, opened}
use Rattle.connection.specs.Slots.{request_at, area_at, held_at, put_request, put_area, take_slot, free_slot, free_slot_of, no_requests}
use Rattle.connection.specs.Step.{State, Left, due_to, closes, on_active, of_request, Stepped, stepped}
use Rattle.connection.proofs.Laws.SlotsLaws.{Sized, request_of_put, request_of_other, put_occupied, request_of_take, other_of_take, taken_of_take_other, other_of_free, taken_of_free, taken_of_free_other, area_length, area_of_put, area_of_other, find_at}
use Rattle.connection.specs.Fits.{Aimed}
use Rattle.connection.proofs.Laws.ShapeLaws.{shaped}
use Rattle.connection.proofs.Laws.CuttingContent.{grown_room}
use Rattle.connection.proofs.Laws.StepSizes.{content_area}
use Rattle.connection.proofs.Laws.Progress.{Fits}
use Rattle.connection.proofs.Laws.Ways.{Way, concerned, by_way}
use Rattle.connection.proofs.Runs.ReceiverLaws.{KeepsOrZeroes, area_header, same_length}

-- Every free area is zero, and every area of a slot that is taken is zero beyond its length.
pub record CleanSlots (t : Table) (store : List ℕ) : Type 0 where
  pub free : (i : ℕ) → i < SLOTS → taken i t.occupied ≡ false → area_at store i ≡ zeros AREA
  pub beyond : (i : ℕ) → i < SLOTS → taken i t.occupied ≡ true → drop (request_at t i).length (area_at store i) ≡ zeros (AREA - (request_at t i).length)

-- a request and its area, zero beyond the list
abbrev ZeroBeyond : Held → Type 0
ZeroBeyond h = drop h.request.length h.area ≡ zeros (AREA - h.request.length)

true_false : {A : Type 0} → true ≡ false → A
true_false e = let z : ◌≡◌ {A = ℕ} 0 1 = cc in absurd (omega arith)

-- ---- zeros
drop_zeros : (k n : ℕ) → drop k (zeros n) ≡ zeros (n - k)
drop_zeros zero n = let z : n - 0 ≡ n = omega arith in ap (λ j. zeros j) (sym z)
drop_zeros (suc k) zero = let z : 0 - suc k ≡ 0 = omega arith in ap (λ j. zeros j) (sym z)
drop_zeros (suc k) (suc n) = let z : suc n - suc k ≡ n - k = omega arith in drop_zeros k n ∙ ap (λ j. zeros j) (sym z)

take_zeros : (k n : ℕ) → k ≤ n → take k (zeros n) ≡ zeros k
take_zeros zero n l = refl
take_zeros (suc k) zero l = absurd (omega arith)
take_zeros (suc k) (suc n) l = ap (λ x. 0 ∷ x) (take_zeros k n (omega arith))

area_zeros : (n i : ℕ) → n ≡ STORE → i < SLOTS → area_at (zeros n) i ≡ zeros AREA
unfolding area_at
area_zeros n i e low = ap (take AREA) (drop_zeros (i * AREA) n) ∙ take_zeros AREA (n - i * AREA) (omega arith)

-- ---- a table without requests, and a store of zeros
pub clean_none : (n : ℕ) → n ≡ STORE → CleanSlots no_requests (zeros n)
clean_none n e =
    record {
      free = λ i low f. area_zeros n i e low;
      beyond = λ i low t. true_false (sym t ∙ taken_out 0 i 0 (omega arith) (omega arith));
    }

-- ---- a request put back
module _ (t : Table) (store : List ℕ) (i : ℕ) (sized : Sized t) (full : length store ≡ STORE) (low : i < SLOTS) (h : Held) (fits : length h.area ≡ AREA) where
  clean_put : CleanSlots t store → (taken i t.occupied ≡ false → h.area ≡ zeros AREA) → (taken i t.occupied ≡ true → ZeroBeyond h)
      → CleanSlots (put_request t i h.request) (put_area store i h.area)
  clean_put c free beyond =
      record {
        free = λ j l f.
            let f' : taken j t.occupied ≡ false = ap (taken j) (sym (put_occupied t i h.request)) ∙ f in
            by_test (eqb j i)
            (λ e. let q : j ≡ i = eqb-true j i e in rw q (area_of_put store i h.area full low fits ∙ free (rw q at f')))
            (λ e. area_of_other store i h.area full low fits j (eqb-false j i e) ∙ c.free j l f');
        beyond = λ j l f.
            let f' : taken j t.occupied ≡ true = ap (taken j) (sym (put_occupied t i h.request)) ∙ f in
            by_test (eqb j i)
            (λ e. let q : j ≡ i = eqb-true j i e in rw (q, request_of_put t i h.request sized low, area_of_put store i h.area full low fits) (beyond (rw q at f')))
            (λ e.
            let ne = eqb-false j i e in
            rw (request_of_other t i j h.request ne, area_of_other store i h.area full low fits j ne) (c.beyond j l f'));
      }

-- ---- what a header and content do to an area
header_zero : (h q : Held) → KeepsOrZeroes h q → length h.area ≡ AREA → ZeroBeyond h → ZeroBeyond q
header_zero h q (inl (n, a)) size z = ap₂ (λ (k : ℕ) (l : List ℕ). drop k l) n a ∙ z ∙ ap (λ k. zeros (AREA - k)) (sym n)
header_zero h q (inr (n, a)) size z = ap₂ (λ (k : ℕ) (l : List ℕ). drop k l) n (a ∙ ap zeros size) ∙ ap (λ k. zeros (AREA - k)) (sym n)

grown_none : (h : Held) (x : List ℕ) → leb (h.request.length + length x) AREA ≡ false → grown h x ≡ h
unfolding grown
grown_none h x t = simp t

grown_zero : (h : Held) (x : List ℕ) → length h.area ≡ AREA → ZeroBeyond h → ZeroBeyond (grown h x)
grown_zero h x size z = by_test (leb (h.request.length + length x) AREA) room none
  where
    room : leb (h.request.length + length x) AREA ≡ true → ZeroBeyond (grown h x)
    room t =
        let n = h.request.length in
        let l : n + length x ≤ AREA = leb-true (n + length x) AREA t in
        let a : length (take n h.area ++ x) ≡ n + length x = simp (length-append, length-take) (omega arith) in
        let e : AREA - n - length x ≡ AREA - (n + length x) = omega arith in
        rw (grown_room h x l, copied_room h.area n x (omega arith))
        (drop_at (take n h.area ++ x) (drop (n + length x) h.area) (n + length x) a
        ∙ sym (drop-drop (length x) n h.area)
        ∙ ap (drop (length x)) z
        ∙ drop_zeros (length x) (AREA - n)
        ∙ ap (λ k. zeros k) e)

    none : leb (h.request.length + length x) AREA ≡ false → ZeroBeyond (grown h x)
    none t = subst ZeroBeyond (sym (grown_none h x t)) z

-- ---- a slot taken and a slot freed
-- a request opens with no bytes
opened_short : (id : ℕ) (role : Role) (keep : Bool) → (opened id role keep).length ≡ 0
unfolding opened
opened_short id role keep = refl

clean_take : (t : Table) (store : List ℕ) → Sized t → CleanSlots t store → free_slot_of t < SLOTS → (r : Request) → r.length ≡ 0 → CleanSlots (take_slot t (free_slot_of t) r) store
clean_take t store sized c low r empty =
    record {
      free = λ j l f.
          by_test (eqb j k)
          (λ e. let q : j ≡ k = eqb-true j k e in rw q (c.free k low (least_free SLOTS t.occupied low)))
          (λ e. c.free j l (sym (taken_of_take_other t k j r (eqb-false j k e)) ∙ f));
      beyond = λ j l f.
          by_test (eqb j k)
          (λ e. let q : j ≡ k = eqb-true j k e in rw (q, request_of_take t k r sized low, empty) (c.free k low (least_free SLOTS t.occupied low)))
          (λ e.
          let ne = eqb-false j k e in
          rw (other_of_take t k j r ne) (c.beyond j l (sym (taken_of_take_other t k j r ne) ∙ f)));
    }
  where
    k : ℕ
    k = free_slot_of t

-- A slot given back, and its area zeroed.
pub clean_free : (t : Table) (store : List ℕ) (i : ℕ) → length store ≡ STORE → i < SLOTS → CleanSlots t store → CleanSlots (free_slot t i) (put_area store i (zeros (length (area_at store i))))
clean_free t store i full low c =
    record {
      free = λ j l f.
          by_test (eqb j i)
          (λ e. let q : j ≡ i = eqb-true j i e in rw q (area_of_put store i area full low size ∙ ap (λ k. zeros k) (area_length store i full low)))
          (λ e. let ne = eqb-false j i e in area_of_other store i area full low size j ne ∙ c.free j l (sym (taken_of_free_other t i j ne) ∙ f));
      beyond = λ j l f.
          by_test (eqb j i)
          (λ e. let q : j ≡ i = eqb-true j i e in true_false (sym (rw q at f) ∙ taken_of_free t i low))
          (λ e.
          let ne = eqb-false j i e in
          rw (other_of_free t i j ne, area_of_other store i area full low size j ne) (c.beyond j l (sym (taken_of_free_other t i j ne) ∙ f)));
    }
  where
    area : List ℕ
    area = zeros (length (area_at store i))

    size : length area ≡ AREA
    size = length-replicate (length (area_at store i)) 0 ∙ area_length store i full low

-- ---- a step
-- A step keeps the areas clean, whatever the state and the piece.
pub clean_step : (st : State) (store piece : List ℕ) → Sized st.conn.table → CleanSlots st.conn.table store
    → CleanSlots (stepped st store piece).state.conn.table (stepped st store piece).store
unfolding closes on_active of_request
clean_step st store piece sized c =
    by_way (λ (s : Stepped). CleanSlots s.state.conn.table s.store) st store piece (λ n. c) go
  where
    t : Table
    t = st.conn.table

    fed : Fits st.conn store → (due : Due) (i : ℕ) (x : List ℕ) → i < SLOTS → st.conn.frame.target ≡ due_to due i
        → (taken i t.occupied ≡ false → (on_content due x (held_at t store i)).held.area ≡ zeros AREA) × (taken i t.occupied ≡ true → ZeroBeyond (on_content due x (held_at t store i)).held)
    fed fits Due.Skip i x low aim = (c.free i low, c.beyond i low)
    fed fits Due.Params i x low aim = (
      λ f. let a = subst (λ w. Aimed w t st.conn.frame.gathered st.conn.frame.position.content) aim (shaped st.conn fits.shape).target in true_false (sym a.slot.slot_taken ∙ f),
      λ f. grown_zero (held_at t store i) x (area_length store i fits.size low) (c.beyond i low f),
    )
    fed fits Due.Stdin i x low aim = (c.free i low, c.beyond i low)
    fed fits Due.Data i x low aim = (c.free i low, c.beyond i low)

    go : Fits st.conn store → (used : ℕ) (l : Left) → Way st store (concerned st piece) l → CleanSlots l.conn.table l.store
    go fits used _ (Way.Reads g f e q) = c
    go fits used _ (Way.Closes g n k) = clean_none (length store) fits.size
    go fits used _ (Way.Rules h i k e) =
        let own = find_at t h.id i e in
        let held = held_at t store i in
        let size = area_length store i fits.size own.low in
        let kept = area_header h.content held h.kind in
        let after = (on_header h.kind h.content held).held in
        clean_put t store i sized fits.size own.low after (same_length held after kept ∙ size) c (λ f. true_false (sym own.slot_taken ∙ f))
        (λ f. header_zero held after kept size (c.beyond i own.low f))
    go fits used _ (Way.Feeds due i bytes p k low aim some) =
        let held = held_at t store i in
        let w = fed fits due i bytes low aim in
        clean_put t store i sized fits.size low (on_content due bytes held).held (content_area due bytes held ∙ area_length store i fits.size low) c w.0 w.1
    go fits used _ (Way.Takes id role keep f k low idle) = clean_take t store sized c low (opened id role keep) (opened_short id role keep)
