-- What a state in shape is: the test of row 9 as a record of facts.
use Rattle.connection.specs.Slots.{Slot}
use Rattle.std.specs.Prelude.{◌≡◌, refl, ℕ, zero, suc, ◌+◌, ◌≤◌, ◌<◌, Bool, true, false, not, List, get_or, eqb, None}
use Rattle.std.proofs.Common.{sym, ◌∙◌, arith, leb-true, ltb-true, eqb-true, le-leb, lt-ltb, eq-eqb, ne_eqb}
use Rattle.std.proofs.lemmas.Bool.{eqb-false, not-true}
use Rattle.wire.specs.Test.{by_test, ◌≤?◌, ◌<?◌, ◌=?◌}
use Rattle.slot_word.specs.Word.{taken}
use Rattle.record_reader.specs.declared.Position.{Position}
use Rattle.connection.specs.declared.state.Table.{Table}
use Rattle.connection.specs.declared.state.Target.{Target}
use Rattle.connection.specs.declared.state.Conn.{Conn}
use Rattle.connection.specs.Fits.{InUse, Aimed}
use Rattle.connection.specs.Sizes.{SLOTS, AREA, QUERY}
use Rattle.connection.specs.Slots.{find_from, find, is_found, no_requests}
use Rattle.connection.proofs.Laws.SlotsLaws.{Holds, HoldsFrom, Distinct, all_slots, of_all_slots, none_from, nowhere_from, found_false}
use Rattle.connection.specs.Shape.{◌and◌, length_fits, id_fits, slots_fit, position_fits, due_fits, target_fits, in_shape}
use Rattle.connection.specs.Step.{open_with, closed_conn, no_frame}

-- ---- the facts
-- A table in shape: no length is over AREA, a slot taken has an id that is not 0, and no two have the same.
pub record Tidy (t : Table) : Type 0 where
  pub lengths : (i : ℕ) → i < SLOTS → get_or t.lengths i 0 ≤ AREA
  pub ids : (i : ℕ) → Holds t 0 i → ⊥
  pub distinct : Distinct t

-- Not over 7 header bytes held, content left not over 65,535, padding left not over 255.
pub record Placed (p : Position) : Type 0 where
  pub held : p.held ≤ 7
  pub content : p.content ≤ 65535
  pub padding : p.padding ≤ 255

-- A state in shape.
pub record Shaped (c : Conn) : Type 0 where
  pub table : Tidy c.table
  pub position : Placed c.frame.position
  pub target : Aimed c.frame.target c.table c.frame.gathered c.frame.position.content

-- ---- two tests in one
-- Both hold.
pub and_true : (a b : Bool) → a and b ≡ true → (a ≡ true) × (b ≡ true)
and_true true b e = (refl, e)
and_true false b e = let z : ◌≡◌ {A = ℕ} 0 1 = cc in absurd (omega arith)

-- Where both hold, so does the one.
pub true_and : (a b : Bool) → a ≡ true → b ≡ true → a and b ≡ true
true_and a b p q = rw (p, q)

-- ---- the slots
-- n slots from slot i on
record Fit (n : ℕ) (ids lengths : List ℕ) (occupied i : ℕ) : Type 0 where
  short : (k : ℕ) → i ≤ k → k < i + n → get_or lengths k 0 ≤ AREA
  some : (k : ℕ) → HoldsFrom n ids occupied 0 i k → ⊥
  distinct : (id k l : ℕ) → HoldsFrom n ids occupied id i k → HoldsFrom n ids occupied id i l → k ≡ l

-- one slot: what its test says
record IdFit (n : ℕ) (ids : List ℕ) (occupied i : ℕ) : Type 0 where
  some : taken i occupied ≡ true → get_or ids i 0 ≡ 0 → ⊥
  alone : taken i occupied ≡ true → find_from n ids occupied (get_or ids i 0) (i + 1) ≡ None

id_fit : (n : ℕ) (ids : List ℕ) (occupied i : ℕ) → id_fits ids occupied n i ≡ true → IdFit n ids occupied i
unfolding id_fits
id_fit n ids occupied i e =
    record { some = λ t. eqb-false (get_or ids i 0) 0 (not-true (eqb (get_or ids i 0) 0) (both t).0); alone = λ t. found_false there (not-true (is_found there) (both t).1) }
  where
    there : Slot
    there = find_from n ids occupied (get_or ids i 0) (i + 1)

    both : taken i occupied ≡ true → (not (get_or ids i 0 =? 0) ≡ true) × (not (is_found there) ≡ true)
    both t = and_true (not (get_or ids i 0 =? 0)) (not (is_found there)) (simp t at e)

fit_id : (n : ℕ) (ids : List ℕ) (occupied i : ℕ) → IdFit n ids occupied i → id_fits ids occupied n i ≡ true
unfolding id_fits
fit_id n ids occupied i f =
    by_test (taken i occupied) (λ t. simp (t, ne_eqb (get_or ids i 0) 0 (f.some t), f.alone t)) (λ t. simp t)

-- the first of n + 1 slots, and those after it
module _ (n : ℕ) (ids : List ℕ) (occupied i : ℕ) where
  -- a slot among them is the first, or after it
  first_or : (id k : ℕ) {P : Type 0} → HoldsFrom (suc n) ids occupied id i k → (i ≡ k → P) → (HoldsFrom n ids occupied id (i + 1) k → P) → P
  first_or id k h first behind =
      by_test (eqb i k)
      (λ t. first (eqb-true i k t))
      (λ t. let q = eqb-false i k t in behind (record { low = omega arith; high = omega arith; slot_taken = h.slot_taken; has_id = h.has_id }))

  -- a slot after it is among them
  wider : (id k : ℕ) → HoldsFrom n ids occupied id (i + 1) k → HoldsFrom (suc n) ids occupied id i k
  wider id k h = record { low = omega arith; high = omega arith; slot_taken = h.slot_taken; has_id = h.has_id }

  -- the first slot does not share its id with one after it
  alone : IdFit n ids occupied i → (id k l : ℕ) → i ≡ k → HoldsFrom (suc n) ids occupied id i k → HoldsFrom n ids occupied id (i + 1) l → ⊥
  alone f id k l e h g =
      let t : taken i occupied ≡ true = rw e h.slot_taken in
      let q : get_or ids i 0 ≡ id = rw e h.has_id in
      none_from n ids occupied (get_or ids i 0) (i + 1) l (f.alone t) (rw q g)

  fit_more : (lengths : List ℕ) → get_or lengths i 0 ≤ AREA → IdFit n ids occupied i → Fit n ids lengths occupied (i + 1) → Fit (suc n) ids lengths occupied i
  fit_more lengths h f r =
      record {
        short = λ k a b. by_test (eqb i k) (λ t. rw (← eqb-true i k t) h) (λ t. let q = eqb-false i k t in r.short k (omega arith) (omega arith));
        some = λ k g. first_or 0 k g (λ e. f.some (rw e g.slot_taken) (rw e g.has_id)) (r.some k);
        distinct = λ id k l g m.
            first_or id k g
            (λ e. first_or id l m (λ e'. sym e ∙ e') (λ m'. absurd (alone f id k l e g m')))
            (λ g'. first_or id l m (λ e'. absurd (alone f id l k e' m g')) (λ m'. r.distinct id k l g' m'));
      }

slots_fit_lem : (n : ℕ) (ids lengths : List ℕ) (occupied i : ℕ) → slots_fit n ids lengths occupied i ≡ true → Fit n ids lengths occupied i
unfolding slots_fit
slots_fit_lem zero ids lengths occupied i e =
    record { short = λ k a b. absurd (omega arith); some = λ k h. omega arith; distinct = λ id k l h g. absurd (omega arith) }
slots_fit_lem (suc n) ids lengths occupied i e =
    let a = and_true (length_fits lengths i) (id_fits ids occupied n i and slots_fit n ids lengths occupied (i + 1)) e in
    let b = and_true (id_fits ids occupied n i) (slots_fit n ids lengths occupied (i + 1)) a.1 in
    fit_more n ids occupied i lengths (leb-true (get_or lengths i 0) AREA a.0) (id_fit n ids occupied i b.0) (slots_fit_lem n ids lengths occupied (i + 1) b.1)

fit_slots : (n : ℕ) (ids lengths : List ℕ) (occupied i : ℕ) → Fit n ids lengths occupied i → slots_fit n ids lengths occupied i ≡ true
unfolding slots_fit
fit_slots zero ids lengths occupied i f = refl
fit_slots (suc n) ids lengths occupied i f =
    true_and (length_fits lengths i) (id_fits ids occupied n i and slots_fit n ids lengths occupied (i + 1))
    (le-leb (get_or lengths i 0) AREA (f.short i (omega arith) (omega arith)))
    (true_and (id_fits ids occupied n i) (slots_fit n ids lengths occupied (i + 1)) (fit_id n ids occupied i first) (fit_slots n ids lengths occupied (i + 1) rest))
  where
    here : taken i occupied ≡ true → HoldsFrom (suc n) ids occupied (get_or ids i 0) i i
    here t = record { low = omega arith; high = omega arith; slot_taken = t; has_id = refl }

    first : IdFit n ids occupied i
    first =
        record {
          some = λ t q. f.some i (rw q at (here t));
          alone = λ t. nowhere_from n ids occupied (get_or ids i 0) (i + 1) (λ k h. let e : i ≡ k = f.distinct (get_or ids i 0) i k (here t) (wider n ids occupied i (get_or ids i 0) k h) in omega arith);
        }

    rest : Fit n ids lengths occupied (i + 1)
    rest =
        record {
          short = λ k a b. f.short k (omega arith) (omega arith);
          some = λ k h. f.some k (wider n ids occupied i 0 k h);
          distinct = λ id k l h g. f.distinct id k l (wider n ids occupied i id k h) (wider n ids occupied i id l g);
        }

tidy : (t : Table) → slots_fit SLOTS t.ids t.lengths t.occupied 0 ≡ true → Tidy t
tidy t e =
    let f = slots_fit_lem SLOTS t.ids t.lengths t.occupied 0 e in
    record {
      lengths = λ i h. f.short i (omega arith) (omega arith);
      ids = λ i h. f.some i (all_slots t 0 i h);
      distinct = λ id i j h g. f.distinct id i j (all_slots t id i h) (all_slots t id j g);
    }

fit_tidy : (t : Table) → Tidy t → slots_fit SLOTS t.ids t.lengths t.occupied 0 ≡ true
fit_tidy t f =
    fit_slots SLOTS t.ids t.lengths t.occupied 0
    (record {
      short = λ i a b. f.lengths i (omega arith);
      some = λ i h. f.ids i (of_all_slots t 0 i h);
      distinct = λ id i j h g. f.distinct id i j (of_all_slots t id i h) (of_all_slots t id j g);
    })

-- ---- the position
placed : (p : Position) → position_fits p ≡ true → Placed p
unfolding position_fits
placed p e =
    let a = and_true (p.held ≤? 7) ((p.content ≤? 65535) and (p.padding ≤? 255)) e in
    let b = and_true (p.content ≤? 65535) (p.padding ≤? 255) a.1 in
    record { held = leb-true p.held 7 a.0; content = leb-true p.content 65535 b.0; padding = leb-true p.padding 255 b.1 }

fit_placed : (p : Position) → Placed p → position_fits p ≡ true
unfolding position_fits
fit_placed p f = simp (le-leb p.held 7 f.held, le-leb p.content 65535 f.content, le-leb p.padding 255 f.padding)

-- ---- the target
in_use : (t : Table) (i : ℕ) → due_fits t i ≡ true → InUse t i
in_use t i e = let a = and_true (i <? SLOTS) (taken i t.occupied) e in record { low = ltb-true i SLOTS a.0; slot_taken = a.1 }

fit_use : (t : Table) (i : ℕ) → InUse t i → due_fits t i ≡ true
fit_use t i f = simp (lt-ltb i SLOTS f.low, f.slot_taken)

aimed : (target : Target) (t : Table) (gathered left : ℕ) → target_fits target t gathered left ≡ true → Aimed target t gathered left
aimed Target.Skip t gathered left e = tt
aimed (Target.Begin id) t gathered left e =
    let a = and_true (gathered + left =? 8) (not (id =? 0) and not (is_found (find t id))) e in
    let b = and_true (not (id =? 0)) (not (is_found (find t id))) a.1 in
    record {
      eight = eqb-true (gathered + left) 8 a.0;
      some = eqb-false id 0 (not-true (id =? 0) b.0);
      inactive = found_false (find t id) (not-true (is_found (find t id)) b.1);
    }
aimed Target.Query t gathered left e = leb-true (gathered + left) QUERY e
aimed (Target.Params i) t gathered left e =
    let a = and_true (due_fits t i) (get_or t.lengths i 0 + left ≤? AREA) e in
    record { slot = in_use t i a.0; room = leb-true (get_or t.lengths i 0 + left) AREA a.1 }
aimed (Target.Stdin i) t gathered left e = in_use t i e
aimed (Target.Data i) t gathered left e = in_use t i e

fit_aimed : (target : Target) (t : Table) (gathered left : ℕ) → Aimed target t gathered left → target_fits target t gathered left ≡ true
fit_aimed Target.Skip t gathered left f = refl
fit_aimed (Target.Begin id) t gathered left f = simp (eq-eqb (gathered + left) 8 f.eight, ne_eqb id 0 f.some, f.inactive)
fit_aimed Target.Query t gathered left f = le-leb (gathered + left) QUERY f
fit_aimed (Target.Params i) t gathered left f = simp (fit_use t i f.slot, le-leb (get_or t.lengths i 0 + left) AREA f.room)
fit_aimed (Target.Stdin i) t gathered left f = fit_use t i f
fit_aimed (Target.Data i) t gathered left f = fit_use t i f

-- ---- the state
-- What the test says.
pub shaped : (c : Conn) → in_shape c ≡ true → Shaped c
unfolding in_shape
shaped c e =
    let f = c.frame in
    let a = and_true (slots_fit SLOTS c.table.ids c.table.lengths c.table.occupied 0) (position_fits f.position and target_fits f.target c.table f.gathered f.position.content) e in
    let b = and_true (position_fits f.position) (target_fits f.target c.table f.gathered f.position.content) a.1 in
    record { table = tidy c.table a.0; position = placed f.position b.0; target = aimed f.target c.table f.gathered f.position.content b.1 }

-- What makes the test hold.
pub in_shape_lem : (c : Conn) → Shaped c → in_shape c ≡ true
unfolding in_shape
in_shape_lem c s =
    let f = c.frame in
    simp (fit_tidy c.table s.table, fit_placed f.position s.position) (fit_aimed f.target c.table f.gathered f.position.content s.target)

-- A fresh connection is in shape.
pub fresh_in_shape : in_shape (open_with no_requests no_frame) ≡ true
unfolding in_shape slots_fit id_fits position_fits taken
fresh_in_shape = refl

-- So is the closed one.
pub closed_in_shape : in_shape closed_conn ≡ true
unfolding in_shape slots_fit id_fits position_fits taken
closed_in_shape = refl
