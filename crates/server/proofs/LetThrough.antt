-- What the refusal of a call of the server's end says: of one that is let through no row holds, and one that is refused
-- has changed nothing.
use Rattle.connection.specs.Slots.{Slot}
use Rattle.std.specs.Prelude.{ℕ, ◌≤◌, ◌<◌, ◌≡◌, refl, Bool, true, false, not, List, [], ◌∷◌, length, ltb, if◌then◌else◌, Some, None}
use Rattle.std.proofs.Common.{sym, ap, ◌∙◌, arith, eqb-true, ltb-true, ltb-false}
use Rattle.std.proofs.lemmas.Bool.{eqb-false, not-false}
use Rattle.wire.specs.Test.{◌<?◌, ◌=?◌, by_test}
use Rattle.record.specs.Names.{GET_VALUES}
use Rattle.record_writer.specs.Written.{record_bytes}
use Rattle.pair_list.specs.List.{well_formed}
use Rattle.connection.specs.Sizes.{SLOTS, QUERY}
use Rattle.connection.specs.Request.{is_spent}
use Rattle.connection.specs.Slots.{request_at, free_slot_of, find, on_slot, is_found}
use Rattle.connection.specs.Refusal.{Row, ◌when◌, holds_in, first_in}
use Rattle.connection.proofs.Laws.SlotsLaws.{found_true, found_false}
use Rattle.server.specs.declared.state.Server.{Server}
use Rattle.server.specs.Refusal.{refusal_order, refusal}
use Rattle.server.specs.Shape.{in_shape}
use Rattle.server.specs.Calls.{Written, unwritten, writes, begin_bytes, is_role, open_refusal, open_request, Part, in_turn, part_bytes, too_long, own_refusal, call_refusal, slot_of, writes_part, write_part, ask_refusal}

-- ---- the rows
-- a number that is not 0, among these
abbrev is_number : List ℕ → ℕ → Bool
is_number [] n = false
is_number (m ∷ ms) n = if m =? 0 then false else if m =? n then true else is_number ms n

none_holds : (ns : List ℕ) (rows : List Row) (n : ℕ) → first_in ns rows ≡ 0 → is_number ns n ≡ true → holds_in n rows ≡ false
none_holds [] rows n e i = let z : ◌≡◌ {A = ℕ} 0 1 = cc in absurd (omega arith)
none_holds (m ∷ ms) rows n e i =
    by_test (m =? 0)
    (λ a. let z : ◌≡◌ {A = ℕ} 0 1 = cc (simp a at i) in absurd (omega arith))
    (λ a. by_test (holds_in m rows)
    (λ h. absurd (eqb-false m 0 a (simp h at e)))
    (λ h. by_test (m =? n) (λ b. ap (λ (k : ℕ). holds_in k rows) (sym (eqb-true m n b)) ∙ h) (λ b. none_holds ms rows n (simp h at e) (simp (a, b) at i))))

-- Where nothing is refused, the row of a number does not hold.
pub row_not : (rows : List Row) (n : ℕ) → refusal rows ≡ 0 → is_number refusal_order n ≡ true → holds_in n rows ≡ false
row_not rows n e i = none_holds refusal_order rows n e i

-- ---- what a call writes
-- let through
pub let_write : (n : ℕ) (c after : Server) (bytes buffer : List ℕ) → (writes n c after bytes buffer).refusal ≡ 0 → n ≡ 0
let_write n c after bytes buffer e = by_test (n =? 0) (λ t. eqb-true n 0 t) (λ t. absurd (eqb-false n 0 t (simp t at e)))

-- refused, by some number
abbrev pub Unwritten : Server → List ℕ → Written → Type 0
Unwritten c buffer w = (n : ℕ) × (w ≡ unwritten n c buffer)

pub not_written : (n : ℕ) (c after : Server) (bytes buffer : List ℕ) → ((writes n c after bytes buffer).refusal ≡ 0 → ⊥) → Unwritten c buffer (writes n c after bytes buffer)
not_written n c after bytes buffer e = by_test (n =? 0) (λ t. absurd (e (simp t))) (λ t. (n, simp t))

-- ---- an opening
pub record LetOpen (c : Server) (id role room long : ℕ) : Type 0 where
  pub some_id : id ≡ 0 → ⊥
  pub none : find c.table id ≡ None
  pub slot : free_slot_of c.table < SLOTS
  pub known_role : is_role role ≡ true
  pub fits : long ≤ room

pub let_open : (c : Server) (id role room long : ℕ) → open_refusal c id role room long ≡ 0 → LetOpen c id role room long
unfolding open_refusal
let_open c id role room long e =
    let rows =
    (9 when not (in_shape c)) ∷ (1 when not c.«open») ∷ (57 when (id =? 0)) ∷ (58 when is_found (find c.table id)) ∷ (59 when not (free_slot_of c.table <? SLOTS))
    ∷ (60 when not (is_role role)) ∷ (6 when (room <? long)) ∷ [] in
    record {
      some_id = eqb-false id 0 (row_not rows 57 e refl);
      none = found_false (find c.table id) (row_not rows 58 e refl);
      slot = ltb-true (free_slot_of c.table) SLOTS (not-false (ltb (free_slot_of c.table) SLOTS) (row_not rows 59 e refl));
      known_role = not-false (is_role role) (row_not rows 60 e refl);
      fits = ltb-false room long (row_not rows 6 e refl);
    }

-- ---- a part
pub record LetGive (c : Server) (id : ℕ) (part : Part) (buffer : List ℕ) : Type 0 where
  pub found : find c.table id ≡ Some (slot_of c id)
  pub live : is_spent (request_at c.table (slot_of c id)).state.life ≡ false
  pub in_its_turn : in_turn (request_at c.table (slot_of c id)).state.turn part ≡ true
  pub fits : length (part_bytes (request_at c.table (slot_of c id)).id part) ≤ length buffer

call_found : (c : Server) (id : ℕ) → call_refusal c id ≡ 0 → find c.table id ≡ Some (slot_of c id)
unfolding call_refusal
call_found c id e =
    let s = find c.table id in
    let rows = (9 when not (in_shape c)) ∷ (1 when not c.«open») ∷ (3 when not (is_found s)) ∷ [] in
    let k = found_true s (not-false (is_found s) (row_not rows 3 e refl)) in
    k.1 ∙ ap Some (sym (ap (λ (x : Slot). on_slot x (λ i. i) SLOTS) k.1))

pub let_give : (c : Server) (id : ℕ) (part : Part) (buffer : List ℕ) → (write_part c id part buffer).refusal ≡ 0 → LetGive c id part buffer
unfolding write_part writes_part
let_give c id part buffer e =
    by_test (call_refusal c id =? 0)
    (λ t.
    let r = request_at c.table (slot_of c id) in
    let z = let_write (own_refusal r part (length buffer)) c _ (part_bytes r.id part) buffer (simp t at e) in
    let spent = is_spent r.state.life in
    let out = if spent then true else not (in_turn r.state.turn part) in
    let rows = (61 when out) ∷ (8 when too_long part) ∷ (6 when (length buffer <? length (part_bytes r.id part))) ∷ [] in
    let turn : out ≡ false = row_not rows 61 z refl in
    by_test spent
    (λ s. let y : ◌≡◌ {A = ℕ} 0 1 = cc (simp s at turn) in absurd (omega arith))
    (λ s.
    record {
      found = call_found c id (eqb-true (call_refusal c id) 0 t);
      live = s;
      in_its_turn = not-false (in_turn r.state.turn part) (simp s at turn);
      fits = ltb-false (length buffer) (length (part_bytes r.id part)) (row_not rows 6 z refl);
    }))
    (λ t. absurd (eqb-false (call_refusal c id) 0 t (simp t at e)))

-- ---- a question
pub record LetAsk (list buffer : List ℕ) : Type 0 where
  pub short : length list ≤ QUERY
  pub well : well_formed list ≡ true
  pub fits : length (record_bytes GET_VALUES 0 list) ≤ length buffer

pub let_ask : (c : Server) (list buffer : List ℕ) → ask_refusal c list (length buffer) ≡ 0 → LetAsk list buffer
unfolding ask_refusal
let_ask c list buffer e =
    let bad = if QUERY <? length list then true else not (well_formed list) in
    let x = record_bytes GET_VALUES 0 list in
    let rows = (9 when not (in_shape c)) ∷ (1 when not c.«open») ∷ (62 when bad) ∷ (6 when (length buffer <? length x)) ∷ [] in
    let good : bad ≡ false = row_not rows 62 e refl in
    by_test (ltb QUERY (length list))
    (λ s. let y : ◌≡◌ {A = ℕ} 0 1 = cc (simp s at good) in absurd (omega arith))
    (λ s.
    record {
      short = ltb-false QUERY (length list) s;
      well = not-false (well_formed list) (simp s at good);
      fits = ltb-false (length buffer) (length x) (row_not rows 6 e refl);
    })

-- ---- refused, each leaves all as it was
pub open_refused_stays : (c : Server) (id role : ℕ) (keep : Bool) (buffer : List ℕ) → ((open_request c id role keep buffer).refusal ≡ 0 → ⊥) → Unwritten c buffer (open_request c id role keep buffer)
unfolding open_request
open_refused_stays c id role keep buffer e = not_written (open_refusal c id role (length buffer) (length (begin_bytes id role keep))) c _ (begin_bytes id role keep) buffer e

pub part_refused_stays : (c : Server) (id : ℕ) (part : Part) (buffer : List ℕ) → ((write_part c id part buffer).refusal ≡ 0 → ⊥) → Unwritten c buffer (write_part c id part buffer)
unfolding write_part writes_part
part_refused_stays c id part buffer e =
    let r = request_at c.table (slot_of c id) in
    by_test (call_refusal c id =? 0)
    (λ t. rw t (not_written (own_refusal r part (length buffer)) c _ (part_bytes r.id part) buffer (rw t at e)))
    (λ t. (call_refusal c id, simp t))
