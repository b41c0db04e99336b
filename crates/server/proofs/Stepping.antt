-- The public step of the server's end is a step of the reader of records: from a good state it is never refused while it is open, and leaves a good state.
use Rattle.connection.specs.Slots.{Slot}
use Rattle.std.specs.Prelude.{ℕ, ◌+◌, ◌≤◌, ◌<◌, ◌≡◌, Bool, true, false, List, [], ◌∷◌, length, take, ltb, leb, eqb, if◌then◌else◌, Some, None}
use Rattle.std.proofs.Math.Path.{refl}
use Rattle.std.proofs.Common.{sym, ap, ◌∙◌, arith, lt-ltb, le-leb, eq-eqb, ne_eqb, ltb-true, leb-true, eqb-true}
use Rattle.std.proofs.lemmas.List.{length-replicate}
use Rattle.wire.specs.Test.{by_test}
use Rattle.record.specs.declared.header.Header.{Header}
use Rattle.record_reader.specs.Position.{between_records, held_and, advanced, Proper}
use Rattle.record_reader.specs.declared.Position.{Position}
use Rattle.record_reader.specs.declared.Phase.{Phase}
use Rattle.pair_list.specs.List.{well_formed}
use Rattle.connection.specs.declared.state.Table.{Table}
use Rattle.connection.specs.Sizes.{SLOTS, QUERY}
use Rattle.slot_word.specs.Word.{taken as is_taken}
use Rattle.connection.specs.Shape.{◌and◌, slots_fit, position_fits, due_fits}
use Rattle.connection.specs.Shape as Station
use Rattle.connection.specs.Slots.{request_at, find, on_slot}
use Rattle.connection.specs.RequestCalls.{is_ended}
use Rattle.connection.specs.Step.{no_frame, open_with}
use Rattle.connection.proofs.Laws.SlotsLaws.{Sized}
use Rattle.connection.proofs.Laws.ShapeLaws.{Tidy, shaped, in_shape_lem, and_true}
use Rattle.connection.specs.Fits.{InUse}
use Rattle.connection.proofs.Laws.StateShape.{good_closed}
use Rattle.wire.proofs.Bytes.{AllBytes, zeros_bytes, take_bytes, put_bytes}
use Rattle.connection.proofs.Laws.PieceLaws.{header_fits, by_step}
use Rattle.record_rules.specs.Rules.{Reader, reader_at, Run, step, used, on_phase as onPhaseOf}
use Rattle.record_rules.proofs.Laws.{Fit, step_none, step_by_byte, fit_bytes, step_advanced, used_advanced}
use Rattle.server.specs.declared.state.Target.{Target}
use Rattle.server.specs.Event.{Note, notes}
use Rattle.server.specs.Shape.{target_fits, in_shape}
use Rattle.server.specs.Step.{State, Inner, inner_of, state_at, Left, closes, valued, on_management, on_output, output_of, on_request, is_management, is_reply, judged, taken, rules, Stepped, stays, on_phase, step_refusal, stepped, started}
use Rattle.server.proofs.Laws.{Waits, lawful}

-- ---- a good state
-- the position's own bounds, and its header bytes are bytes
pub record Bounded (p : Position) : Type 0 where
  pub content : p.content ≤ 65535
  pub padding : p.padding ≤ 255
  pub bytes : AllBytes p.header

-- the state as a reader of records
abbrev pub reader_of : State → Reader rules
reader_of st = reader_at rules st.server.frame.position (inner_of st)

pub record Good (st : State) : Type 0 where
  pub fit : Fit rules lawful (reader_of st)
  pub bounded : Bounded st.server.frame.position

-- ---- it is in shape
table_fits : (t : Table) → Tidy t → slots_fit SLOTS t.ids t.lengths t.occupied 0 ≡ true
unfolding Station.in_shape
table_fits t tidy =
    let e = in_shape_lem (open_with t no_frame) (record { table = tidy; position = record { held = omega arith; content = omega arith; padding = omega arith }; target = tt }) in
    (and_true (slots_fit SLOTS t.ids t.lengths t.occupied 0) _ e).0

position_fits_lem : (p : Position) → Proper p → Bounded p → position_fits p ≡ true
unfolding position_fits
position_fits_lem p proper b =
    simp (le-leb p.held 7 (omega (arith, proper.held)), le-leb p.content 65535 b.content) (le-leb p.padding 255 b.padding)

due_fits_lem : (t : Table) (i : ℕ) → InUse t i → due_fits t i ≡ true
due_fits_lem t i u = simp (lt-ltb i SLOTS u.low) u.slot_taken

target_fits_lem : (k : Target) (t : Table) (g n : ℕ) → Waits k t g n → target_fits k t g n ≡ true
target_fits_lem Target.Skip t g n w = refl
target_fits_lem (Target.Stdout i) t g n w = due_fits_lem t i w
target_fits_lem (Target.Stderr i) t g n w = due_fits_lem t i w
target_fits_lem (Target.End i) t g n w = simp (due_fits_lem t i w.0) (eq-eqb (g + n) 8 w.1)
target_fits_lem Target.Values t g n w = le-leb (g + n) QUERY w
target_fits_lem Target.Unknown t g n w = eq-eqb (g + n) 8 w

pub good_in_shape : (st : State) → Good st → in_shape st.server ≡ true
unfolding in_shape
good_in_shape st good =
    let c = st.server in
    simp (table_fits c.table good.fit.ready.tidy, position_fits_lem c.frame.position good.fit.proper good.bounded)
    (target_fits_lem c.frame.target c.table c.frame.gathered c.frame.position.content good.fit.ready.target)

pub good_admitted : (st : State) → Good st → st.server.«open» ≡ true → step_refusal st.server ≡ 0
unfolding step_refusal
good_admitted st good o = simp (good_in_shape st good, o)

-- A start is good.
pub start_good : (values : List ℕ) → length values ≡ QUERY → Good (started values)
unfolding started
start_good values v =
    record {
      fit = record {
        proper = record { held = omega arith; eight = refl };
        ready = record { sized = good_closed.sized; tidy = good_closed.tidy; body = refl; values = length-replicate (length values) 0 ∙ v; target = tt; shut = λ e. refl };
      };
      bounded = record { content = omega arith; padding = omega arith; bytes = zeros_bytes 8 };
    }

-- ---- a header that is judged shows no bytes
either : (P : Left → Type 0) (b : Bool) (x y : Left) → P x → P y → P (if b then x else y)
either P true x y f g = f
either P false x y f g = g

module _ (s : Inner) (y v : List ℕ) where
  abbrev Plain : Left → Type 0
  Plain l = notes l.event y v ≡ notes l.event [] v

  plain_closes : (k : ℕ) → Plain (closes s k)
  unfolding closes
  plain_closes k = refl

  plain_valued : (list : List ℕ) → Plain (valued s list)
  unfolding valued
  plain_valued list = either Plain (well_formed list) _ _ refl (plain_closes 55)

  plain_management : (kind n : ℕ) → Plain (on_management s kind n)
  unfolding on_management
  plain_management kind n =
      either Plain (eqb kind 11) _ _ (either Plain (eqb n 8) _ _ refl (plain_closes 54))
      (either Plain (ltb QUERY n) _ _ (plain_closes 55) (either Plain (eqb n 0) _ _ (plain_valued []) refl))

  plain_request : (kind n i : ℕ) → Plain (on_request s kind n i)
  unfolding on_request on_output
  plain_request kind n i =
      either Plain (eqb kind 3) _ _ (either Plain (eqb n 8) _ _ refl (plain_closes 54))
      (either Plain (is_ended (output_of kind) (request_at s.table i).state) _ _ (plain_closes 56) (either Plain (eqb n 0) _ _ refl refl))

  plain_slot : (kind n : ℕ) (k : Slot) → Plain (on_slot k (on_request s kind n) (closes s 53))
  plain_slot kind n (Some i) = plain_request kind n i
  plain_slot kind n None = plain_closes 53

  plain_judged : (h : Header) → Plain (judged s h)
  unfolding judged
  plain_judged h =
      either Plain (eqb h.version 1) _ _
      (either Plain (is_reply h.kind) _ _
      (either Plain (is_management h.kind) _ _ (either Plain (eqb h.id 0) _ _ (plain_management h.kind h.content) (plain_closes 53)) (plain_slot h.kind h.content (find s.table h.id)))
      (plain_closes 52))
      (plain_closes 51)

-- ---- the public step is a step of the reader
-- what a public step comes to: the state, and what it tells of the bytes that it used
pub record Came : Type 0 where
  pub state : State
  pub notes : List Note

abbrev pub came : Stepped → List ℕ → Came
came s x = record { state = s.state; notes = notes s.event (take s.used x) s.state.values }

abbrev pub came_by : Run rules → Came
came_by r = record { state = state_at r.reader.position r.reader.inner; notes = r.notes }

phase_is : (f : Phase) (s : Inner) (x : List ℕ) (n : ℕ) (p : Position)
    → ◌≡◌ {A = Came} (record { state = (on_phase f s x n p).state; notes = notes (on_phase f s x n p).event x (on_phase f s x n p).state.values }) (came_by (onPhaseOf rules f s x p))
phase_is Phase.Content s x n p = refl
phase_is Phase.Padding s x n p = refl
phase_is Phase.Part s x n p = refl
phase_is (Phase.Whole h) s x n p =
    let l = judged s h in
    ap (λ (u : List Note). record { state = state_at (if l.inner.«open» then p else between_records) l.inner; notes = u }) (plain_judged s x l.inner.values h)

-- each phase uses what the position used, and is not refused
phase_used : (f : Phase) (s : Inner) (x : List ℕ) (n : ℕ) (p : Position) → ((on_phase f s x n p).used ≡ n) × ((on_phase f s x n p).refusal ≡ 0)
phase_used Phase.Content s x n p = (refl, refl)
phase_used Phase.Padding s x n p = (refl, refl)
phase_used Phase.Part s x n p = (refl, refl)
phase_used (Phase.Whole h) s x n p = (refl, refl)

-- A good state that is open: the public step is not refused, uses what the reader uses, and comes to what the reader comes to.
pub record Reads (st : State) (x : List ℕ) : Type 0 where
  pub admitted : (stepped st x).refusal ≡ 0
  pub used_same : (stepped st x).used ≡ used rules (reader_of st) x
  pub same : came (stepped st x) x ≡ came_by (step rules (reader_of st) x)

stepped_none : (st : State) → step_refusal st.server ≡ 0 → stepped st [] ≡ stays 0 st
unfolding stepped
stepped_none st a = simp (eq-eqb (step_refusal st.server) 0 a)

stepped_some : (st : State) (x : List ℕ) → step_refusal st.server ≡ 0 → 0 < length x
    → stepped st x
    ≡ on_phase (advanced st.server.frame.position x).phase (inner_of st) (take (advanced st.server.frame.position x).used x)
    (advanced st.server.frame.position x).used (advanced st.server.frame.position x).position
unfolding stepped
stepped_some st x a some = simp (eq-eqb (step_refusal st.server) 0 a, ne_eqb (length x) 0 (λ z. omega arith))

pub reads : (st : State) (x : List ℕ) → Good st → st.server.«open» ≡ true → Reads st x
reads st [] good o =
    let e = stepped_none st (good_admitted st good o) in
    let k = step_none rules lawful (reader_of st) in
    record {
      admitted = ap (λ (s : Stepped). s.refusal) e;
      used_same = ap (λ (s : Stepped). s.used) e ∙ sym k.1;
      same = ap (λ (s : Stepped). came s []) e ∙ sym (ap came_by k.0);
    }
reads st (b ∷ x) good o =
    let y = b ∷ x in
    let p = st.server.frame.position in
    let w = advanced p y in
    let e = stepped_some st y (good_admitted st good o) (omega arith) in
    let k = phase_used w.phase (inner_of st) (take w.used y) w.used w.position in
    let r = on_phase w.phase (inner_of st) (take w.used y) w.used w.position in
    record {
      admitted = ap (λ (s : Stepped). s.refusal) e ∙ k.1;
      used_same = ap (λ (s : Stepped). s.used) e ∙ k.0 ∙ sym (used_advanced rules lawful p (inner_of st) y o (omega arith));
      same =
          ap (λ (s : Stepped). came s y) e
          ∙ ap (λ (n : ℕ). record { state = r.state; notes = notes r.event (take n y) r.state.values }) k.0
          ∙ phase_is w.phase (inner_of st) (take w.used y) w.used w.position
          ∙ sym (ap came_by (step_advanced rules lawful p (inner_of st) y o (omega arith)));
    }

-- a closed one stays where it is
pub closed_stays : (st : State) (x : List ℕ) → Good st → st.server.«open» ≡ false → stepped st x ≡ stays 1 st
unfolding stepped step_refusal
closed_stays st x good o = simp (good_in_shape st good, o)

-- ---- a step leaves a good state
bounded_step : (p : Position) (x : List ℕ) → Proper p → Bounded p → AllBytes x → Bounded (advanced p x).position
bounded_step p x proper b all =
    by_step (λ a. Bounded a.position) p x (omega (arith, proper.held))
    (λ l. record { content = omega (arith, b.content); padding = b.padding; bytes = b.bytes })
    (λ z l. record { content = omega arith; padding = omega (arith, b.padding); bytes = b.bytes })
    (λ z n l h. record { content = omega arith; padding = omega arith; bytes = put_bytes p.header p.held (take n x) b.bytes (take_bytes n x all) })
    (λ z n l h.
    let f = header_fits (held_and p.held p.header n x) (put_bytes p.header p.held (take n x) b.bytes (take_bytes n x all)) in
    record { content = f.content; padding = f.padding; bytes = zeros_bytes 8 })

bounded_between : Bounded between_records
bounded_between = record { content = omega arith; padding = omega arith; bytes = zeros_bytes 8 }

bounded_standing : (o : Bool) (p : Position) → Bounded p → Bounded (if o then p else between_records)
bounded_standing true p b = b
bounded_standing false p b = bounded_between

bounded_phase : (f : Phase) (s : Inner) (x : List ℕ) (p : Position) → Bounded p → Bounded (onPhaseOf rules f s x p).reader.position
bounded_phase Phase.Content s x p b = bounded_standing (taken s x p.content).inner.«open» p b
bounded_phase Phase.Padding s x p b = b
bounded_phase Phase.Part s x p b = b
bounded_phase (Phase.Whole h) s x p b = bounded_standing (judged s h).inner.«open» p b

bounded_reader : (a : Reader rules) (x : List ℕ) → Proper a.position → Bounded a.position → AllBytes x → Bounded (step rules a x).reader.position
unfolding step
bounded_reader a x proper b all =
    let w = advanced a.position x in
    by_test a.inner.«open»
    (λ o. by_test (eqb (length x) 0)
    (λ e. simp (o, e) (record { content = b.content; padding = b.padding; bytes = b.bytes }))
    (λ e. simp (o, e) (bounded_phase w.phase a.inner (take w.used x) w.position (bounded_step a.position x proper b all))))
    (λ o. simp o (record { content = b.content; padding = b.padding; bytes = b.bytes }))

-- Whatever the piece, of bytes.
pub step_good : (st : State) (x : List ℕ) → Good st → AllBytes x → Good (stepped st x).state
step_good st x good all =
    by_test st.server.«open»
    (λ o.
    let k = reads st x good o in
    let e : (stepped st x).state ≡ state_at (step rules (reader_of st) x).reader.position (step rules (reader_of st) x).reader.inner = ap (λ (c : Came). c.state) k.same in
    let fit2 : Fit rules lawful (step rules (reader_of st) x).reader = rw (step_by_byte rules lawful (reader_of st) x good.fit) (fit_bytes rules lawful (take (used rules (reader_of st) x) x) (reader_of st) good.fit) in
    rw e (record { fit = fit2; bounded = bounded_reader (reader_of st) x good.fit.proper good.bounded all }))
    (λ o. rw (closed_stays st x good o) good)

-- ---- every state in shape, reachable or not
-- The lengths that the code's types give, and header bytes that are bytes.
pub record Arrays (st : State) : Type 0 where
  pub sized : Sized st.server.table
  pub header : length st.server.frame.position.header ≡ 8
  pub bytes : AllBytes st.server.frame.position.header
  pub body : length st.server.frame.body ≡ 8
  pub values : length st.values ≡ QUERY

fits_table : (t : Table) → slots_fit SLOTS t.ids t.lengths t.occupied 0 ≡ true → Tidy t
unfolding Station.in_shape position_fits
fits_table t e = (shaped (open_with t no_frame) (simp e)).table

fits_due : (t : Table) (i : ℕ) → due_fits t i ≡ true → InUse t i
fits_due t i e =
    let a = and_true (ltb i SLOTS) (is_taken i t.occupied) e in
    record { low = ltb-true i SLOTS a.0; slot_taken = a.1 }

fits_target : (k : Target) (t : Table) (g n : ℕ) → target_fits k t g n ≡ true → Waits k t g n
fits_target Target.Skip t g n e = tt
fits_target (Target.Stdout i) t g n e = fits_due t i e
fits_target (Target.Stderr i) t g n e = fits_due t i e
fits_target (Target.End i) t g n e = let a = and_true (due_fits t i) (eqb (g + n) 8) e in (fits_due t i a.0, eqb-true (g + n) 8 a.1)
fits_target Target.Values t g n e = leb-true (g + n) QUERY e
fits_target Target.Unknown t g n e = eqb-true (g + n) 8 e

-- A state in shape that is open is good: so the cutting law holds of it.
pub in_shape_good : (st : State) → Arrays st → in_shape st.server ≡ true → st.server.«open» ≡ true → Good st
unfolding in_shape position_fits
in_shape_good st a e o =
    let c = st.server in
    let p = c.frame.position in
    let x = and_true (slots_fit SLOTS c.table.ids c.table.lengths c.table.occupied 0) (position_fits p and target_fits c.frame.target c.table c.frame.gathered p.content) e in
    let y = and_true (position_fits p) (target_fits c.frame.target c.table c.frame.gathered p.content) x.1 in
    let z = and_true (leb p.held 7) ((leb p.content 65535) and (leb p.padding 255)) y.0 in
    let w = and_true (leb p.content 65535) (leb p.padding 255) z.1 in
    record {
      fit = record {
        proper = record { held = omega (arith, leb-true p.held 7 z.0); eight = a.header };
        ready = record {
          sized = a.sized;
          tidy = fits_table c.table x.0;
          body = a.body;
          values = a.values;
          target = fits_target c.frame.target c.table c.frame.gathered p.content y.1;
          shut = λ s. let q : ◌≡◌ {A = ℕ} 0 1 = cc (sym o ∙ s) in absurd (omega arith);
        };
      };
      bounded = record { content = leb-true p.content 65535 w.0; padding = leb-true p.padding 255 w.1; bytes = a.bytes };
    }
