-- The refusal of every call is that of all its own rows at once, also where the definition tests them one after the
-- other: the one order governs.
use Rattle.connection.specs.Slots.{Slot}
use Rattle.std.specs.Prelude.{◌≡◌, Bool, not, List, [], ◌∷◌, ℕ, eqb, if◌then◌else◌, Some, None, Option}
use Rattle.std.proofs.Math.Path.{refl}
use Rattle.std.proofs.Common.{sym, ◌∙◌, arith, eqb-true}
use Rattle.std.proofs.Math.Bool.{true, false}
use Rattle.std.proofs.Math.ListN.{length}
use Rattle.wire.specs.Test.{by_test, ◌<?◌, ◌=?◌}
use Rattle.pair_list.specs.List.{first_named, pair_number}
use Rattle.connection.specs.declared.request.Request.{Request}
use Rattle.connection.specs.declared.state.Conn.{Conn}
use Rattle.connection.specs.declared.answer.Output.{Output}
use Rattle.connection.specs.Sizes.{SLOTS, STORE}
use Rattle.connection.specs.Refusal.{Row, ◌when◌, first_in, refusal}
use Rattle.connection.specs.Request.{list_of}
use Rattle.connection.specs.RequestCalls as Of
use Rattle.connection.specs.Slots.{request_at, held_at, find, on_slot, is_found}
use Rattle.connection.specs.Shape.{in_shape}
use Rattle.connection.specs.Step.{State, advances, step_refusal, stepped, started}
use Rattle.connection.specs.Calls as C
use Rattle.pairs.specs.declared.pair.Pair.{Pair}

-- ---- the order
-- Of rows that hold the first counts, in the order 2, 9, 1, 3, 4, 5, 7, 8, 6, 10; where none holds the number is 0.
pub first_of_order : (store shape closed inactive unready ended pairless long room waiting : Bool)
    → refusal
    ((2 when store) ∷ (9 when shape) ∷ (1 when closed) ∷ (3 when inactive) ∷ (4 when unready) ∷ (5 when ended) ∷ (7 when pairless) ∷ (8 when long) ∷ (6 when room) ∷ (10 when waiting) ∷ [])
    ≡ (if store then 2
    else if shape then 9
    else if closed then 1
    else if inactive then 3
    else if unready then 4
    else if ended then 5
    else if pairless then 7
    else if long then 8
    else if room then 6
    else if waiting then 10
    else 0)
first_of_order store shape closed inactive unready ended pairless long room waiting = refl

-- ---- the rows
-- 2: the lent store does not have its size
abbrev pub store_row : List ℕ → Row
store_row store = 2 when not (length store =? STORE)

-- 9: the state is out of shape
abbrev pub shape_row : Conn → Row
shape_row c = 9 when not (in_shape c)

-- 1: the connection is closed
abbrev pub closed_row : Conn → Row
closed_row c = 1 when not c.«open»

-- 3: no request has that id
abbrev pub active_row : Conn → ℕ → Row
active_row c id = 3 when not (is_found (find c.table id))

-- the first rows of a call that is lent the store, and of one that is not
abbrev pub lent_rows : Conn → List ℕ → ℕ → List Row → List Row
lent_rows c store id rest = store_row store ∷ shape_row c ∷ closed_row c ∷ active_row c id ∷ rest

abbrev pub call_rows : Conn → ℕ → List Row → List Row
call_rows c id rest = shape_row c ∷ closed_row c ∷ active_row c id ∷ rest

-- A row of the request with that id: a test of its slot. What it says where no request has the id is left open, and
-- never matters, since row 3 comes first.
abbrev pub of_slot : Conn → ℕ → (ℕ → Bool) → Bool → Bool
of_slot c id test absent = on_slot (find c.table id) test absent

-- no pair was found
abbrev pub is_missing : Option Pair → Bool
is_missing (Some p) = false
is_missing None = true

-- ---- the numbers of refusal in answers, 0 for none
abbrev pub source_number : Of.Source → ℕ
source_number Of.FromStore = 0
source_number Of.FromFallback = 0
source_number (Of.SourceRefused n) = n

abbrev pub pair_refusal : Of.Numbered → ℕ
pair_refusal (Of.PairIs p) = 0
pair_refusal (Of.PairRefused n) = n

abbrev pub request_refusal : Of.RequestAnswer → ℕ
request_refusal (Of.RequestIs r) = 0
request_refusal (Of.RequestRefused n) = n

true_false : {A : Type 0} → true ≡ false → A
true_false e = let z : ◌≡◌ {A = ℕ} 0 1 = cc in absurd (omega arith)

-- ---- rows that are tested one after the other
-- the later rows, in their order
abbrev late_rows : List ℕ
late_rows = 4 ∷ 5 ∷ 7 ∷ 8 ∷ 6 ∷ 10 ∷ []

-- the first four rows, and the later ones where none of them holds: the same as all at once
nested : {A : Type 0} (number : A → ℕ) (refused_by : ℕ → A) → ((n : ℕ) → number (refused_by n) ≡ n) → (store shape closed inactive : Bool) (rest : List Row) (inner : A)
    → (inactive ≡ false → number inner ≡ first_in late_rows rest)
    → number
    (if refusal ((2 when store) ∷ (9 when shape) ∷ (1 when closed) ∷ (3 when inactive) ∷ []) =? 0 then inner
    else refused_by (refusal ((2 when store) ∷ (9 when shape) ∷ (1 when closed) ∷ (3 when inactive) ∷ [])))
    ≡ refusal ((2 when store) ∷ (9 when shape) ∷ (1 when closed) ∷ (3 when inactive) ∷ rest)
nested number refused_by law true shape closed inactive rest inner f = law 2
nested number refused_by law false true closed inactive rest inner f = law 9
nested number refused_by law false false true inactive rest inner f = law 1
nested number refused_by law false false false true rest inner f = law 3
nested number refused_by law false false false false rest inner f = f refl

module _ {A : Type 0} (number : A → ℕ) (refused_by : ℕ → A) (law : (n : ℕ) → number (refused_by n) ≡ n) (c : Conn) (id : ℕ) (rest : Slot → List Row) (inner : ℕ → A)
    (answers : (i : ℕ) → number (inner i) ≡ first_in late_rows (rest (Some i))) where
  -- a call that is lent the store
  lent_nested : (store : List ℕ) → number (if C.lent_refusal c store id =? 0 then inner (C.slot_of c id) else refused_by (C.lent_refusal c store id))
      ≡ refusal (lent_rows c store id (rest (find c.table id)))
  unfolding C.lent_refusal
  lent_nested store = go (find c.table id) refl
    where
      go : (s : Slot) → find c.table id ≡ s → number (if C.lent_refusal c store id =? 0 then inner (C.slot_of c id) else refused_by (C.lent_refusal c store id))
          ≡ refusal (lent_rows c store id (rest (find c.table id)))
      go (Some i) e =
          rw e (nested number refused_by law (not (length store =? STORE)) (not (in_shape c)) (not c.«open») false (rest (Some i)) (inner i) (λ q. answers i))
      go None e =
          rw e (nested number refused_by law (not (length store =? STORE)) (not (in_shape c)) (not c.«open») true (rest None) (inner SLOTS) (λ q. true_false q))

  -- a call that is not
  call_nested : number (if C.call_refusal c id =? 0 then inner (C.slot_of c id) else refused_by (C.call_refusal c id))
      ≡ refusal ((2 when false) ∷ call_rows c id (rest (find c.table id)))
  unfolding C.call_refusal
  call_nested = go (find c.table id) refl
    where
      go : (s : Slot) → find c.table id ≡ s → number (if C.call_refusal c id =? 0 then inner (C.slot_of c id) else refused_by (C.call_refusal c id))
          ≡ refusal ((2 when false) ∷ call_rows c id (rest (find c.table id)))
      go (Some i) e = rw e (nested number refused_by law false (not (in_shape c)) (not c.«open») false (rest (Some i)) (inner i) (λ q. answers i))
      go None e = rw e (nested number refused_by law false (not (in_shape c)) (not c.«open») true (rest None) (inner SLOTS) (λ q. true_false q))

-- what a request answers itself
source_inner : (unready : Bool) (f : Option Pair) → source_number (if unready then Of.SourceRefused 4 else Of.on_found f (λ p. Of.FromStore) Of.FromFallback) ≡ refusal ((4 when unready) ∷ [])
source_inner true f = refl
source_inner false (Some p) = refl
source_inner false None = refl

pair_inner : (unready : Bool) (f : Option Pair) → pair_refusal (if unready then Of.PairRefused 4 else Of.on_found f Of.PairIs (Of.PairRefused 7)) ≡ refusal ((4 when unready) ∷ (7 when is_missing f) ∷ [])
pair_inner true f = refl
pair_inner false (Some p) = refl
pair_inner false None = refl

walk_inner : (unready : Bool) (l : List ℕ) → (if unready then Of.no_walk 4 else record { list = l; place = 0; refusal = 0 }).refusal ≡ refusal ((4 when unready) ∷ [])
walk_inner true l = refl
walk_inner false l = refl

pub writes_number : (n : ℕ) (bytes : List ℕ) (after r : Request) (buffer : List ℕ) → (Of.writes n bytes after r buffer).refusal ≡ n
unfolding Of.writes
writes_number n bytes after r buffer = by_test (eqb n 0) (λ t. simp t (sym (eqb-true n 0 t))) (λ t. simp t)

-- What finish comes to is refused as its writing is.
pub finishes_number : (c : Conn) (store : List ℕ) (i : ℕ) (keep : Bool) (w : Of.Writing) → (C.finishes c store i keep w).refusal ≡ w.refusal
unfolding C.finishes
finishes_number c store i true w = by_test (eqb w.refusal 0) (λ t. simp t (sym (eqb-true w.refusal 0 t))) (λ t. simp t)
finishes_number c store i false w = by_test (eqb w.refusal 0) (λ t. simp t (sym (eqb-true w.refusal 0 t))) (λ t. simp t)

-- ---- the calls
-- Start has row 2 alone.
pub start_rows : (gathered store : List ℕ) → (started gathered store).refusal ≡ refusal (store_row store ∷ [])
unfolding started
start_rows gathered store = by_test (eqb (length store) STORE) (λ t. simp t) (λ t. simp t)

-- the refusal of a step is its number
step_number : (st : State) (store piece : List ℕ) → (stepped st store piece).refusal ≡ step_refusal st.conn store
unfolding stepped advances
step_number st store piece =
    by_test (eqb (step_refusal st.conn store) 0)
    (λ t.
    let z = sym (eqb-true (step_refusal st.conn store) 0 t) in
    by_test (eqb (length piece) 0) (λ l. simp (t, l) z) (λ l. simp (t, l) z))
    (λ t. simp t)

-- A step has the rows 2, 9 and 1.
pub step_rows_lem : (st : State) (store piece : List ℕ) → (stepped st store piece).refusal ≡ refusal (store_row store ∷ shape_row st.conn ∷ closed_row st.conn ∷ [])
unfolding step_refusal
step_rows_lem st store piece = step_number st store piece

-- The active number has the rows 9 and 1.
pub count_rows_lem : (c : Conn) → (C.active_count c).refusal ≡ refusal (shape_row c ∷ closed_row c ∷ [])
unfolding C.active_count C.count_refusal
count_rows_lem c = by_test (in_shape c) (λ s. by_test c.«open» (λ o. simp (s, o)) (λ o. simp (s, o))) (λ s. simp s)

-- What a request is has the rows 9, 1 and 3.
pub request_rows : (c : Conn) (id : ℕ) → request_refusal (C.request_named c id) ≡ refusal (call_rows c id [])
unfolding C.request_named
request_rows c id = call_nested request_refusal Of.RequestRefused (λ n. refl) c id (λ s. []) (λ i. Of.RequestIs (request_at c.table i)) (λ i. refl)

-- In the laws below `absent` and the like are what a row of the request says where no request has the id.
module _ (c : Conn) (store : List ℕ) (id : ℕ) (absent : Bool) where
  -- The sister of value has the rows 2, 9, 1, 3 and 4.
  pub source_rows : (name : List ℕ)
      → source_number (C.source c store id name) ≡ refusal (lent_rows c store id ((4 when of_slot c id (λ i. Of.no_list (request_at c.table i)) absent) ∷ []))
  unfolding C.source Of.source_in
  source_rows name =
      lent_nested source_number Of.SourceRefused (λ n. refl) c id (λ s. (4 when on_slot s (λ i. Of.no_list (request_at c.table i)) absent) ∷ [])
      (λ i. Of.source_in (held_at c.table store i) name)
      (λ i. source_inner (Of.no_list (request_at c.table i)) (first_named (list_of (held_at c.table store i)) name)) store

  -- Where it is refused, value answers the fallback.
  pub value_refused : (name fallback : List ℕ) → (source_number (C.source c store id name) ≡ 0 → ⊥) → C.value c store id name fallback ≡ fallback
  unfolding C.source C.value Of.source_in Of.value_in
  value_refused name fallback r =
      by_test (eqb (C.lent_refusal c store id) 0)
      (λ t.
      let h = held_at c.table store (C.slot_of c id) in
      by_test (Of.no_list h.request) (λ n. simp (t, n)) (λ n. absurd (r (simp (t, n) (source_inner false (first_named (list_of h) name))))))
      (λ t. simp t)

  -- Pair by number has the rows 2, 9, 1, 3, 4 and 7.
  pub pair_rows : (k : ℕ) (absent-pair : Bool)
      → pair_refusal (C.pair_at_number c store id k)
      ≡ refusal
      (lent_rows c store id
      ((4 when of_slot c id (λ i. Of.no_list (request_at c.table i)) absent)
      ∷ (7 when of_slot c id (λ i. is_missing (pair_number (list_of (held_at c.table store i)) k)) absent-pair)
      ∷ []))
  unfolding C.pair_at_number Of.pair_in
  pair_rows k absent-pair =
      lent_nested pair_refusal Of.PairRefused (λ n. refl) c id
      (λ s.
      (4 when on_slot s (λ i. Of.no_list (request_at c.table i)) absent)
      ∷ (7 when on_slot s (λ i. is_missing (pair_number (list_of (held_at c.table store i)) k)) absent-pair)
      ∷ [])
      (λ i. Of.pair_in (held_at c.table store i) k)
      (λ i. pair_inner (Of.no_list (request_at c.table i)) (pair_number (list_of (held_at c.table store i)) k)) store

  -- The walk has the rows 2, 9, 1, 3 and 4.
  pub walk_rows : (C.walk c store id).refusal ≡ refusal (lent_rows c store id ((4 when of_slot c id (λ i. Of.no_list (request_at c.table i)) absent) ∷ []))
  unfolding C.walk Of.walk_in
  walk_rows =
      lent_nested (λ (w : Of.Walk). w.refusal) Of.no_walk (λ n. refl) c id (λ s. (4 when on_slot s (λ i. Of.no_list (request_at c.table i)) absent) ∷ [])
      (λ i. Of.walk_in (held_at c.table store i))
      (λ i. walk_inner (Of.no_list (request_at c.table i)) (list_of (held_at c.table store i))) store

  -- Finish has the rows 2, 9, 1, 3 and 6.
  pub finish_rows_lem : (status : ℕ) (buffer : List ℕ)
      → (C.finish c store id status buffer).refusal
      ≡ refusal (lent_rows c store id ((6 when of_slot c id (λ i. length buffer <? length (Of.finish_bytes (request_at c.table i) status)) absent) ∷ []))
  unfolding C.finish Of.finish_in
  finish_rows_lem status buffer =
      lent_nested (λ (w : C.Finished). w.refusal) (λ n. C.unfinished n c store buffer) (λ n. refl) c id
      (λ s. (6 when on_slot s (λ i. length buffer <? length (Of.finish_bytes (request_at c.table i) status)) absent) ∷ [])
      (λ i. C.finishes c store i (request_at c.table i).state.keep (Of.finish_in (request_at c.table i) status buffer))
      (λ i.
      let r = request_at c.table i in
      finishes_number c store i r.state.keep (Of.finish_in r status buffer)
      ∙ writes_number (refusal ((6 when (length buffer <? length (Of.finish_bytes r status))) ∷ [])) (Of.finish_bytes r status) r r buffer)
      store

-- ---- say and end
module _ (c : Conn) (id : ℕ) (output : Output) (buffer : List ℕ) (unready ended short : Bool) where
  -- The rows of a call that writes these bytes for its request.
  abbrev pub output_rows : (Request → List ℕ) → Slot → List Row
  output_rows bytes s =
      (4 when on_slot s (λ i. Of.no_output (request_at c.table i)) unready)
      ∷ (5 when on_slot s (λ i. Of.is_ended output (request_at c.table i).state) ended)
      ∷ (6 when on_slot s (λ i. length buffer <? length (bytes (request_at c.table i))) short)
      ∷ []

  -- what such a call comes to in slot i
  abbrev writes_at : (Request → List ℕ) → (Request → Request) → ℕ → C.Written
  writes_at bytes after i =
      let r = request_at c.table i in
      C.written_by c i (Of.writes (Of.output_refusal r output (bytes r) buffer) (bytes r) (after r) r buffer)

  -- any such call
  output_rows_lem : (bytes : Request → List ℕ) (after : Request → Request)
      → (if C.call_refusal c id =? 0 then writes_at bytes after (C.slot_of c id) else C.unwritten (C.call_refusal c id) c buffer).refusal
      ≡ refusal (call_rows c id (output_rows bytes (find c.table id)))
  output_rows_lem bytes after =
      call_nested (λ (w : C.Written). w.refusal) (λ n. C.unwritten n c buffer) (λ n. refl) c id (output_rows bytes) (writes_at bytes after)
      (λ i.
      let r = request_at c.table i in
      writes_number (Of.output_refusal r output (bytes r) buffer) (bytes r) (after r) r buffer)

  -- Say has the rows 9, 1, 3, 4, 5 and 6.
  pub say_rows_lem : (bytes : List ℕ) → (C.say c id output bytes buffer).refusal ≡ refusal (call_rows c id (output_rows (λ r. Of.say_bytes r output bytes) (find c.table id)))
  unfolding C.say Of.say_in
  say_rows_lem bytes = output_rows_lem (λ r. Of.say_bytes r output bytes) (λ r. Of.said_on r output bytes)

  -- So has end.
  pub end_rows_lem : (C.end_stream c id output buffer).refusal ≡ refusal (call_rows c id (output_rows (λ r. Of.end_bytes r output) (find c.table id)))
  unfolding C.end_stream Of.end_in
  end_rows_lem = output_rows_lem (λ r. Of.end_bytes r output) (λ r. Of.ended_on r output)
