-- R's own request among those of a plain receiver, and what a record makes of it and tells of it: nothing, if the
-- record is of another id; and what it makes of that request alone, if it is R's.
use Rattle.std.specs.Prelude.{ℕ, zero, suc, ◌+◌, ◌≤◌, ◌<◌, ◌%◌, Bool, true, false, List, [], ◌∷◌, ◌++◌, length, set, ltb, eqb, if◌then◌else◌}
use Rattle.std.proofs.Math.Path.{◌≡◌, refl, ap}
use Rattle.std.proofs.Common.{sym, ◌∙◌, arith}
use mathlib.Core.List.Memᴰ
use Rattle.std.proofs.Math.ListN.{get_or}
use borrow.Author.Tests.{ltb-true, ltb-false, eqb-true, eq-eqb, ne_eqb}
use Rattle.wire.specs.Test.{by_test, ◌=?◌}
use Rattle.pair_list.specs.List.{well_formed, broken_at}
use Rattle.pair_repeats.specs.Repeats.{repeats}
use Rattle.machine.specs.Cause.{Cause, Plain, At}
use Rattle.connection.specs.Event.{Event}
use Rattle.connection.specs.Bytewise.{Note, Told}
use Rattle.connection.specs.Run.{event_id}
use Rattle.plain.specs.Plain.{BEGIN, ABORT, PARAMS, GET_VALUES, Request, nobody, Change, fault, abort, ends, keep, bytes, show, params_end, on_params, measure, on_body, is_stream, on_stream, on_live, Said, place_of, on_active, is_role, two, opened, opening, on_inactive, query, on_query, on_management, says}
use Rattle.lifting_agrees.specs.Statement.{note_id, notes_of, NeverOverloaded}

-- ---- R's own request
-- the first one with that id, alone
unfoldable pub own : ℕ → List Request → List Request
own R [] = []
own R (r ∷ rs) = if r.id =? R then r ∷ [] else own R rs

-- where R is active
pub own_found : (R : ℕ) (rs : List Request) → place_of rs R < length rs
    → (own R rs ≡ get_or rs (place_of rs R) nobody ∷ []) × ((get_or rs (place_of rs R) nobody).id ≡ R)
unfolding own place_of
own_found R [] l = absurd (omega arith)
own_found R (r ∷ rs) l =
    by_test (eqb r.id R) (λ e. simp e (refl, eqb-true r.id R e))
    (λ e. let l' = simp e at l in simp e (own_found R rs (omega arith)))

-- where it is not
pub own_none : (R : ℕ) (rs : List Request) → length rs ≤ place_of rs R → own R rs ≡ []
unfolding own place_of
own_none R [] l = refl
own_none R (r ∷ rs) l =
    by_test (eqb r.id R) (λ e. let l' = simp e at l in absurd (omega arith))
    (λ e. let l' = simp e at l in simp e (own_none R rs (omega arith)))

-- the request of that place is changed, and keeps its id
own_set : (R : ℕ) (rs : List Request) (r : Request) → place_of rs R < length rs → r.id ≡ R
    → own R (set rs (place_of rs R) r) ≡ r ∷ []
unfolding own place_of
own_set R [] r l same = absurd (omega arith)
own_set R (q ∷ rs) r l same =
    by_test (eqb q.id R) (λ e. simp (e, eq-eqb r.id R same))
    (λ e. let l' = simp e at l in simp e (own_set R rs r (omega arith) same))

-- another one is changed
own_other : (R i : ℕ) (rs : List Request) (r : Request) → r.id ≡ (get_or rs i nobody).id → (r.id ≡ R → ⊥)
    → own R (set rs i r) ≡ own R rs
unfolding own
own_other R i [] r same ne = refl
own_other R zero (q ∷ rs) r same ne = simp (ne_eqb r.id R ne, ne_eqb q.id R (λ z. ne (same ∙ z)))
own_other R (suc i) (q ∷ rs) r same ne =
    by_test (eqb q.id R) (λ e. simp e) (λ e. simp e (own_other R i rs r same ne))

-- one is opened
own_opened : (R : ℕ) (rs : List Request) (r : Request) → own R rs ≡ [] → r.id ≡ R → own R (rs ++ (r ∷ [])) ≡ r ∷ []
unfolding own
own_opened R [] r none same = simp (eq-eqb r.id R same)
own_opened R (q ∷ rs) r none same =
    by_test (eqb q.id R)
    (λ e. let n = simp e at none in let z : ◌≡◌ {A = ℕ} 0 1 = cc in absurd (omega arith))
    (λ e. simp e (own_opened R rs r (simp e at none) same))

own_unopened : (R : ℕ) (rs : List Request) (r : Request) → (r.id ≡ R → ⊥) → own R (rs ++ (r ∷ [])) ≡ own R rs
unfolding own
own_unopened R [] r ne = simp (ne_eqb r.id R ne)
own_unopened R (q ∷ rs) r ne =
    by_test (eqb q.id R) (λ e. simp e) (λ e. simp e (own_unopened R rs r ne))

-- ---- what is told of R
pub notes_append : (R : ℕ) (es fs : List Note) → notes_of R (es ++ fs) ≡ notes_of R es ++ notes_of R fs
unfolding notes_of
notes_append R [] fs = refl
notes_append R (n ∷ es) fs =
    by_test (eqb (note_id n) R)
    (λ e. simp e (ap (λ (l : List Note). n ∷ l) (notes_append R es fs)))
    (λ e. simp e (notes_append R es fs))

one_note : (R : ℕ) (n : Note) → (note_id n ≡ R → ⊥) → notes_of R (n ∷ []) ≡ []
unfolding notes_of
one_note R n ne = simp (ne_eqb (note_id n) R ne)

byte_notes : (R id stream : ℕ) (x : List ℕ) → (id ≡ R → ⊥) → notes_of R (bytes id stream x) ≡ []
unfolding notes_of bytes
byte_notes R id stream [] ne = refl
byte_notes R id stream (b ∷ x) ne = simp (ne_eqb id R ne) (byte_notes R id stream x ne)

-- ---- rules 5 to 10 keep the id of a request, and tell of it alone
record OfId (id : ℕ) (c : Change) : Type 0 where
  kept : c.request.id ≡ id
  alone : (R : ℕ) → (id ≡ R → ⊥) → notes_of R c.events ≡ []

-- by a test
of_if : (id : ℕ) (t : Bool) (c d : Change) → OfId id c → OfId id d → OfId id (if t then c else d)
of_if id true c d p q = p
of_if id false c d p q = q

module _ (r : Request) where
  of_fault : (cause : Cause) → OfId r.id (fault r cause)
  unfolding fault
  of_fault cause = record { kept = refl; alone = λ R ne. one_note R (Told (Event.Fault r.id cause)) ne }

  of_abort : OfId r.id (abort r)
  unfolding abort
  of_abort = record { kept = refl; alone = λ R ne. one_note R (Told (Event.Abort r.id)) ne }

  of_ends : (e : Event) → event_id e ≡ r.id → OfId r.id (ends r e)
  unfolding ends
  of_ends e same = record { kept = refl; alone = λ R ne. one_note R (Told e) (λ z. ne (sym same ∙ z)) }

  of_keep : (x : List ℕ) → OfId r.id (keep r x)
  unfolding keep notes_of
  of_keep x = record { kept = refl; alone = λ R ne. refl }

  of_show : (kind : ℕ) (x : List ℕ) → OfId r.id (show r kind x)
  unfolding show
  of_show kind x = record { kept = refl; alone = λ R ne. byte_notes R r.id kind x ne }

  of_params : (n : ℕ) (x : List ℕ) → OfId r.id (on_params r n x)
  unfolding on_params params_end
  of_params n x =
      of_if r.id (ltb 4096 (length r.list + n)) _ _ (of_fault (Plain 24))
      (of_if r.id (eqb n 0) _ _
      (of_if r.id (well_formed r.list) _ _
      (of_if r.id (repeats r.list) _ _ (of_fault (Plain 26))
      (of_ends (Event.Ready r.id (length r.list)) refl))
      (of_fault (At 25 (broken_at r.list))))
      (of_keep x))

  of_body : (kind n : ℕ) (x : List ℕ) → OfId r.id (on_body r kind n x)
  unfolding on_body
  of_body kind n x =
      of_if r.id (eqb n 0) _ _ (of_ends (Event.End r.id kind (measure r kind)) refl) (of_show kind x)

  of_live : (kind n : ℕ) (x : List ℕ) → OfId r.id (on_live r kind n x)
  unfolding on_live on_stream
  of_live kind n x =
      of_if r.id (eqb kind BEGIN) _ _ (of_fault (Plain 21))
      (of_if r.id (eqb kind ABORT) _ _ of_abort
      (of_if r.id (is_stream kind) _ _
      (of_if r.id (eqb kind r.turn) _ _
      (of_if r.id (eqb kind PARAMS) _ _ (of_params n x) (of_body kind n x))
      (of_fault (Plain 22)))
      (of_fault (Plain 23))))

-- ---- a record that leaves R's request alone
-- It closes, or tells nothing of R and leaves R's request as it was.
abbrev pub Leaves : ℕ → List Request → Said → Type 0
Leaves R rs (Said.Goes es rs') = (notes_of R es ≡ []) × (own R rs' ≡ own R rs)
Leaves R rs (Said.Closes cause) = Unit {0}

leaves_if : (R : ℕ) (rs : List Request) (t : Bool) (s u : Said) → Leaves R rs s → Leaves R rs u
    → Leaves R rs (if t then s else u)
leaves_if R rs true s u p q = p
leaves_if R rs false s u p q = q

module _ (R : ℕ) (rs : List Request) (kind n : ℕ) (x : List ℕ) where
  silent_leaves : Leaves R rs (Said.Goes [] rs)
  unfolding notes_of
  silent_leaves = (refl, refl)

  tells_leaves : (e : Event) → (event_id e ≡ R → ⊥) → Leaves R rs (Said.Goes (Told e ∷ []) rs)
  tells_leaves e ne = (one_note R (Told e) ne, refl)

  management_leaves : (0 ≡ R → ⊥) → Leaves R rs (on_management rs kind n x)
  unfolding on_management on_query query
  management_leaves ne =
      leaves_if R rs (eqb kind GET_VALUES) _ _
      (leaves_if R rs (ltb 512 n) _ _ tt
      (leaves_if R rs (ltb (length x) n) _ _ silent_leaves
      (leaves_if R rs (well_formed x) _ _ (tells_leaves (query x) ne) tt)))
      (tells_leaves (Event.Unknown kind) ne)

  active_leaves : (i : ℕ) → ((get_or rs i nobody).id ≡ R → ⊥) → Leaves R rs (on_active rs i kind n x)
  unfolding on_active
  active_leaves i ne =
      let r = get_or rs i nobody in
      let c = on_live r kind n x in
      let l = of_live r kind n x in
      leaves_if R rs r.spent _ _ silent_leaves
      (l.alone R ne, own_other R i rs c.request l.kept (λ z. ne (sym l.kept ∙ z)))

  opening_leaves : (id : ℕ) → (id ≡ R → ⊥) → Leaves R rs (opening rs id x)
  unfolding opening
  opening_leaves id ne =
      leaves_if R rs (is_role (two x 0)) _ _
      (leaves_if R rs (ltb (length rs) 16) _ _
      (one_note R _ ne, own_unopened R rs _ ne)
      (tells_leaves (Event.Refuse id 2) ne))
      (tells_leaves (Event.Refuse id 3) ne)

  inactive_leaves : (id : ℕ) → (id ≡ R → ⊥) → Leaves R rs (on_inactive rs id kind n x)
  unfolding on_inactive
  inactive_leaves id ne =
      leaves_if R rs (eqb kind BEGIN) _ _
      (leaves_if R rs (eqb n 8) _ _ (leaves_if R rs (eqb (length x) 8) _ _ (opening_leaves id ne) silent_leaves) tt)
      silent_leaves

  -- A record of another id leaves it alone.
  pub other_leaves : (version id : ℕ) → 0 < R → (id ≡ R → ⊥) → Leaves R rs (says rs version kind id n x)
  unfolding says
  other_leaves version id positive ne =
      leaves_if R rs (eqb version 1) _ _
      (leaves_if R rs (eqb id 0) _ _ (management_leaves (λ z. omega arith))
      (by_test (ltb (place_of rs id) (length rs))
      (λ e. simp e
      (active_leaves (place_of rs id) (λ z. ne (sym (own_found id rs (ltb-true _ _ e)).1 ∙ z))))
      (λ e. simp e (inactive_leaves id ne))))
      tt

  -- And so does a record of R before its first BEGIN record.
  pub early_leaves : (version : ℕ) → 0 < R → own R rs ≡ [] → eqb kind BEGIN ≡ false
      → Leaves R rs (says rs version kind R n x)
  unfolding says on_inactive
  early_leaves version positive none other =
      leaves_if R rs (eqb version 1) _ _
      (by_test (ltb (place_of rs R) (length rs))
      (λ e.
      let f = (own_found R rs (ltb-true _ _ e)).0 in
      let z : ◌≡◌ {A = ℕ} 0 1 = cc (sym none ∙ f) in
      absurd (omega arith))
      (λ e. simp (ne_eqb R 0 (λ z. omega arith), e, other) silent_leaves))
      tt

-- ---- a record of R
-- It closes, or says of R's own request alone what it says of it among the others; unless it is refused for want of a
-- slot.
abbrev pub SaysOfOwn : ℕ → Said → Said → Type 0
SaysOfOwn R (Said.Goes es rs') s = NeverOverloaded R es → s ≡ Said.Goes es (own R rs')
SaysOfOwn R (Said.Closes cause) s = Unit {0}

own_if : (R : ℕ) (t : Bool) (s u s' u' : Said) → SaysOfOwn R s s' → SaysOfOwn R u u'
    → SaysOfOwn R (if t then s else u) (if t then s' else u')
own_if R true s u s' u' p q = p
own_if R false s u s' u' p q = q

module _ (R : ℕ) (rs : List Request) (kind n : ℕ) (x : List ℕ) where
  -- where it is active
  active_own : place_of rs R < length rs
      → SaysOfOwn R (on_active rs (place_of rs R) kind n x)
      (on_active (get_or rs (place_of rs R) nobody ∷ []) 0 kind n x)
  unfolding on_active
  active_own l =
      let r = get_or rs (place_of rs R) nobody in
      let found = own_found R rs l in
      let c = on_live r kind n x in
      own_if R r.spent _ _ _ _ (λ never. ap (Said.Goes []) (sym found.0))
      (λ never.
      ap (Said.Goes c.events)
      (sym (own_set R rs c.request l ((of_live r kind n x).kept ∙ found.1))))

  -- where it is not
  opening_own : own R rs ≡ [] → SaysOfOwn R (opening rs R x) (opening [] R x)
  unfolding opening
  opening_own none =
      let role = two x 0 in
      own_if R (is_role role) _ _ _ _
      (by_test (ltb (length rs) 16)
      (λ e. simp e (λ never.
      ap (Said.Goes (Told (Event.Open R role (get_or x 2 0 % 2 =? 1)) ∷ []))
      (sym (own_opened R rs (opened R role) none refl))))
      (λ e. simp e (λ never. absurd (never (Memᴰ.head refl)))))
      (λ never. ap (Said.Goes (Told (Event.Refuse R 3) ∷ [])) (sym none))

  inactive_own : own R rs ≡ [] → SaysOfOwn R (on_inactive rs R kind n x) (on_inactive [] R kind n x)
  unfolding on_inactive
  inactive_own none =
      own_if R (eqb kind BEGIN) _ _ _ _
      (own_if R (eqb n 8) _ _ _ _
      (own_if R (eqb (length x) 8) _ _ _ _ (opening_own none) (λ never. ap (Said.Goes []) (sym none))) tt)
      (λ never. ap (Said.Goes []) (sym none))

  pub says_own : (version : ℕ) → 0 < R
      → SaysOfOwn R (says rs version kind R n x) (says (own R rs) version kind R n x)
  unfolding says place_of
  says_own version positive =
      let some = ne_eqb R 0 (λ z. omega arith) in
      own_if R (eqb version 1) _ _ _ _
      (by_test (ltb (place_of rs R) (length rs))
      (λ e.
      let l = ltb-true _ _ e in
      let found = own_found R rs l in
      simp (some, e, found.0, eq-eqb (get_or rs (place_of rs R) nobody).id R found.1) (active_own l))
      (λ e.
      let none = own_none R rs (ltb-false _ _ e) in
      simp (some, e, none) (inactive_own none)))
      tt
