-- What a replay of the copy tells of R is what a replay of the capture tells of R: by induction over the records of the
-- capture. The copy is read with R's own request alone (`OwnRequest.own`).
use Rattle.std.specs.Prelude.{ℕ, zero, suc, ◌+◌, ◌≤◌, ◌<◌, min, ◌≡◌, refl, Bool, true, false, ◌||◌, List, [], ◌++◌, ◌⊎◌, length, drop, get_or, ltb, leb, eqb, if◌then◌else◌}
use Rattle.std.proofs.Common.{sym, ap, ◌∙◌, subst, inl, inr, arith, length-drop, drop_of_length-le, lt-ltb, le-ltb, le-leb, ltb-true, ltb-false, leb-true, eqb-true, ne_eqb}
use Rattle.std.proofs.Math.Bool.{or-true}
use mathlib.Core.List.Memᴰ
use Rattle.std.proofs.lemmas.Bool.{eqb-false}
use Rattle.wire.specs.Test.{by_test, ◌≤?◌, ◌=?◌}
use Rattle.connection.specs.Bytewise.{Note}
use Rattle.plain.specs.Plain.{BEGIN, Open, Cut, Heard, Request, Said, says, two, record_size, stops, follow, hear_in, heard}
use Rattle.lifting.specs.Lift as L
use Rattle.lifting.specs.Lift.{ClosedAt, LARGEST_PLACE, copied_header, content_of, is_copied, copy_of_record, copies, on_said, lift_in, lift_of, copy_of}
use Rattle.lifting_agrees.specs.Statement.{notes_of, NeverOverloaded}
use Rattle.lifting_agrees.proofs.CopyRecords.{said_of, content_short, content_whole, record_length_lem, copied_size, same_said, after_record_lem}
use Rattle.lifting_agrees.proofs.LiftLaws.{lift_rest, lift_step, lift_short}
use Rattle.lifting_agrees.proofs.OwnRequest.{own, notes_append, Leaves, other_leaves, early_leaves, SaysOfOwn, says_own}

-- ---- one record, as it is heard
hear_none : (k : ℕ) (rs : List Request) → hear_in k rs [] ≡ stops Open
unfolding hear_in
hear_none zero rs = refl
hear_none (suc k) rs = refl

-- what is heard after it
abbrev hear_rest : ℕ → List ℕ → List Request → Heard
hear_rest k b rs = if record_size b ≤? length b then hear_in k rs (drop (record_size b) b) else stops Cut

hear_step : (k : ℕ) (rs : List Request) (b : List ℕ) → 8 ≤ length b
    → hear_in (suc k) rs b ≡ follow (said_of rs b) (hear_rest k b)
unfolding hear_in
hear_step k rs b header = simp (ne_eqb (length b) 0 (λ z. omega arith), le-ltb (length b) 8 header)

-- ---- is the record copied?
-- Before R's first BEGIN record has come, R is not active.
abbrev Waits : ℕ → Bool → List Request → Type 0
Waits R begun rs = begun ≡ false → own R rs ≡ []

false_true : {A : Type 0} → ◌≡◌ {A = Bool} false true → A
false_true e = let z : ◌≡◌ {A = ℕ} 0 1 = cc in absurd (omega arith)

copied_own : (R : ℕ) (begun : Bool) (b : List ℕ) → is_copied R begun b ≡ true → two b 2 ≡ R
copied_own R begun b e =
    by_test (eqb (two b 2) R) (λ t. eqb-true (two b 2) R t) (λ t. false_true (simp t at e))

-- A record that is not copied leaves R's request alone.
uncopied : (R : ℕ) (begun : Bool) (rs : List Request) (b : List ℕ) → 0 < R → Waits R begun rs
    → is_copied R begun b ≡ false → Leaves R rs (said_of rs b)
uncopied R begun rs b positive waits e =
    let n = two b 4 in
    by_test (eqb (two b 2) R)
    (λ t.
    let same = eqb-true (two b 2) R t in
    let early : (begun ≡ false) × (eqb (get_or b 1 0) BEGIN ≡ false) = inner begun (simp t at e) in
    subst (λ (id : ℕ). Leaves R rs (says rs (get_or b 0 0) (get_or b 1 0) id n (content_of b))) (sym same)
    (early_leaves R rs (get_or b 1 0) n (content_of b) (get_or b 0 0) positive (waits early.0) early.1))
    (λ t. other_leaves R rs (get_or b 1 0) n (content_of b) (get_or b 0 0) (two b 2) positive (eqb-false (two b 2) R t))
  where
    inner : (begun : Bool) → (if begun then true else get_or b 1 0 =? BEGIN) ≡ false
        → (begun ≡ false) × (eqb (get_or b 1 0) BEGIN ≡ false)
    inner true e = false_true (sym e)
    inner false e = (refl, e)

-- Of a record that is copied, the copy's receiver says what that of the capture says.
copied_says : (R : ℕ) (begun : Bool) (rs : List Request) (b : List ℕ) → 0 < R → is_copied R begun b ≡ true
    → SaysOfOwn R (said_of rs b) (said_of (own R rs) b)
copied_says R begun rs b positive e =
    subst
    (λ (id : ℕ).
    SaysOfOwn R (says rs (get_or b 0 0) (get_or b 1 0) id (two b 4) (content_of b))
    (says (own R rs) (get_or b 0 0) (get_or b 1 0) id (two b 4) (content_of b)))
    (sym (copied_own R begun b e)) (says_own R rs (get_or b 1 0) (two b 4) (content_of b) (get_or b 0 0) positive)

-- ---- the record at the front; what is told after it is given
never_before : (R : ℕ) (es fs : List Note) → NeverOverloaded R (es ++ fs) → NeverOverloaded R es
never_before R es fs never m = never (Memᴰ.append_left fs m)

never_after : (R : ℕ) (es fs : List Note) → NeverOverloaded R (es ++ fs) → NeverOverloaded R fs
never_after R es fs never m = never (Memᴰ.append_right es m)

or_false_first : (a b : Bool) → (a || b) ≡ false → a ≡ false
or_false_first true b e = false_true (sym e)
or_false_first false b e = refl

-- what is copied after the record, where c says whether the record itself is
abbrev rest_of : ℕ → ℕ → ℕ → Bool → Bool → List ℕ → List Request → List ℕ
rest_of k R at begun c b rs = (lift_rest k R at (begun || c) b rs).copy

-- what is copied from the record on, by what is said of it
abbrev copy_by : ℕ → ℕ → ℕ → Bool → Bool → List ℕ → Said → List ℕ
copy_by k R at begun c b s =
    (on_said s (λ rs. copies (copy_of_record c b) (lift_rest k R at (begun || c) b rs))
    (λ cause. L.ends (ClosedAt cause (min at LARGEST_PLACE)))).copy

-- the same is told of R after the record and after its copy
abbrev SameRest : ℕ → ℕ → ℕ → Bool → Bool → List ℕ → Type 0
SameRest k R at begun c b =
    (m : ℕ) (rs : List Request) → Waits R (begun || c) rs → NeverOverloaded R (hear_rest k b rs).events
    → length (rest_of k R at begun c b rs) ≤ m
    → notes_of R (hear_in m (own R rs) (rest_of k R at begun c b rs)).events ≡ notes_of R (hear_rest k b rs).events

module _ (k R at : ℕ) (begun c : Bool) (b : List ℕ) (header : 8 ≤ length b) where
  abbrev rest : List Request → List ℕ
  rest rs = rest_of k R at begun c b rs

  -- all of its content is there, or it is cut, and nothing is copied after it
  all_or_last : (rs : List Request) → (length (content_of b) ≡ two b 4) ⊎ (rest rs ≡ [])
  all_or_last rs =
      by_test (leb (record_size b) (length b)) (λ w. inl (content_whole b (leb-true (record_size b) (length b) w)))
      (λ w.
      inr
      (ap
      (λ (t : Bool).
      (if t then lift_in k R (at + record_size b) (begun || c) rs (drop (record_size b) b) else L.ends L.Cut).copy)
      w))

  -- The rest of the copy is heard after the record's copy.
  hear_copy : (m : ℕ) (rs rs' : List Request) → (length (content_of b) ≡ two b 4) ⊎ (rest rs ≡ [])
      → (hear_rest m (copied_header b ++ content_of b ++ rest rs) rs').events ≡ (hear_in m rs' (rest rs)).events
  hear_copy m rs rs' (inl e) =
      let r = rest rs in
      let copy = copied_header b ++ content_of b ++ r in
      let fits : record_size copy ≤ length copy = omega (arith, copied_size b r header, record_length_lem b r header) in
      let w = le-leb (record_size copy) (length copy) fits in
      simp w (ap (λ (u : List ℕ). (hear_in m rs' u).events) (after_record_lem b r header e))
  hear_copy m rs rs' (inr e) =
      let r = rest rs in
      let copy = copied_header b ++ content_of b ++ r in
      let none : (hear_in m rs' r).events ≡ [] =
      ap (λ (u : List ℕ). (hear_in m rs' u).events) e ∙ ap (λ (h : Heard). h.events) (hear_none m rs') in
      let l : length r ≡ 0 = ap length e in
      by_test (leb (record_size copy) (length copy))
      (λ w. simp w
      (ap (λ (u : List ℕ). (hear_in m rs' u).events)
      (drop_of_length-le copy {i = record_size copy}
      (omega (arith, copied_size b r header, record_length_lem b r header, content_short b)))
      ∙ ap (λ (h : Heard). h.events) (hear_none m rs')
      ∙ sym none))
      (λ w. simp w (sym none))

module _ (k R at : ℕ) (begun : Bool) (b : List ℕ) (positive : 0 < R) (header : 8 ≤ length b) (rs rs' : List Request)
    (es : List Note) (waits : Waits R begun rs) (said : said_of rs b ≡ Said.Goes es rs')
    (never : NeverOverloaded R (es ++ (hear_rest k b rs').events)) where
  not_copied : (is : is_copied R begun b ≡ false) (m : ℕ) → SameRest k R at begun false b
      → length (rest_of k R at begun false b rs') ≤ m
      → notes_of R (hear_in m (own R rs) (rest_of k R at begun false b rs')).events
      ≡ notes_of R (es ++ (hear_rest k b rs').events)
  not_copied is m ih room =
      let leaves : Leaves R rs (Said.Goes es rs') =
      subst (Leaves R rs) said (uncopied R begun rs b positive waits is) in
      let r = rest_of k R at begun false b rs' in
      let later = ih m rs' (λ e. leaves.1 ∙ waits (or_false_first begun false e)) (never_after R es _ never) room in
      ap (λ (o : List Request). notes_of R (hear_in m o r).events) (sym leaves.1)
      ∙ later
      ∙ ap (λ (l : List Note). l ++ notes_of R (hear_rest k b rs').events) (sym leaves.0)
      ∙ sym (notes_append R es (hear_rest k b rs').events)

  is_copied_lem : (is : is_copied R begun b ≡ true) (m : ℕ) → SameRest k R at begun true b
      → length (copied_header b ++ content_of b ++ rest_of k R at begun true b rs') ≤ suc m
      → notes_of R
      (hear_in (suc m) (own R rs) (copied_header b ++ content_of b ++ rest_of k R at begun true b rs')
      ).events
      ≡ notes_of R (es ++ (hear_rest k b rs').events)
  is_copied_lem is m ih room =
      let r = rest_of k R at begun true b rs' in
      let copy = copied_header b ++ content_of b ++ r in
      let last = all_or_last k R at begun true b header rs' in
      let never-now = never_before R es (hear_rest k b rs').events never in
      let same : said_of (own R rs) b ≡ Said.Goes es (own R rs') =
      subst (λ (s : Said). SaysOfOwn R s (said_of (own R rs) b)) said (copied_says R begun rs b positive is) never-now in
      let long = record_length_lem b r header in
      let eight : 8 ≤ length copy = omega arith in
      let step : hear_in (suc m) (own R rs) copy ≡ follow (Said.Goes es (own R rs')) (hear_rest m copy) =
      hear_step m (own R rs) copy eight
      ∙ ap (λ (s : Said). follow s (hear_rest m copy)) (same_said b r header (own R rs) last ∙ same) in
      let later =
      ih m rs' (λ e. false_true (sym e ∙ or-true begun)) (never_after R es (hear_rest k b rs').events never)
      (omega arith) in
      ap (λ (h : Heard). notes_of R h.events) step
      ∙ notes_append R es (hear_rest m copy (own R rs')).events
      ∙ ap (λ (l : List Note). notes_of R es ++ l)
      (ap (notes_of R) (hear_copy k R at begun true b header m rs' (own R rs') last) ∙ later)
      ∙ sym (notes_append R es (hear_rest k b rs').events)

one_record : (k R at : ℕ) (begun c : Bool) (b : List ℕ) (positive : 0 < R) (header : 8 ≤ length b)
    (is : is_copied R begun b ≡ c) (rs : List Request) (m : ℕ) → Waits R begun rs
    → SameRest k R at begun c b → (s : Said) → said_of rs b ≡ s
    → NeverOverloaded R (follow s (hear_rest k b)).events
    → length (copy_by k R at begun c b s) ≤ m
    → notes_of R (hear_in m (own R rs) (copy_by k R at begun c b s)).events
    ≡ notes_of R (follow s (hear_rest k b)).events
one_record k R at begun c b positive header is rs m waits ih (Said.Closes cause) said never room =
    ap (λ (h : Heard). notes_of R h.events) (hear_none m (own R rs))
one_record k R at begun false b positive header is rs m waits ih (Said.Goes es rs') said never room =
    not_copied k R at begun b positive header rs rs' es waits said never is m ih room
one_record k R at begun true b positive header is rs zero waits ih (Said.Goes es rs') said never room =
    absurd (omega (arith, record_length_lem b (rest_of k R at begun true b rs') header))
one_record k R at begun true b positive header is rs (suc m) waits ih (Said.Goes es rs') said never room =
    is_copied_lem k R at begun b positive header rs rs' es waits said never is m ih room

-- ---- all records
-- of less than a header nothing is heard
hear_short : (k : ℕ) (rs : List Request) (b : List ℕ) → length b < 8 → (hear_in k rs b).events ≡ []
unfolding hear_in
hear_short zero rs b short = refl
hear_short (suc k) rs b short =
    by_test (eqb (length b) 0) (λ e. simp e) (λ e. simp (e, lt-ltb (length b) 8 short))

-- the same is told of R in these bytes and in their copy, with so many records at most
abbrev SameIn : ℕ → ℕ → ℕ → Bool → List ℕ → Type 0
SameIn k R at begun b =
    (m : ℕ) (rs : List Request) → Waits R begun rs → NeverOverloaded R (hear_in k rs b).events
    → length (lift_in k R at begun rs b).copy ≤ m
    → notes_of R (hear_in m (own R rs) (lift_in k R at begun rs b).copy).events ≡ notes_of R (hear_in k rs b).events

-- after a record, which is whole or cut
by_whole : (k R at : ℕ) (begun : Bool) (b : List ℕ) → SameIn k R (at + record_size b) begun (drop (record_size b) b)
    → (whole : Bool) (m : ℕ) (rs : List Request) → Waits R begun rs
    → NeverOverloaded R (if whole then hear_in k rs (drop (record_size b) b) else stops Cut).events
    → length (if whole then lift_in k R (at + record_size b) begun rs (drop (record_size b) b) else L.ends L.Cut).copy
    ≤ m
    → notes_of R
    (hear_in m (own R rs)
    (if whole then lift_in k R (at + record_size b) begun rs (drop (record_size b) b) else L.ends L.Cut).copy).events
    ≡ notes_of R (if whole then hear_in k rs (drop (record_size b) b) else stops Cut).events
by_whole k R at begun b ih true m rs waits never room = ih m rs waits never room
by_whole k R at begun b ih false m rs waits never room =
    ap (λ (h : Heard). notes_of R h.events) (hear_none m (own R rs))

with_header_lem : (k R at : ℕ) (begun : Bool) (b : List ℕ) → 0 < R → 8 ≤ length b
    → SameIn k R (at + record_size b) (begun || is_copied R begun b) (drop (record_size b) b)
    → SameIn (suc k) R at begun b
with_header_lem k R at begun b positive header ih m rs waits never room =
    let h = hear_step k rs b header in
    let l = lift_step k R at begun rs b header in
    let rest = by_whole k R at (begun || is_copied R begun b) b ih (leb (record_size b) (length b)) in
    rw (h, l)
    (one_record k R at begun (is_copied R begun b) b positive header refl rs m waits rest (said_of rs b) refl
    (rw h at never) (rw l at room))

no_header : (k R at : ℕ) (begun : Bool) (b : List ℕ) → length b ≤ k → length b < 8 → SameIn k R at begun b
no_header k R at begun b few short m rs waits never room =
    rw (lift_short k R at begun rs b few short, hear_none m (own R rs), hear_short k rs b short)

same_in : (k R at : ℕ) (begun : Bool) (b : List ℕ) → length b ≤ k → 0 < R → SameIn k R at begun b
same_in zero R at begun b few positive = no_header zero R at begun b few (omega arith)
same_in (suc k) R at begun b few positive =
    by_test (ltb (length b) 8) (λ e. no_header (suc k) R at begun b few (ltb-true (length b) 8 e))
    (λ e.
    with_header_lem k R at begun b positive (ltb-false (length b) 8 e)
    (same_in k R (at + record_size b) (begun || is_copied R begun b) (drop (record_size b) b)
    (omega (arith, length-drop (record_size b) b, ltb-false (length b) 8 e)) positive))

-- What is told of R in a capture is told of it in the copy.
pub same_events : (R : ℕ) (b : List ℕ) → 0 < R → NeverOverloaded R (heard b).events
    → notes_of R (heard (copy_of R b)).events ≡ notes_of R (heard b).events
unfolding heard lift_of own
same_events R b positive never =
    same_in (length b) R 0 false b (omega arith) positive (length (copy_of R b)) [] (λ e. refl) never (omega arith)
